-- What the code's certificates and builders say.
use Rattle.std.specs.Prelude.{◌≡◌, Result, Ok, Err, IsOk}
use Rattle.zcert.specs.declared.error.CertError.{CertError}
use Rattle.zcert.specs.declared.error.CertError.TheVariants.{OutOfMemory}
use Rattle.zcert.specs.declared.contents.Contents.{Contents}
use Rattle.zcert.specs.declared.building.Building.{Building}
use Rattle.zcert.specs.Certificate.{Certificate}
use Rattle.zcert.specs.Building.{Progress}

abbrev pub content_of : {V P C R : Type 0} → Contents V P C R → Certificate V
content_of c = record {
  identity = c.identity;
  limit = c.limit;
  marking = c.marking;
  stating = c.stating;
  ranges = c.ranges.items;
  globals = c.globals.items;
  routines = c.routines.items;
  instructions = c.instructions.instructions;
  facts = c.facts.items;
}

abbrev pub progress_of : {V P C R : Type 0} → Building V P C R → Progress V
progress_of b = record { content = content_of b.contents; values = b.contents.instructions.values; floor = b.floor; turn = b.turn }

-- What a step answered, seen by view, is what it has to.
abbrev pub Gives : {X Y : Type 0} → (X → Y) → Result X CertError → Result Y CertError → Type 0
Gives view (Ok x) due = due ≡ Ok (view x)
Gives view (Err e) due = due ≡ Err e

-- an error is the one that is due, unless memory ran out
abbrev pub Refuses : {Y : Type 0} → CertError → Result Y CertError → Type 0
Refuses OutOfMemory due = Unit {0}
Refuses e due = due ≡ Err e

-- the error of a field is the one that is due; memory runs out only for a field that would be taken
abbrev pub RefusesField : {Y : Type 0} → CertError → Result Y CertError → Type 0
RefusesField OutOfMemory due = IsOk due
RefusesField e due = due ≡ Err e

-- the answer is the one that is due, unless memory ran out
abbrev pub Answers : {Y : Type 0} → Result Y CertError → Result Y CertError → Type 0
Answers (Ok y) due = due ≡ Ok y
Answers (Err e) due = Refuses e due

-- what a field leads to is what is due; one that is refused changes nothing
abbrev pub Takes : {P U : Type 0} → P → P → Result U CertError → Result P CertError → Type 0
Takes old new (Ok u) due = due ≡ Ok new
Takes old new (Err e) due = (new ≡ old) × RefusesField e due
