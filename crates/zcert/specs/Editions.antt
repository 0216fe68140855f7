-- The versions of a kind of sets, by what their certificates have beside what all have (own).
use Rattle.std.specs.Prelude.{ℕ, Bool, true, false, Option, None, Some}
use Rattle.zcert.specs.declared.edition.Edition.{Edition}
use Rattle.zcert.specs.declared.edition.Edition.TheVariants as editions

-- whether they name a limit of frames
abbrev pub is_limited : Edition → Bool
is_limited editions.Plain = false
is_limited editions.Limited = true
is_limited editions.Marking = true
is_limited editions.Stating = true

-- whether they may mark instructions
abbrev pub is_marking : Edition → Bool
is_marking editions.Plain = false
is_marking editions.Limited = false
is_marking editions.Marking = true
is_marking editions.Stating = true

-- whether they may state facts on globals
abbrev pub is_stating : Edition → Bool
is_stating editions.Plain = false
is_stating editions.Limited = false
is_stating editions.Marking = false
is_stating editions.Stating = true

-- that of certificates that name such a limit, or none, may mark instructions, or not, and may state facts, or not
abbrev pub edition_by : Option ℕ → Bool → Bool → Edition
edition_by None marking stating = editions.Plain
edition_by (Some n) false stating = editions.Limited
edition_by (Some n) true false = editions.Marking
edition_by (Some n) true true = editions.Stating
