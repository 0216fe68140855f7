-- Steps of reading. A step answers what it made, or what is wrong.
use Rattle.std.specs.Prelude.{◌≡◌, Bool, Option, None, Some, Result, Ok, Err, if◌then◌else◌}
use Rattle.zdebug.specs.declared.error.DebugError.{DebugError}
use Rattle.zdebug.specs.declared.error.DebugError.TheVariants.{Incomplete, OutOfMemory}

infixl 10 ◌>>=◌
abbrev pub ◌>>=◌ : {A B : Type 0} → Result A DebugError → (A → Result B DebugError) → Result B DebugError
(Ok x) >>= f = f x
(Err e) >>= f = Err e

-- a condition, and what is wrong where it does not hold
abbrev pub need : Bool → DebugError → Result (Unit {0}) DebugError
need test error = if test then Ok tt else Err error

-- a part that a record has to have
abbrev pub part : {A : Type 0} → Option A → Result A DebugError
part None = Err Incomplete
part (Some x) = Ok x

-- an error of the code is the one that is due, unless memory ran out
abbrev pub Refuses : {Y : Type 0} → DebugError → Result Y DebugError → Type 0
Refuses OutOfMemory due = Unit {0}
Refuses e due = due ≡ Err e

-- the code's answer, seen by view, is the one that is due, unless memory ran out
abbrev pub Answers : {X Y : Type 0} → (X → Y) → Result X DebugError → Result Y DebugError → Type 0
Answers view (Ok x) due = due ≡ Ok (view x)
Answers view (Err e) due = Refuses e due

-- what the code leads to is what is due, unless memory ran out
abbrev pub Leads : {U Y : Type 0} → Y → Result U DebugError → Result Y DebugError → Type 0
Leads new (Ok u) due = due ≡ Ok new
Leads new (Err e) due = Refuses e due
