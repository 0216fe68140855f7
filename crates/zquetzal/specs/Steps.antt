-- Steps of reading. A step answers what it read, or why the bytes are refused.
use Rattle.std.specs.Prelude.{Bool, Result, Ok, Err, if◌then◌else◌}
use Rattle.zquetzal.specs.declared.error.SaveError.{SaveError}

infixl 10 ◌>>=◌
abbrev pub ◌>>=◌ : {A B : Type 0} → Result A SaveError → (A → Result B SaveError) → Result B SaveError
(Ok x) >>= f = f x
(Err e) >>= f = Err e

-- a condition, and the refusal where it does not hold
abbrev pub need : Bool → SaveError → Result (Unit {0}) SaveError
need test error = if test then Ok tt else Err error
