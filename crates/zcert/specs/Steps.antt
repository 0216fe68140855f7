-- Steps of reading. A step answers what it read with the bytes after it, or what is wrong.
use Rattle.std.specs.Prelude.{ℕ, Bool, List, length, take, drop, Result, Ok, Err, nat_lt, if◌then◌else◌}
use Rattle.byteorder.specs.Endian.{big_number}
use Rattle.zcert.specs.declared.error.CertError.{CertError}
use Rattle.zcert.specs.declared.error.CertError.TheVariants.{Truncated}
use Rattle.zcert.specs.Numbers.{Number, width}

infixl 10 ◌>>=◌
abbrev pub ◌>>=◌ : {A B : Type 0} → Result A CertError → (A → Result B CertError) → Result B CertError
(Ok x) >>= f = f x
(Err e) >>= f = Err e

-- a condition, and what is wrong where it does not hold
abbrev pub need : Bool → CertError → Result (Unit {0}) CertError
need test error = if test then Ok tt else Err error

-- the number of so many bytes at the front
abbrev pub sized_at : ℕ → List ℕ → Result (ℕ × List ℕ) CertError
sized_at size bytes = if nat_lt (length bytes) size then Err Truncated else Ok (big_number size bytes, drop size bytes)

-- the number at the front, of its width
abbrev pub number_at : Number → List ℕ → Result (ℕ × List ℕ) CertError
number_at kind bytes = sized_at (width kind) bytes

-- the six bytes of a serial number
abbrev pub serial_at : List ℕ → Result (List ℕ × List ℕ) CertError
serial_at bytes = if nat_lt (length bytes) 6 then Err Truncated else Ok (take 6 bytes, drop 6 bytes)
