-- Texts and numbers that stand in elements.
use Rattle.std.specs.Prelude.{ℕ, ◌+◌, ◌-◌, ◌*◌, ◌^◌, Bool, ◌&&◌, nat_lt, nat_le, List, [], ◌∷◌, ◌++◌, Option, None, Some, Result, Ok, Err, if◌then◌else◌, codes}
use Rattle.std.specs.Str.{bytes_eq}
use Rattle.zdebug.specs.declared.error.DebugError.{DebugError}
use Rattle.zdebug.specs.declared.error.DebugError.TheVariants.{NotNumber, Entity}
use Rattle.zdebug.specs.Steps.{◌>>=◌}
use Rattle.zdebug.specs.Cutting.{cut, parts, unblanked}

-- ---- numbers

abbrev pub is_digit : ℕ → Bool
is_digit b = nat_le 48 b && nat_lt b 58

-- the number that more digits make of n: what is wrong where a byte is no digit, or where it isn't below 2 ^ 32
abbrev pub goes_on : ℕ → List ℕ → Result ℕ DebugError
goes_on n [] = Ok n
goes_on n (b ∷ bytes) = if is_digit b && nat_lt (n * 10 + (b - 48)) (2 ^ 32) then goes_on (n * 10 + (b - 48)) bytes else Err NotNumber

-- a decimal number, of one digit at least
abbrev pub decimal : List ℕ → Result ℕ DebugError
decimal [] = Err NotNumber
decimal (b ∷ bytes) = goes_on 0 (b ∷ bytes)

-- the number that a text is, behind blanks
abbrev pub number_of : List ℕ → Result ℕ DebugError
number_of text = decimal (unblanked text)

-- ---- texts

-- the five entities, without their `&` and `;`
abbrev pub entity : List ℕ → Result ℕ DebugError
entity name =
    if bytes_eq name (codes "amp") then Ok 38
    else if bytes_eq name (codes "lt") then Ok 60
    else if bytes_eq name (codes "gt") then Ok 62
    else if bytes_eq name (codes "quot") then Ok 34
    else if bytes_eq name (codes "apos") then Ok 39
    else Err Entity

-- what stands behind a `&`: the entity, up to a `;`, and bytes that stand for themselves
abbrev pub replaced : Option (List ℕ × List ℕ) → Result (List ℕ) DebugError
replaced None = Err Entity
replaced (Some p) = do
  byte ← entity p.0
  Ok (byte ∷ p.1)

-- a text so far, and the parts that stand behind each further `&`
abbrev pub joined : List ℕ → List (List ℕ) → Result (List ℕ) DebugError
joined text [] = Ok text
joined text (part ∷ others) = do
  more ← replaced (cut 59 part)
  joined (text ++ more) others

-- a text, of which no part is asked of behind its last
abbrev pub joined_all : List (List ℕ) → Result (List ℕ) DebugError
joined_all [] = Ok []
joined_all (first ∷ others) = joined first others

-- what a text says: each byte stands for itself, but for those of entities
abbrev pub text_of : List ℕ → Result (List ℕ) DebugError
text_of bytes = joined_all (parts 38 bytes)
