-- Bytes cut at a byte.
use Rattle.std.specs.Prelude.{ℕ, Bool, ◌==◌, ◌||◌, nat_lt, List, length, drop, Option, None, Some, if◌then◌else◌}
use Rattle.std.specs.List.{position_or_len, prefix_len, before_first, after_first, slice_split}

-- what stands before the first such byte, and what stands behind it
abbrev pub cut : ℕ → List ℕ → Option (List ℕ × List ℕ)
cut byte bytes = if nat_lt (position_or_len (λ b. b == byte) bytes) (length bytes) then Some (before_first (λ b. b == byte) bytes, after_first (λ b. b == byte) bytes) else None

-- the same where there may be none: all of it, and nothing
abbrev pub before : ℕ → List ℕ → List ℕ
before byte bytes = before_first (λ b. b == byte) bytes

abbrev pub behind : ℕ → List ℕ → List ℕ
behind byte bytes = after_first (λ b. b == byte) bytes

-- all parts, cut at each such byte
abbrev pub parts : ℕ → List ℕ → List (List ℕ)
parts byte bytes = slice_split (λ b. b == byte) bytes

-- a space, a tab or an end of a line
abbrev pub is_blank : ℕ → Bool
is_blank b = ((b == 32) || (b == 9)) || ((b == 10) || (b == 13))

-- without the blanks at the front
abbrev pub unblanked : List ℕ → List ℕ
unblanked bytes = drop (prefix_len is_blank bytes) bytes
