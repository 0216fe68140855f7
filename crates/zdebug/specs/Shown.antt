-- Bytes that needn't be text, as text (own).
use Rattle.std.specs.Prelude.{ℕ, ◌/◌, ◌%◌, ◌==◌, ◌&&◌, ◌||◌, Bool, true, false, not, nat_le, nat_lt, if◌then◌else◌, List, [], ◌∷◌, codes, flat_map, slice_index}

-- the lower-case hexadecimal digit of a number below 16
abbrev pub hex_digit : ℕ → ℕ
hex_digit n = slice_index (codes "0123456789abcdef") n

-- a printable character of ASCII but the backslash
abbrev pub is_plain : ℕ → Bool
is_plain byte = nat_le 32 byte && nat_le byte 126 && not (byte == 92)

-- itself, or `\x` and two digits
abbrev pub shown_byte : ℕ → List ℕ
shown_byte byte = if is_plain byte then byte ∷ [] else 92 ∷ 120 ∷ hex_digit (byte / 16) ∷ hex_digit (byte % 16) ∷ []

abbrev pub shown : List ℕ → List ℕ
shown bytes = flat_map shown_byte bytes

-- in a string of JSON (RFC 8259, section 7), where a quotation mark and a backslash have a backslash in front
abbrev pub escaped_byte : ℕ → List ℕ
escaped_byte byte = if byte == 34 || byte == 92 then 92 ∷ byte ∷ [] else byte ∷ []

abbrev pub escaped : List ℕ → List ℕ
escaped bytes = flat_map escaped_byte bytes

abbrev pub is_byte : ℕ → Bool
is_byte n = nat_lt n 256

-- what takes one place of a line, and moves no cursor
abbrev pub is_printable : ℕ → Bool
is_printable byte = nat_le 32 byte && nat_le byte 126

-- what stands in a string of JSON, of printable ASCII: the next character follows a backslash, or it doesn't. Of the escapes of JSON those two are
-- taken
abbrev pub is_string : Bool → List ℕ → Bool
is_string after [] = not after
is_string true (byte ∷ bytes) = (byte == 34 || byte == 92) && is_string false bytes
is_string false (byte ∷ bytes) = if byte == 92 then is_string true bytes else is_printable byte && not (byte == 34) && is_string false bytes
