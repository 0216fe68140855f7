-- What is told of the source in a line of the program (own).
use Rattle.std.specs.Prelude.{ℕ, ◌+◌, ◌-◌, ◌*◌, ◌^◌, Bool, false, not, ◌==◌, ◌&&◌, ◌||◌, nat_le, nat_lt, if◌then◌else◌, List, [], ◌∷◌, ◌++◌, length, take, drop, map, codes, Option, None, Some}
use Rattle.std.specs.List.{join_with_byte, position_or_len, prefix_len, slice_split, take_while}
use Rattle.std.specs.Option.{option_and_then, option_map}
use Rattle.std.specs.Str.{bytes_eq}
use Rattle.zdebug.specs.declared.naming.Named.{Named}
use Rattle.zdebug.specs.declared.naming.Named.TheVariants.{Global, Object, Attribute, Property}
use Rattle.zdebug.specs.Records.{Found}
use Rattle.zdebug.specs.Telling.{name_text, source_object, source_text}

-- what is known of a story's source: the place of an address, as text and as an object of JSON, and the name of what has a number
pub record Known : Type 0 where
  pub place : ℕ → Option (List ℕ)
  pub object : ℕ → Option (List ℕ)
  pub name : Named → ℕ → Option (List ℕ)

-- what debug information says of it
abbrev pub known_of : Found → Known
known_of found = record { place = source_text found; object = source_object found; name = name_text found }

-- ---- numbers

-- a decimal digit, one that is decimal or from a to f, and a letter
abbrev pub is_digit : ℕ → Bool
is_digit byte = nat_le 48 byte && nat_le byte 57

abbrev pub is_hex : ℕ → Bool
is_hex byte = is_digit byte || (nat_le 97 byte && nat_le byte 102)

abbrev pub is_letter : ℕ → Bool
is_letter byte = (nat_le 65 byte && nat_le byte 90) || (nat_le 97 byte && nat_le byte 122)

-- the number that more digits make of n, if it is below 2 ^ 32
abbrev pub goes_on : ℕ → ℕ → List ℕ → Option ℕ
goes_on base n [] = Some n
goes_on base n (byte ∷ rest) =
    if nat_lt (n * base + (if is_digit byte then byte - 48 else byte - 87)) (2 ^ 32) then goes_on base (n * base + (if is_digit byte then byte - 48 else byte - 87)) rest else None

-- whether such a byte is in front
abbrev pub begins_with : (ℕ → Bool) → List ℕ → Bool
begins_with test [] = false
begins_with test (byte ∷ rest) = test byte

-- the address in front: five hexadecimal digits, and no further one
abbrev pub address_at : List ℕ → Option ℕ
address_at bytes = if prefix_len is_hex bytes == 5 then goes_on 16 0 (take 5 bytes) else None

-- the decimal number in front, behind which no letter stands
abbrev pub number_at : List ℕ → Option ℕ
number_at bytes =
    if begins_with is_digit bytes && not (begins_with is_letter (drop (prefix_len is_digit bytes) bytes)) then goes_on 10 0 (take_while is_digit bytes) else None

-- ---- words

-- the parts of a line between such bytes: its words are those between spaces (32)
abbrev pub parts : ℕ → List ℕ → List (List ℕ)
parts byte line = slice_split (λ b. b == byte) line

-- what a word says that a number is the number of
abbrev pub kind_of : List ℕ → Option Named
kind_of word =
    if bytes_eq word (codes "global") then Some Global
    else if bytes_eq word (codes "object") then Some Object
    else if bytes_eq word (codes "attribute") then Some Attribute
    else if bytes_eq word (codes "property") then Some Property
    else None

-- in brackets, behind a space
abbrev pub bracketed : List ℕ → List ℕ
bracketed text = codes " (" ++ text ++ codes ")"

-- `at` and an address, as `at 00387 (jetty.inf:120, JettyEnter):`
abbrev pub placed : Known → List ℕ → Option (List ℕ)
placed known word = option_map (λ place. codes "at " ++ take 5 word ++ bracketed place ++ drop 5 word) (option_and_then known.place (address_at word))

-- a kind and a number, as `noun (global 33),`
abbrev pub named : Known → List ℕ → List ℕ → Option Named → Option (List ℕ)
named known word next None = None
named known word next (Some kind) =
    option_map (λ name. name ++ bracketed (word ++ codes " " ++ take_while is_digit next) ++ drop (prefix_len is_digit next) next) (option_and_then (known.name kind) (number_at next))

-- a word and the next one, where something is told of both
abbrev pub pair_told : Known → List ℕ → List ℕ → Option (List ℕ)
pair_told known word next = if bytes_eq word (codes "at") then placed known next else named known word next (kind_of word)

abbrev pub told_or : Option (List ℕ) → List ℕ → List (List ℕ) → List (List ℕ) → List (List ℕ)
told_or None word behind_both behind_one = word ∷ behind_one
told_or (Some text) word behind_both behind_one = text ∷ behind_both

-- the words of a line, two of them as one where something is told of both
abbrev pub words_told : Known → List (List ℕ) → List (List ℕ)
words_told known [] = []
words_told known (word ∷ []) = word ∷ []
words_told known (word ∷ next ∷ rest) = told_or (pair_told known word next) word (words_told known rest) (words_told known (next ∷ rest))

-- the address that a line begins with, if a space stands behind it
abbrev pub own_address : List (List ℕ) → Option ℕ
own_address (word ∷ next ∷ rest) = if length word == 5 then address_at word else None
own_address _ = None

-- a place in brackets, if there is one
abbrev pub bracketed_place : Option (List ℕ) → List ℕ
bracketed_place None = []
bracketed_place (Some place) = bracketed place

-- a line that is no object, without its end
abbrev pub text_told : Known → List ℕ → List ℕ
text_told known line = join_with_byte 32 (words_told known (parts 32 line)) ++ bracketed_place (option_and_then known.place (own_address (parts 32 line)))

-- ---- objects of JSON

-- `"address":"00387"`, which begins a part between commas (44) or stands behind a brace (123) that does
abbrev pub is_member : List ℕ → Bool
is_member part = bytes_eq (take 11 part) (codes "\"address\":\"") && begins_with (λ byte. byte == 34) (drop 16 part)

-- its place
abbrev pub member_place : Known → List ℕ → Option (List ℕ)
member_place known part = if is_member part then option_and_then known.object (address_at (drop 11 part)) else None

abbrev pub with_source : List ℕ → Option (List ℕ) → List ℕ
with_source part None = part
with_source part (Some object) = take 17 part ++ codes ",\"source\":" ++ object ++ drop 17 part

abbrev pub member_told : Known → List ℕ → List ℕ
member_told known part =
    if begins_with (λ byte. byte == 123) part then take 1 part ++ with_source (drop 1 part) (member_place known (drop 1 part)) else with_source part (member_place known part)

-- An object of JSON: behind the member of an address comes one of its place. A quote behind a comma or a brace opens a string, or it closes one: within a string
-- there would be a backslash before it. What it closes no letter follows; so `"address":"` there is the name of a member and the beginning of its
-- text, and is no part of a text.
abbrev pub object_told : Known → List ℕ → List ℕ
object_told known line = join_with_byte 44 (map (member_told known) (parts 44 line))

-- ---- lines

-- a line, without its end
abbrev pub body_told : Known → List ℕ → List ℕ
body_told known line = if begins_with (λ byte. byte == 123) line then object_told known line else text_told known line

-- where a line ends
abbrev pub is_end : ℕ → Bool
is_end byte = byte == 10

abbrev pub end_of : List ℕ → ℕ
end_of line = position_or_len is_end line

-- a line with its end, if it has one
abbrev pub line_told : Known → List ℕ → List ℕ
line_told known line = body_told known (take (end_of line) line) ++ drop (end_of line) line
