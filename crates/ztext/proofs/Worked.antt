-- Values of the definitions, computed.
use Rattle.std.proofs.Common.{◌≡◌, ℕ, ◌+◌, Bool, false, List, [], ◌∷◌, ◌++◌, ◌%◌, replicate, length, Some, None, Result, Ok, Err, zero, suc, refl, ap, arith, lit<, lit≤, nat_lt, if◌then◌else◌}
use Rattle.std.specs.Prelude.{min, codes, drop}
use Rattle.std.proofs.lemmas.Bool.{le-ltb}
use Rattle.zstory.specs.Bytes.{word_at}
use Rattle.ztext.specs.declared.error.TextError.{TextError}
use Rattle.ztext.specs.declared.error.TextError.TheVariants.{Outside, NestedAbbreviation, OutOfMemory}
use Rattle.ztext.specs.declared.pieces.Piece.TheVariants.{Code, Abbreviation}
use Rattle.ztext.specs.declared.pieces.Alphabet.TheVariants.{Small, Capital, Mark}
use Rattle.ztext.specs.declared.pieces.Begun.TheVariants.{Letter, Bank, Escape, EscapeHigh}
use Rattle.ztext.specs.declared.pieces.Step.TheVariants.{Completes, Begins}
use Rattle.ztext.specs.Words.{IsText, after_text, front_text, text_at, length_at, words_of, characters_of, characters_in}
use Rattle.ztext.specs.Alphabets.{small_letters, capital_letters, marks, letter}
use Rattle.ztext.specs.Pieces.{alone, dropped, abbreviated, shifted_to_capitals, escaped, shifted_to_marks, front_of, pieces_past, pieces_of}
use Rattle.ztext.specs.Codes.{plain_codes, codes_of, text_of, abbreviations_among, abbreviations_used}
use Rattle.ztext.specs.Abbreviations.{readable_word, abbreviation_at, abbreviation_characters, IsPlainAbbreviation}
use Rattle.ztext.specs.Output.{output_of_code, output_of, output_of_characters, output_at}
use Rattle.ztext.specs.Begun.{letters_of, characters_begun, IsBegun, pieces_from, IsStep}
use Rattle.ztext.specs.States.{begun_at, IsPlace, byte_at_once}
use Rattle.ztext.specs.Typed.{character_in, characters_of_code, word_characters, three_from, word_code}
use Rattle.ztext.specs.Progress.{first_error, joined, all_joined, piece_printed, characters_printed, printed_from, nested_use, plain_output, abbreviation_output, memory_use, piece_output, error_of, HasFront, IsStopped, IsWritten, LeadsOn}

-- ---- words

-- the bytes of `hello`, whose second word is its last
hello : List ℕ
hello = 0x35 ∷ 0x51 ∷ 0xC6 ∷ 0x85 ∷ []

whole : IsText hello × IsText (0x94 ∷ 0xA5 ∷ []) × IsText (0x7F ∷ 0xFF ∷ 0x80 ∷ 0x00 ∷ [])
unfolding hello
whole = ((lit< tt, lit≤ tt), lit≤ tt, (lit< tt, lit≤ tt))

-- no end word, half a word, and a word behind the last
no_text : (IsText (0x7F ∷ 0xFF ∷ []) → ⊥) × (IsText (0x94 ∷ []) → ⊥) × (IsText (0x94 ∷ 0xA5 ∷ 0x94 ∷ 0xA5 ∷ []) → ⊥) × (IsText (0x80 ∷ 0x00 ∷ 0x94 ∷ 0xA5 ∷ []) → ⊥)
no_text = (λ text. omega (arith, text), λ text. text, λ text. omega (arith, text.0), λ text. omega (arith, text.0))

-- the greatest word that isn't the last, and the least that is
at_bounds : List ℕ
at_bounds = 0x7F ∷ 0xFF ∷ 0x80 ∷ 0x00 ∷ []

followers : (after_text (hello ++ 7 ∷ []) ≡ Some (7 ∷ [])) × (after_text (at_bounds ++ 7 ∷ []) ≡ Some (7 ∷ [])) × (after_text hello ≡ Some []) × (after_text (0x35 ∷ 0x51 ∷ 0xC6 ∷ []) ≡ None)
unfolding hello at_bounds
followers = (refl, refl, refl, refl)

fronts : (front_text (hello ++ 7 ∷ []) ≡ Some hello) × (front_text (at_bounds ++ 7 ∷ []) ≡ Some at_bounds) × (front_text (0x94 ∷ 0xA5 ∷ hello) ≡ Some (0x94 ∷ 0xA5 ∷ [])) × (front_text (0x35 ∷ 0x51 ∷ []) ≡ None) × (front_text (0x94 ∷ []) ≡ None)
unfolding hello at_bounds
fronts = (refl, refl, refl, refl, refl)

places : (text_at (hello ++ 0x94 ∷ 0xA5 ∷ []) 0 ≡ Some hello) × (text_at (hello ++ 0x94 ∷ 0xA5 ∷ []) 4 ≡ Some (0x94 ∷ 0xA5 ∷ [])) × (text_at hello 3 ≡ None) × (text_at hello 9 ≡ None)
unfolding hello
places = (refl, refl, refl, refl)

lengths : (length_at hello 0 ≡ Some 4) × (length_at hello 2 ≡ Some 2) × (length_at hello 3 ≡ None) × (length_at hello 4 ≡ None)
unfolding hello
lengths = (refl, refl, refl, refl)

words : (words_of hello ≡ 0x3551 ∷ 0xC685 ∷ []) × (words_of (0x35 ∷ 0x51 ∷ 0xC6 ∷ []) ≡ 0x3551 ∷ []) × (words_of [] ≡ [])
unfolding hello
words = (refl, refl, refl)

-- the top bit belongs to none
characters : (characters_of (0x3551 ∷ 0xC685 ∷ []) ≡ 13 ∷ 10 ∷ 17 ∷ 17 ∷ 20 ∷ 5 ∷ []) × (characters_of (0xFFFF ∷ []) ≡ 31 ∷ 31 ∷ 31 ∷ []) × (characters_of (0x8000 ∷ []) ≡ 0 ∷ 0 ∷ 0 ∷ []) × (characters_in (0x94 ∷ 0xA5 ∷ []) ≡ 5 ∷ 5 ∷ 5 ∷ [])
characters = (refl, refl, refl, refl)

-- ---- alphabets

letters : (letter small_letters 6 ≡ 97) × (letter small_letters 31 ≡ 122) × (letter capital_letters 6 ≡ 65) × (letter capital_letters 31 ≡ 90)
unfolding small_letters capital_letters
letters = (refl, refl, refl, refl)

-- newline, 0, full stop, the two quotes, backslash and the closing bracket
marked : (letter marks 7 ≡ 13) × (letter marks 8 ≡ 48) × (letter marks 18 ≡ 46) × (letter marks 24 ≡ 39) × (letter marks 25 ≡ 34) × (letter marks 27 ≡ 92) × (letter marks 31 ≡ 41)
unfolding marks
marked = (refl, refl, refl, refl, refl, refl, refl)

alphabet_lengths : (length small_letters ≡ 26) × (length capital_letters ≡ 26) × (length marks ≡ 26)
unfolding small_letters capital_letters marks
alphabet_lengths = (refl, refl, refl)

-- every letter, by its code, in its place (Z 3.5.3)
whole_alphabets : (small_letters ≡ 97 ∷ 98 ∷ 99 ∷ 100 ∷ 101 ∷ 102 ∷ 103 ∷ 104 ∷ 105 ∷ 106 ∷ 107 ∷ 108 ∷ 109 ∷ 110 ∷ 111 ∷ 112 ∷ 113 ∷ 114 ∷ 115 ∷ 116 ∷ 117 ∷ 118 ∷ 119 ∷ 120 ∷ 121 ∷ 122 ∷ []) × (capital_letters ≡ 65 ∷ 66 ∷ 67 ∷ 68 ∷ 69 ∷ 70 ∷ 71 ∷ 72 ∷ 73 ∷ 74 ∷ 75 ∷ 76 ∷ 77 ∷ 78 ∷ 79 ∷ 80 ∷ 81 ∷ 82 ∷ 83 ∷ 84 ∷ 85 ∷ 86 ∷ 87 ∷ 88 ∷ 89 ∷ 90 ∷ []) × (marks ≡ 0 ∷ 13 ∷ 48 ∷ 49 ∷ 50 ∷ 51 ∷ 52 ∷ 53 ∷ 54 ∷ 55 ∷ 56 ∷ 57 ∷ 46 ∷ 44 ∷ 33 ∷ 63 ∷ 95 ∷ 35 ∷ 39 ∷ 34 ∷ 47 ∷ 92 ∷ 45 ∷ 58 ∷ 40 ∷ 41 ∷ [])
unfolding small_letters capital_letters marks
whole_alphabets = (refl, refl, refl)

-- ---- pieces

banks : (abbreviated 1 (0 ∷ []) ≡ record { piece = Some (Abbreviation 0); more = 1 }) × (abbreviated 2 (5 ∷ 9 ∷ []) ≡ record { piece = Some (Abbreviation 37); more = 1 }) × (abbreviated 3 (31 ∷ []) ≡ record { piece = Some (Abbreviation 95); more = 1 }) × (abbreviated 3 [] ≡ dropped)
banks = (refl, refl, refl, refl)

capitals : (shifted_to_capitals (6 ∷ []) ≡ record { piece = Some (Code 65); more = 1 }) × (shifted_to_capitals (5 ∷ 6 ∷ []) ≡ dropped) × (shifted_to_capitals (0 ∷ []) ≡ dropped) × (shifted_to_capitals [] ≡ dropped)
unfolding capital_letters
capitals = (refl, refl, refl, refl)

escapes : (escaped (2 ∷ 0 ∷ 9 ∷ []) ≡ record { piece = Some (Code 64); more = 3 }) × (escaped (31 ∷ 31 ∷ []) ≡ record { piece = Some (Code 1023); more = 3 }) × (escaped (2 ∷ []) ≡ record { piece = None; more = 2 }) × (escaped [] ≡ record { piece = None; more = 1 })
escapes = (refl, refl, refl, refl)

shifted_marks : (shifted_to_marks (7 ∷ []) ≡ record { piece = Some (Code 13); more = 1 }) × (shifted_to_marks (6 ∷ 2 ∷ 0 ∷ []) ≡ record { piece = Some (Code 64); more = 3 }) × (shifted_to_marks (1 ∷ 6 ∷ []) ≡ dropped) × (shifted_to_marks [] ≡ dropped)
unfolding marks
shifted_marks = (refl, refl, refl, refl)

front_characters : (front_of 0 (6 ∷ []) ≡ alone (Code 32)) × (front_of 6 (7 ∷ []) ≡ alone (Code 97)) × (front_of 3 (31 ∷ []) ≡ record { piece = Some (Abbreviation 95); more = 1 }) × (front_of 4 (31 ∷ []) ≡ record { piece = Some (Code 90); more = 1 }) × (front_of 5 (31 ∷ []) ≡ record { piece = Some (Code 41); more = 1 })
unfolding small_letters capital_letters marks
front_characters = (refl, refl, refl, refl, refl)

-- `hello`; of several shifts the last counts; a space and an abbreviation use a shift up
meant : (pieces_of (13 ∷ 10 ∷ 17 ∷ 17 ∷ 20 ∷ 5 ∷ []) ≡ Code 104 ∷ Code 101 ∷ Code 108 ∷ Code 108 ∷ Code 111 ∷ []) × (pieces_of (4 ∷ 5 ∷ 13 ∷ []) ≡ Code 53 ∷ []) × (pieces_of (5 ∷ 4 ∷ 13 ∷ []) ≡ Code 72 ∷ []) × (pieces_of (4 ∷ 0 ∷ 6 ∷ []) ≡ Code 32 ∷ Code 97 ∷ []) × (pieces_of (4 ∷ 1 ∷ 0 ∷ 6 ∷ []) ≡ Abbreviation 0 ∷ Code 97 ∷ [])
unfolding small_letters capital_letters marks
meant = (refl, refl, refl, refl, refl)

-- what is unfinished at the end is ignored, and 6 begins an escape in A2 alone
unfinished : (pieces_of (5 ∷ 6 ∷ 2 ∷ []) ≡ []) × (pieces_of (5 ∷ 5 ∷ 6 ∷ []) ≡ []) × (pieces_of (7 ∷ 2 ∷ []) ≡ Code 98 ∷ []) × (pieces_of (4 ∷ 6 ∷ 2 ∷ []) ≡ Code 65 ∷ []) × (pieces_of (5 ∷ 6 ∷ 31 ∷ 31 ∷ 4 ∷ []) ≡ Code 1023 ∷ [])
unfolding small_letters capital_letters marks
unfinished = (refl, refl, refl, refl, refl)

behind : (pieces_past 2 (6 ∷ 7 ∷ 8 ∷ []) ≡ Code 99 ∷ []) × (pieces_past 5 (6 ∷ []) ≡ []) × (pieces_past 1 (5 ∷ 0 ∷ []) ≡ Code 32 ∷ [])
unfolding small_letters
behind = (refl, refl, refl)

-- ---- codes

plain : (plain_codes (Code 104 ∷ Code 105 ∷ []) ≡ Some (104 ∷ 105 ∷ [])) × (plain_codes (Code 104 ∷ Abbreviation 0 ∷ []) ≡ None) × (plain_codes [] ≡ Some [])
plain = (refl, refl, refl)

-- abbreviation 0 is `he`, and each other one uses it
short_texts : ℕ → List ℕ
short_texts zero = 13 ∷ 10 ∷ []
short_texts (suc n) = 1 ∷ 0 ∷ []

coded : (codes_of short_texts (Code 62 ∷ Abbreviation 0 ∷ Code 33 ∷ []) ≡ Some (62 ∷ 104 ∷ 101 ∷ 33 ∷ [])) × (codes_of short_texts (Code 62 ∷ Abbreviation 1 ∷ []) ≡ None) × (codes_of short_texts [] ≡ Some [])
unfolding short_texts small_letters
coded = (refl, refl, refl)

meanings : (text_of short_texts (1 ∷ 0 ∷ 6 ∷ []) ≡ Some (104 ∷ 101 ∷ 97 ∷ [])) × (text_of short_texts (6 ∷ 1 ∷ 1 ∷ []) ≡ None) × (text_of short_texts (6 ∷ 1 ∷ []) ≡ Some (97 ∷ []))
unfolding short_texts small_letters
meanings = (refl, refl, refl)

used : (abbreviations_among (Code 1 ∷ Abbreviation 2 ∷ Abbreviation 0 ∷ []) ≡ 2 ∷ 0 ∷ []) × (abbreviations_used (1 ∷ 2 ∷ 6 ∷ 3 ∷ 31 ∷ []) ≡ 2 ∷ 95 ∷ []) × (abbreviations_used (6 ∷ 5 ∷ 6 ∷ 1 ∷ 1 ∷ 1 ∷ []) ≡ [])
unfolding small_letters
used = (refl, refl, refl)

-- ---- abbreviations

-- The table is at 64. Abbreviation 0 is `hello` at 96, 1 uses 0 at 104, and 2 is behind memory's end at 128.
memory : List ℕ
memory = replicate 25 0 ++ 0x40 ∷ replicate 38 0 ++ 0x00 ∷ 0x30 ∷ 0x00 ∷ 0x34 ∷ 0x7F ∷ 0xFF ∷ replicate 26 0 ++ 0x35 ∷ 0x51 ∷ 0xC6 ∷ 0x85 ∷ replicate 4 0 ++ 0x84 ∷ 0x05 ∷ replicate 22 0

readable : (readable_word memory 0x18 ≡ Some 0x40) × (readable_word memory 0x42 ≡ Some 0x34) × (readable_word memory 126 ≡ Some 0) × (readable_word memory 127 ≡ None)
unfolding memory
readable = (refl, refl, refl, refl)

-- no word stands at the last byte address, however long memory is
last_byte : (bytes : List ℕ) → readable_word bytes 65535 ≡ None
last_byte bytes =
    let outside : nat_lt (65535 + 1) (min (length bytes) 65536) ≡ false = le-ltb (65535 + 1) (min (length bytes) 65536) (omega arith) in
    ap (λ (b : Bool). if b then Some (word_at bytes 65535) else None) outside

abbreviations : (abbreviation_at memory 0 ≡ Some hello) × (abbreviation_at memory 1 ≡ Some (0x84 ∷ 0x05 ∷ [])) × (abbreviation_at memory 2 ≡ None) × (abbreviation_at memory 32 ≡ None)
unfolding memory hello
abbreviations = (refl, refl, refl, refl)

their_characters : (abbreviation_characters memory 0 ≡ 13 ∷ 10 ∷ 17 ∷ 17 ∷ 20 ∷ 5 ∷ []) × (abbreviation_characters memory 1 ≡ 1 ∷ 0 ∷ 5 ∷ []) × (abbreviation_characters memory 2 ≡ [])
unfolding memory
their_characters = (refl, refl, refl)

plain_ones : IsPlainAbbreviation memory 0 × (IsPlainAbbreviation memory 1 → ⊥) × (IsPlainAbbreviation memory 2 → ⊥)
unfolding memory small_letters
plain_ones = (refl, λ none. absurd cc, λ none. none)

-- ---- output

outputs : (output_of_code 0 ≡ []) × (output_of_code 13 ≡ 10 ∷ []) × (output_of_code 32 ≡ 32 ∷ []) × (output_of_code 126 ≡ 126 ∷ []) × (output_of_code 31 ≡ 63 ∷ []) × (output_of_code 127 ≡ 63 ∷ []) × (output_of_code 1023 ≡ 63 ∷ []) × (output_of_code 1121 ≡ 63 ∷ [])
outputs = (refl, refl, refl, refl, refl, refl, refl, refl)

printed : (output_of (104 ∷ 0 ∷ 13 ∷ 155 ∷ []) ≡ 104 ∷ 10 ∷ 63 ∷ []) × (output_of [] ≡ [])
printed = (refl, refl)

-- the errors in their order: what isn't whole in memory comes first, wherever it's used
of_characters : (output_of_characters memory (4 ∷ 1 ∷ 0 ∷ 6 ∷ []) ≡ Ok (104 ∷ 101 ∷ 108 ∷ 108 ∷ 111 ∷ 97 ∷ [])) × (output_of_characters memory (1 ∷ 1 ∷ []) ≡ Err NestedAbbreviation) × (output_of_characters memory (1 ∷ 2 ∷ []) ≡ Err Outside) × (output_of_characters memory (1 ∷ 1 ∷ 1 ∷ 2 ∷ []) ≡ Err Outside)
unfolding output_of_characters memory small_letters
of_characters = (refl, refl, refl, refl)

at_places : (output_at memory 96 ≡ Ok (104 ∷ 101 ∷ 108 ∷ 108 ∷ 111 ∷ [])) × (output_at memory 98 ≡ Ok (108 ∷ 111 ∷ [])) × (output_at memory 104 ≡ Ok (104 ∷ 101 ∷ 108 ∷ 108 ∷ 111 ∷ [])) × (output_at memory 106 ≡ Err Outside)
unfolding output_at output_of_characters memory small_letters
at_places = (refl, refl, refl, refl)

-- ---- what has begun

begun_characters : (characters_begun (Letter Small) ≡ []) × (characters_begun (Letter Capital) ≡ 4 ∷ []) × (characters_begun (Letter Mark) ≡ 5 ∷ []) × (characters_begun (Bank 2) ≡ 2 ∷ []) × (characters_begun Escape ≡ 5 ∷ 6 ∷ []) × (characters_begun (EscapeHigh 3) ≡ 5 ∷ 6 ∷ 3 ∷ [])
begun_characters = (refl, refl, refl, refl, refl, refl)

alphabets : (letter (letters_of Small) 8 ≡ 99) × (letter (letters_of Capital) 8 ≡ 67) × (letter (letters_of Mark) 8 ≡ 48)
unfolding small_letters capital_letters marks
alphabets = (refl, refl, refl)

can_begin : IsBegun (Bank 1) × IsBegun (Bank 3) × IsBegun (EscapeHigh 31) × (IsBegun (Bank 0) → ⊥) × (IsBegun (Bank 4) → ⊥) × (IsStep (Begins (EscapeHigh 32)) → ⊥)
can_begin = ((omega arith, omega arith), (omega arith, omega arith), omega arith, (λ begun. omega (arith, begun.0)), (λ begun. omega (arith, begun.1)), (λ begun. omega (arith, begun)))

steps : (pieces_from (Completes (Code 97)) (7 ∷ []) ≡ Code 97 ∷ Code 98 ∷ []) × (pieces_from (Begins Escape) (2 ∷ 0 ∷ []) ≡ Code 64 ∷ []) × (pieces_from (Begins (Letter Capital)) (6 ∷ []) ≡ Code 65 ∷ []) × (pieces_from (Begins (Bank 3)) (31 ∷ []) ≡ Abbreviation 95 ∷ [])
unfolding small_letters capital_letters
steps = (refl, refl, refl, refl)

-- ---- progress

first_errors : (first_error NestedAbbreviation Outside ≡ Outside) × (first_error Outside NestedAbbreviation ≡ Outside) × (first_error OutOfMemory NestedAbbreviation ≡ NestedAbbreviation) × (first_error NestedAbbreviation OutOfMemory ≡ NestedAbbreviation) × (first_error NestedAbbreviation NestedAbbreviation ≡ NestedAbbreviation)
first_errors = (refl, refl, refl, refl, refl)

joins : (joined (Ok (1 ∷ [])) (Ok (2 ∷ [])) ≡ Ok (1 ∷ 2 ∷ [])) × (joined (Ok (1 ∷ [])) (Err Outside) ≡ Err Outside) × (joined (Err NestedAbbreviation) (Ok []) ≡ Err NestedAbbreviation) × (joined (Err NestedAbbreviation) (Err Outside) ≡ Err Outside)
joins = (refl, refl, refl, refl)

pieces_print : (piece_output memory (Code 13) ≡ Ok (10 ∷ [])) × (piece_output memory (Abbreviation 0) ≡ Ok (104 ∷ 101 ∷ 108 ∷ 108 ∷ 111 ∷ [])) × (piece_output memory (Abbreviation 1) ≡ Err NestedAbbreviation) × (piece_output memory (Abbreviation 2) ≡ Err Outside)
unfolding memory small_letters
pieces_print = (refl, refl, refl, refl)

all_print : (all_joined (piece_output memory) (Abbreviation 1 ∷ Code 97 ∷ Abbreviation 2 ∷ []) ≡ Err Outside) × (all_joined plain_output (Code 97 ∷ Code 0 ∷ []) ≡ Ok (97 ∷ [])) × (abbreviation_output (Some (Abbreviation 0 ∷ [])) ≡ Err NestedAbbreviation) × (abbreviation_output None ≡ Err Outside)
unfolding memory small_letters
all_print = (refl, refl, refl, refl)

-- each abbreviation prints its number
short_uses : ℕ → Result (List ℕ) TextError
short_uses n = Ok (n ∷ [])

printed_pieces : (piece_printed short_uses (Code 13) ≡ Ok (10 ∷ [])) × (piece_printed short_uses (Abbreviation 3) ≡ Ok (3 ∷ [])) × (piece_printed nested_use (Abbreviation 3) ≡ Err NestedAbbreviation) × (memory_use memory 1 ≡ Err NestedAbbreviation) × (memory_use memory 2 ≡ Err Outside)
unfolding short_uses memory small_letters
printed_pieces = (refl, refl, refl, refl, refl)

printed_on : (characters_printed short_uses (6 ∷ 1 ∷ 2 ∷ []) ≡ Ok (97 ∷ 2 ∷ [])) × (printed_from short_uses (Letter Capital) (6 ∷ 6 ∷ []) ≡ Ok (65 ∷ 97 ∷ [])) × (printed_from short_uses (EscapeHigh 2) (0 ∷ []) ≡ Ok (64 ∷ [])) × (printed_from short_uses (Bank 2) (1 ∷ []) ≡ Ok (33 ∷ []))
unfolding printed_from short_uses small_letters capital_letters
printed_on = (refl, refl, refl, refl)

errors : (error_of (Ok (7 ∷ [])) ≡ OutOfMemory) × (error_of (Err Outside) ≡ Outside) × (error_of (Err NestedAbbreviation) ≡ NestedAbbreviation)
errors = (refl, refl, refl)

-- a buffer that held 1 and has room for two bytes
written : IsWritten 2 (1 ∷ []) (1 ∷ 7 ∷ []) (Some tt) (Ok (7 ∷ [])) × IsWritten 2 (1 ∷ []) (1 ∷ 7 ∷ []) None (Ok (7 ∷ 8 ∷ [])) × IsWritten 2 (1 ∷ []) (1 ∷ 7 ∷ []) None (Err Outside)
unfolding IsWritten IsStopped
written = ((7 ∷ [], refl, refl), ((7 ∷ [], refl), λ out e. (let same : 7 ∷ 8 ∷ [] ≡ out = cc in rw (← same) (lit< tt))), ((7 ∷ [], refl), λ out e. absurd cc))

-- Nothing stops where there is room and a value, nothing is lost that stood there, and nothing is written that isn't printed.
not_written : (IsWritten 1 [] [] None (Ok (7 ∷ [])) → ⊥) × (IsStopped 2 (1 ∷ []) (2 ∷ []) (Err Outside) → ⊥) × (IsWritten 2 [] (8 ∷ []) (Some tt) (Ok (7 ∷ [])) → ⊥) × (HasFront (1 ∷ []) (2 ∷ []) → ⊥)
unfolding IsWritten IsStopped
not_written = (λ stop. omega (arith, stop.1 (7 ∷ []) refl), λ stop. absurd (let e = stop.0.1 in cc), λ done. absurd (let e = done.1 in let f = done.2 in cc), λ front. absurd (let e = front.1 in cc))

leads : LeadsOn 2 [] (97 ∷ []) (Some (Letter Capital)) (printed_from short_uses (Letter Small) (6 ∷ 4 ∷ 6 ∷ [])) (λ begun. printed_from short_uses begun (6 ∷ []))
unfolding LeadsOn printed_from short_uses small_letters capital_letters
leads = (97 ∷ [], refl, refl)

-- ---- places in the table

places_begun : (begun_at 0 ≡ Letter Small) × (begun_at 32 ≡ Letter Capital) × (begun_at 64 ≡ Letter Mark) × (begun_at 96 ≡ Bank 1) × (begun_at 160 ≡ Bank 3) × (begun_at 192 ≡ Escape) × (begun_at 224 ≡ EscapeHigh 0) × (begun_at 255 ≡ EscapeHigh 31)
places_begun = (refl, refl, refl, refl, refl, refl, refl, refl)

are_places : IsPlace 0 × IsPlace 160 × IsPlace 231 × (IsPlace 33 → ⊥) × (IsPlace 256 → ⊥)
are_places = ((lit< tt, λ _. refl), (lit< tt, λ _. refl), (lit< tt, λ below. absurd (omega arith)), (λ place. absurd (let e : 33 % 32 ≡ 0 = place.1 (lit< tt) in omega arith)), (λ place. absurd (omega (arith, place.0))))

at_once : (byte_at_once (Letter Small) 0 ≡ Some 32) × (byte_at_once (Letter Small) 6 ≡ Some 97) × (byte_at_once (Letter Capital) 31 ≡ Some 90) × (byte_at_once (Letter Mark) 7 ≡ Some 10) × (byte_at_once (Letter Mark) 6 ≡ None) × (byte_at_once (Letter Small) 5 ≡ None) × (byte_at_once (Bank 1) 6 ≡ None)
unfolding small_letters capital_letters marks
at_once = (refl, refl, refl, refl, refl, refl, refl)

-- ---- typed words

-- the first and the last of small letters and of marks, and codes that are in neither
in_alphabets : (character_in 6 small_letters 97 ≡ Some 6) × (character_in 6 small_letters 122 ≡ Some 31) × (character_in 8 (drop 2 marks) 48 ≡ Some 8) × (character_in 8 (drop 2 marks) 41 ≡ Some 31) × (character_in 6 small_letters 64 ≡ None) × (character_in 8 (drop 2 marks) 13 ≡ None)
unfolding small_letters marks
in_alphabets = (refl, refl, refl, refl, refl, refl)

-- a space, a small letter, a mark, and escapes: of an at sign, a newline and the last byte
typed_codes : (characters_of_code 32 ≡ 0 ∷ []) × (characters_of_code 99 ≡ 8 ∷ []) × (characters_of_code 46 ≡ 5 ∷ 18 ∷ []) × (characters_of_code 64 ≡ 5 ∷ 6 ∷ 2 ∷ 0 ∷ []) × (characters_of_code 13 ≡ 5 ∷ 6 ∷ 0 ∷ 13 ∷ []) × (characters_of_code 255 ≡ 5 ∷ 6 ∷ 7 ∷ 31 ∷ [])
unfolding small_letters marks
typed_codes = (refl, refl, refl, refl, refl, refl)

-- capitals are small letters, fives fill up, and an escape is cut where the sixth ends
typed_characters : (word_characters (codes "Hi") ≡ 13 ∷ 14 ∷ 5 ∷ 5 ∷ 5 ∷ 5 ∷ []) × (word_characters [] ≡ 5 ∷ 5 ∷ 5 ∷ 5 ∷ 5 ∷ 5 ∷ []) × (word_characters (codes "fishing") ≡ 11 ∷ 14 ∷ 24 ∷ 13 ∷ 14 ∷ 19 ∷ []) × (word_characters (codes "a z@Z") ≡ 6 ∷ 0 ∷ 31 ∷ 5 ∷ 6 ∷ 2 ∷ [])
unfolding word_characters small_letters marks
typed_characters = (refl, refl, refl, refl)

threes : (three_from 0 (1 ∷ 2 ∷ 3 ∷ 4 ∷ 5 ∷ 6 ∷ []) ≡ 1091) × (three_from 3 (1 ∷ 2 ∷ 3 ∷ 4 ∷ 5 ∷ 6 ∷ []) ≡ 4262)
threes = (refl, refl)

-- `i`, `look`, `@ab`, `ab@c` and `abc@d`
word_codes : (word_code (codes "i") ≡ 0x38 ∷ 0xA5 ∷ 0x94 ∷ 0xA5 ∷ []) × (word_code (codes "look") ≡ 0x46 ∷ 0x94 ∷ 0xC0 ∷ 0xA5 ∷ []) × (word_code (codes "@ab") ≡ 0x14 ∷ 0xC2 ∷ 0x80 ∷ 0xC7 ∷ []) × (word_code (codes "ab@c") ≡ 0x18 ∷ 0xE5 ∷ 0x98 ∷ 0x40 ∷ []) × (word_code (codes "abc@d") ≡ 0x18 ∷ 0xE8 ∷ 0x94 ∷ 0xC2 ∷ [])
unfolding word_code word_characters small_letters marks
word_codes = (refl, refl, refl, refl, refl)

-- the bytes of a word are a text, of its six Z-characters
codes_are_texts : IsText (word_code (codes "look")) × (characters_in (word_code (codes "look")) ≡ word_characters (codes "look"))
unfolding word_code word_characters small_letters marks
codes_are_texts = ((lit< tt, lit≤ tt), refl)
