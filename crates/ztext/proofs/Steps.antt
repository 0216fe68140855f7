-- Writing character by character.
use Rattle.std.proofs.Common.{◌≡◌, ℕ, ◌+◌, ◌*◌, ◌/◌, ◌%◌, ◌<◌, ◌≤◌, nat_eq, nat_lt, nat_le, ◌&&◌, List, [], ◌∷◌, ◌++◌, length, get_or, take, drop, ◌-◌, Option, Some, None, Result, Ok, refl, sym, ap, arith}
use Rattle.std.specs.Prelude.{slice_get}
use Rattle.std.proofs.lemmas.Bool.{cond_both, ltb-false, le-ltb, lt-ltb, eqb-true, ne_eqb}
use Rattle.std.proofs.lemmas.List.{append-nil, take_all}
use Rattle.ztext.specs.declared.error.TextError.{TextError}
use Rattle.ztext.specs.declared.pieces.Piece.{Piece}
use Rattle.ztext.specs.declared.pieces.Piece.TheVariants.{Code}
use Rattle.ztext.specs.declared.pieces.Alphabet.{Alphabet}
use Rattle.ztext.specs.declared.pieces.Alphabet.TheVariants.{Small, Capital, Mark}
use Rattle.ztext.specs.declared.pieces.Begun.{Begun}
use Rattle.ztext.specs.declared.pieces.Begun.TheVariants.{Letter, Bank, Escape, EscapeHigh}
use Rattle.ztext.specs.Words.{characters_in}
use Rattle.ztext.specs.Alphabets.{letter, small_letters, capital_letters, marks}
use Rattle.ztext.specs.Pieces.{pieces_of}
use Rattle.ztext.specs.Abbreviations.{abbreviation_at}
use Rattle.ztext.specs.Output.{output_of_code}
use Rattle.ztext.specs.Begun.{letters_of, characters_begun, IsBegun}
use Rattle.ztext.specs.States.{byte_at_once}
use Rattle.ztext.specs.Progress.{all_joined, piece_printed, characters_printed, printed_from, nested_use, memory_use, IsStopped, IsWritten, LeadsOn}
use Rattle.ztext.proofs.Parts.{LeadsOn-begins, LeadsOn-part, LeadsOn-stopped, LeadsOn-then, IsWritten-stopped}

-- a Z-character that begins something
pub begins : (uses : ℕ → Result (List ℕ) TextError) (capacity : ℕ) (items : List ℕ) (state from next to : Begun) (z : ℕ) → from ≡ state → next ≡ to → ((zs : List ℕ) → pieces_of (characters_begun from ++ z ∷ zs) ≡ pieces_of (characters_begun to ++ zs))
    → (zs : List ℕ) → LeadsOn capacity items items (Some next) (printed_from uses state (z ∷ zs)) (λ begun. printed_from uses begun zs)
unfolding printed_from
begins uses capacity items state from next to z s n same zs =
    LeadsOn-begins _ _ _ _ _ (rw (← s, n) (ap (all_joined (piece_printed uses)) (same zs)))

-- one that completes a piece
pub completes : (uses : ℕ → Result (List ℕ) TextError) (capacity : ℕ) (old new : List ℕ) (state from next : Begun) (z : ℕ) (piece : Piece) (u : Unit {0}) → from ≡ state → next ≡ Letter Small → ((zs : List ℕ) → pieces_of (characters_begun from ++ z ∷ zs) ≡ piece ∷ pieces_of zs) → IsWritten capacity old new (Some u) (piece_printed uses piece)
    → (zs : List ℕ) → LeadsOn capacity old new (Some next) (printed_from uses state (z ∷ zs)) (λ begun. printed_from uses begun zs)
unfolding printed_from
completes uses capacity old new state from next z piece u s n same written zs =
    LeadsOn-part _ _ _ _ u _ (piece_printed uses piece) _ (rw (← s, n) (ap (all_joined (piece_printed uses)) (same zs))) written

pub stops : (uses : ℕ → Result (List ℕ) TextError) (capacity : ℕ) (old new : List ℕ) (state from : Begun) (answer : Option Begun) (z : ℕ) (piece : Piece) → from ≡ state → answer ≡ None → ((zs : List ℕ) → pieces_of (characters_begun from ++ z ∷ zs) ≡ piece ∷ pieces_of zs) → IsWritten capacity old new None (piece_printed uses piece)
    → (zs : List ℕ) → LeadsOn capacity old new answer (printed_from uses state (z ∷ zs)) (λ begun. printed_from uses begun zs)
unfolding printed_from
stops uses capacity old new state from answer z piece s n same written zs =
    rw n (LeadsOn-stopped _ _ _ _ (piece_printed uses piece) (all_joined (piece_printed uses) (pieces_of zs)) _ (rw (← s) (ap (all_joined (piece_printed uses)) (same zs))) written)

-- a code that prints one byte
abbrev PrintsByte : Begun → ℕ → ℕ → Type 0
PrintsByte begun z byte = (code : ℕ) × ((zs : List ℕ) → pieces_of (characters_begun begun ++ z ∷ zs) ≡ Code code ∷ pieces_of zs) × (output_of_code code ≡ byte ∷ [])

only_byte : (code byte : ℕ) → slice_get (output_of_code code) 0 ≡ Some byte → output_of_code code ≡ byte ∷ []
only_byte code byte =
    cond_both (nat_eq code 0) _ _ (λ xs. slice_get xs 0 ≡ Some byte → xs ≡ byte ∷ []) (λ _ e. absurd cc) (λ _.
    cond_both (nat_eq code 13) _ _ (λ xs. slice_get xs 0 ≡ Some byte → xs ≡ byte ∷ []) (λ _ e. cc) (λ _.
    cond_both (nat_le 32 code && nat_le code 126) _ _ (λ xs. slice_get xs 0 ≡ Some byte → xs ≡ byte ∷ []) (λ _ e. cc) (λ _ e. cc)))

space : (alphabet : Alphabet) (zs : List ℕ) → pieces_of (characters_begun (Letter alphabet) ++ 0 ∷ zs) ≡ Code 32 ∷ pieces_of zs
space Small zs = refl
space Capital zs = refl
space Mark zs = refl

small_letter : (z : ℕ) (zs : List ℕ) → 6 ≤ z → pieces_of (z ∷ zs) ≡ Code (letter small_letters z) ∷ pieces_of zs
small_letter z zs from = rw (ne_eqb z 0 (omega arith), le-ltb z 4 (omega arith), ne_eqb z 4 (omega arith), ne_eqb z 5 (omega arith)) refl

capital_letter : (z : ℕ) (zs : List ℕ) → 6 ≤ z → pieces_of (4 ∷ z ∷ zs) ≡ Code (letter capital_letters z) ∷ pieces_of zs
capital_letter z zs from = rw (le-ltb z 6 from) refl

mark : (z : ℕ) (zs : List ℕ) → 6 ≤ z → (z ≡ 6 → ⊥) → pieces_of (5 ∷ z ∷ zs) ≡ Code (letter marks z) ∷ pieces_of zs
mark z zs from other = rw (le-ltb z 6 from, ne_eqb z 6 other) refl

no_byte : (byte : ℕ) → slice_get (output_of_code (letter marks 6)) 0 ≡ Some byte → ⊥
unfolding marks
no_byte byte e = absurd cc

letter_printed : (alphabet : Alphabet) (z byte : ℕ) → 6 ≤ z → slice_get (output_of_code (letter (letters_of alphabet) z)) 0 ≡ Some byte → PrintsByte (Letter alphabet) z byte
letter_printed Small z byte from e = (letter small_letters z, λ zs. small_letter z zs from, only_byte (letter small_letters z) byte e)
letter_printed Capital z byte from e = (letter capital_letters z, λ zs. capital_letter z zs from, only_byte (letter capital_letters z) byte e)
letter_printed Mark z byte from e = (letter marks z, λ zs. mark z zs from (λ six. no_byte byte (rw six at e)), only_byte (letter marks z) byte e)

space_printed : (alphabet : Alphabet) (byte : ℕ) → Some 32 ≡ Some byte → PrintsByte (Letter alphabet) 0 byte
space_printed alphabet byte e = let same : 32 ≡ byte = cc in rw (← same) (32, λ zs. space alphabet zs, refl)

letter_or_space : (alphabet : Alphabet) (z byte : ℕ) → byte_at_once (Letter alphabet) z ≡ Some byte → PrintsByte (Letter alphabet) z byte
letter_or_space alphabet z byte =
    cond_both (nat_eq z 0) _ _ (λ shown. shown ≡ Some byte → PrintsByte (Letter alphabet) z byte)
    (λ is_0 e. rw (eqb-true z 0 is_0) (space_printed alphabet byte e)) (λ _.
    cond_both (nat_lt z 6) _ _ (λ shown. shown ≡ Some byte → PrintsByte (Letter alphabet) z byte) (λ _ e. absurd cc)
    (λ from e. letter_printed alphabet z byte (ltb-false z 6 from) e))

-- what is printed at once completes a code
pub prints_byte : (begun : Begun) (z byte : ℕ) → byte_at_once begun z ≡ Some byte → PrintsByte begun z byte
prints_byte (Letter alphabet) z byte e = letter_or_space alphabet z byte e
prints_byte (Bank bank) z byte e = absurd cc
prints_byte Escape z byte e = absurd cc
prints_byte (EscapeHigh high) z byte e = absurd cc

-- such a byte was written
pub completes_byte : (uses : ℕ → Result (List ℕ) TextError) (capacity : ℕ) (old new : List ℕ) (state next : Begun) (z byte : ℕ) (u : Unit {0}) → Some byte ≡ byte_at_once state z → next ≡ Letter Small → IsWritten capacity old new (Some u) (Ok (byte ∷ []))
    → (zs : List ℕ) → LeadsOn capacity old new (Some next) (printed_from uses state (z ∷ zs)) (λ begun. printed_from uses begun zs)
completes_byte uses capacity old new state next z byte u e n written =
    let p = prints_byte state z byte (sym e) in
    completes uses capacity old new state state next z (Code p.0) u refl n p.1 (rw p.2 written)

pub stops_byte : (uses : ℕ → Result (List ℕ) TextError) (capacity : ℕ) (old new : List ℕ) (state : Begun) (answer : Option Begun) (z byte : ℕ) → Some byte ≡ byte_at_once state z → answer ≡ None → IsWritten capacity old new None (Ok (byte ∷ []))
    → (zs : List ℕ) → LeadsOn capacity old new answer (printed_from uses state (z ∷ zs)) (λ begun. printed_from uses begun zs)
stops_byte uses capacity old new state answer z byte e n stop =
    let p = prints_byte state z byte (sym e) in
    stops uses capacity old new state state answer z (Code p.0) refl n p.1 (rw p.2 stop)

LeadsOn-stop : (capacity : ℕ) (old new : List ℕ) (whole : Result (List ℕ) TextError) (left after : Begun → Result (List ℕ) TextError) → LeadsOn capacity old new None whole left → LeadsOn capacity old new None whole after
unfolding LeadsOn
LeadsOn-stop capacity old new whole left after stop = stop

-- a word whose first, second or third Z-character stops, or none
pub word_first : (uses : ℕ → Result (List ℕ) TextError) (capacity : ℕ) (old new : List ℕ) (state : Begun) (answer : Option Begun) (a b c x y z : ℕ) (zs : List ℕ) → a ≡ x → b ≡ y → c ≡ z → answer ≡ None
    → ((zs : List ℕ) → LeadsOn capacity old new None (printed_from uses state (a ∷ zs)) (λ begun. printed_from uses begun zs)) → LeadsOn capacity old new answer (printed_from uses state (x ∷ y ∷ z ∷ zs)) (λ begun. printed_from uses begun zs)
unfolding LeadsOn
word_first uses capacity old new state answer a b c x y z zs p q r n first = rw (n, ← p) (first (y ∷ z ∷ zs))

pub word_second : (uses : ℕ → Result (List ℕ) TextError) (capacity larger : ℕ) (old mid new : List ℕ) (state next : Begun) (answer : Option Begun) (a b c x y z : ℕ) (zs : List ℕ) → a ≡ x → b ≡ y → c ≡ z → answer ≡ None → capacity ≤ larger
    → ((zs : List ℕ) → LeadsOn capacity old mid (Some next) (printed_from uses state (a ∷ zs)) (λ begun. printed_from uses begun zs))
    → ((zs : List ℕ) → LeadsOn larger mid new None (printed_from uses next (b ∷ zs)) (λ begun. printed_from uses begun zs)) → LeadsOn capacity old new answer (printed_from uses state (x ∷ y ∷ z ∷ zs)) (λ begun. printed_from uses begun zs)
word_second uses capacity larger old mid new state next answer a b c x y z zs p q r n grows first second =
    rw (n, ← p) (LeadsOn-then capacity larger old mid new next None _ _ (λ begun. printed_from uses begun zs) grows (first (y ∷ z ∷ zs)) (rw (← q) (LeadsOn-stop larger mid new _ _ _ (second (z ∷ zs)))))

pub word_third : (uses : ℕ → Result (List ℕ) TextError) (capacity larger largest : ℕ) (old mid more new : List ℕ) (state next last : Begun) (answer : Option Begun) (a b c x y z : ℕ) (zs : List ℕ) → a ≡ x → b ≡ y → c ≡ z → capacity ≤ larger → larger ≤ largest
    → ((zs : List ℕ) → LeadsOn capacity old mid (Some next) (printed_from uses state (a ∷ zs)) (λ begun. printed_from uses begun zs))
    → ((zs : List ℕ) → LeadsOn larger mid more (Some last) (printed_from uses next (b ∷ zs)) (λ begun. printed_from uses begun zs))
    → ((zs : List ℕ) → LeadsOn largest more new answer (printed_from uses last (c ∷ zs)) (λ begun. printed_from uses begun zs)) → LeadsOn capacity old new answer (printed_from uses state (x ∷ y ∷ z ∷ zs)) (λ begun. printed_from uses begun zs)
word_third uses capacity larger largest old mid more new state next last answer a b c x y z zs p q r grows rises first second third =
    rw (← p, ← q, ← r) (LeadsOn-then capacity larger old mid new next answer _ _ _ grows (first (b ∷ c ∷ zs)) (LeadsOn-then larger largest mid more new last answer _ _ _ rises (second (c ∷ zs)) (third zs)))

-- what has begun and isn't complete prints nothing
pub unfinished : (uses : ℕ → Result (List ℕ) TextError) (begun : Begun) → IsBegun begun → printed_from uses begun [] ≡ Ok []
unfolding printed_from
unfinished uses (Letter Small) is = refl
unfinished uses (Letter Capital) is = refl
unfinished uses (Letter Mark) is = refl
unfinished uses (Bank bank) is = rw (ne_eqb bank 0 (omega (arith, is.0)), lt-ltb bank 4 (omega (arith, is.1))) refl
unfinished uses Escape is = refl
unfinished uses (EscapeHigh high) is = refl

pub printed_from-start : (uses : ℕ → Result (List ℕ) TextError) (zs : List ℕ) → printed_from uses (Letter Small) zs ≡ characters_printed uses zs
unfolding printed_from
printed_from-start uses zs = refl

-- no abbreviation's use is written in an abbreviation
pub IsWritten-nested : (capacity : ℕ) (items : List ℕ) (n : ℕ) → IsWritten capacity items items None (nested_use n)
unfolding IsWritten IsStopped
IsWritten-nested capacity items n = (([], sym (append-nil items)), λ out e. absurd cc)

-- the words of bytes, from the first of them on
pub words_left : (uses : ℕ → Result (List ℕ) TextError) (begun : Begun) (bytes : List ℕ) → IsBegun begun → length bytes < 2 → printed_from uses begun (characters_in bytes) ≡ Ok []
words_left uses begun [] is short = unfinished uses begun is
words_left uses begun (h ∷ []) is short = unfinished uses begun is
words_left uses begun (h ∷ l ∷ bytes) is short = absurd (omega arith)

-- nothing of the bytes has been written yet
pub starts : (uses : ℕ → Result (List ℕ) TextError) (capacity : ℕ) (items : List ℕ) (begun : Begun) (zs : List ℕ) → begun ≡ Letter Small → LeadsOn capacity items items (Some begun) (characters_printed uses zs) (λ begun. printed_from uses begun zs)
unfolding printed_from
starts uses capacity items begun zs n = LeadsOn-begins _ _ _ _ _ (rw n refl)

-- the use of an abbreviation that isn't whole in memory
pub IsWritten-outside : (memory : List ℕ) (n : ℕ) (capacity : ℕ) (items : List ℕ) (answer : Option (Unit {0})) → None ≡ abbreviation_at memory n → answer ≡ None → IsWritten capacity items items answer (memory_use memory n)
unfolding IsWritten IsStopped
IsWritten-outside memory n capacity items answer e a = rw (a, ← e) (([], sym (append-nil items)), λ out f. absurd cc)

-- and of one that is
pub IsWritten-use : (memory : List ℕ) (n : ℕ) (bytes : List ℕ) (capacity : ℕ) (old new : List ℕ) (answer : Option (Unit {0})) → Some bytes ≡ abbreviation_at memory n → IsWritten capacity old new answer (characters_printed nested_use (characters_in bytes)) → IsWritten capacity old new answer (memory_use memory n)
IsWritten-use memory n bytes capacity old new answer e written = rw (← e) written

rest_whole : (h l : ℕ) (bytes : List ℕ) → take (length (h ∷ l ∷ bytes) - 2) bytes ≡ bytes
rest_whole h l bytes = take_all (length (h ∷ l ∷ bytes) - 2) bytes (omega arith)

-- the characters of a word, and those of the words after it
words_front : (bytes : List ℕ) (word : ℕ) → 2 ≤ length bytes → word ≡ get_or bytes 0 0 * 256 + get_or bytes 1 0 → characters_in bytes ≡ word / 1024 % 32 ∷ word / 32 % 32 ∷ word % 32 ∷ characters_in (take (length bytes - 2) (drop 2 bytes))
words_front [] word long e = absurd (omega arith)
words_front (h ∷ []) word long e = absurd (omega arith)
words_front (h ∷ l ∷ bytes) word long e = let same : word ≡ 256 * h + l = omega arith in rw (same, rest_whole h l bytes) refl

-- one word more has been written, or it stops there
pub word_more : (uses : ℕ → Result (List ℕ) TextError) (capacity larger : ℕ) (old mid new bytes : List ℕ) (begun : Begun) (answer : Option Begun) (word : ℕ) (whole : Result (List ℕ) TextError) → 2 ≤ length bytes → word ≡ get_or bytes 0 0 * 256 + get_or bytes 1 0 → capacity ≤ larger
    → LeadsOn capacity old mid (Some begun) whole (λ begun. printed_from uses begun (characters_in bytes))
    → ((zs : List ℕ) → LeadsOn larger mid new answer (printed_from uses begun (word / 1024 % 32 ∷ word / 32 % 32 ∷ word % 32 ∷ zs)) (λ begun. printed_from uses begun zs)) → LeadsOn capacity old new answer whole (λ begun. printed_from uses begun (characters_in (take (length bytes - 2) (drop 2 bytes))))
word_more uses capacity larger old mid new bytes begun answer word whole long e grows first second =
    LeadsOn-then capacity larger old mid new begun answer whole _ _ grows first (rw (words_front bytes word long e) (second (characters_in (take (length bytes - 2) (drop 2 bytes)))))

pub word_stops : (uses : ℕ → Result (List ℕ) TextError) (capacity larger : ℕ) (old mid new bytes : List ℕ) (begun : Begun) (answer : Option (Unit {0})) (word : ℕ) (whole : Result (List ℕ) TextError) → 2 ≤ length bytes → word ≡ get_or bytes 0 0 * 256 + get_or bytes 1 0 → answer ≡ None → capacity ≤ larger
    → LeadsOn capacity old mid (Some begun) whole (λ begun. printed_from uses begun (characters_in bytes))
    → ((zs : List ℕ) → LeadsOn larger mid new None (printed_from uses begun (word / 1024 % 32 ∷ word / 32 % 32 ∷ word % 32 ∷ zs)) (λ begun. printed_from uses begun zs)) → IsWritten capacity old new answer whole
word_stops uses capacity larger old mid new bytes begun answer word whole long e n grows first second =
    rw n (IsWritten-stopped capacity old new whole _ (word_more uses capacity larger old mid new bytes begun None word whole long e grows first second))
