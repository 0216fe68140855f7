-- Texts in two memories: what a text prints depends on its own bytes and on the abbreviations that it uses.
use Rattle.std.proofs.Common.{◌≡◌, ℕ, ◌+◌, ◌*◌, ◌<◌, Bool, true, false, cond, nat_lt, min, ◌-◌, subst, List, [], ◌∷◌, ◌++◌, length, take, drop, Option, Some, None, option_map, Result, refl, sym, ap, ◌∙◌, arith}
use Rattle.std.specs.Prelude.{unwrap_or}
use Rattle.std.specs.Option.{option_and_then}
use Rattle.std.specs.List.{AllByRecursion}
use Rattle.std.proofs.lemmas.List.{take-append-drop, length-take, length-drop, get_or-take, get_or-drop, take_rest}
use Rattle.std.proofs.lemmas.Grind.{same_number_lists}
use Rattle.std.proofs.Math.Seq.{take-append_seam}
use Rattle.zstory.specs.Bytes.{word_at}
use Rattle.ztext.specs.declared.error.TextError.{TextError}
use Rattle.ztext.specs.declared.pieces.Piece.{Piece}
use Rattle.ztext.specs.declared.pieces.Piece.TheVariants.{Code, Abbreviation}
use Rattle.ztext.specs.Words.{front_text, text_at, characters_in}
use Rattle.ztext.specs.Pieces.{pieces_of}
use Rattle.ztext.specs.Codes.{abbreviations_among}
use Rattle.ztext.specs.Local.{SameBytes, read_length, SameWords, SameAbbreviation, SameReading}
use Rattle.ztext.specs.Abbreviations.{abbreviation_at}
use Rattle.ztext.specs.Output.{output_of_characters, output_at}
use Rattle.ztext.specs.Progress.{joined, all_joined, abbreviation_output, piece_output}
use Rattle.ztext.proofs.Texts.{IsCut-from_text_at, front_text-cut}
use Rattle.ztext.proofs.Printed.{output_of_characters-joined}

same_taken : (memory other : List ℕ) (at size : ℕ) → length other ≡ length memory → SameBytes memory other at (at + size) → take size (drop at other) ≡ take size (drop at memory)
same_taken memory other at size long same = same_number_lists _ _ (simp (length-take, length-drop) (rw long refl)) (λ k below.
    let small : k < size = omega (arith, length-take size (drop at other)) in
    let one = get_or-take size (drop at other) k 0 small ∙ get_or-drop at other k 0 in
    let two = get_or-take size (drop at memory) k 0 small ∙ get_or-drop at memory k 0 in
    one ∙ same (at + k) (omega arith) (omega arith) ∙ sym two)

-- a text whose bytes are the same is the same text
pub text_at-same : (memory other : List ℕ) (at : ℕ) (text : List ℕ) → length other ≡ length memory → text_at memory at ≡ Some text → SameBytes memory other at (at + length text) → text_at other at ≡ Some text
text_at-same memory other at text long e same =
    let cut = IsCut-from_text_at memory at text e in
    let there : take (length text) (drop at memory) ≡ text = ap (take (length text)) cut.joined ∙ take-append_seam text _ in
    let taken = same_taken memory other at (length text) long same ∙ there in
    let parted : drop at other ≡ text ++ drop (length text) (drop at other) = sym (take-append-drop (length text) (drop at other)) ∙ ap (λ (xs : List ℕ). xs ++ drop (length text) (drop at other)) taken in
    rw parted (front_text-cut text (drop (length text) (drop at other)) cut.text_is)

-- an abbreviation in a memory of a size, by its words and texts
abbrev read_if : Bool → ℕ → (ℕ → Option (List ℕ)) → Option (List ℕ)
read_if whole word then_what = option_and_then then_what (cond whole (Some word) None)

abbrev found : ℕ → (ℕ → ℕ) → (ℕ → Option (List ℕ)) → ℕ → Option (List ℕ)
found size word text n =
    read_if (nat_lt 25 (min size 65536)) (word 0x18) (λ table. read_if (nat_lt (table + 2 * n + 1) (min size 65536)) (word (table + 2 * n)) (λ w. text (2 * w)))

read_if-same : (whole : Bool) (word other : ℕ) (f g : ℕ → Option (List ℕ)) → other ≡ word → g word ≡ f word → read_if whole other g ≡ read_if whole word f
read_if-same true word other f g e same = ap g e ∙ same
read_if-same false word other f g e same = refl

-- An abbreviation is the same where the words that lead to it and its text are.
pub abbreviation_at-same : (memory other : List ℕ) (n : ℕ) → length other ≡ length memory → let table = word_at memory 0x18 in let word = word_at memory (table + 2 * n) in word_at other 0x18 ≡ table → word_at other (table + 2 * n) ≡ word → text_at other (2 * word) ≡ text_at memory (2 * word)
    → abbreviation_at other n ≡ abbreviation_at memory n
abbreviation_at-same memory other n long table word text =
    let sizes : abbreviation_at other n ≡ found (length memory) (word_at other) (text_at other) n = ap (λ size. found size (word_at other) (text_at other) n) long in
    let size = min (length memory) 65536 in
    let entry = word_at memory 0x18 + 2 * n in
    sizes ∙ read_if-same (nat_lt 25 size) (word_at memory 0x18) (word_at other 0x18) _ _ table (read_if-same (nat_lt (entry + 1) size) (word_at memory entry) (word_at other entry) _ _ word text)

-- the abbreviations among pieces are the same
abbrev pub SameAmong : List ℕ → List ℕ → List Piece → Type 0
SameAmong memory other pieces = AllByRecursion (λ n. abbreviation_at other n ≡ abbreviation_at memory n) (abbreviations_among pieces)

all_joined-same : (memory other : List ℕ) (pieces : List Piece) → SameAmong memory other pieces → all_joined (piece_output other) pieces ≡ all_joined (piece_output memory) pieces
all_joined-same memory other [] same = refl
all_joined-same memory other (Code c ∷ pieces) same = ap (λ (r : Result (List ℕ) TextError). joined (piece_output memory (Code c)) r) (all_joined-same memory other pieces same)
all_joined-same memory other (Abbreviation n ∷ pieces) same =
    ap (λ (o : Option (List ℕ)). joined (abbreviation_output (option_map (λ text. pieces_of (characters_in text)) o)) (all_joined (piece_output other) pieces)) same.0
    ∙ ap (λ (r : Result (List ℕ) TextError). joined (piece_output memory (Abbreviation n)) r) (all_joined-same memory other pieces same.1)

-- Z-characters print the same where the abbreviations that they use are the same
pub output_of_characters-same : (memory other zs : List ℕ) → SameAmong memory other (pieces_of zs) → output_of_characters other zs ≡ output_of_characters memory zs
output_of_characters-same memory other zs same =
    output_of_characters-joined other zs ∙ all_joined-same memory other (pieces_of zs) same ∙ sym (output_of_characters-joined memory zs)

-- and so does a text
pub output_at-same : (memory other : List ℕ) (at : ℕ) (text : List ℕ) → text_at memory at ≡ Some text → text_at other at ≡ Some text → SameAmong memory other (pieces_of (characters_in text)) → output_at other at ≡ output_at memory at
unfolding output_at
output_at-same memory other at text e f same = rw (e, output_at) (rw (f, output_at) (output_of_characters-same memory other (characters_in text) same))

-- ---- by what a reading goes over

same_rest : (memory other : List ℕ) (at : ℕ) → length other ≡ length memory → SameBytes memory other at (at + (length memory - at)) → drop at other ≡ drop at memory
same_rest memory other at long same =
    let taken = same_taken memory other at (length memory - at) long same in
    let other_whole : take (length memory - at) (drop at other) ≡ drop at other = ap (λ (n : ℕ). take (n - at) (drop at other)) (sym long) ∙ take_rest other at in
    sym other_whole ∙ taken ∙ take_rest memory at

pub text_at-local : (memory other : List ℕ) (at : ℕ) → length other ≡ length memory → SameWords memory other at → text_at other at ≡ text_at memory at
text_at-local memory other at long same = by_text (text_at memory at) refl
  where
    by_text : (found : Option (List ℕ)) → text_at memory at ≡ found → text_at other at ≡ text_at memory at
    by_text None e =
        let all : read_length memory at ≡ length memory - at = ap (λ (t : Option (List ℕ)). unwrap_or (option_map length t) (length memory - at)) e in
        ap front_text (same_rest memory other at long (subst (λ (n : ℕ). SameBytes memory other at (at + n)) all same))
    by_text (Some text) e =
        let all : read_length memory at ≡ length text = ap (λ (t : Option (List ℕ)). unwrap_or (option_map length t) (length memory - at)) e in
        text_at-same memory other at text long e (subst (λ (n : ℕ). SameBytes memory other at (at + n)) all same) ∙ sym e

pub abbreviation_at-local : (memory other : List ℕ) (n : ℕ) → length other ≡ length memory → SameAbbreviation memory other n → abbreviation_at other n ≡ abbreviation_at memory n
abbreviation_at-local memory other n long same =
    abbreviation_at-same memory other n long same.table same.entry (text_at-local memory other (2 * word_at memory (word_at memory 0x18 + 2 * n)) long same.text)

all_same : (memory other : List ℕ) (numbers : List ℕ) → length other ≡ length memory → AllByRecursion (SameAbbreviation memory other) numbers → AllByRecursion (λ n. abbreviation_at other n ≡ abbreviation_at memory n) numbers
all_same memory other [] long same = tt
all_same memory other (n ∷ numbers) long same = (abbreviation_at-local memory other n long same.0, all_same memory other numbers long same.1)

pub output_at-local : (memory other : List ℕ) (at : ℕ) → SameReading memory other at → output_at other at ≡ output_at memory at
unfolding output_at
output_at-local memory other at same = by_text (text_at memory at) refl
  where
    there : text_at other at ≡ text_at memory at
    there = text_at-local memory other at same.size same.own

    by_text : (found : Option (List ℕ)) → text_at memory at ≡ found → output_at other at ≡ output_at memory at
    by_text None e = let f : text_at other at ≡ None = there ∙ e in rw (e, output_at) (rw (f, output_at) refl)
    by_text (Some text) e =
        output_at-same memory other at text e (there ∙ e) (all_same memory other (abbreviations_among (pieces_of (characters_in text))) same.size (same.used text e))
