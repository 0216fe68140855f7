-- Where no abbreviation uses one, each text that is whole in memory prints something.
use Rattle.std.proofs.Common.{◌≡◌, ℕ, ◌<◌, nat_lt, nat_eq, List, [], ◌∷◌, ◌++◌, zero, suc, Option, Some, None, option_map, Result, Ok, Err, refl, sym, ◌∙◌, arith}
use Rattle.std.specs.Prelude.{IsOk, IsSome, is_some}
use Rattle.std.specs.Option.{option_to_list, IsSomeAnd}
use Rattle.std.specs.List.{AllByRecursion}
use Rattle.std.proofs.lemmas.Bool.{cond_both, ltb-true, false≢true}
use Rattle.ztext.specs.declared.error.TextError.{TextError}
use Rattle.ztext.specs.declared.pieces.Piece.{Piece}
use Rattle.ztext.specs.declared.pieces.Piece.TheVariants.{Code, Abbreviation}
use Rattle.ztext.specs.Words.{text_at, characters_of, words_of, characters_in}
use Rattle.ztext.specs.Pieces.{Front, abbreviated, escaped, shifted_to_capitals, shifted_to_marks, front_of, pieces_past, pieces_of}
use Rattle.ztext.specs.Codes.{plain_codes, abbreviations_among, abbreviations_used}
use Rattle.ztext.specs.Abbreviations.{abbreviation_at, IsPlainAbbreviation}
use Rattle.ztext.specs.Output.{output_of_code, output_at}
use Rattle.ztext.specs.Progress.{joined, all_joined, plain_output, abbreviation_output, piece_output}
use Rattle.ztext.proofs.Outcomes.{output_at-some}

-- each is of five bits
abbrev pub AreCharacters : List ℕ → Type 0
AreCharacters zs = AllByRecursion (λ z. z < 32) zs

pub AreCharacters-from_words : (words : List ℕ) → AreCharacters (characters_of words)
AreCharacters-from_words [] = tt
AreCharacters-from_words (w ∷ words) = (omega arith, (omega arith, (omega arith, AreCharacters-from_words words)))

-- a piece that is an abbreviation is one of the 96
abbrev pub IsAmong96 : Piece → Type 0
IsAmong96 (Code c) = Unit {0}
IsAmong96 (Abbreviation n) = n < 96

abbrev AreAmong96 : List Piece → Type 0
AreAmong96 pieces = AllByRecursion IsAmong96 pieces

abbrev IsFront96 : Front → Type 0
IsFront96 front = AreAmong96 (option_to_list front.piece)

abbreviated-among : (bank : ℕ) (zs : List ℕ) → bank < 4 → AreCharacters zs → IsFront96 (abbreviated bank zs)
abbreviated-among bank [] below all = tt
abbreviated-among bank (x ∷ zs) below all = (omega (arith, all.0), tt)

shifted_to_capitals-among : (zs : List ℕ) → IsFront96 (shifted_to_capitals zs)
shifted_to_capitals-among [] = tt
shifted_to_capitals-among (z ∷ zs) = cond_both (nat_lt z 6) _ _ IsFront96 (λ _. tt) (λ _. (tt, tt))

escaped-among : (zs : List ℕ) → IsFront96 (escaped zs)
escaped-among [] = tt
escaped-among (h ∷ []) = tt
escaped-among (h ∷ l ∷ zs) = (tt, tt)

shifted_to_marks-among : (zs : List ℕ) → IsFront96 (shifted_to_marks zs)
shifted_to_marks-among [] = tt
shifted_to_marks-among (z ∷ zs) = cond_both (nat_lt z 6) _ _ IsFront96 (λ _. tt) (λ _. cond_both (nat_eq z 6) _ _ IsFront96 (λ _. escaped-among zs) (λ _. (tt, tt)))

front_of-among : (z : ℕ) (zs : List ℕ) → AreCharacters zs → IsFront96 (front_of z zs)
front_of-among z zs all =
    cond_both (nat_eq z 0) _ _ IsFront96 (λ _. (tt, tt)) (λ _.
    cond_both (nat_lt z 4) _ _ IsFront96 (λ below. abbreviated-among z zs (ltb-true z 4 below) all) (λ _.
    cond_both (nat_eq z 4) _ _ IsFront96 (λ _. shifted_to_capitals-among zs) (λ _.
    cond_both (nat_eq z 5) _ _ IsFront96 (λ _. shifted_to_marks-among zs) (λ _. (tt, tt)))))

AreAmong96-append : (a b : List Piece) → AreAmong96 a → AreAmong96 b → AreAmong96 (a ++ b)
AreAmong96-append [] b h k = k
AreAmong96-append (x ∷ a) b h k = (h.0, AreAmong96-append a b h.1 k)

pieces_past-among : (n : ℕ) (zs : List ℕ) → AreCharacters zs → AreAmong96 (pieces_past n zs)
pieces_past-among n [] all = tt
pieces_past-among zero (z ∷ zs) all = AreAmong96-append _ _ (front_of-among z zs all.1) (pieces_past-among (front_of z zs).more zs all.1)
pieces_past-among (suc n) (z ∷ zs) all = pieces_past-among n zs all.1

is_some-map : (c : ℕ) (codes : Option (List ℕ)) → is_some (option_map (λ cs. c ∷ cs) codes) ≡ is_some codes
is_some-map c (Some cs) = refl
is_some-map c None = refl

-- Pieces without an abbreviation are those that have codes by themselves.
pub IsSome-plain_codes : (pieces : List Piece) → abbreviations_among pieces ≡ [] → IsSome (plain_codes pieces)
IsSome-plain_codes [] e = refl
IsSome-plain_codes (Code c ∷ pieces) e = is_some-map c (plain_codes pieces) ∙ IsSome-plain_codes pieces e
IsSome-plain_codes (Abbreviation n ∷ pieces) e = absurd cc

pub abbreviations_among-none : (pieces : List Piece) → IsSome (plain_codes pieces) → abbreviations_among pieces ≡ []
abbreviations_among-none [] h = refl
abbreviations_among-none (Code c ∷ pieces) h = abbreviations_among-none pieces (sym (is_some-map c (plain_codes pieces)) ∙ h)
abbreviations_among-none (Abbreviation n ∷ pieces) h = absurd (false≢true h)

joined-ok : (a b : Result (List ℕ) TextError) → IsOk a → IsOk b → IsOk (joined a b)
joined-ok (Ok a) (Ok b) h k = refl
joined-ok (Ok a) (Err e) h k = k
joined-ok (Err e) b h k = absurd (false≢true h)

plain-ok : (pieces : List Piece) → abbreviations_among pieces ≡ [] → IsOk (all_joined plain_output pieces)
plain-ok [] e = refl
plain-ok (Code c ∷ pieces) e = joined-ok (Ok (output_of_code c)) (all_joined plain_output pieces) refl (plain-ok pieces e)
plain-ok (Abbreviation n ∷ pieces) e = absurd cc

abbreviation-ok : (text : Option (List ℕ)) → IsSomeAnd text (λ t. abbreviations_used (characters_in t) ≡ []) → IsOk (abbreviation_output (option_map (λ t. pieces_of (characters_in t)) text))
abbreviation-ok None h = absurd h
abbreviation-ok (Some t) h = plain-ok (pieces_of (characters_in t)) h

pieces-ok : (memory : List ℕ) → ((n : ℕ) → n < 96 → IsPlainAbbreviation memory n) → (pieces : List Piece) → AreAmong96 pieces → IsOk (all_joined (piece_output memory) pieces)
pieces-ok memory plain [] all = refl
pieces-ok memory plain (Code c ∷ pieces) all = joined-ok (Ok (output_of_code c)) (all_joined (piece_output memory) pieces) refl (pieces-ok memory plain pieces all.1)
pieces-ok memory plain (Abbreviation n ∷ pieces) all = joined-ok (piece_output memory (Abbreviation n)) (all_joined (piece_output memory) pieces) (abbreviation-ok (abbreviation_at memory n) (plain n all.0)) (pieces-ok memory plain pieces all.1)

-- Where each of the 96 abbreviations is whole in memory and uses none, a text that is whole in memory prints something.
pub output_at-ok : (memory : List ℕ) (at : ℕ) (text : List ℕ) → ((n : ℕ) → n < 96 → IsPlainAbbreviation memory n) → text_at memory at ≡ Some text → IsOk (output_at memory at)
output_at-ok memory at text plain e =
    rw (output_at-some memory at text e) (pieces-ok memory plain (pieces_of (characters_in text)) (pieces_past-among 0 (characters_in text) (AreCharacters-from_words (words_of text))))
