-- That a text is wrapped as it is to be, and in one way alone.
use Rattle.std.proofs.Common.{◌≡◌, ℕ, suc, ◌+◌, ◌<◌, ◌≤◌, Bool, true, false, ◌⊎◌, inl, inr, List, [], ◌∷◌, length, refl, sym, ap, ◌∙◌, subst, arith}
use Rattle.std.specs.Prelude.{◌==◌, ◌||◌, ◌&&◌, if◌then◌else◌, nat_lt}
use Rattle.std.proofs.lemmas.Bool.{eqb-true, lt-ltb, ltb-false, ltb-true}
use Rattle.zfront.specs.Wrapping.{ends_word, word_length, goes_past, shown, column_behind, wrapped}
use Rattle.zfront.specs.WrappedText.{SameButSpaces, first_line, Fits, LaterLinesFit, BrokenWhereFull, IsWrapped}
use Rattle.zfront.proofs.Feeding.{letter_tests, past-not, past-yes, word_parts, wrapped-broken, wrapped-kept, wrapped-letter}

-- ---- words

-- a word is no longer than all of the text
pub word_within : (text : List ℕ) → word_length text ≤ length text
word_within [] = omega arith
word_within (byte ∷ rest) = parts (ends_word byte) (word_within rest)
  where
    parts : (t : Bool) → word_length rest ≤ length rest → (if t then 0 else suc (word_length rest)) ≤ suc (length rest)
    parts true more = omega arith
    parts false more = omega (arith, more)

-- the word at the front of the first line is that of the text
pub word_of_line : (text : List ℕ) → word_length (first_line text) ≡ word_length text
word_of_line [] = refl
word_of_line (byte ∷ rest) = parts (byte == 32) (byte == 10) refl refl (word_of_line rest)
  where
    parts : (s n : Bool) → (byte == 32) ≡ s → (byte == 10) ≡ n → word_length (first_line rest) ≡ word_length rest
        → word_length (if byte == 10 then [] else byte ∷ first_line rest) ≡ (if (byte == 32) || (byte == 10) then 0 else suc (word_length rest))
    parts true true e f more = rw (f, e) refl
    parts false true e f more = rw (f, e) refl
    parts true false e f more = rw (f, e) refl
    parts false false e f more = rw (f, e, f) (ap suc more)

-- spaces that became ends of lines end words as they did
pub word_same : (text result : List ℕ) → SameButSpaces text result → word_length result ≡ word_length text
word_same [] [] same = refl
word_same [] (seen ∷ others) same = absurd same
word_same (byte ∷ rest) [] same = absurd same
word_same (byte ∷ rest) (seen ∷ others) same = parts same.0 (word_same rest others same.1)
  where
    parts : (seen ≡ byte) ⊎ ((byte ≡ 32) × (seen ≡ 10)) → word_length others ≡ word_length rest → word_length (seen ∷ others) ≡ word_length (byte ∷ rest)
    parts (inl e) more = ap (λ (b : ℕ). word_length (b ∷ others)) e ∙ ap (λ (n : ℕ). if ends_word byte then 0 else suc n) more
    parts (inr both) more = ap (λ (b : ℕ). word_length (b ∷ others)) both.1 ∙ sym (ap (λ (b : ℕ). word_length (b ∷ rest)) both.0)

-- ---- a text that is wrapped

pub wrapped-same : (width column : ℕ) (text : List ℕ) → SameButSpaces text (wrapped width column text)
wrapped-same width column [] = tt
wrapped-same width column (byte ∷ rest) =
    (first (byte == 32) (goes_past width column (word_length rest)) (eqb-true byte 32), wrapped-same width (column_behind column (shown width column byte rest)) rest)
  where
    first : (t p : Bool) → (t ≡ true → byte ≡ 32) → ((if t && p then 10 else byte) ≡ byte) ⊎ ((byte ≡ 32) × ((if t && p then 10 else byte) ≡ 10))
    first true true is = inr (is refl, refl)
    first true false is = inl refl
    first false p is = inl refl

-- a byte is a space, an end of line, or a letter
pub kinds : (byte : ℕ) → (byte ≡ 32) ⊎ ((byte ≡ 10) ⊎ (ends_word byte ≡ false))
kinds byte = parts (byte == 32) (byte == 10) refl (eqb-true byte 32) (eqb-true byte 10)
  where
    parts : (s n : Bool) → (s || n) ≡ (s || n) → (s ≡ true → byte ≡ 32) → (n ≡ true → byte ≡ 10) → (byte ≡ 32) ⊎ ((byte ≡ 10) ⊎ ((s || n) ≡ false))
    parts true n e space newline = inl (space refl)
    parts false true e space newline = inr (inl (newline refl))
    parts false false e space newline = inr (inr refl)

pub past-fits : (width column word : ℕ) → 0 < width → goes_past width column word ≡ false → column + 1 + word ≤ width
past-fits width column word wide not = ltb-false width (column + 1 + word) (ap (λ (t : Bool). t && nat_lt width (column + 1 + word)) (sym (lt-ltb 0 width wide)) ∙ not)

pub past-goes : (width column word : ℕ) → goes_past width column word ≡ true → width < column + 1 + word
past-goes width column word past = ltb-true width (column + 1 + word) (second (nat_lt 0 width) (nat_lt width (column + 1 + word)) past)
  where
    second : (a b : Bool) → (a && b) ≡ true → b ≡ true
    second true b e = e
    second false b e = absurd cc

-- a first line that begins with a space that stayed
pub fits_kept : (width column : ℕ) (rest line : List ℕ) → column + 1 + word_length rest ≤ width → word_length line ≡ word_length rest → Fits width (column + 1) line → Fits width column (32 ∷ line)
fits_kept width column rest line fits word (inl within) = inl (omega (arith, within))
fits_kept width column rest line fits word (inr whole) = inl (omega (arith, whole, word, fits))

-- and with a letter
pub fits_letter : (width column byte : ℕ) (line : List ℕ) → ends_word byte ≡ false → Fits width (column + 1) line → Fits width column (byte ∷ line)
fits_letter width column byte line is (inl within) = inl (omega (arith, within))
fits_letter width column byte line is (inr whole) = inr (rw is (ap suc whole))

-- its first line ends within the width, or is one word
pub wrapped-first : (width column : ℕ) (text : List ℕ) → 0 < width → Fits width column (first_line (wrapped width column text))
wrapped-first width column [] wide = inr refl
wrapped-first width column (byte ∷ rest) wide = by_kind (kinds byte) (wrapped-first width (column + 1) rest wide)
  where
    by_past : (p : Bool) → goes_past width column (word_length rest) ≡ p → Fits width (column + 1) (first_line (wrapped width (column + 1) rest)) → Fits width column (first_line (wrapped width column (32 ∷ rest)))
    by_past true past more = subst (λ (seen : List ℕ). Fits width column (first_line seen)) (sym (wrapped-broken width column rest past)) (inr refl)
    by_past false past more =
        let word : word_length (first_line (wrapped width (column + 1) rest)) ≡ word_length rest =
        word_of_line (wrapped width (column + 1) rest) ∙ word_same rest (wrapped width (column + 1) rest) (wrapped-same width (column + 1) rest) in
        subst (λ (seen : List ℕ). Fits width column (first_line seen)) (sym (wrapped-kept width column rest past)) (fits_kept width column rest _ (past-fits width column (word_length rest) wide past) word more)

    by_kind : (byte ≡ 32) ⊎ ((byte ≡ 10) ⊎ (ends_word byte ≡ false)) → Fits width (column + 1) (first_line (wrapped width (column + 1) rest)) → Fits width column (first_line (wrapped width column (byte ∷ rest)))
    by_kind (inl space) more = subst (λ (b : ℕ). Fits width column (first_line (wrapped width column (b ∷ rest)))) (sym space) (by_past (goes_past width column (word_length rest)) refl more)
    by_kind (inr (inl newline)) more = subst (λ (b : ℕ). Fits width column (first_line (wrapped width column (b ∷ rest)))) (sym newline) (inr refl)
    by_kind (inr (inr letter)) more =
        subst (λ (seen : List ℕ). Fits width column (first_line seen)) (sym (wrapped-letter width column byte rest letter))
        (subst (λ (t : Bool). Fits width column (if t then [] else byte ∷ first_line (wrapped width (column + 1) rest))) (sym (letter_tests byte letter).1) (fits_letter width column byte _ letter more))

-- and so does each line behind it
pub wrapped-later : (width column : ℕ) (text : List ℕ) → 0 < width → LaterLinesFit width (wrapped width column text)
wrapped-later width column [] wide = tt
wrapped-later width column (byte ∷ rest) wide =
    let seen : ℕ = shown width column byte rest in
    (λ newline. subst (λ (c : ℕ). Fits width 0 (first_line (wrapped width c rest))) (sym (ap (column_behind column) newline)) (wrapped-first width 0 rest wide), wrapped-later width (column_behind column seen) rest wide)

-- a space is broken only where it has to be
pub wrapped-where : (width column : ℕ) (text : List ℕ) → BrokenWhereFull width column text (wrapped width column text)
wrapped-where width column [] = tt
wrapped-where width column (byte ∷ rest) =
    (λ space newline. first (goes_past width column (word_length rest)) refl (ap (λ (b : ℕ). shown width column b rest) (sym space) ∙ newline), wrapped-where width (column_behind column (shown width column byte rest)) rest)
  where
    first : (p : Bool) → goes_past width column (word_length rest) ≡ p → ◌≡◌ {A = ℕ} (if p then 10 else 32) 10 → width < column + 1 + word_length rest
    first true past newline = past-goes width column (word_length rest) past
    first false past newline = absurd (omega (arith, newline))

pub is_wrapped : (width column : ℕ) (text : List ℕ) → 0 < width → IsWrapped width column text (wrapped width column text)
is_wrapped width column text wide = record { same = wrapped-same width column text; first = wrapped-first width column text wide; later = wrapped-later width column text wide; broken = wrapped-where width column text }

-- ---- in one way alone

-- the line behind a byte fits as the line with it did
pub fits_behind : (width column seen : ℕ) (line : List ℕ) → Fits width column (seen ∷ line) → Fits width (column + 1) line
fits_behind width column seen line (inl within) = inl (omega (arith, within))
fits_behind width column seen line (inr whole) = inr (word_parts seen line whole).1

-- a space that stayed fits with its word
pub stays_where : (width column : ℕ) (line : List ℕ) → Fits width column (32 ∷ line) → column + 1 + length line ≤ width
stays_where width column line (inl within) = omega (arith, within)
stays_where width column line (inr whole) = absurd (omega (arith, whole))

-- what a byte is shown as
pub seen_is : (width column byte seen : ℕ) (rest others : List ℕ) → 0 < width → IsWrapped width column (byte ∷ rest) (seen ∷ others) → seen ≡ shown width column byte rest
seen_is width column byte seen rest others wide is = by_same is.same.0
  where
    word : word_length others ≡ word_length rest
    word = word_same rest others is.same.1

    by_space : seen ≡ byte → byte ≡ 32 → seen ≡ shown width column byte rest
    by_space e space =
        let line : Fits width column (32 ∷ first_line others) = subst (λ (b : ℕ). Fits width column (first_line (b ∷ others))) (e ∙ space) is.first in
        let fits : column + 1 + word_length rest ≤ width = omega (arith, stays_where width column (first_line others) line, word, word_of_line others, word_within (first_line others)) in
        e ∙ space ∙ sym (ap (λ (p : Bool). if p then 10 else 32) (past-not width column (word_length rest) fits)) ∙ ap (λ (b : ℕ). shown width column b rest) (sym space)

    by_test : (t : Bool) → (byte == 32) ≡ t → seen ≡ byte → seen ≡ shown width column byte rest
    by_test true test e = by_space e (eqb-true byte 32 test)
    by_test false test e = e ∙ sym (ap (λ (t : Bool). if t && goes_past width column (word_length rest) then 10 else byte) test)

    by_same : (seen ≡ byte) ⊎ ((byte ≡ 32) × (seen ≡ 10)) → seen ≡ shown width column byte rest
    by_same (inl e) = by_test (byte == 32) refl e
    by_same (inr both) =
        both.1 ∙ sym (ap (λ (p : Bool). if p then 10 else 32) (past-yes width column (word_length rest) wide (is.broken.0 both.0 both.1))) ∙ ap (λ (b : ℕ). shown width column b rest) (sym both.0)

-- and the rest is wrapped from the column behind it
pub rest_is : (width column byte seen : ℕ) (rest others : List ℕ) → IsWrapped width column (byte ∷ rest) (seen ∷ others) → IsWrapped width (column_behind column seen) rest others
rest_is width column byte seen rest others is = record { same = is.same.1; first = first (seen == 10) (eqb-true seen 10) is.first; later = is.later.1; broken = is.broken.1 }
  where
    first : (t : Bool) → (t ≡ true → seen ≡ 10) → Fits width column (if t then [] else seen ∷ first_line others) → Fits width (if t then 0 else column + 1) (first_line others)
    first true newline line = is.later.0 (newline refl)
    first false newline line = fits_behind width column seen (first_line others) line

pub one_wrapping : (width column : ℕ) (text result : List ℕ) → 0 < width → IsWrapped width column text result → result ≡ wrapped width column text
one_wrapping width column [] [] wide is = refl
one_wrapping width column [] (seen ∷ others) wide is = absurd is.same
one_wrapping width column (byte ∷ rest) [] wide is = absurd is.same
one_wrapping width column (byte ∷ rest) (seen ∷ others) wide is =
    let more = one_wrapping width (column_behind column seen) rest others wide (rest_is width column byte seen rest others is) in
    ap (λ (l : List ℕ). seen ∷ l) more ∙ ap (λ (s : ℕ). s ∷ wrapped width (column_behind column s) rest) (seen_is width column byte seen rest others wide is)

-- with no width nothing changes
pub wrapped_wide : (column : ℕ) (text : List ℕ) → wrapped 0 column text ≡ text
wrapped_wide column [] = refl
wrapped_wide column (byte ∷ rest) =
    ap (λ (l : List ℕ). shown 0 column byte rest ∷ l) (wrapped_wide (column_behind column (shown 0 column byte rest)) rest) ∙ ap (λ (s : ℕ). s ∷ rest) (same (byte == 32))
  where
    same : (t : Bool) → (if t && false then 10 else byte) ≡ byte
    same true = refl
    same false = refl
