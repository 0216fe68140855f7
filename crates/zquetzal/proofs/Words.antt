-- Words, each of two bytes.
use Rattle.std.proofs.Common.{◌≡◌, ℕ, zero, suc, ◌+◌, ◌*◌, ◌/◌, ◌%◌, ◌<◌, ◌≤◌, List, [], ◌∷◌, ◌++◌, length, get_or, drop, refl, ap, ◌∙◌, arith}
use Rattle.std.specs.List.{AllByRecursion}
use Rattle.byteorder.specs.Endian.{big_bytes, big_number}
use Rattle.std.proofs.lemmas.List.{get_or-drop}
use Rattle.zquetzal.specs.Saved.{IsWord}
use Rattle.zquetzal.specs.Grammar.{words_bytes}
use Rattle.zquetzal.specs.Reading.{words_of}
use Rattle.zquetzal.proofs.Numbers.{IsBytes, IsBytes-take, taken_2, number_again}

pub length-words_of : (bytes : List ℕ) → length (words_of bytes) ≡ length bytes / 2
length-words_of [] = refl
length-words_of (high ∷ []) = refl
length-words_of (high ∷ low ∷ rest) = let e = length-words_of rest in omega (arith, e)

pub length-words_bytes : (words : List ℕ) → length (words_bytes words) ≡ 2 * length words
length-words_bytes [] = refl
length-words_bytes (word ∷ words) = let e = length-words_bytes words in omega (arith, e)

pub word_at_is : (bytes : List ℕ) (k : ℕ) → k < length (words_of bytes) → get_or (words_of bytes) k 0 ≡ 256 * get_or bytes (2 * k) 0 + get_or bytes (2 * k + 1) 0
word_at_is [] k low = absurd (omega arith)
word_at_is (high ∷ []) k low = absurd (omega arith)
word_at_is (high ∷ low ∷ rest) zero below = refl
word_at_is (high ∷ low ∷ rest) (suc k) below =
    let same = word_at_is rest k (omega arith) in
    let bytes = high ∷ low ∷ rest in
    let even : suc (suc (2 * k)) ≡ 2 * suc k = omega arith in
    let odd : suc (suc (2 * k + 1)) ≡ 2 * suc k + 1 = omega arith in
    same
    ∙ ap (λ (i : ℕ). 256 * get_or bytes i 0 + get_or rest (2 * k + 1) 0) even
    ∙ ap (λ (i : ℕ). 256 * get_or bytes (2 * suc k) 0 + get_or bytes i 0) odd

-- a word lies in the bytes
pub word_inside : (bytes : List ℕ) (k : ℕ) → k < length (words_of bytes) → 2 * k + 2 ≤ length bytes
word_inside bytes k below = omega (arith, length-words_of bytes, below)

pub word_read : (bytes : List ℕ) (k : ℕ) → k < length (words_of bytes) → big_number 2 (drop (2 * k) bytes) ≡ get_or (words_of bytes) k 0
word_read bytes k below =
    let high = get_or-drop (2 * k) bytes 0 0 in
    let low = get_or-drop (2 * k) bytes 1 0 in
    let here : 2 * k + 0 ≡ 2 * k = omega arith in
    let first : get_or (drop (2 * k) bytes) 0 0 ≡ get_or bytes (2 * k) 0 = high ∙ ap (λ (i : ℕ). get_or bytes i 0) here in
    omega (arith, first, low, word_at_is bytes k below)

-- what is written of words is read as those
pub words_again : (words : List ℕ) → AllByRecursion IsWord words → words_of (words_bytes words) ≡ words
words_again [] each = refl
words_again (word ∷ words) each =
    let rest = words_again words each.1 in
    let same : 256 * get_or (big_bytes 2 word ++ []) 0 0 + get_or (big_bytes 2 word ++ []) 1 0 ≡ word = omega (arith, each.0, number_again 2 word [] (omega (arith, each.0))) in
    rw (rest) (ap (λ (x : ℕ). x ∷ words) same)

-- what is read as words is written so
pub words_taken : (bytes : List ℕ) → IsBytes bytes → length bytes % 2 ≡ 0 → words_bytes (words_of bytes) ≡ bytes
words_taken [] fits even = refl
words_taken (high ∷ []) fits even = absurd (omega (arith, even))
words_taken (high ∷ low ∷ rest) fits even =
    let others = words_taken rest (λ i. fits (suc (suc i))) (omega (arith, even)) in
    let number : 256 * high + low ≡ big_number 2 (high ∷ low ∷ []) = omega arith in
    let first : big_bytes 2 (256 * high + low) ≡ high ∷ low ∷ [] = ap (big_bytes 2) number ∙ taken_2 (high ∷ low ∷ []) (omega arith) (IsBytes-take 2 (high ∷ low ∷ rest) fits) in
    ap (λ (t : List ℕ). t ++ words_bytes (words_of rest)) first ∙ ap (λ (t : List ℕ). high ∷ low ∷ t) others

pub words_fit : (bytes : List ℕ) → IsBytes bytes → AllByRecursion IsWord (words_of bytes)
words_fit [] fits = tt
words_fit (high ∷ []) fits = tt
words_fit (high ∷ low ∷ rest) fits = (omega (arith, fits 0, fits 1), words_fit rest (λ i. fits (suc (suc i))))
