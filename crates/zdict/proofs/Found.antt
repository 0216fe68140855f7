-- The first entry that has a word.
use Rattle.std.proofs.Common.{◌≡◌, ℕ, zero, suc, ◌+◌, ◌*◌, ◌<◌, ◌≤◌, Bool, true, false, ◌&&◌, ◌==◌, inl, inr, List, Some, None, map, refl, ap, subst, eq-eqb, arith}
use Rattle.std.specs.List.{find, range_with_len}
use Rattle.std.proofs.lemmas.Bool.{cases_lt, and_from, and_parts, eqb-true, false_from_ne_true}
use Rattle.zstory.specs.Bytes.{AreBytes, byte_at, word_at}
use Rattle.zstory.specs.Dictionary.{encoded_text, entry_place, entry_count, IsOrdered}
use Rattle.zdict.specs.Lookup.{has_word, text_of, lookup}
use Rattle.zdict.proofs.Order.{rises_to}

module _ (test : ℕ → Bool) (place : ℕ → ℕ) where
  pub none_found : (from n : ℕ) → ((k : ℕ) → from ≤ k → k < from + n → test (place k) ≡ false) → find test (map place (range_with_len from n)) ≡ None
  none_found from zero fails = refl
  none_found from (suc n) fails =
      rw (fails from (omega arith) (omega arith)) (none_found (from + 1) n (λ k h l. fails k (omega arith) (omega arith)))

  pub first_found : (from n k : ℕ) → from ≤ k → k < from + n → ((j : ℕ) → from ≤ j → j < k → test (place j) ≡ false) → test (place k) ≡ true → find test (map place (range_with_len from n)) ≡ Some (place k)
  first_found from zero k h l fails passes = absurd (omega arith)
  first_found from (suc n) k h l fails passes =
      elim (cases_lt from k) [
        | inl before ↦ rw (fails from (omega arith) before) (first_found (from + 1) n k (omega arith) (omega arith) (λ j above below. fails j (omega arith) below) passes)
        | inr here ↦
            let same : k ≡ from = omega arith in
            let first : test (place from) ≡ true = subst (λ (j : ℕ). test (place j) ≡ true) same passes in
            rw (first, same) refl
      ]

-- four bytes, as a number
number : ℕ → ℕ → ℕ → ℕ → ℕ
number a b c d = 65536 * (256 * a + b) + (256 * c + d)

record AreSame (a b c d w x y z : ℕ) : Type 0 where
  first : a ≡ w
  second : b ≡ x
  third : c ≡ y
  fourth : d ≡ z

same_bytes : (a b c d w x y z : ℕ) → a < 256 → b < 256 → c < 256 → d < 256 → w < 256 → x < 256 → y < 256 → z < 256 → number a b c d ≡ number w x y z → AreSame a b c d w x y z
unfolding number
same_bytes a b c d w x y z ha hb hc hd hw hx hy hz e =
    record { first = omega arith; second = omega arith; third = omega arith; fourth = omega arith }

has_by_text : (memory word : List ℕ) (entry : ℕ) → AreBytes memory → AreBytes word → encoded_text memory entry ≡ text_of word → has_word memory word (entry_place memory entry) ≡ true
unfolding number
has_by_text memory word entry bytes small e =
    let at = entry_place memory entry in
    let last : at + 2 + 1 ≡ at + 3 = omega arith in
    let byte : ℕ → ℕ = byte_at memory in
    let all = same_bytes (byte at) (byte (at + 1)) (byte (at + 2)) (byte (at + 3)) (byte_at word 0) (byte_at word 1) (byte_at word 2) (byte_at word 3) (bytes at) (bytes (at + 1)) (bytes (at + 2)) (bytes (at + 3)) (small 0) (small 1) (small 2) (small 3) (rw last at e) in
    and_from _ _ (and_from _ _ (eq-eqb _ _ all.first) (eq-eqb _ _ all.second)) (and_from _ _ (eq-eqb _ _ all.third) (eq-eqb _ _ all.fourth))

-- the other way round
text_by_bytes : (memory word : List ℕ) (place : ℕ) → has_word memory word place ≡ true → 65536 * word_at memory place + word_at memory (place + 2) ≡ text_of word
text_by_bytes memory word place e =
    let last : byte_at memory (place + 2 + 1) ≡ byte_at memory (place + 3) = ap (byte_at memory) (omega arith) in
    let halves = and_parts ((byte_at memory place == byte_at word 0) && (byte_at memory (place + 1) == byte_at word 1)) ((byte_at memory (place + 2) == byte_at word 2) && (byte_at memory (place + 3) == byte_at word 3)) e in
    let high = and_parts (byte_at memory place == byte_at word 0) (byte_at memory (place + 1) == byte_at word 1) halves.0 in
    let low = and_parts (byte_at memory (place + 2) == byte_at word 2) (byte_at memory (place + 3) == byte_at word 3) halves.1 in
    let first = eqb-true (byte_at memory place) (byte_at word 0) high.0 in
    let second = eqb-true (byte_at memory (place + 1)) (byte_at word 1) high.1 in
    let third = eqb-true (byte_at memory (place + 2)) (byte_at word 2) low.0 in
    let fourth = eqb-true (byte_at memory (place + 3)) (byte_at word 3) low.1 in
    omega (arith, last, first, second, third, fourth)

has_not_by_text : (memory word : List ℕ) (entry : ℕ) → (encoded_text memory entry ≡ text_of word → ⊥) → has_word memory word (entry_place memory entry) ≡ false
has_not_by_text memory word entry other = false_from_ne_true (has_word memory word (entry_place memory entry)) (λ e. other (text_by_bytes memory word (entry_place memory entry) e))

-- the first entry that isn't below the word has it
pub answer_found : (memory word : List ℕ) (entry : ℕ) → AreBytes memory → AreBytes word → entry < entry_count memory → ((other : ℕ) → other < entry → encoded_text memory other < text_of word) → encoded_text memory entry ≡ text_of word → lookup memory word ≡ entry_place memory entry
unfolding lookup
answer_found memory word entry bytes small listed below same =
    rw (first_found (has_word memory word) (entry_place memory) 0 (entry_count memory) entry (omega arith) (omega arith) (λ other h l. has_not_by_text memory word other (λ e. omega (arith, e, below other l))) (has_by_text memory word entry bytes small same)) refl

-- or none has
pub answer_none : (memory word : List ℕ) (entry : ℕ) → IsOrdered memory → ((other : ℕ) → other < entry → encoded_text memory other < text_of word) → ((other : ℕ) → entry ≤ other → other < entry_count memory → text_of word ≤ encoded_text memory other) → (entry < entry_count memory → encoded_text memory entry ≡ text_of word → ⊥) → lookup memory word ≡ 0
unfolding lookup
answer_none memory word entry ordered below above other_text =
    rw (none_found (has_word memory word) (entry_place memory) 0 (entry_count memory) (λ other h l. has_not_by_text memory word other (differs other (omega arith)))) refl
  where
    differs : (other : ℕ) → other < entry_count memory → encoded_text memory other ≡ text_of word → ⊥
    differs other listed e =
        elim (cases_lt other entry) [
          | inl before ↦ omega (arith, e, below other before)
          | inr after ↦ other_text (omega (arith, after, listed)) (omega (arith, e, above entry (omega arith) (omega (arith, after, listed)), rises_to memory entry other ordered after listed))
        ]
