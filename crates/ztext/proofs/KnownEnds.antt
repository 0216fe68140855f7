-- Texts that begin within one another end where it ends.
use Rattle.std.proofs.Common.{◌≡◌, ℕ, zero, suc, ◌+◌, ◌*◌, ◌-◌, ◌/◌, ◌<◌, ◌≤◌, Bool, true, false, cond, nat_lt, List, [], ◌∷◌, length, drop, Option, Some, None, option_map, refl, sym, ap, subst, ◌∙◌, arith}
use Rattle.std.specs.Prelude.{IfSome}
use Rattle.std.proofs.lemmas.List.{drop-drop, length-drop}
use Rattle.ztext.specs.declared.ends.Known.{Known}
use Rattle.ztext.specs.Words.{front_text, length_at, after_text}
use Rattle.ztext.specs.Ends.{IsKnown}
use Rattle.ztext.proofs.Texts.{after_text-some, after_text-no_text}

-- the length of the text at the front
abbrev front_length : List ℕ → Option ℕ
front_length bytes = option_map length (front_text bytes)

some_is : (a b : ℕ) → Some a ≡ Some b → a ≡ b
some_is a b e = cc

-- behind its first word a longer text is a text that is shorter by it
shorter : (bytes : List ℕ) (size : ℕ) → front_length bytes ≡ Some size → 2 < size → front_length (drop 2 bytes) ≡ Some (size - 2)
shorter [] size e more = absurd cc
shorter (h ∷ []) size e more = absurd cc
shorter (h ∷ l ∷ bytes) size e more = by_word (nat_lt h 128) (front_text bytes) e
  where
    by_word : (below : Bool) (front : Option (List ℕ)) → option_map length (cond below (option_map (λ t. h ∷ l ∷ t) front) (Some (h ∷ l ∷ []))) ≡ Some size → option_map length front ≡ Some (size - 2)
    by_word true None f = absurd cc
    by_word true (Some t) f = let is : length (h ∷ l ∷ t) ≡ size = some_is _ _ f in ap (λ (n : ℕ). Some n) (omega (arith, is))
    by_word false front f = let is : length (h ∷ l ∷ []) ≡ size = some_is _ _ f in absurd (omega (arith, is, more))

-- behind the first word of bytes with no end word there is none
none_after : (bytes : List ℕ) → front_length bytes ≡ None → front_length (drop 2 bytes) ≡ None
none_after [] e = refl
none_after (h ∷ []) e = refl
none_after (h ∷ l ∷ bytes) e = by_word (nat_lt h 128) (front_text bytes) e
  where
    by_word : (below : Bool) (front : Option (List ℕ)) → option_map length (cond below (option_map (λ t. h ∷ l ∷ t) front) (Some (h ∷ l ∷ []))) ≡ None → option_map length front ≡ None
    by_word true None f = refl
    by_word true (Some t) f = absurd cc
    by_word false front f = absurd cc

further : (bytes : List ℕ) (n : ℕ) → drop (2 * n) (drop 2 bytes) ≡ drop (2 * suc n) bytes
further bytes n = let e : 2 + 2 * n ≡ 2 * suc n = omega arith in drop-drop (2 * n) 2 bytes ∙ ap (λ (k : ℕ). drop k bytes) e

words_later : (n : ℕ) (bytes : List ℕ) (size : ℕ) → front_length bytes ≡ Some size → 2 * n < size → front_length (drop (2 * n) bytes) ≡ Some (size - 2 * n)
words_later zero bytes size e more = e ∙ ap (λ (k : ℕ). Some k) (omega arith)
words_later (suc n) bytes size e more =
    let rest = words_later n (drop 2 bytes) (size - 2) (shorter bytes size e (omega (arith, more))) (omega (arith, more)) in
    ap front_length (sym (further bytes n)) ∙ rest ∙ ap (λ (k : ℕ). Some k) (omega arith)

none_later : (n : ℕ) (bytes : List ℕ) → front_length bytes ≡ None → front_length (drop (2 * n) bytes) ≡ None
none_later zero bytes e = e
none_later (suc n) bytes e = ap front_length (sym (further bytes n)) ∙ none_later n (drop 2 bytes) (none_after bytes e)

-- what was found of the text at a place tells of those that begin at every second place of it
module _ (memory : List ℕ) (from : ℕ) where
  at_words : (n : ℕ) → length_at memory (from + 2 * n) ≡ front_length (drop (2 * n) (drop from memory))
  at_words n = ap front_length (sym (drop-drop (2 * n) from memory))

  told_at : (n at : ℕ) → at ≡ from + 2 * n → (found : Option ℕ) → length_at memory from ≡ found → IfSome (option_map (λ size. from + size) found) (λ end. at < end) → length_at memory at ≡ option_map (λ end. end - at) (option_map (λ size. from + size) found)
  told_at n at is None e below = ap (length_at memory) is ∙ at_words n ∙ none_later n (drop from memory) e
  told_at n at is (Some size) e below =
      ap (length_at memory) is ∙ at_words n ∙ words_later n (drop from memory) size e (omega (arith, is, below)) ∙ ap (λ (k : ℕ). Some k) (omega (arith, is, below))

  pub kept_known : (known : Known) (found : Option ℕ) → known.from ≡ from → known.end ≡ option_map (λ size. from + size) found → found ≡ length_at memory from → IsKnown memory known
  kept_known known found from_is end_is e = record {
    told = λ at tells.
        let half : at ≡ from + 2 * ((at - from) / 2) = omega (arith, from_is, tells.0, tells.1) in
        let below : IfSome (option_map (λ size. from + size) found) (λ end. at < end) = subst (λ (o : Option ℕ). IfSome o (λ end. at < end)) end_is tells.2 in
        told_at ((at - from) / 2) at half found (sym e) below ∙ ap (option_map (λ end. end - at)) (sym end_is);
  }

-- nothing is known at first
pub nothing_known : (memory : List ℕ) (known : Known) → known.end ≡ Some 0 → IsKnown memory known
nothing_known memory known none = record { told = λ at tells. absurd (let below : IfSome (Some 0) (λ end. at < end) = subst (λ (o : Option ℕ). IfSome o (λ end. at < end)) none tells.2 in omega (arith, below)) }

-- what follows a text, by its length
pub after_by_length : (memory : List ℕ) (at : ℕ) (found : Option ℕ) → found ≡ length_at memory at → after_text (drop at memory) ≡ option_map (λ size. drop (at + size) memory) found
after_by_length memory at None e = after_text-no_text memory at (sym e)
after_by_length memory at (Some size) e = after_text-some memory at size (sym e)

shorter_than : (bytes : List ℕ) (size : ℕ) → front_length bytes ≡ Some size → (0 < size) × (size ≤ length bytes)
shorter_than [] size e = absurd cc
shorter_than (h ∷ []) size e = absurd cc
shorter_than (h ∷ l ∷ bytes) size e = by_word (nat_lt h 128) (front_text bytes) (shorter_than bytes) e
  where
    by_word : (below : Bool) (front : Option (List ℕ)) → ((n : ℕ) → option_map length front ≡ Some n → (0 < n) × (n ≤ length bytes)) → option_map length (cond below (option_map (λ t. h ∷ l ∷ t) front) (Some (h ∷ l ∷ []))) ≡ Some size → (0 < size) × (size ≤ length (h ∷ l ∷ bytes))
    by_word true None rest f = absurd cc
    by_word true (Some t) rest f = let is : length (h ∷ l ∷ t) ≡ size = some_is _ _ f in let fits = rest (length t) refl in (omega (arith, is), omega (arith, is, fits.1))
    by_word false front rest f = let is : length (h ∷ l ∷ []) ≡ size = some_is _ _ f in (omega (arith, is), omega (arith, is))

-- a text that is found ends in memory
pub within_by_length : (memory : List ℕ) (at : ℕ) (found : Option ℕ) → found ≡ length_at memory at → IfSome found (λ size. at + size ≤ length memory)
within_by_length memory at None e = tt
within_by_length memory at (Some size) e =
    let fits = shorter_than (drop at memory) size (sym e) in
    omega (arith, fits.0, fits.1, length-drop at memory)
