-- Whether Z-characters use an abbreviation, one after another.
use Rattle.std.proofs.Common.{◌≡◌, ◌↔◌, ◌⊎◌, inl, inr, ℕ, zero, suc, ◌+◌, ◌*◌, ◌/◌, ◌%◌, ◌<◌, ◌≤◌, false, nat_lt, nat_eq, ◌-◌, take, drop, length, get_or, List, [], ◌∷◌, Option, Some, None, refl, sym, ap, subst, ◌∙◌, arith}
use Rattle.std.specs.Option.{option_and_then}
use Rattle.std.proofs.lemmas.List.{take_rest}
use Rattle.std.proofs.lemmas.Bool.{cases_lt, lt-ltb, le-ltb, ne_eqb}
use Rattle.ztext.specs.declared.plain.Open.{Open}
use Rattle.ztext.specs.declared.plain.Open.TheVariants.{Letter, Mark, Bank, Escape, EscapeHigh}
use Rattle.ztext.specs.Words.{characters_in}
use Rattle.ztext.specs.Codes.{abbreviations_used}
use Rattle.ztext.specs.Open.{opened, open_after, open_after_word, IsPlainFrom, IsPlainAfter}

abbrev IsPlain : List ℕ → Type 0
IsPlain zs = abbreviations_used zs ≡ []

same : {A : Type 0} → A ↔ A
same = (λ a. a, λ a. a)

then : {A B C : Type 0} → A ↔ B → B ↔ C → A ↔ C
then f g = (λ a. g.0 (f.0 a), λ c. f.1 (g.1 c))

-- a letter is no abbreviation
letter_past : (z : ℕ) (zs : List ℕ) → 6 ≤ z → IsPlain (z ∷ zs) ↔ IsPlain zs
letter_past z zs above =
    let zero_not : nat_eq z 0 ≡ false = ne_eqb z 0 (λ e. omega (arith, e, above)) in
    let bank_not : nat_lt z 4 ≡ false = le-ltb z 4 (omega (arith, above)) in
    let capital_not : nat_eq z 4 ≡ false = ne_eqb z 4 (λ e. omega (arith, e, above)) in
    let mark_not : nat_eq z 5 ≡ false = ne_eqb z 5 (λ e. omega (arith, e, above)) in
    rw (zero_not, bank_not, capital_not, mark_not) (λ e. e, λ e. e)

-- a shift to capitals doesn't matter
capital_past : (zs : List ℕ) → IsPlain (4 ∷ zs) ↔ IsPlain zs
capital_past [] = same
capital_past (z ∷ zs) = by_order (cases_lt z 6)
  where
    by_order : (z < 6) ⊎ (6 ≤ z) → IsPlain (4 ∷ z ∷ zs) ↔ IsPlain (z ∷ zs)
    by_order (inl low) = let l = lt-ltb z 6 low in rw l (λ e. e, λ e. e)
    by_order (inr high) =
        let l = le-ltb z 6 high in
        let one : IsPlain (4 ∷ z ∷ zs) ↔ IsPlain zs = rw l (λ e. e, λ e. e) in
        let two = letter_past z zs high in
        (λ e. two.1 (one.0 e), λ e. one.1 (two.0 e))

-- one bank is as another
bank_past : (bank : ℕ) (zs : List ℕ) → (bank ≡ 2) ⊎ (bank ≡ 3) → IsPlain (bank ∷ zs) ↔ IsPlain (1 ∷ zs)
bank_past bank [] (inl e) = rw e (λ e. e, λ e. e)
bank_past bank [] (inr e) = rw e (λ e. e, λ e. e)
bank_past bank (z ∷ zs) (inl e) = rw e (λ e. absurd cc, λ e. absurd cc)
bank_past bank (z ∷ zs) (inr e) = rw e (λ e. absurd cc, λ e. absurd cc)

opened_high : (z : ℕ) → 6 ≤ z → opened z ≡ Letter
opened_high z above =
    let bank_not : nat_lt z 4 ≡ false = le-ltb z 4 (omega (arith, above)) in
    let mark_not : nat_eq z 5 ≡ false = ne_eqb z 5 (λ e. omega (arith, e, above)) in
    rw (bank_not, mark_not) refl

letter_is : (z : ℕ) (zs : List ℕ) → IsPlain (z ∷ zs) ↔ IsPlainFrom (opened z) zs
letter_is zero zs = same
letter_is (suc zero) zs = same
letter_is (suc (suc zero)) zs = bank_past 2 zs (inl refl)
letter_is (suc (suc (suc zero))) zs = bank_past 3 zs (inr refl)
letter_is (suc (suc (suc (suc zero)))) zs = capital_past zs
letter_is (suc (suc (suc (suc (suc zero))))) zs = same
letter_is (suc (suc (suc (suc (suc (suc n)))))) zs = high (suc (suc (suc (suc (suc (suc n)))))) (omega arith)
  where
    high : (z : ℕ) → 6 ≤ z → IsPlain (z ∷ zs) ↔ IsPlainFrom (opened z) zs
    high z above = subst (λ (o : Open). IsPlain (z ∷ zs) ↔ IsPlainFrom o zs) (sym (opened_high z above)) (letter_past z zs above)

mark_is : (z : ℕ) (zs : List ℕ) → IsPlain (5 ∷ z ∷ zs) ↔ IsPlainAfter (open_after Mark z) zs
mark_is z zs = by_order (cases_lt z 6) (cases_lt 6 z)
  where
    by_order : (z < 6) ⊎ (6 ≤ z) → (6 < z) ⊎ (z ≤ 6) → IsPlain (5 ∷ z ∷ zs) ↔ IsPlainAfter (open_after Mark z) zs
    by_order (inl low) other =
        let l = lt-ltb z 6 low in
        let n : nat_eq z 6 ≡ false = ne_eqb z 6 (λ e. omega (arith, e, low)) in
        let one : IsPlain (5 ∷ z ∷ zs) ↔ IsPlain (z ∷ zs) = rw l (λ e. e, λ e. e) in
        let after : open_after Mark z ≡ Some (opened z) = rw n refl in
        subst (λ (found : Option Open). IsPlain (5 ∷ z ∷ zs) ↔ IsPlainAfter found zs) (sym after) (then one (letter_is z zs))
    by_order (inr high) (inr low) = let is : z ≡ 6 = omega (arith, high, low) in
        let six : IsPlain (5 ∷ 6 ∷ zs) ↔ IsPlainAfter (open_after Mark 6) zs = same in
        subst (λ (k : ℕ). IsPlain (5 ∷ k ∷ zs) ↔ IsPlainAfter (open_after Mark k) zs) (sym is) six
    by_order (inr high) (inl more) =
        let l = le-ltb z 6 high in
        let n : nat_eq z 6 ≡ false = ne_eqb z 6 (λ e. omega (arith, e, more)) in
        let o = opened_high z high in
        let after : open_after Mark z ≡ Some Letter = rw (n, o) refl in
        let one : IsPlain (5 ∷ z ∷ zs) ↔ IsPlain zs = rw (l, n) (λ e. e, λ e. e) in
        subst (λ (found : Option Open). IsPlain (5 ∷ z ∷ zs) ↔ IsPlainAfter found zs) (sym after) one

escape_is : (z : ℕ) (zs : List ℕ) → IsPlain (5 ∷ 6 ∷ z ∷ zs) ↔ IsPlain (5 ∷ 6 ∷ 0 ∷ zs)
escape_is z [] = same
escape_is z (low ∷ zs) = same

-- one Z-character more
pub after_is : (begun : Open) (z : ℕ) (zs : List ℕ) → IsPlainFrom begun (z ∷ zs) ↔ IsPlainAfter (open_after begun z) zs
after_is Letter z zs = letter_is z zs
after_is Mark z zs = mark_is z zs
after_is Bank z zs = (λ e. absurd cc, λ never. absurd never)
after_is Escape z zs = escape_is z zs
after_is EscapeHigh z zs = same

-- and one more, if there is anything
next_is : (found : Option Open) (z : ℕ) (zs : List ℕ) → IsPlainAfter found (z ∷ zs) ↔ IsPlainAfter (option_and_then (λ begun. open_after begun z) found) zs
next_is None z zs = same
next_is (Some begun) z zs = after_is begun z zs

-- a word more
pub word_is : (begun : Open) (word : ℕ) (zs : List ℕ) → IsPlainFrom begun (word / 1024 % 32 ∷ word / 32 % 32 ∷ word % 32 ∷ zs) ↔ IsPlainAfter (open_after_word begun word) zs
word_is begun word zs =
    let first = after_is begun (word / 1024 % 32) (word / 32 % 32 ∷ word % 32 ∷ zs) in
    let second = next_is (open_after begun (word / 1024 % 32)) (word / 32 % 32) (word % 32 ∷ zs) in
    let third = next_is (option_and_then (λ o. open_after o (word / 32 % 32)) (open_after begun (word / 1024 % 32))) (word % 32) zs in
    (λ e. third.0 (second.0 (first.0 e)), λ e. first.1 (second.1 (third.1 e)))

-- what is open at the end is no abbreviation
pub end_plain : (begun : Open) → IsPlainFrom begun []
end_plain Letter = refl
end_plain Mark = refl
end_plain Bank = refl
end_plain Escape = refl
end_plain EscapeHigh = refl

-- so what is left of bytes, behind their first word
pub word_more : (whole bytes : List ℕ) (begun next : Open) (word : ℕ) → 2 ≤ length bytes → word ≡ 256 * get_or bytes 0 0 + get_or bytes 1 0 → Some next ≡ open_after_word begun word → IsPlainFrom Letter (characters_in whole) ↔ IsPlainFrom begun (characters_in bytes) → IsPlainFrom Letter (characters_in whole) ↔ IsPlainFrom next (characters_in (take (length bytes - 2) (drop 2 bytes)))
word_more whole [] begun next word long is after left = absurd (omega (arith, long))
word_more whole (h ∷ []) begun next word long is after left = absurd (omega (arith, long))
word_more whole (h ∷ l ∷ bytes) begun next word long is after left =
    let rest : take (length (h ∷ l ∷ bytes) - 2) (drop 2 (h ∷ l ∷ bytes)) ≡ bytes = take_rest (h ∷ l ∷ bytes) 2 in
    let more = word_is begun (256 * h + l) (characters_in bytes) in
    let there : Some next ≡ open_after_word begun (256 * h + l) = after ∙ ap (open_after_word begun) is in
    let to : IsPlainFrom begun (characters_in (h ∷ l ∷ bytes)) ↔ IsPlainFrom next (characters_in bytes) = subst (λ (o : Option Open). IsPlainFrom begun (characters_in (h ∷ l ∷ bytes)) ↔ IsPlainAfter o (characters_in bytes)) (sym there) more in
    subst (λ (bs : List ℕ). IsPlainFrom Letter (characters_in whole) ↔ IsPlainFrom next (characters_in bs)) (sym rest) (then left to)
