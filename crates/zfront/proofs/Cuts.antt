-- A cut, and the parts of all cuts.
use Rattle.std.proofs.Common.{◌≡◌, ◌==◌, ◌<◌, ◌≤◌, ◌+◌, ◌∙◌, ℕ, Bool, true, false, cond, not, nat_lt, List, [], ◌∷◌, None, Some, length, take, drop, refl, ap, arith}
use Rattle.std.specs.Prelude.{position}
use Rattle.std.specs.List.{position_or_len, slice_split, onto_first}
use Rattle.std.proofs.lemmas.List.Splits.{slice_split_first}
use Rattle.std.proofs.lemmas.Bool.{ltb-true, ltb-false, le-ltb}
use Rattle.std.proofs.lemmas.Option.{cond_some}
use Rattle.zfront.specs.Sourced.{parts}

-- one byte more in front of what is one part
one_part_step : (b : Bool) (n x : ℕ) (xs : List ℕ) (others : List (List ℕ)) → (nat_lt n (length xs) ≡ false → others ≡ xs ∷ []) → nat_lt (cond (not b) (1 + n) 0) (length (x ∷ xs)) ≡ false → cond b ([] ∷ others) (onto_first x others) ≡ (x ∷ xs) ∷ []
one_part_step true n x xs others more h =
    let none : length (x ∷ xs) ≤ 0 = ltb-false 0 (length (x ∷ xs)) h in
    absurd (omega arith)
one_part_step false n x xs others more h =
    let past : length (x ∷ xs) ≤ 1 + n = ltb-false (1 + n) (length (x ∷ xs)) h in
    let past_rest : length xs ≤ n = omega arith in
    ap (onto_first x) (more (le-ltb n (length xs) past_rest))

-- where none passes, there is one part
one_part : (p : ℕ → Bool) (xs : List ℕ) → nat_lt (position_or_len p xs) (length xs) ≡ false → slice_split p xs ≡ xs ∷ []
one_part p [] h = refl
one_part p (x ∷ xs) h = one_part_step (p x) (position_or_len p xs) x xs (slice_split p xs) (one_part p xs) h

no_place : {A : Type 0} (b : Bool) (x : A) → cond b (Some x) None ≡ None → b ≡ false
no_place true x h = cc
no_place false x h = refl

pub parts_uncut : (byte : ℕ) (bytes : List ℕ) → position (λ b. b == byte) bytes ≡ None → parts byte bytes ≡ bytes ∷ []
parts_uncut byte bytes h = one_part (λ b. b == byte) bytes (no_place _ _ h)

pub parts_cut : (byte : ℕ) (bytes : List ℕ) (place : ℕ) → position (λ b. b == byte) bytes ≡ Some place → parts byte bytes ≡ take place bytes ∷ parts byte (drop (place + 1) bytes)
parts_cut byte bytes place h =
    let p = cond_some _ _ _ h in
    let below : position_or_len (λ b. b == byte) bytes < length bytes = ltb-true _ _ p.0 in
    slice_split_first (λ b. b == byte) bytes 0 below ∙ ap (λ (n : ℕ). take n bytes ∷ parts byte (drop (n + 1) bytes)) p.1
