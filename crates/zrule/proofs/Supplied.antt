-- A list of at most three is known by what stands in it.
use Rattle.std.proofs.Common.{◌≡◌, ◌≤◌, List, [], ◌∷◌, length, take, Some, None, refl, arith}
use Rattle.std.specs.Prelude.{slice_get}
use Rattle.std.proofs.lemmas.Option.{same_Some}

pub few_taken : {V : Type 0} (xs : List V) → length (take 3 xs) ≤ 3
few_taken [] = omega arith
few_taken (x ∷ []) = omega arith
few_taken (x ∷ y ∷ []) = omega arith
few_taken (x ∷ y ∷ z ∷ xs) = omega arith

pub is_zero : {V : Type 0} (xs : List V) → None ≡ slice_get xs 0 → [] ≡ xs
is_zero [] none = refl
is_zero (x ∷ xs) none = absurd cc

pub is_one : {V : Type 0} (xs : List V) (a : V) → Some a ≡ slice_get xs 0 → None ≡ slice_get xs 1 → a ∷ [] ≡ xs
is_one [] a first none = absurd cc
is_one (x ∷ []) a first none = let same = same_Some a x first in rw same refl
is_one (x ∷ y ∷ xs) a first none = absurd cc

pub is_two : {V : Type 0} (xs : List V) (a b : V) → Some a ≡ slice_get xs 0 → Some b ≡ slice_get xs 1 → None ≡ slice_get xs 2 → a ∷ b ∷ [] ≡ xs
is_two [] a b first second none = absurd cc
is_two (x ∷ []) a b first second none = absurd cc
is_two (x ∷ y ∷ []) a b first second none = let one = same_Some a x first in let two = same_Some b y second in rw (one, two) refl
is_two (x ∷ y ∷ z ∷ xs) a b first second none = absurd cc

pub is_three : {V : Type 0} (xs : List V) (a b c : V) → length xs ≤ 3 → Some a ≡ slice_get xs 0 → Some b ≡ slice_get xs 1 → Some c ≡ slice_get xs 2 → a ∷ b ∷ c ∷ [] ≡ xs
is_three [] a b c few first second third = absurd cc
is_three (x ∷ []) a b c few first second third = absurd cc
is_three (x ∷ y ∷ []) a b c few first second third = absurd cc
is_three (x ∷ y ∷ z ∷ []) a b c few first second third = let one = same_Some a x first in let two = same_Some b y second in let three = same_Some c z third in rw (one, two, three) refl
is_three (x ∷ y ∷ z ∷ w ∷ xs) a b c few first second third = absurd (omega (arith, few))
