-- What is written of one more thing of a list.
use Rattle.std.proofs.Common.{◌≡◌, ℕ, zero, suc, ◌+◌, List, [], ◌∷◌, ◌++◌, take, Some, sym, ap, ◌∙◌, append_assoc, arith}
use Rattle.std.specs.Prelude.{slice_get}
use Rattle.std.specs.List.{flat_map}
use Rattle.std.proofs.lemmas.List.{append-nil}
use Rattle.zcert.proofs.Rising.{some_is, none_there}

one_taken : {A B : Type 0} (f : A → List B) (xs : List A) (k : ℕ) (x : A) → slice_get xs k ≡ Some x → flat_map f (take k xs) ++ f x ≡ flat_map f (take (suc k) xs)
one_taken f [] k x e = none_there k x e
one_taken f (y ∷ xs) zero x e = ap f (sym (some_is y x e)) ∙ sym (append-nil (f y))
one_taken f (y ∷ xs) (suc k) x e = append_assoc (f y) (flat_map f (take k xs)) (f x) ∙ ap (λ t. f y ++ t) (one_taken f xs k x e)

pub one_more_taken : {A B : Type 0} (f : A → List B) (xs : List A) (k : ℕ) (x : A) (before out now : List B) → slice_get xs k ≡ Some x → out ≡ before ++ flat_map f (take k xs) → now ≡ out ++ f x → now ≡ before ++ flat_map f (take (k + 1) xs)
one_more_taken f xs k x before out now e o n =
    let same : suc k ≡ k + 1 = omega arith in
    n ∙ ap (λ t. t ++ f x) o ∙ append_assoc before (flat_map f (take k xs)) (f x) ∙ ap (λ t. before ++ t) (one_taken f xs k x e) ∙ ap (λ j. before ++ flat_map f (take j xs)) same
