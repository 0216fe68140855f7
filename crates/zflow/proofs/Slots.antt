-- Slots with the top first, and the list of the same with the top last.
use Rattle.std.proofs.Common.{◌≡◌, ◌↔◌, ◌⊎◌, inl, inr, ℕ, ◌-◌, ◌<◌, ◌≤◌, List, [], ◌∷◌, ◌++◌, length, take, drop, slice_set, refl, sym, ap, subst, ◌∙◌, arith}
use Rattle.std.proofs.lemmas.List.{reverse-append, reverse-reverse, length-reverse, drop_at, take-append-drop, length-drop, drop_all}
use Rattle.std.proofs.lemmas.Slice.Zip.{all_zipped_more}
use Rattle.std.proofs.lemmas.Bool.{cases_lt}
use Rattle.std.specs.Prelude.{reverse}
use Rattle.std.specs.List.{AllZip}

module _ {V : Type 0} where
  some_off : (xs : List V) (n : ℕ) → n ≤ length xs → reverse (take (length xs - n) xs) ≡ drop n (reverse xs)
  some_off xs n within =
      let k = length xs - n in
      let long : length (reverse (drop k xs)) ≡ n = length-reverse (drop k xs) ∙ length-drop k xs ∙ (omega (arith, within)) in
      let whole : reverse xs ≡ reverse (drop k xs) ++ reverse (take k xs) = ap reverse (sym (take-append-drop k xs)) ∙ reverse-append (take k xs) (drop k xs) in
      sym (ap (drop n) whole ∙ drop_at (reverse (drop k xs)) (reverse (take k xs)) n long)

  all_off : (xs : List V) (n : ℕ) → length xs ≤ n → reverse (take (length xs - n) xs) ≡ drop n (reverse xs)
  all_off xs n beyond =
      let none : length xs - n ≡ 0 = omega (arith, beyond) in
      rw (none, drop_all n (reverse xs) (omega (arith, beyond, length-reverse xs))) refl

  -- the top slots come off, as many as there are
  pub reverse-take : (xs : List V) (n : ℕ) → reverse (take (length xs - n) xs) ≡ drop n (reverse xs)
  reverse-take xs n = by_case (cases_lt n (length xs))
    where
      by_case : (n < length xs) ⊎ (length xs ≤ n) → reverse (take (length xs - n) xs) ≡ drop n (reverse xs)
      by_case (inl within) = some_off xs n (omega (arith, within))
      by_case (inr beyond) = all_off xs n beyond

  set_first : (xs : List V) (x : V) → 1 ≤ length xs → x ∷ drop 1 xs ≡ slice_set xs 0 x
  set_first [] x within = absurd (omega (arith, within))
  set_first (y ∷ xs) x within = refl

  -- and one comes in the place of the top
  pub reverse-set_top : (xs : List V) (x : V) → 1 ≤ length xs → x ∷ reverse (take (length xs - 1) xs) ≡ slice_set (reverse xs) 0 x
  reverse-set_top xs x within = ap (λ (ys : List V). x ∷ ys) (reverse-take xs 1) ∙ set_first (reverse xs) x (omega (arith, within, length-reverse xs))

-- two rows, one beside the other, from either end
module _ {A B : Type 0} (R : A → B → Type 0) where
  zip_reverse : (xs : List A) (ys : List B) → AllZip R xs ys → AllZip R (reverse xs) (reverse ys)
  zip_reverse [] [] z = z
  zip_reverse [] (y ∷ ys) z = absurd z
  zip_reverse (x ∷ xs) [] z = absurd z
  zip_reverse (x ∷ xs) (y ∷ ys) z =
      let more = all_zipped_more R (reverse xs) (reverse ys) x y (zip_reverse xs ys z.1) z.0 in
      let here : reverse (x ∷ xs) ≡ reverse xs ++ x ∷ [] = reverse-append (x ∷ []) xs in
      let there : reverse (y ∷ ys) ≡ reverse ys ++ y ∷ [] = reverse-append (y ∷ []) ys in
      subst (λ us. AllZip R us (reverse (y ∷ ys))) (sym here) (subst (λ vs. AllZip R (reverse xs ++ x ∷ []) vs) (sym there) more)

  zip_back : (xs : List A) (ys : List B) → AllZip R (reverse xs) (reverse ys) → AllZip R xs ys
  zip_back xs ys z =
      subst (λ us. AllZip R us ys) (reverse-reverse xs) (subst (λ vs. AllZip R (reverse (reverse xs)) vs) (reverse-reverse ys) (zip_reverse (reverse xs) (reverse ys) z))

  pub zip_turned : (xs : List A) (ys : List B) → AllZip R xs ys ↔ AllZip R (reverse xs) (reverse ys)
  zip_turned xs ys = (zip_reverse xs ys, zip_back xs ys)
