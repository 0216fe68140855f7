-- A stack with its top first, and the list of the same words with the top last.
use Rattle.std.proofs.Common.{◌≡◌, ℕ, ◌-◌, ◌≤◌, List, [], ◌∷◌, ◌++◌, length, take, drop, slice_set, refl, sym, ap, ◌∙◌, arith}
use Rattle.std.proofs.lemmas.List.{reverse-append, length-reverse, drop_at, take-append-drop, length-drop}
use Rattle.std.specs.Prelude.{reverse}

-- the top comes off: the front of the one is the end of the other
pub reverse-take : (xs : List ℕ) (n : ℕ) → n ≤ length xs → reverse (take (length xs - n) xs) ≡ drop n (reverse xs)
reverse-take xs n within =
    let k = length xs - n in
    let long : length (reverse (drop k xs)) ≡ n = length-reverse (drop k xs) ∙ length-drop k xs ∙ (omega (arith, within)) in
    let whole : reverse xs ≡ reverse (drop k xs) ++ reverse (take k xs) = ap reverse (sym (take-append-drop k xs)) ∙ reverse-append (take k xs) (drop k xs) in
    sym (ap (drop n) whole ∙ drop_at (reverse (drop k xs)) (reverse (take k xs)) n long)

-- and a word is put there
pub reverse-exchange : (xs : List ℕ) (n w : ℕ) → n ≤ length xs → reverse (take (length xs - n) xs ++ w ∷ []) ≡ w ∷ drop n (reverse xs)
reverse-exchange xs n w within = reverse-append (take (length xs - n) xs) (w ∷ []) ∙ ap (λ (ys : List ℕ). w ∷ ys) (reverse-take xs n within)

set_first : (xs : List ℕ) (w : ℕ) → 1 ≤ length xs → w ∷ drop 1 xs ≡ slice_set xs 0 w
set_first [] w within = absurd (omega (arith, within))
set_first (x ∷ xs) w within = refl

-- in the place of the top
pub reverse-set_top : (xs : List ℕ) (w : ℕ) → 1 ≤ length xs → reverse (take (length xs - 1) xs ++ w ∷ []) ≡ slice_set (reverse xs) 0 w
reverse-set_top xs w within = reverse-exchange xs 1 w within ∙ set_first (reverse xs) w (omega (arith, within, length-reverse xs))
