-- Sums of words of two lists, one by one.
use Rattle.std.proofs.Common.{◌≡◌, ◌↔◌, ℕ, ◌-◌, ◌<◌, ◌≤◌, Bool, true, false, ◌&&◌, Some, None, List, [], ◌∷◌, ◌++◌, length, map, take, drop, get_or, refl, sym, subst, ap, ◌∙◌, arith}
use Rattle.std.proofs.Math.Seq.{take-length}
use Rattle.std.specs.Prelude.{IsTrue, if◌then◌else◌}
use Rattle.std.specs.List.{list_all}
use Rattle.std.proofs.lemmas.Bool.{and_parts, and_from}
use Rattle.std.proofs.lemmas.List.Folds.{list_all-append}
use Rattle.zarray.specs.declared.width.Width.{Width}
use Rattle.zarray.specs.Arrays.{place_of, value_at}
use Rattle.zdomain.specs.Few.{is_among, Gathering, with_word, with_words}
use Rattle.zdomain.specs.FewLaw.{among_cons, among_front, among_behind}
use Rattle.zdomain.proofs.Gathering.{one_by_one}
use Rattle.zruns.specs.Runs.{EachSum, each_byte, fixed_value, sums}

-- ---- lists

pub each_of : (places : List ℕ) (holds : ℕ → Bool) → list_all holds places ≡ true → (p : ℕ) → IsTrue (is_among p places) → holds p ≡ true
each_of [] holds e p there = absurd cc
each_of (q ∷ places) holds e p there =
    let parts = and_parts (holds q) (list_all holds places) e in
    among_cons q p places (λ same. subst (λ (r : ℕ). holds r ≡ true) same parts.0) (λ behind. each_of places holds parts.1 p behind) there

pub all_of : (places : List ℕ) (holds : ℕ → Bool) → ((p : ℕ) → IsTrue (is_among p places) → holds p ≡ true) → list_all holds places ≡ true
all_of [] holds each = refl
all_of (q ∷ places) holds each = and_from (holds q) (list_all holds places) (each q (among_front q places)) (all_of places holds (λ p there. each p (among_behind q p places there)))

pub among_map : (f : ℕ → ℕ) (places : List ℕ) (p : ℕ) → IsTrue (is_among p places) → IsTrue (is_among (f p) (map f places))
among_map f [] p there = absurd cc
among_map f (q ∷ places) p there = among_cons q p places (λ same. subst (λ (r : ℕ). IsTrue (is_among (f r) (f q ∷ map f places))) same (among_front (f q) (map f places))) (λ behind. among_behind (f q) (f p) (map f places) (among_map f places p behind)) there

among_left : (p : ℕ) (xs ys : List ℕ) → IsTrue (is_among p xs) → IsTrue (is_among p (xs ++ ys))
among_left p [] ys there = absurd cc
among_left p (x ∷ xs) ys there = among_cons x p xs (λ same. subst (λ (r : ℕ). IsTrue (is_among r (x ∷ xs ++ ys))) same (among_front x (xs ++ ys))) (λ behind. among_behind x p (xs ++ ys) (among_left p xs ys behind)) there

among_right : (p : ℕ) (xs ys : List ℕ) → IsTrue (is_among p ys) → IsTrue (is_among p (xs ++ ys))
among_right p [] ys there = there
among_right p (x ∷ xs) ys there = among_behind x p (xs ++ ys) (among_right p xs ys there)

-- ---- sums

pub among_sums : (width : Width) (arrays indices : List ℕ) (a i : ℕ) → IsTrue (is_among a arrays) → IsTrue (is_among i indices) → IsTrue (is_among (place_of width a i) (sums width arrays indices))
unfolding sums
among_sums width [] indices a i of_arrays of_indices = absurd cc
among_sums width (b ∷ arrays) indices a i of_arrays of_indices =
    among_cons b a arrays
    (λ same. among_left (place_of width a i) (map (place_of width b) indices) (sums width arrays indices) (subst (λ (c : ℕ). IsTrue (is_among (place_of width c i) (map (place_of width b) indices))) same (among_map (place_of width b) indices i of_indices)))
    (λ behind. among_right (place_of width a i) (map (place_of width b) indices) (sums width arrays indices) (among_sums width arrays indices a i behind of_indices))
    of_arrays

-- a test of each place of a row, and of all rows
row_of : (width : Width) (a : ℕ) (indices : List ℕ) (holds : ℕ → Bool) → ((i : ℕ) → IsTrue (is_among i indices) → IsTrue (holds (place_of width a i))) → list_all holds (map (place_of width a) indices) ≡ true
row_of width a [] holds each = refl
row_of width a (i ∷ indices) holds each = and_from (holds (place_of width a i)) (list_all holds (map (place_of width a) indices)) (each i (among_front i indices)) (row_of width a indices holds (λ j there. each j (among_behind i j indices there)))

sums_of : (width : Width) (arrays indices : List ℕ) (holds : ℕ → Bool) → EachSum width arrays indices (λ p. IsTrue (holds p)) → list_all holds (sums width arrays indices) ≡ true
unfolding sums
sums_of width [] indices holds each = refl
sums_of width (a ∷ arrays) indices holds each =
    list_all-append holds (map (place_of width a) indices) (sums width arrays indices)
    ∙ and_from (list_all holds (map (place_of width a) indices)) (list_all holds (sums width arrays indices)) (row_of width a indices holds (λ i there. each a i (among_front a arrays) there)) (sums_of width arrays indices holds (λ b i behind there. each b i (among_behind a b arrays behind) there))

pub each_sum : (width : Width) (arrays indices : List ℕ) (holds : ℕ → Bool) → IsTrue (list_all holds (sums width arrays indices)) ↔ EachSum width arrays indices (λ p. IsTrue (holds p))
each_sum width arrays indices holds = (λ e a i of_arrays of_indices. each_of (sums width arrays indices) holds e (place_of width a i) (among_sums width arrays indices a i of_arrays of_indices), λ each. sums_of width arrays indices holds each)

pub all_append : (holds : ℕ → Bool) (xs ys : List ℕ) → list_all holds (xs ++ ys) ≡ (list_all holds xs && list_all holds ys)
all_append holds xs ys = list_all-append holds xs ys

-- ---- what is gathered

less_one : (x : ℕ) (xs : List ℕ) → take (length (x ∷ xs) - 1) xs ≡ xs
less_one x xs = let one : length (x ∷ xs) - 1 ≡ length xs = omega arith in ap (λ (n : ℕ). take n xs) one ∙ take-length xs

pub no_place : (width : Width) (f : ℕ → ℕ) (a : ℕ) (indices : List ℕ) (g : Gathering) → length indices < 1 → g ≡ with_words (map f (map (place_of width a) indices)) g
unfolding with_words
no_place width f a [] g few = refl
no_place width f a (x ∷ xs) g few = absurd (omega (arith, few))

pub no_sum : (width : Width) (f : ℕ → ℕ) (arrays indices : List ℕ) (g : Gathering) → length arrays < 1 → g ≡ with_words (map f (sums width arrays indices)) g
unfolding with_words sums
no_sum width f [] indices g few = refl
no_sum width f (x ∷ xs) indices g few = absurd (omega (arith, few))

-- the first of a row, and then the others
pub place_by_place : (width : Width) (f : ℕ → ℕ) (a : ℕ) (indices : List ℕ) (g : Gathering) → 1 ≤ length indices → with_words (map f (map (place_of width a) (take (length indices - 1) (drop 1 indices)))) (with_word (f (place_of width a (get_or indices 0 0))) g) ≡ with_words (map f (map (place_of width a) indices)) g
unfolding with_words
place_by_place width f a [] g some = absurd (omega (arith, some))
place_by_place width f a (i ∷ indices) g some = ap (λ (ys : List ℕ). with_words (map f (map (place_of width a) ys)) (with_word (f (place_of width a i)) g)) (less_one i indices)

map_append : (f : ℕ → ℕ) (xs ys : List ℕ) → map f (xs ++ ys) ≡ map f xs ++ map f ys
map_append f [] ys = refl
map_append f (x ∷ xs) ys = ap (λ (zs : List ℕ). f x ∷ zs) (map_append f xs ys)

-- the first row, and then the others
pub row_by_row : (width : Width) (f : ℕ → ℕ) (arrays indices : List ℕ) (g : Gathering) → 1 ≤ length arrays → with_words (map f (sums width (take (length arrays - 1) (drop 1 arrays)) indices)) (with_words (map f (map (place_of width (get_or arrays 0 0)) indices)) g) ≡ with_words (map f (sums width arrays indices)) g
unfolding sums
row_by_row width f [] indices g some = absurd (omega (arith, some))
row_by_row width f (a ∷ arrays) indices g some =
    ap (λ (xs : List ℕ). with_words (map f (sums width xs indices)) (with_words (map f (map (place_of width a) indices)) g)) (less_one a arrays)
    ∙ sym (one_by_one (map f (map (place_of width a) indices)) (map f (sums width arrays indices)) g)
    ∙ ap (λ (xs : List ℕ). with_words xs g) (sym (map_append f (map (place_of width a) indices) (sums width arrays indices)))

-- what is read where no play changes it
pub known_value : (fixed : ℕ → Bool) (width : Width) (memory : List ℕ) (p v : ℕ) → Some v ≡ fixed_value fixed width memory p → v ≡ value_at width memory p
known_value fixed width memory p v = by (each_byte width fixed p)
  where
    by : (b : Bool) → Some v ≡ (if b then Some (value_at width memory p) else None) → v ≡ value_at width memory p
    by true e = cc
    by false e = absurd cc
