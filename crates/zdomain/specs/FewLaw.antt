-- What is gathered is kept. A part of the proof of the law, and nothing to believe.
use Rattle.std.proofs.Common.{◌≡◌, ℕ, zero, suc, ◌+◌, ◌%◌, ◌<◌, ◌≤◌, Bool, true, false, ◌||◌, if◌then◌else◌, Option, Some, None, List, [], ◌∷◌, length, arith, refl}
use Rattle.std.specs.Prelude.{IfSome, IsTrue, ◌==◌, nat_lt, insert}
use Rattle.std.proofs.lemmas.Bool.{eqb-true, eqb-false, ltb-true, ltb-false, and_parts}
use Rattle.zdomain.specs.Domain.{IsGathered}
use Rattle.zdomain.specs.Few.{turned, is_among, words_from, place_in, put, added, Gathering, with_word, with_words, rises_behind, last_behind}

or_left : (a b : Bool) → a ≡ true → a || b ≡ true
or_left true b e = refl
or_left false b e = absurd cc

or_right : (a b : Bool) → b ≡ true → a || b ≡ true
or_right true b e = refl
or_right false b e = e

-- one of a list and one more in front
pub among_cons : {P : Type 0} (x v : ℕ) (xs : List ℕ) → (x ≡ v → P) → (IsTrue (is_among v xs) → P) → IsTrue (is_among v (x ∷ xs)) → P
among_cons {P} x v xs first rest = by (x == v) refl
  where
    by : (b : Bool) → (x == v) ≡ b → b || is_among v xs ≡ true → P
    by true e h = first (eqb-true x v e)
    by false e h = rest h

itself : (x : ℕ) → (x == x) ≡ true
itself x = by (x == x) refl
  where
    by : (b : Bool) → (x == x) ≡ b → b ≡ true
    by true e = refl
    by false e = absurd (eqb-false x x e refl)

pub among_front : (x : ℕ) (xs : List ℕ) → IsTrue (is_among x (x ∷ xs))
among_front x xs = or_left (x == x) (is_among x xs) (itself x)

pub among_behind : (x v : ℕ) (xs : List ℕ) → IsTrue (is_among v xs) → IsTrue (is_among v (x ∷ xs))
among_behind x v xs h = or_right (x == v) (is_among v xs) h

pub insert_new : (i w : ℕ) (xs : List ℕ) → IsTrue (is_among w (insert xs i w))
insert_new zero w xs = among_front w xs
insert_new (suc i) w [] = among_front w []
insert_new (suc i) w (x ∷ xs) = among_behind x w (insert xs i w) (insert_new i w xs)

pub insert_old : (i w v : ℕ) (xs : List ℕ) → IsTrue (is_among v xs) → IsTrue (is_among v (insert xs i w))
insert_old zero w v xs h = among_behind w v xs h
insert_old (suc i) w v [] h = absurd cc
insert_old (suc i) w v (x ∷ xs) h = among_cons x v xs (λ e. rw e (among_front v (insert xs i w))) (λ r. among_behind x v (insert xs i w) (insert_old i w v xs r)) h

abbrev Keeps : Option (List ℕ) → ℕ → Type 0
Keeps few x = IfSome few (λ words. IsTrue (is_among x words))

put_new : (w : ℕ) (xs : List ℕ) → Keeps (put w xs) w
put_new w xs = by (nat_lt (length xs) 64)
  where
    by : (b : Bool) → Keeps (if b then Some (insert xs (place_in w xs) w) else None) w
    by true = insert_new (place_in w xs) w xs
    by false = tt

put_old : (w v : ℕ) (xs : List ℕ) → IsTrue (is_among v xs) → Keeps (put w xs) v
put_old w v xs h = by (nat_lt (length xs) 64)
  where
    by : (b : Bool) → Keeps (if b then Some (insert xs (place_in w xs) w) else None) v
    by true = insert_old (place_in w xs) w v xs h
    by false = tt

added_new : (w : ℕ) (few : Option (List ℕ)) → Keeps (added w few) w
added_new w None = tt
added_new w (Some xs) = by (is_among w xs) refl
  where
    by : (b : Bool) → is_among w xs ≡ b → Keeps (if b then Some xs else put w xs) w
    by true e = e
    by false e = put_new w xs

added_old : (w v : ℕ) (few : Option (List ℕ)) → Keeps few v → Keeps (added w few) v
added_old w v None h = tt
added_old w v (Some xs) h = by (is_among w xs)
  where
    by : (b : Bool) → Keeps (if b then Some xs else put w xs) v
    by true = h
    by false = put_old w v xs h

place_small : (w : ℕ) → turned w < 65536
place_small w = omega arith

-- one that is added is gathered, and so is what was
pub with_new : (w : ℕ) (g : Gathering) → g.greatest < 65536 → IsGathered (with_word w g) w
with_new w g bound = let small = place_small w in record { least = omega arith; greatest = omega arith; bound = omega (arith, bound, small); few = added_new w g.few }

pub with_old : (w v : ℕ) (g : Gathering) → IsGathered g v → IsGathered (with_word w g) v
with_old w v g h = let small = place_small w in record { least = omega (arith, h.least); greatest = omega (arith, h.greatest); bound = omega (arith, h.bound, small); few = added_old w v g.few h.few }

pub bound_kept : (w : ℕ) (g : Gathering) → g.greatest < 65536 → (with_word w g).greatest < 65536
bound_kept w g bound = let small = place_small w in omega (arith, bound, small)

pub all_old : (xs : List ℕ) (v : ℕ) (g : Gathering) → IsGathered g v → IsGathered (with_words xs g) v
unfolding with_words
all_old [] v g h = h
all_old (x ∷ xs) v g h = all_old xs v (with_word x g) (with_old x v g h)

pub all_bound : (xs : List ℕ) (g : Gathering) → g.greatest < 65536 → (with_words xs g).greatest < 65536
unfolding with_words
all_bound [] g bound = bound
all_bound (x ∷ xs) g bound = all_bound xs (with_word x g) (bound_kept x g bound)

pub all_new : (xs : List ℕ) (v : ℕ) (g : Gathering) → g.greatest < 65536 → IsTrue (is_among v xs) → IsGathered (with_words xs g) v
unfolding with_words
all_new [] v g bound h = absurd cc
all_new (x ∷ xs) v g bound h = among_cons x v xs (λ e. all_old xs v (with_word x g) (rw e (with_new v g bound))) (λ r. all_new xs v (with_word x g) (bound_kept x g bound) r) h

-- ---- words that rise

pub first_least : (y : ℕ) (ys : List ℕ) (x : ℕ) → rises_behind y ys ≡ true → IsTrue (is_among x (y ∷ ys)) → turned y ≤ turned x
unfolding rises_behind
first_least y [] x r h = among_cons y x [] (λ e. omega (arith, e)) (λ f. absurd cc) h
first_least y (z ∷ zs) x r h =
    let split = and_parts (nat_lt (turned y) (turned z)) (rises_behind z zs) r in
    let less = ltb-true (turned y) (turned z) split.0 in
    among_cons y x (z ∷ zs) (λ e. omega (arith, e)) (λ f. omega (arith, less, first_least z zs x split.1 f)) h

pub last_most : (y : ℕ) (ys : List ℕ) (x : ℕ) → rises_behind y ys ≡ true → IsTrue (is_among x (y ∷ ys)) → turned x ≤ turned (last_behind y ys)
unfolding rises_behind last_behind
last_most y [] x r h = among_cons y x [] (λ e. omega (arith, e)) (λ f. absurd cc) h
last_most y (z ∷ zs) x r h =
    let split = and_parts (nat_lt (turned y) (turned z)) (rises_behind z zs) r in
    let less = ltb-true (turned y) (turned z) split.0 in
    let end = last_most z zs z split.1 (among_front z zs) in
    among_cons y x (z ∷ zs) (λ e. omega (arith, e, less, end)) (λ f. last_most z zs x split.1 f) h

-- ---- words of an interval

next_place : (w : ℕ) → turned w < 65535 → turned ((w + 1) % 65536) ≡ turned w + 1
next_place w h = omega (arith, h)

same_place : (w x : ℕ) → w < 65536 → x < 65536 → turned w ≡ turned x → w ≡ x
same_place w x p q e = omega (arith, p, q, e)

pub from_has : (n w x : ℕ) → w < 65536 → x < 65536 → turned w ≤ turned x → turned x < turned w + n → IsTrue (is_among x (words_from w n))
unfolding words_from
from_has zero w x p q l h = absurd (omega (arith, l, h))
from_has (suc n) w x p q l h = by (from_has n ((w + 1) % 65536) x (omega arith) q) (w == x) refl
  where
    other : (w == x) ≡ false → (c : Bool) → nat_lt (turned w) (turned x) ≡ c → turned w < turned x
    other e true f = ltb-true (turned w) (turned x) f
    other e false f = absurd (eqb-false w x e (same_place w x p q (let g = ltb-false (turned w) (turned x) f in omega (arith, l, g))))

    by : (turned ((w + 1) % 65536) ≤ turned x → turned x < turned ((w + 1) % 65536) + n → IsTrue (is_among x (words_from ((w + 1) % 65536) n))) → (b : Bool) → (w == x) ≡ b → IsTrue (is_among x (w ∷ words_from ((w + 1) % 65536) n))
    by again true e = or_left (w == x) (is_among x (words_from ((w + 1) % 65536) n)) e
    by again false e =
        let less = other e (nat_lt (turned w) (turned x)) refl in
        let next = next_place w (omega (arith, place_small x, less)) in
        among_behind w x (words_from ((w + 1) % 65536) n) (again (omega (arith, next, less)) (omega (arith, next, h)))
