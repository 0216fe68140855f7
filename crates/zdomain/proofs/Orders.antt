-- Lists that rise, side by side.
use Rattle.std.proofs.Common.{◌≡◌, ◌≢◌, ℕ, suc, ◌+◌, ◌-◌, ◌%◌, ◌<◌, ◌≤◌, Bool, true, false, ◌||◌, ◌==◌, if◌then◌else◌, List, [], ◌∷◌, refl, sym, ◌∙◌, subst, arith}
use Rattle.std.specs.Prelude.{◌↔◌, IsTrue, nat_lt}
use Rattle.std.specs.List.{filter}
use Rattle.std.proofs.lemmas.Bool.{eqb-true, eqb-false, ltb-true, ltb-false, and_parts}
use Rattle.zdomain.specs.Few.{turned, is_among, rises, rises_behind}
use Rattle.std.proofs.Common.{get_or}
use Rattle.zdomain.specs.declared.values.Scattered.{Scattered}
use Rattle.zdomain.specs.declared.values.Values.TheVariants.{List as AList}
use Rattle.zdomain.specs.Domain.{Within}
use Rattle.zdomain.specs.Sides.{are_among, shared, has_row}
use Rattle.zdomain.specs.Values.{values_operations}
use Rattle.zdomain.proofs.Going.{from_first, from_all}
use Rattle.zdomain.specs.FewLaw.{among_cons, among_front, among_behind, first_least}

-- what is behind the first rises too
pub rest_rises : (x : ℕ) (xs : List ℕ) → rises (x ∷ xs) ≡ true → rises xs ≡ true
unfolding rises_behind
rest_rises x [] r = refl
rest_rises x (y ∷ ys) r = (and_parts (nat_lt (turned x) (turned y)) (rises_behind y ys) r).1

-- each of them stands above the first
pub above : (x : ℕ) (xs : List ℕ) (v : ℕ) → rises (x ∷ xs) ≡ true → IsTrue (is_among v xs) → turned x < turned v
unfolding rises_behind
above x [] v r h = absurd cc
above x (y ∷ ys) v r h =
    let split = and_parts (nat_lt (turned x) (turned y)) (rises_behind y ys) r in
    let less = ltb-true (turned x) (turned y) split.0 in
    let more = first_least y ys v split.1 h in
    omega (arith, less, more)

-- each word of a list is in another
abbrev pub Under : List ℕ → List ℕ → Type 0
Under xs ys = (v : ℕ) → IsTrue (is_among v xs) → IsTrue (is_among v ys)

pub all_under : (ys : List ℕ) → Under [] ys
all_under ys v h = absurd cc

pub none_under : (x : ℕ) (xs : List ℕ) → Under (x ∷ xs) [] → ⊥
none_under x xs u = absurd (let h = u x (among_front x xs) in cc)

-- two lists with one first word
pub rest_under : (x y : ℕ) (xs ys : List ℕ) → x ≡ y → rises (x ∷ xs) ≡ true → Under (x ∷ xs) (y ∷ ys) → Under xs ys
rest_under x y xs ys same r u v h = among_cons y v ys (λ e. absurd (let more = above x xs v r h in omega (arith, more, e, same))) (λ k. k) (u v (among_behind x v xs h))

pub under_both : (x y : ℕ) (xs ys : List ℕ) → x ≡ y → Under xs ys → Under (x ∷ xs) (y ∷ ys)
under_both x y xs ys same u v h = among_cons x v xs (λ e. subst (λ (w : ℕ). IsTrue (is_among w (y ∷ ys))) (sym same ∙ e) (among_front y ys)) (λ k. among_behind y v ys (u v k)) h

-- a first word below all of the other list
pub under_rest : (x y : ℕ) (xs ys : List ℕ) → turned y < turned x → rises (x ∷ xs) ≡ true → Under (x ∷ xs) (y ∷ ys) → Under (x ∷ xs) ys
under_rest x y xs ys less r u v h = among_cons y v ys (λ e. absurd (let least = first_least x xs v r h in omega (arith, less, least, e))) (λ k. k) (u v h)

pub under_more : (xs : List ℕ) (y : ℕ) (ys : List ℕ) → Under xs ys → Under xs (y ∷ ys)
under_more xs y ys u v h = among_behind y v ys (u v h)

-- a first word that the other list has passed
pub passed : (x y : ℕ) (ys : List ℕ) → x ≢ y → (turned y < turned x → ⊥) → rises (y ∷ ys) ≡ true → IsTrue (is_among x (y ∷ ys)) → ⊥
passed x y ys other past r h = among_cons y x ys (λ e. absurd (other (sym e))) (λ k. past (above y ys x r k)) h

not_less : (a b : ℕ) → nat_lt a b ≡ false → a < b → ⊥
not_less a b e l = let g = ltb-false a b e in omega (arith, g, l)

under_is : (xs ys : List ℕ) → rises xs ≡ true → rises ys ≡ true → (IsTrue (are_among xs ys) → Under xs ys) × (Under xs ys → IsTrue (are_among xs ys))
unfolding are_among
under_is [] ys r q = (λ t. all_under ys, λ u. refl)
under_is (x ∷ xs) [] r q = (λ t. absurd cc, λ u. absurd (none_under x xs u))
under_is (x ∷ xs) (y ∷ ys) r q = by (x == y) (nat_lt (turned y) (turned x)) refl refl (under_is xs ys (rest_rises x xs r) (rest_rises y ys q)) (under_is (x ∷ xs) ys r (rest_rises y ys q))
  where
    by : (b c : Bool) → (x == y) ≡ b → nat_lt (turned y) (turned x) ≡ c → (IsTrue (are_among xs ys) → Under xs ys) × (Under xs ys → IsTrue (are_among xs ys)) → (IsTrue (are_among (x ∷ xs) ys) → Under (x ∷ xs) ys) × (Under (x ∷ xs) ys → IsTrue (are_among (x ∷ xs) ys)) → (IsTrue (if b then are_among xs ys else (if c then are_among (x ∷ xs) ys else false)) → Under (x ∷ xs) (y ∷ ys)) × (Under (x ∷ xs) (y ∷ ys) → IsTrue (if b then are_among xs ys else (if c then are_among (x ∷ xs) ys else false)))
    by true c e f h k = (λ t. under_both x y xs ys (eqb-true x y e) (h.0 t), λ u. h.1 (rest_under x y xs ys (eqb-true x y e) r u))
    by false true e f h k = (λ t. under_more (x ∷ xs) y ys (k.0 t), λ u. k.1 (under_rest x y xs ys (ltb-true (turned y) (turned x) f) r u))
    by false false e f h k = (λ t. absurd cc, λ u. absurd (passed x y ys (eqb-false x y e) (not_less (turned y) (turned x) f) q (u x (among_front x xs))))

-- words of a list are words, where each of its elements is one
among_small : (xs : List ℕ) (v : ℕ) → ((i : ℕ) → get_or xs i 0 < 65536) → IsTrue (is_among v xs) → v < 65536
among_small [] v small h = absurd cc
among_small (x ∷ xs) v small h = among_cons x v xs (λ e. let first = small 0 in omega (arith, first, e)) (λ k. among_small xs v (λ i. small (suc i)) k) h

-- as sets
pub within_is : (s t : Scattered) → ((i : ℕ) → get_or s.few i 0 < 65536) → rises s.few ≡ true → rises t.few ≡ true → IsTrue (are_among s.few t.few) ↔ Within values_operations (AList s) (AList t)
within_is s t small r q =
    let is = under_is s.few t.few r q in (
      λ e x h. record { word = h.word; member = is.0 e x h.member },
      λ w. is.1 (λ x h. (w x (record { word = among_small s.few x small h; member = h })).member),
    )

-- ---- what two lists share

pub filter_alike : (p q : ℕ → Bool) (xs : List ℕ) → ((v : ℕ) → IsTrue (is_among v xs) → p v ≡ q v) → filter p xs ≡ filter q xs
filter_alike p q [] alike = refl
filter_alike p q (x ∷ xs) alike =
    let first = alike x (among_front x xs) in
    let rest = filter_alike p q xs (λ v h. alike v (among_behind x v xs h)) in
    rw (first, rest) refl

filter_none : (xs : List ℕ) → [] ≡ filter (λ v. is_among v []) xs
filter_none [] = refl
filter_none (x ∷ xs) = filter_none xs

-- one that isn't the first is behind it, or nowhere
not_first : (y v : ℕ) (ys : List ℕ) → (y ≡ v → ⊥) → is_among v (y ∷ ys) ≡ is_among v ys
not_first y v ys other = by (y == v) refl
  where
    by : (b : Bool) → (y == v) ≡ b → (b || is_among v ys) ≡ is_among v ys
    by true e = absurd (other (eqb-true y v e))
    by false e = refl

nowhere : (v : ℕ) (ys : List ℕ) → (IsTrue (is_among v ys) → ⊥) → is_among v ys ≡ false
nowhere v ys never = by (is_among v ys) refl
  where
    by : (b : Bool) → is_among v ys ≡ b → is_among v ys ≡ false
    by true e = absurd (never e)
    by false e = e

pub shared_is : (xs ys : List ℕ) → rises xs ≡ true → rises ys ≡ true → shared xs ys ≡ filter (λ v. is_among v ys) xs
unfolding shared
shared_is [] ys r q = refl
shared_is (x ∷ xs) [] r q = filter_none xs
shared_is (x ∷ xs) (y ∷ ys) r q = by (x == y) (nat_lt (turned y) (turned x)) refl refl (shared_is xs ys (rest_rises x xs r) (rest_rises y ys q)) (shared_is (x ∷ xs) ys r (rest_rises y ys q)) (shared_is xs (y ∷ ys) (rest_rises x xs r) q)
  where
    p : ℕ → Bool
    p v = is_among v (y ∷ ys)

    by : (b c : Bool) → (x == y) ≡ b → nat_lt (turned y) (turned x) ≡ c → shared xs ys ≡ filter (λ v. is_among v ys) xs → shared (x ∷ xs) ys ≡ filter (λ v. is_among v ys) (x ∷ xs) → shared xs (y ∷ ys) ≡ filter p xs → (if b then x ∷ shared xs ys else (if c then shared (x ∷ xs) ys else shared xs (y ∷ ys))) ≡ filter p (x ∷ xs)
    by true c e f h k l =
        let same = eqb-true x y e in
        let found : p x ≡ true = subst (λ (w : ℕ). is_among x (w ∷ ys) ≡ true) same (among_front x ys) in
        let rest : filter p xs ≡ filter (λ v. is_among v ys) xs = filter_alike p (λ v. is_among v ys) xs (λ v i. not_first y v ys (λ g. let more = above x xs v r i in omega (arith, more, g, same))) in
        rw (found, rest, h) refl
    by false true e f h k l =
        let less = ltb-true (turned y) (turned x) f in
        k ∙ sym (filter_alike p (λ v. is_among v ys) (x ∷ xs) (λ v i. not_first y v ys (λ g. let least = first_least x xs v r i in omega (arith, less, least, g))))
    by false false e f h k l =
        let none : p x ≡ false = nowhere x (y ∷ ys) (λ i. passed x y ys (eqb-false x y e) (not_less (turned y) (turned x) f) q i) in
        rw (none, l) refl

-- ---- a word and those behind it

next_place : (w : ℕ) → turned w < 65535 → turned ((w + 1) % 65536) ≡ turned w + 1
next_place w h = omega (arith, h)

place_of_next : (w k : ℕ) → w < 65536 → turned w + k < 65536 → turned ((w + k) % 65536) ≡ turned w + k
place_of_next w k p fits = omega (arith, p, fits)

-- a list has a word and so many behind it
abbrev pub HasRow : List ℕ → ℕ → ℕ → Type 0
HasRow xs word more = (k : ℕ) → k ≤ more → IsTrue (is_among ((word + k) % 65536) xs)

pub row_is : (xs : List ℕ) (word more : ℕ) → word < 65536 → turned word + more < 65536 → rises xs ≡ true → (IsTrue (has_row xs word more) → HasRow xs word more) × (HasRow xs word more → IsTrue (has_row xs word more))
unfolding has_row
row_is [] word more p fits r = (λ t. absurd cc, λ all. absurd (let h = all 0 (omega arith) in cc))
row_is (x ∷ xs) word more p fits r = by (λ w m q f. row_is xs w m q f (rest_rises x xs r)) (nat_lt (turned x) (turned word)) (x == word) (more == 0) refl refl refl
  where
    -- a word above the first is behind it
    behind_it : (v : ℕ) → turned x < turned v → IsTrue (is_among v (x ∷ xs)) → IsTrue (is_among v xs)
    behind_it v less h = among_cons x v xs (λ e. absurd (omega (arith, less, e))) (λ i. i) h

    by : ((w m : ℕ) → w < 65536 → turned w + m < 65536 → (IsTrue (has_row xs w m) → HasRow xs w m) × (HasRow xs w m → IsTrue (has_row xs w m))) → (b c d : Bool) → nat_lt (turned x) (turned word) ≡ b → (x == word) ≡ c → (more == 0) ≡ d → (IsTrue (if b then has_row xs word more else (if c then (if d then true else has_row xs ((word + 1) % 65536) (more - 1)) else false)) → HasRow (x ∷ xs) word more) × (HasRow (x ∷ xs) word more → IsTrue (if b then has_row xs word more else (if c then (if d then true else has_row xs ((word + 1) % 65536) (more - 1)) else false)))
    by again true c d e f g =
        let less = ltb-true (turned x) (turned word) e in
        let rest = again word more p fits in (
          λ t k most. among_behind x ((word + k) % 65536) xs (rest.0 t k most),
          λ all. rest.1 (λ k most. behind_it ((word + k) % 65536) (let place = place_of_next word k p (omega (arith, fits, most)) in omega (arith, place, less)) (all k most)),
        )
    by again false true true e f g =
        let same = eqb-true x word f in
        let none = eqb-true more 0 g in
        (λ t k most. subst (λ (w : ℕ). IsTrue (is_among w (x ∷ xs))) (let word_is : x ≡ (word + k) % 65536 = omega (arith, same, p, most, none) in word_is) (among_front x xs), λ all. refl)
    by again false true false e f g =
        let same = eqb-true x word f in
        let some : 0 < more = (let other = eqb-false more 0 g in omega (arith, other)) in
        let next = next_place word (omega (arith, fits, some)) in
        let rest = again ((word + 1) % 65536) (more - 1) (omega arith) (omega (arith, next, fits, some)) in (
          λ t. from_first (λ v. IsTrue (is_among v (x ∷ xs))) word more p some (subst (λ (w : ℕ). IsTrue (is_among w (x ∷ xs))) same (among_front x xs)) (λ k most. among_behind x (((word + 1) % 65536 + k) % 65536) xs (rest.0 t k most)),
          λ all. rest.1 (λ k most. behind_it (((word + 1) % 65536 + k) % 65536) (let place = place_of_next ((word + 1) % 65536) k (omega arith) (omega (arith, next, fits, most, some)) in omega (arith, place, next, same)) (from_all (λ v. IsTrue (is_among v (x ∷ xs))) word more p some all k most)),
        )
    by again false false d e f g = (λ t. absurd cc, λ all. absurd (let h = all 0 (omega arith) in let is : (word + 0) % 65536 ≡ word = omega (arith, p) in passed word x xs (λ i. eqb-false x word f (sym i)) (not_less (turned x) (turned word) e) r (subst (λ (w : ℕ). IsTrue (is_among w (x ∷ xs))) is h)))
