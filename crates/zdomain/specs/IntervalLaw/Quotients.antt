-- A proof of the law: quotients, rounded toward zero, lie between the quotients of the ends.
use Rattle.std.proofs.Common.{◌≡◌, ◌≢◌, ℕ, zero, suc, ◌/◌, ◌≤◌, ◌<◌, ℤ, pos, negsuc, ◌≤ℤ◌, ◌<ℤ◌, int_div, arith, ◌∙◌, sym, refl}
use Rattle.std.proofs.lemmas.Int.{ints}
use Rattle.std.proofs.lemmas.Nat.{le-div}
use mathlib.Core.Logic.{◌⊎◌, inl, inr}
use native.Mathlib.Nat.{mul-le-mul_left, div-mul-le_self, zero-div}
use borrow.Author.Differences.{up, down, neg_is, quot_is}
use Rattle.zdomain.specs.IntervalLaw.Lying.{Lies}

div_more : (m n k : ℕ) → 0 < k → m ≤ n → m / k ≤ n / k
div_more m n k p h = le-div (m / k) n k p (omega (arith, div-mul-le_self m k))

div_less : (n k l : ℕ) → 0 < k → k ≤ l → n / l ≤ n / k
div_less n k l p h = le-div (n / l) n k p (omega (arith, div-mul-le_self n l, mul-le-mul_left (n / l) h))

-- in order, part by part
ups : (a b : ℤ) → a ≤ℤ b → (up a ≤ up b) × (down b ≤ down a)
ups (pos a) (pos b) h = (omega (arith, ints), omega (arith, ints))
ups (pos a) (negsuc b) h = absurd h.le
ups (negsuc a) (pos b) h = (omega (arith, ints), omega (arith, ints))
ups (negsuc a) (negsuc b) h = (omega (arith, ints), omega (arith, ints))

by_neg : (a : ℤ) (b : ℕ) → (up (int_div a (negsuc b)) ≡ down a / suc b) × (down (int_div a (negsuc b)) ≡ up a / suc b)
by_neg (pos a) b = ((neg_is (pos (a / suc b))).0 ∙ sym (zero-div (suc b)), (neg_is (pos (a / suc b))).1)
by_neg (negsuc a) b = (refl, sym (zero-div (suc b)))

pub div_first : (s t : ℤ) (a b x y : ℤ) → y ≢ pos 0 → a ≤ℤ x → x ≤ℤ b → Lies s t (int_div a y) → Lies s t (int_div b y) → Lies s t (int_div x y)
div_first s t a b x (pos zero) o p q m k = absurd (o refl)
div_first s t a b x (pos (suc n)) o p q m k =
    let e = quot_is a (suc n) in
    let f = quot_is b (suc n) in
    let g = quot_is x (suc n) in
    let h1 = div_more (up a) (up x) (suc n) (omega arith) (ups a x p).0 in
    let h2 = div_more (down x) (down a) (suc n) (omega arith) (ups a x p).1 in
    let h3 = div_more (up x) (up b) (suc n) (omega arith) (ups x b q).0 in
    let h4 = div_more (down b) (down x) (suc n) (omega arith) (ups x b q).1 in
    let ml = m.0 in let kh = k.1 in
    (omega (arith, ints), omega (arith, ints))
div_first s t a b x (negsuc n) o p q m k =
    let e = by_neg a n in
    let f = by_neg b n in
    let g = by_neg x n in
    let h1 = div_more (up a) (up x) (suc n) (omega arith) (ups a x p).0 in
    let h2 = div_more (down x) (down a) (suc n) (omega arith) (ups a x p).1 in
    let h3 = div_more (up x) (up b) (suc n) (omega arith) (ups x b q).0 in
    let h4 = div_more (down b) (down x) (suc n) (omega arith) (ups x b q).1 in
    let mh = m.1 in let kl = k.0 in
    (omega (arith, ints), omega (arith, ints))

-- by a divisor between two of one sign
div_second_pos : (s t : ℤ) (x : ℤ) (c d y : ℕ) → 0 < c → c ≤ y → y ≤ d → Lies s t (int_div x (pos c)) → Lies s t (int_div x (pos d)) → Lies s t (int_div x (pos y))
div_second_pos s t (pos n) c d y o p q m k =
    let h1 = div_less n c y o p in
    let h2 = div_less n y d (omega arith) q in
    let ml = k.0 in let kh = m.1 in
    (omega (arith, ints), omega (arith, ints))
div_second_pos s t (negsuc n) c d y o p q m k =
    let h1 = div_less (suc n) c y o p in
    let h2 = div_less (suc n) y d (omega arith) q in
    let ml = m.0 in let kh = k.1 in
    (omega (arith, ints), omega (arith, ints))

div_second_neg : (s t : ℤ) (x : ℤ) (c d y : ℕ) → d ≤ y → y ≤ c → Lies s t (int_div x (negsuc c)) → Lies s t (int_div x (negsuc d)) → Lies s t (int_div x (negsuc y))
div_second_neg s t (pos n) c d y p q m k =
    let h1 = div_less n (suc d) (suc y) (omega arith) (omega arith) in
    let h2 = div_less n (suc y) (suc c) (omega arith) (omega arith) in
    let ml = k.0 in let kh = m.1 in
    (omega (arith, ints), omega (arith, ints))
div_second_neg s t (negsuc n) c d y p q m k =
    let h1 = div_less (suc n) (suc d) (suc y) (omega arith) (omega arith) in
    let h2 = div_less (suc n) (suc y) (suc c) (omega arith) (omega arith) in
    let ml = m.0 in let kh = k.1 in
    (omega (arith, ints), omega (arith, ints))

-- the ends have one sign
abbrev pub OneSign : ℤ → ℤ → Type 0
OneSign c d = (pos 0 <ℤ c) ⊎ (d <ℤ pos 0)

pub div_second : (s t : ℤ) (x c d y : ℤ) → OneSign c d → c ≤ℤ y → y ≤ℤ d → Lies s t (int_div x c) → Lies s t (int_div x d) → Lies s t (int_div x y)
div_second s t x (pos c) (pos d) (pos y) (inl o) p q m k = div_second_pos s t x c d y (omega (arith, ints)) (omega (arith, ints)) (omega (arith, ints)) m k
div_second s t x (pos c) (pos d) (negsuc y) (inl o) p q m k = absurd p.le
div_second s t x (pos c) (negsuc d) y (inl o) p q m k = absurd (omega (arith, ints))
div_second s t x (negsuc c) d y (inl o) p q m k = absurd o.lt
div_second s t x c (pos d) y (inr o) p q m k = absurd (omega (arith, ints))
div_second s t x (pos c) (negsuc d) y (inr o) p q m k = absurd (omega (arith, ints))
div_second s t x (negsuc c) (negsuc d) (pos y) (inr o) p q m k = absurd q.le
div_second s t x (negsuc c) (negsuc d) (negsuc y) (inr o) p q m k = div_second_neg s t x c d y (omega (arith, ints)) (omega (arith, ints)) m k

pub not_zero : (c d y : ℤ) → OneSign c d → c ≤ℤ y → y ≤ℤ d → y ≢ pos 0
not_zero c d y (inl o) p q e = omega (arith, ints)
not_zero c d y (inr o) p q e = omega (arith, ints)
