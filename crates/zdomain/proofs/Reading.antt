-- Ends as the code reads them: a number that fits its type is read as itself.
use Rattle.std.proofs.Common.{◌≡◌, false, Option, Some, ℤ, pos, negsuc, ◌+ℤ◌, ◌-ℤ◌, ◌*ℤ◌, ◌≤ℤ◌, int_lt, int_div, FitsSigned, w32, to_z, of_z, arith, refl, ◌∙◌}
use Rattle.std.specs.Int.{w16, int_min, int_max}
use Rattle.std.proofs.lemmas.Int.{ints, clamps, to_z-of_z, fits_signed_mul}
use Rattle.zdomain.specs.declared.interval.Interval.{Interval}
use Rattle.zdomain.specs.Interval.{interval_of, fitting, reach, raised, lowered}
use Rattle.zdomain.specs.IntervalLaw.Lying.{lt_false}
use Rattle.zdomain.specs.IntervalLaw.Results.{quotient_near}

abbrev pub Short : ℤ → Type 0
Short z = FitsSigned w16 z

abbrev pub Long : ℤ → Type 0
Long z = FitsSigned w32 z

abbrev pub short : ℤ → ℤ
short z = to_z w16 (of_z w16 z)

abbrev pub long : ℤ → ℤ
long z = to_z w32 (of_z w32 z)

pub widened : (a : ℤ) → Short a → Long a
widened a f = omega (arith, ints)

-- ---- an operation on two ends

-- the operation's results on short numbers are long ones
abbrev pub IsNear : (ℤ → ℤ → ℤ) → Type 0
IsNear f = (a b : ℤ) → Short a → Short b → Long (f a b)

pub sum_near : IsNear ◌+ℤ◌
sum_near a b f g = omega (arith, ints)

pub difference_near : IsNear ◌-ℤ◌
difference_near a b f g = omega (arith, ints)

pub product_near : IsNear ◌*ℤ◌
product_near a b f g = fits_signed_mul w32 a b 32768 32768 (omega (arith, ints)) (omega (arith, ints)) (omega arith)

pub division_near : IsNear int_div
division_near a b f g = let n = quotient_near a b (omega (arith, ints), omega (arith, ints)) in let l = n.0 in let h = n.1 in omega (arith, ints)

pub results_read : (f : ℤ → ℤ → ℤ) → IsNear f → (a b p q : ℤ) → Short a → Short b → p ≡ a → q ≡ b → long (f (long p) (long q)) ≡ f a b
results_read f near a b p q s t e k =
    let r = to_z-of_z w32 a (widened a s) in
    let u = to_z-of_z w32 b (widened b t) in
    rw (e, k) (rw (r, u) (to_z-of_z w32 (f a b) (near a b s t)))

pub turned_read : (a p : ℤ) → Short a → p ≡ a → long (negsuc 0 -ℤ long p) ≡ negsuc 0 -ℤ a
turned_read a p s e = rw e (rw (to_z-of_z w32 a (widened a s)) (to_z-of_z w32 (negsuc 0 -ℤ a) (omega (arith, ints))))

-- ---- the lesser and the greater of two ends

pub lesser_read : (m a b : ℤ) → Short a → Short b → m ≡ int_min (short a) (short b) → short m ≡ int_min a b
lesser_read m a b s t = rw (to_z-of_z w16 a s, to_z-of_z w16 b t) (λ e. rw e (to_z-of_z w16 (int_min a b) (omega (arith, ints, clamps))))

pub greater_read : (m a b : ℤ) → Short a → Short b → m ≡ int_max (short a) (short b) → short m ≡ int_max a b
greater_read m a b s t = rw (to_z-of_z w16 a s, to_z-of_z w16 b t) (λ e. rw e (to_z-of_z w16 (int_max a b) (omega (arith, ints, clamps))))

pub long_lesser : (m a b : ℤ) → Long a → Long b → m ≡ int_min (long a) (long b) → long m ≡ int_min a b
long_lesser m a b s t = rw (to_z-of_z w32 a s, to_z-of_z w32 b t) (λ e. rw e (to_z-of_z w32 (int_min a b) (omega (arith, ints, clamps))))

pub long_greater : (m a b : ℤ) → Long a → Long b → m ≡ int_max (long a) (long b) → long m ≡ int_max a b
long_greater m a b s t = rw (to_z-of_z w32 a s, to_z-of_z w32 b t) (λ e. rw e (to_z-of_z w32 (int_max a b) (omega (arith, ints, clamps))))

pub lesser_long : (a b : ℤ) → Long a → Long b → Long (int_min a b)
lesser_long a b f g = omega (arith, ints, clamps)

pub greater_long : (a b : ℤ) → Long a → Long b → Long (int_max a b)
greater_long a b f g = omega (arith, ints, clamps)

-- ---- an interval whose ends fit

fits_is : (z : ℤ) → int_lt z (negsuc 32767) ≡ false → int_lt (pos 32767) z ≡ false → Short z
fits_is z e f = record { sfits = grind (arith, ints) }

pub fitting_is : (lo hi : ℤ) (i : Interval) (r : Option Interval) → Long lo → Long hi → int_lt (long lo) (negsuc 32767) ≡ false → int_lt (pos 32767) (long lo) ≡ false → int_lt (long hi) (negsuc 32767) ≡ false → int_lt (pos 32767) (long hi) ≡ false
    → r ≡ interval_of (short (long lo)) (short (long hi)) → r ≡ Some i → i ≡ fitting lo hi
fitting_is lo hi i r f g = rw (to_z-of_z w32 lo f, to_z-of_z w32 hi g) (λ a b c d e s.
    let made = rw (to_z-of_z w16 lo (fits_is lo a b), to_z-of_z w16 hi (fits_is hi c d)) at e in
    rw (a, b, c, d, ← made, s) refl)

-- ---- the least and the greatest of four

pub least_read : (a b c d m n k : ℤ) → Long a → Long b → Long c → Long d → m ≡ int_min (long a) (long b) → n ≡ int_min (long c) (long d) → k ≡ int_min (long m) (long n) → long k ≡ int_min (int_min a b) (int_min c d)
least_read a b c d m n k p q r s e f g =
    let h = rw (long_lesser m a b p q e, long_lesser n c d r s f) at g in
    rw h (to_z-of_z w32 _ (lesser_long (int_min a b) (int_min c d) (lesser_long a b p q) (lesser_long c d r s)))

pub greatest_read : (a b c d m n k : ℤ) → Long a → Long b → Long c → Long d → m ≡ int_max (long a) (long b) → n ≡ int_max (long c) (long d) → k ≡ int_max (long m) (long n) → long k ≡ int_max (int_max a b) (int_max c d)
greatest_read a b c d m n k p q r s e f g =
    let h = rw (long_greater m a b p q e, long_greater n c d r s f) at g in
    rw h (to_z-of_z w32 _ (greater_long (int_max a b) (int_max c d) (greater_long a b p q) (greater_long c d r s)))

-- ---- ends of an edge

pub end_read : (a p : ℤ) → Short a → p ≡ a → long p ≡ a
end_read a p s e = rw e (to_z-of_z w32 a (widened a s))

pub raised_read : (r lo z : ℤ) → Short lo → Short z → Long r → r ≡ raised (short lo) (short z) → long r ≡ raised lo z
raised_read r lo z s t l e = to_z-of_z w32 r l ∙ (rw (to_z-of_z w16 lo s, to_z-of_z w16 z t) at e)

pub lowered_read : (r hi z : ℤ) → Short hi → Short z → Long r → r ≡ lowered (short hi) (short z) → long r ≡ lowered hi z
lowered_read r hi z s t l e = to_z-of_z w32 r l ∙ (rw (to_z-of_z w16 hi s, to_z-of_z w16 z t) at e)

one_less : (b q : ℤ) → Short b → q ≡ b → long (long q -ℤ pos 1) ≡ b -ℤ pos 1
one_less b q s e = rw e (rw (to_z-of_z w32 b (widened b s)) (to_z-of_z w32 (b -ℤ pos 1) (omega (arith, ints))))

one_more : (b q : ℤ) → Short b → q ≡ b → long (long q +ℤ pos 1) ≡ b +ℤ pos 1
one_more b q s e = rw e (rw (to_z-of_z w32 b (widened b s)) (to_z-of_z w32 (b +ℤ pos 1) (omega (arith, ints))))

pub less_read : (m a b p q : ℤ) → Short a → Short b → p ≡ a → q ≡ b → m ≡ int_min (long p) (long (long q -ℤ pos 1)) → long m ≡ int_min a (b -ℤ pos 1)
less_read m a b p q s t e k = rw (end_read a p s e, one_less b q t k) (λ h. rw h (to_z-of_z w32 (int_min a (b -ℤ pos 1)) (omega (arith, ints, clamps))))

pub more_read : (m a b p q : ℤ) → Short a → Short b → p ≡ a → q ≡ b → m ≡ int_max (long p) (long (long q +ℤ pos 1)) → long m ≡ int_max a (b +ℤ pos 1)
more_read m a b p q s t e k = rw (end_read a p s e, one_more b q t k) (λ h. rw h (to_z-of_z w32 (int_max a (b +ℤ pos 1)) (omega (arith, ints, clamps))))

-- where ends are in order, both fit
pub between_read : (lo hi : ℤ) (r : Option Interval) → negsuc 32767 ≤ℤ lo → hi ≤ℤ pos 32767 → Long lo → Long hi → int_lt (long hi) (long lo) ≡ false → r ≡ interval_of (short (long lo)) (short (long hi)) → r ≡ interval_of lo hi
between_read lo hi r low high f g = rw (to_z-of_z w32 lo f, to_z-of_z w32 hi g) (λ t e.
    let order = lt_false hi lo t in
    rw (to_z-of_z w16 lo (omega (arith, ints)), to_z-of_z w16 hi (omega (arith, ints))) at e)

-- ---- ends of what quotients leave

reach_near : (b : Interval) → Short b.lo → Short b.hi → Long (reach b) × Long (pos 0 -ℤ reach b)
reach_near b s t = (omega (arith, ints, clamps), omega (arith, ints, clamps))

pub low_remainder : (b : Interval) (m k a p q : ℤ) → Short b.lo → Short b.hi → Short a → p ≡ a → q ≡ reach b → m ≡ int_min (long p) (pos 0) → k ≡ int_max (long m) (long (pos 0 -ℤ long q)) → long k ≡ int_max (int_min a (pos 0)) (pos 0 -ℤ reach b)
low_remainder b m k a p q s t u e f g h =
    let near = reach_near b s t in
    let zero : Long (pos 0) = omega (arith, ints) in
    let least = lesser_long a (pos 0) (widened a u) zero in
    let m_is : long m ≡ int_min a (pos 0) = rw (rw (end_read a p u e) at g) (to_z-of_z w32 (int_min a (pos 0)) least) in
    let q_is : long (pos 0 -ℤ long q) ≡ pos 0 -ℤ reach b = rw f (rw (to_z-of_z w32 (reach b) near.0) (to_z-of_z w32 (pos 0 -ℤ reach b) near.1)) in
    rw (rw (m_is, q_is) at h) (to_z-of_z w32 (int_max (int_min a (pos 0)) (pos 0 -ℤ reach b)) (greater_long (int_min a (pos 0)) (pos 0 -ℤ reach b) least near.1))

pub high_remainder : (b : Interval) (m k a p q : ℤ) → Short b.lo → Short b.hi → Short a → p ≡ a → q ≡ reach b → m ≡ int_max (long p) (pos 0) → k ≡ int_min (long m) (long q) → long k ≡ int_min (int_max a (pos 0)) (reach b)
high_remainder b m k a p q s t u e f g h =
    let near = reach_near b s t in
    let zero : Long (pos 0) = omega (arith, ints) in
    let greatest = greater_long a (pos 0) (widened a u) zero in
    let m_is : long m ≡ int_max a (pos 0) = rw (rw (end_read a p u e) at g) (to_z-of_z w32 (int_max a (pos 0)) greatest) in
    let q_is : long q ≡ reach b = rw f (to_z-of_z w32 (reach b) near.0) in
    rw (rw (m_is, q_is) at h) (to_z-of_z w32 (int_min (int_max a (pos 0)) (reach b)) (lesser_long (int_max a (pos 0)) (reach b) greatest near.0))
