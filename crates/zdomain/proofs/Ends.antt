-- An interval is known by its ends.
use Rattle.std.proofs.Common.{◌≡◌, Bool, true, false, Some, None, ℤ, ◌≤ℤ◌, ◌<ℤ◌, int_le, arith, ap, subst, refl, sym, ◌∙◌}
use Rattle.std.proofs.lemmas.Int.{ints}
use Rattle.std.proofs.Math.Dec.{T_prop}
use Rattle.zdomain.specs.declared.interval.Interval.{Interval}
use Rattle.zdomain.specs.Interval.{in_order, interval_of, interval_where}

abbrev between : (lo hi : ℤ) → lo ≤ℤ hi → Interval
between lo hi ordered = record { lo = lo; hi = hi; ordered = ordered }

one_order : (a b : ℤ) (p q : a ≤ℤ b) → p ≡ q
one_order a b p q = ap (λ t. record { le = t }) (T_prop _ p.le q.le)

same_between : (lo hi lo' hi' : ℤ) (p : lo ≤ℤ hi) (q : lo' ≤ℤ hi') → lo ≡ lo' → hi ≡ hi' → between lo hi p ≡ between lo' hi' q
same_between lo hi lo' hi' p q e f =
    subst (λ (a : ℤ). (q : a ≤ℤ hi') → between lo hi p ≡ between a hi' q) e (
    subst (λ (b : ℤ). (q : lo ≤ℤ b) → between lo hi p ≡ between lo b q) f (λ q. ap (between lo hi) (one_order lo hi p q))
    ) q

pub same_ends : (i j : Interval) → i.lo ≡ j.lo → i.hi ≡ j.hi → i ≡ j
same_ends i j = same_between i.lo i.hi j.lo j.hi i.ordered j.ordered

from_test : (i : Interval) (b : Bool) (e : int_le i.lo i.hi ≡ b) → interval_where i.lo i.hi b e ≡ Some i
from_test i true e = ap Some (same_ends _ i refl refl)
from_test i false e = let h = i.ordered in absurd (grind (arith, ints))

-- an interval is the one between its ends
pub from_ends : (i : Interval) → interval_of i.lo i.hi ≡ Some i
from_ends i = from_test i (int_le i.lo i.hi) refl

pub with_ends : (i : Interval) (lo hi : ℤ) → i.lo ≡ lo → i.hi ≡ hi → Some i ≡ interval_of lo hi
with_ends i lo hi e f = sym (from_ends i) ∙ ap (λ a. interval_of a i.hi) e ∙ ap (λ b. interval_of lo b) f

nothing_by_test : (lo hi : ℤ) (b : Bool) (e : int_le lo hi ≡ b) → hi <ℤ lo → interval_where lo hi b e ≡ None
nothing_by_test lo hi true e h = absurd (grind (arith, ints))
nothing_by_test lo hi false e h = refl

-- nothing lies between ends that are out of order
pub nothing_between : (lo hi : ℤ) → hi <ℤ lo → interval_of lo hi ≡ None
nothing_between lo hi = nothing_by_test lo hi (int_le lo hi) refl

some_is : (i j : Interval) → Some i ≡ Some j → i ≡ j
some_is i j e = cc

ends_by_test : (lo hi : ℤ) (b : Bool) (e : int_le lo hi ≡ b) (i : Interval) → interval_where lo hi b e ≡ Some i → (i.lo ≡ lo) × (i.hi ≡ hi)
ends_by_test lo hi true e i f = let same = some_is (between lo hi (in_order lo hi e)) i f in (sym (ap (λ (j : Interval). j.lo) same), sym (ap (λ (j : Interval). j.hi) same))
ends_by_test lo hi false e i f = absurd cc

-- what lies between two ends has them
pub ends_of : (lo hi : ℤ) (i : Interval) → interval_of lo hi ≡ Some i → (i.lo ≡ lo) × (i.hi ≡ hi)
ends_of lo hi = ends_by_test lo hi (int_le lo hi) refl
