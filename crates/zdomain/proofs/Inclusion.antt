-- An interval lies within another where its ends do, since its ends are members.
use Rattle.std.proofs.Common.{ℤ, ◌↔◌, ◌≤ℤ◌, FitsSigned, arith, to_z, of_z}
use Rattle.std.proofs.lemmas.Int.{ints, to_z-of_z}
use Rattle.std.specs.Int.{w16, cast_unsigned}
use Rattle.std.specs.Int.Signed.{≤ℤ_refl}
use Rattle.std.specs.Prelude.{IsTrue, int_le}
use Rattle.zdomain.specs.declared.interval.Interval.{Interval}
use Rattle.zdomain.specs.Domain.{In, Within}
use Rattle.zdomain.specs.Interval.{HasMember, interval_operations}

-- the word of a member
member_in : (a : Interval) (z : ℤ) → FitsSigned w16 z → HasMember a z → In interval_operations a (cast_unsigned w16 z)
member_in a z fits m = record { word = omega (arith, ints, fits.sfits); member = rw (to_z-of_z w16 z fits) m }

-- a number whose word is in the set
in_member : (a : Interval) (z : ℤ) → FitsSigned w16 z → In interval_operations a (cast_unsigned w16 z) → HasMember a z
in_member a z fits i = let m = i.member in rw (to_z-of_z w16 z fits) at m

ends_within : (a b : Interval) → b.lo ≤ℤ a.lo → a.hi ≤ℤ b.hi → Within interval_operations a b
ends_within a b lo hi word i =
    let l = i.member.0 in let h = i.member.1 in
    record { word = i.word; member = (omega (arith, ints), omega (arith, ints)) }

within_ends : (a b : Interval) → FitsSigned w16 a.lo → FitsSigned w16 a.hi → Within interval_operations a b → (b.lo ≤ℤ a.lo) × (a.hi ≤ℤ b.hi)
within_ends a b lo hi w = (
  (in_member b a.lo lo (w _ (member_in a a.lo lo (≤ℤ_refl a.lo, a.ordered)))).0,
  (in_member b a.hi hi (w _ (member_in a a.hi hi (a.ordered, ≤ℤ_refl a.hi)))).1,
)

test_holds : (x y : ℤ) → IsTrue (int_le x y) → x ≤ℤ y
test_holds x y t = grind (arith, ints)

test_passes : (x y : ℤ) → x ≤ℤ y → IsTrue (int_le x y)
test_passes x y h = grind (arith, ints)

-- once the lower ends are in order, the upper ends decide: both as the code reads them
pub ends_decide : (a b : Interval) → FitsSigned w16 a.lo → FitsSigned w16 a.hi → FitsSigned w16 b.lo → FitsSigned w16 b.hi → IsTrue (int_le (to_z w16 (of_z w16 b.lo)) (to_z w16 (of_z w16 a.lo))) → IsTrue (int_le (to_z w16 (of_z w16 a.hi)) (to_z w16 (of_z w16 b.hi))) ↔ Within interval_operations a b
ends_decide a b low high other_low other_high = rw (to_z-of_z w16 a.lo low, to_z-of_z w16 a.hi high, to_z-of_z w16 b.lo other_low, to_z-of_z w16 b.hi other_high) (λ below.
    (λ t. ends_within a b (test_holds b.lo a.lo below) (test_holds a.hi b.hi t), λ w. test_passes a.hi b.hi (within_ends a b low high w).1))
