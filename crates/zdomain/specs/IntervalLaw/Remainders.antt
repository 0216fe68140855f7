-- A proof of the law: what a quotient leaves has the dividend's sign, and is less than the divisor.
use Rattle.std.proofs.Common.{suc, ◌<◌, ℤ, ◌+ℤ◌, ◌-ℤ◌, pos, negsuc, ◌≤ℤ◌, int_rem, unsigned_abs, arith}
use Rattle.std.specs.Int.{int_min, int_max}
use Rattle.std.proofs.lemmas.Int.{ints, clamps}
use native.Mathlib.Nat.{mod-lt, mod-le}
use Rattle.zdomain.specs.declared.interval.Interval.{Interval}
use Rattle.zdomain.specs.Interval.{HasMember, reach}
use Rattle.zdomain.specs.IntervalLaw.Lying.{Lies}

pub remainder_lies : (x y q lo hi : ℤ) → 0 < unsigned_abs y → pos (unsigned_abs y) ≤ℤ (q +ℤ pos 1) → Lies lo hi x → Lies (int_max (int_min lo (pos 0)) (pos 0 -ℤ q)) (int_min (int_max hi (pos 0)) q) (int_rem x y)
remainder_lies (pos n) y q lo hi o p m =
    let u = mod-lt n o in
    let v = mod-le n (unsigned_abs y) in
    let l = m.0 in let h = m.1 in
    (omega (arith, ints, clamps), omega (arith, ints, clamps))
remainder_lies (negsuc n) y q lo hi o p m =
    let u = mod-lt (suc n) o in
    let v = mod-le (suc n) (unsigned_abs y) in
    let l = m.0 in let h = m.1 in
    (omega (arith, ints, clamps), omega (arith, ints, clamps))

pub reach_bounds : (b : Interval) (y : ℤ) → HasMember b y → pos (unsigned_abs y) ≤ℤ (reach b +ℤ pos 1)
reach_bounds b y m = let l = m.0 in let h = m.1 in omega (arith, ints, clamps)
