-- A proof of the law: products lie between the products of the ends.
use Rattle.std.proofs.Common.{suc, ℤ, pos, negsuc, ◌*ℤ◌, ◌≤ℤ◌, arith}
use Rattle.std.proofs.lemmas.Int.{ints}
use native.Mathlib.Nat.{mul-le-mul_right}
use borrow.Author.Differences.{le_out}
use lib.IntN.{*ℤ_comm}
use Rattle.zdomain.specs.IntervalLaw.Lying.{Lies}

-- what bounds the products of both ends bounds the product
pub mul_first : (s t : ℤ) (a b x y : ℤ) → a ≤ℤ x → x ≤ℤ b → Lies s t (a *ℤ y) → Lies s t (b *ℤ y) → Lies s t (x *ℤ y)
mul_first s t a b x (pos n) p q m k =
    let u = mul-le-mul_right n (le_out a x p) in
    let v = mul-le-mul_right n (le_out x b q) in
    let ml = m.0 in let kh = k.1 in
    (omega (arith, ints), omega (arith, ints))
mul_first s t a b x (negsuc n) p q m k =
    let u = mul-le-mul_right (suc n) (le_out a x p) in
    let v = mul-le-mul_right (suc n) (le_out x b q) in
    let mh = m.1 in let kl = k.0 in
    (omega (arith, ints), omega (arith, ints))

pub mul_second : (s t : ℤ) (x c d y : ℤ) → c ≤ℤ y → y ≤ℤ d → Lies s t (x *ℤ c) → Lies s t (x *ℤ d) → Lies s t (x *ℤ y)
mul_second s t x c d y p q m k =
    rw (*ℤ_comm x y) (mul_first s t c d y x p q (rw (*ℤ_comm c x) m) (rw (*ℤ_comm d x) k))
