-- A proof of the law: each operation's set has its results.
use Rattle.std.proofs.Common.{◌≡◌, ℕ, suc, ◌+◌, ◌-◌, ◌*◌, ◌%◌, ◌<◌, Bool, true, false, ◌&&◌, ℤ, pos, negsuc, ◌+ℤ◌, ◌-ℤ◌, ◌*ℤ◌, ◌≤ℤ◌, int_le, int_div, int_rem, unsigned_abs, inl, inr, arith, refl, sym, ◌∙◌}
use Rattle.std.specs.Int.{w16, int_wrap}
use Rattle.std.proofs.lemmas.Int.{ints, by_lt_z, to_z-of_z, int_wrap_fits, wrapping_add-bits, wrapping_sub-bits, wrapping_mul-bits}
use native.Mathlib.Nat.{mod-lt, mod-le, div-le_self}
use Rattle.zword.specs.declared.unary.UnaryOp.{UnaryOp}
use Rattle.zword.specs.declared.unary.UnaryOp.TheVariants.{Not, Keep}
use Rattle.zword.specs.declared.binary.BinaryOp.{BinaryOp}
use Rattle.zword.specs.declared.binary.BinaryOp.TheVariants.{Add, Sub, Mul, Div, Mod, Or, And}
use Rattle.zword.specs.Unary.{transform}
use Rattle.zword.specs.Binary.{apply, word_of}
use Rattle.zdomain.specs.declared.interval.Interval.{Interval}
use Rattle.zdomain.specs.Interval.{signed, has_zero, reach, unary, binary}
use Rattle.zdomain.specs.Interval.{signed}
use Rattle.zdomain.specs.IntervalLaw.Lying.{Has, Lies, any_has, le_false, fitting_has, lying_has, ends_lie}
use Rattle.zdomain.specs.IntervalLaw.Products.{mul_first, mul_second}
use Rattle.zdomain.specs.IntervalLaw.Quotients.{OneSign, div_first, div_second, not_zero}
use Rattle.zdomain.specs.IntervalLaw.Remainders.{remainder_lies, reach_bounds}
use Rattle.zdomain.specs.IntervalLaw.Bits.{and_has, or_has}

sum_has : (a b : Interval) (x y : ℕ) → Has a x → Has b y → Has (binary Add a b) (apply Add x y)
sum_has a b x y i j =
    let h = i.member.0 in let k = i.member.1 in let l = j.member.0 in let m = j.member.1 in
    fitting_has ((x + y) % 65536) (signed x +ℤ signed y) (omega arith) (wrapping_add-bits w16 x y i.word j.word) (a.lo +ℤ b.lo) (a.hi +ℤ b.hi) (omega (arith, ints), omega (arith, ints))

difference_has : (a b : Interval) (x y : ℕ) → Has a x → Has b y → Has (binary Sub a b) (apply Sub x y)
difference_has a b x y i j =
    let h = i.member.0 in let k = i.member.1 in let l = j.member.0 in let m = j.member.1 in
    fitting_has ((x + (65536 - y)) % 65536) (signed x -ℤ signed y) (omega arith) (wrapping_sub-bits w16 x y i.word j.word) (a.lo -ℤ b.hi) (a.hi -ℤ b.lo) (omega (arith, ints), omega (arith, ints))

product_has : (a b : Interval) (x y : ℕ) → Has a x → Has b y → Has (binary Mul a b) (apply Mul x y)
product_has a b x y i j =
    fitting_has ((x * y) % 65536) (signed x *ℤ signed y) (mod-lt (x * y) (omega arith)) (wrapping_mul-bits w16 x y i.word j.word) _ _
    (ends_lie ◌*ℤ◌ a b (signed x) (signed y) (λ lo hi. mul_first lo hi a.lo a.hi (signed x) (signed y) i.member.0 i.member.1) (λ lo hi u. mul_second lo hi u b.lo b.hi (signed y) j.member.0 j.member.1))

-- ---- quotients

word_lies : (x : ℕ) → Lies (negsuc 32767) (pos 32767) (signed x)
word_lies x = (omega (arith, ints), omega (arith, ints))

pub quotient_near : (a c : ℤ) → Lies (negsuc 32767) (pos 32767) a → Lies (negsuc 32767) (pos 32768) (int_div a c)
quotient_near (pos a) (pos c) f = let u = div-le_self a c in let l = f.0 in let h = f.1 in (omega (arith, ints), omega (arith, ints))
quotient_near (pos a) (negsuc c) f = let u = div-le_self a (suc c) in let l = f.0 in let h = f.1 in (omega (arith, ints), omega (arith, ints))
quotient_near (negsuc a) (pos c) f = let u = div-le_self (suc a) c in let l = f.0 in let h = f.1 in (omega (arith, ints), omega (arith, ints))
quotient_near (negsuc a) (negsuc c) f = let u = div-le_self (suc a) (suc c) in let l = f.0 in let h = f.1 in (omega (arith, ints), omega (arith, ints))

remainder_near : (a c : ℤ) → Lies (negsuc 32767) (pos 32767) a → Lies (negsuc 32767) (pos 32768) (int_rem a c)
remainder_near (pos a) c f = let u = mod-le a (unsigned_abs c) in let l = f.0 in let h = f.1 in (omega (arith, ints), omega (arith, ints))
remainder_near (negsuc a) c f = let u = mod-le (suc a) (unsigned_abs c) in let l = f.0 in let h = f.1 in (omega (arith, ints), omega (arith, ints))

past_the_end : int_wrap w16 (pos 32768) ≡ negsuc 32767
unfolding int_wrap
past_the_end = refl

-- the word of a number that is at most one too great
near_word : (z : ℤ) → Lies (negsuc 32767) (pos 32768) z → (word_of z < 65536) × (signed (word_of z) ≡ int_wrap w16 z)
near_word z f =
    let l = f.0 in let h = f.1 in
    by_lt_z z (pos 32768)
    (λ below. (grind (arith, ints), to_z-of_z w16 z (omega (arith, ints)) ∙ sym (int_wrap_fits w16 z (omega (arith, ints)))))
    (λ above.
    let is : z ≡ pos 32768 = omega (arith, ints) in
    rw is (omega arith, sym past_the_end))

-- 0 is a divisor, or all divisors have one sign
by_zero : {P : Type 0} (b : Interval) → (has_zero b ≡ true → P) → (has_zero b ≡ false → OneSign b.lo b.hi → P) → P
by_zero {P} b some none = by (int_le b.lo (pos 0)) (int_le (pos 0) b.hi) refl refl some none
  where
    by : (p q : Bool) → int_le b.lo (pos 0) ≡ p → int_le (pos 0) b.hi ≡ q → (p && q ≡ true → P) → (p && q ≡ false → OneSign b.lo b.hi → P) → P
    by true true e f some none = some refl
    by true false e f some none = none refl (inr (le_false (pos 0) b.hi f))
    by false q e f some none = none refl (inl (le_false b.lo (pos 0) e))

quotient_has : (a b : Interval) (x y : ℕ) → Has a x → Has b y → Has (binary Div a b) (apply Div x y)
quotient_has a b x y i j =
    let z = int_div (signed x) (signed y) in
    let w = near_word z (quotient_near (signed x) (signed y) (word_lies x)) in
    by_zero b (λ e. rw e (any_has (word_of z) w.0))
    (λ e o. rw e (fitting_has (word_of z) z w.0 w.1 _ _
    (ends_lie int_div a b (signed x) (signed y) (λ lo hi. div_first lo hi a.lo a.hi (signed x) (signed y) (not_zero b.lo b.hi (signed y) o j.member.0 j.member.1) i.member.0 i.member.1) (λ lo hi u. div_second lo hi u b.lo b.hi (signed y) o j.member.0 j.member.1))))

not_none : (c d y : ℤ) → OneSign c d → c ≤ℤ y → y ≤ℤ d → 0 < unsigned_abs y
not_none c d y (inl o) p q = omega (arith, ints)
not_none c d y (inr o) p q = omega (arith, ints)

remainder_has : (a b : Interval) (x y : ℕ) → Has a x → Has b y → Has (binary Mod a b) (apply Mod x y)
remainder_has a b x y i j =
    let z = int_rem (signed x) (signed y) in
    let w = near_word z (remainder_near (signed x) (signed y) (word_lies x)) in
    by_zero b (λ e. rw e (any_has (word_of z) w.0))
    (λ e o. rw e (fitting_has (word_of z) z w.0 w.1 _ _
    (remainder_lies (signed x) (signed y) (reach b) a.lo a.hi (not_none b.lo b.hi (signed y) o j.member.0 j.member.1) (reach_bounds b (signed y) j.member) i.member)))

-- ---- all of them

turned : (x : ℕ) → x < 65536 → signed (65535 - x) ≡ negsuc 0 -ℤ signed x
turned x h = grind (arith, ints)

pub unary_has : (op : UnaryOp) (a : Interval) (x : ℕ) → Has a x → Has (unary op a) (transform op x)
unary_has Not a x i =
    let l = i.member.0 in let h = i.member.1 in let e = turned x i.word in
    lying_has (65535 - x) (negsuc 0 -ℤ a.hi) (negsuc 0 -ℤ a.lo) (omega arith) (rw e (omega (arith, ints), omega (arith, ints)))
unary_has Keep a x i = i

pub binary_has : (op : BinaryOp) (a b : Interval) (x y : ℕ) → Has a x → Has b y → Has (binary op a b) (apply op x y)
binary_has Add = sum_has
binary_has Sub = difference_has
binary_has Mul = product_has
binary_has Div = quotient_has
binary_has Mod = remainder_has
binary_has Or = or_has
binary_has And = and_has
