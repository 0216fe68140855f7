-- What words make is a word.
use Rattle.std.proofs.Common.{ℕ, suc, ◌*◌, ◌<◌, ℤ, pos, negsuc, ◌≤ℤ◌, int_div, int_rem, unsigned_abs, arith}
use Rattle.std.proofs.lemmas.Int.{ints}
use Rattle.std.proofs.lemmas.Nat.{or_lt, and_le_l}
use Rattle.std.proofs.Math.Nat.{mod-lt, mod-le, div-le_self}
use Rattle.zword.specs.declared.unary.UnaryOp.{UnaryOp}
use Rattle.zword.specs.declared.unary.UnaryOp.TheVariants.{Not, Keep}
use Rattle.zword.specs.declared.binary.BinaryOp.{BinaryOp}
use Rattle.zword.specs.declared.binary.BinaryOp.TheVariants.{Add, Sub, Mul, Div, Mod, Or, And}
use Rattle.zword.specs.declared.count.CountOp.{CountOp}
use Rattle.zword.specs.Unary.{transform}
use Rattle.zword.specs.Binary.{apply, signed, word_of}
use Rattle.zword.specs.Count.{counted, counting}

-- numbers that one word or its complement can be
near : (z : ℤ) → negsuc 32767 ≤ℤ z → z ≤ℤ pos 32768 → word_of z < 65536
near z low high = grind (arith, ints)

quotient_small : (a c : ℤ) → negsuc 32767 ≤ℤ a → a ≤ℤ pos 32767 → word_of (int_div a c) < 65536
quotient_small (pos a) (pos c) l h = let u = div-le_self a c in near (int_div (pos a) (pos c)) (omega (arith, ints)) (omega (arith, ints))
quotient_small (pos a) (negsuc c) l h = let u = div-le_self a (suc c) in near (int_div (pos a) (negsuc c)) (omega (arith, ints)) (omega (arith, ints))
quotient_small (negsuc a) (pos c) l h = let u = div-le_self (suc a) c in near (int_div (negsuc a) (pos c)) (omega (arith, ints)) (omega (arith, ints))
quotient_small (negsuc a) (negsuc c) l h = let u = div-le_self (suc a) (suc c) in near (int_div (negsuc a) (negsuc c)) (omega (arith, ints)) (omega (arith, ints))

remainder_small : (a c : ℤ) → negsuc 32767 ≤ℤ a → a ≤ℤ pos 32767 → word_of (int_rem a c) < 65536
remainder_small (pos a) c l h = let u = mod-le a (unsigned_abs c) in near (int_rem (pos a) c) (omega (arith, ints)) (omega (arith, ints))
remainder_small (negsuc a) c l h = let u = mod-le (suc a) (unsigned_abs c) in near (int_rem (negsuc a) c) (omega (arith, ints)) (omega (arith, ints))

pub applied_small : (op : BinaryOp) (x y : ℕ) → x < 65536 → y < 65536 → apply op x y < 65536
applied_small Add x y a b = omega arith
applied_small Sub x y a b = omega arith
applied_small Mul x y a b = mod-lt (x * y) (omega arith)
applied_small Div x y a b = quotient_small (signed x) (signed y) (omega (arith, ints)) (omega (arith, ints))
applied_small Mod x y a b = remainder_small (signed x) (signed y) (omega (arith, ints)) (omega (arith, ints))
applied_small Or x y a b = or_lt 16 x y a b
applied_small And x y a b = omega (arith, and_le_l x y, a)

pub transformed_small : (op : UnaryOp) (x : ℕ) → x < 65536 → transform op x < 65536
transformed_small Not x a = omega arith
transformed_small Keep x a = a

pub counted_small : (op : CountOp) (x : ℕ) → x < 65536 → counted op x < 65536
counted_small op x a = applied_small (counting op) x 1 a (omega arith)
