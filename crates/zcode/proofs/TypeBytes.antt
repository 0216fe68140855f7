-- The type byte that stands for the types of a head without one.
use Rattle.std.proofs.Common.{◌≡◌, ℕ, zero, suc, ◌+◌, ◌*◌, ◌<◌, [], ◌∷◌, refl, arith}
use Rattle.zcode.specs.Spelling.{long_type, types_of}

-- two types in the top bits, and two operands omitted
pub long_byte : (x y : ℕ) → x < 2 → y < 2 → types_of (0x5F + x * 64 + y * 16) ≡ long_type x ∷ long_type y ∷ []
long_byte zero zero a b = refl
long_byte zero (suc zero) a b = refl
long_byte (suc zero) zero a b = refl
long_byte (suc zero) (suc zero) a b = refl
long_byte (suc (suc x)) y a b = absurd (omega (arith, a))
long_byte x (suc (suc y)) a b = absurd (omega (arith, b))
