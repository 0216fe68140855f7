-- The word that two words make (Z 2.2, 2.3, 15). Words are natural numbers below 65,536 (Z 2.1).
use Rattle.std.specs.Prelude.{ℕ, ◌+◌, ◌-◌, ◌*◌, ◌%◌, Bool, true, not, ◌==◌, ℤ, int_div, int_rem, bit_and, bit_or}
use Rattle.std.specs.Int.{w16, cast_signed, cast_unsigned}
use Rattle.zword.specs.declared.binary.BinaryOp.{BinaryOp}
use Rattle.zword.specs.declared.binary.BinaryOp.TheVariants.{Add, Sub, Mul, Div, Mod, Or, And}

-- a word read as a signed number (Z 2.2)
abbrev pub signed : ℕ → ℤ
signed word = cast_signed w16 word

-- the word whose signed reading is the number; 32,768 shares that of -32,768 (Z 2.2)
abbrev pub word_of : ℤ → ℕ
word_of z = cast_unsigned w16 z

-- nothing is divided by 0 (Z 2.3.1)
abbrev pub is_defined : BinaryOp → ℕ → Bool
is_defined Div y = not (y == 0)
is_defined Mod y = not (y == 0)
is_defined Add y = true
is_defined Sub y = true
is_defined Mul y = true
is_defined Or y = true
is_defined And y = true

-- what two words make, each operation modulo 65,536; quotients round toward zero, and what they leave has the sign of the
-- first (Z 15 add, sub, mul, div, mod, or, and). By 0 it is some word, for which nothing asks.
abbrev pub apply : BinaryOp → ℕ → ℕ → ℕ
apply Add x y = (x + y) % 65536
apply Sub x y = (x + (65536 - y)) % 65536
apply Mul x y = (x * y) % 65536
apply Div x y = word_of (int_div (signed x) (signed y))
apply Mod x y = word_of (int_rem (signed x) (signed y))
apply Or x y = bit_or x y
apply And x y = bit_and x y
