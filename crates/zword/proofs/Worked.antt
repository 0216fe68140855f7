-- Values of the definitions, computed.
use Rattle.std.proofs.Common.{◌≡◌, true, false, refl}
use Rattle.zword.specs.declared.binary.BinaryOp.TheVariants.{Add, Sub, Mul, Div, Mod, Or, And}
use Rattle.zword.specs.declared.unary.UnaryOp.TheVariants.{Not, Keep}
use Rattle.zword.specs.declared.question.Question.TheVariants.{Equal, Less, Greater, Test}
use Rattle.zword.specs.declared.count.CountOp.TheVariants.{Up, Down}
use Rattle.zword.specs.Binary.{apply, is_defined}
use Rattle.zword.specs.Unary.{transform}
use Rattle.zword.specs.Question.{holds}
use Rattle.zword.specs.Count.{counted, counting}
use Rattle.zword.specs.declared.addressing.Addressing.TheVariants.{Byte as ByteAddress, Packed}
use Rattle.zword.specs.Addressing.{place_of}

-- 65,535 + 2 is 1; 32,767 + 1 is -32,768
sums : (apply Add 3 4 ≡ 7) × (apply Add 65535 2 ≡ 1) × (apply Add 0x7FFF 1 ≡ 0x8000)
sums = (refl, refl, refl)

-- 1 - 2 is -1; 0 - 0 is 0; -32,768 - 1 is 32,767
differences : (apply Sub 7 4 ≡ 3) × (apply Sub 1 2 ≡ 0xFFFF) × (apply Sub 0 0 ≡ 0) × (apply Sub 0x8000 1 ≡ 0x7FFF)
differences = (refl, refl, refl, refl)

-- -3 by 5 is -15; 256 by 256 is 0; 300 by 300 is 90,000, which is 24,464
products : (apply Mul 0xFFFD 5 ≡ 0xFFF1) × (apply Mul 256 256 ≡ 0) × (apply Mul 300 300 ≡ 24464)
products = (refl, refl, refl)

-- -11 by 2 is -5, -11 by -2 is 5, 11 by -2 is -5 (Z 15)
quotients : (apply Div 0xFFF5 2 ≡ 0xFFFB) × (apply Div 0xFFF5 0xFFFE ≡ 5) × (apply Div 11 0xFFFE ≡ 0xFFFB)
quotients = (refl, refl, refl)

-- -13 by 5 leaves -3, 13 by -5 leaves 3, -13 by -5 leaves -3 (Z 15)
remainders : (apply Mod 0xFFF3 5 ≡ 0xFFFD) × (apply Mod 13 0xFFFB ≡ 3) × (apply Mod 0xFFF3 0xFFFB ≡ 0xFFFD)
remainders = (refl, refl, refl)

-- -32,768 by -1 is -32,768, and leaves 0
at_the_end : (apply Div 0x8000 0xFFFF ≡ 0x8000) × (apply Mod 0x8000 0xFFFF ≡ 0)
at_the_end = (refl, refl)

-- only a quotient and what it leaves ask for a second word that isn't 0
defined : (is_defined Div 0 ≡ false) × (is_defined Mod 0 ≡ false) × (is_defined Div 1 ≡ true) × (is_defined Mod 0xFFFF ≡ true) × (is_defined Mul 0 ≡ true) × (is_defined And 0 ≡ true)
defined = (refl, refl, refl, refl, refl, refl)

defined_always : (is_defined Add 0 ≡ true) × (is_defined Sub 0 ≡ true) × (is_defined Or 0 ≡ true)
defined_always = (refl, refl, refl)

bits : (apply Or 0xF0F0 0x0FF0 ≡ 0xFFF0) × (apply And 0xF0F0 0x0FF0 ≡ 0x00F0)
bits = (refl, refl)

turned : (transform Not 0 ≡ 0xFFFF) × (transform Not 0x8001 ≡ 0x7FFE) × (transform Keep 0x8001 ≡ 0x8001)
turned = (refl, refl, refl)

equal : (holds Equal 5 5 ≡ true) × (holds Equal 5 6 ≡ false) × (holds Equal 0xFFFF 0xFFFF ≡ true)
equal = (refl, refl, refl)

-- 0x7FFF is 32,767 and 0x8000 is -32,768
less : (holds Less 0x8000 0x7FFF ≡ true) × (holds Less 0x7FFF 0x8000 ≡ false) × (holds Less 0xFFFF 0 ≡ true) × (holds Less 4 4 ≡ false)
less = (refl, refl, refl, refl)

greater : (holds Greater 0x7FFF 0x8000 ≡ true) × (holds Greater 0x8000 0x7FFF ≡ false) × (holds Greater 0 0xFFFF ≡ true) × (holds Greater 4 4 ≡ false)
greater = (refl, refl, refl, refl)

-- all bits of the second word, of which there may be none
tests : (holds Test 7 5 ≡ true) × (holds Test 5 7 ≡ false) × (holds Test 5 0 ≡ true) × (holds Test 0xFFFF 0x8000 ≡ true) × (holds Test 0x7FFF 0x8000 ≡ false)
tests = (refl, refl, refl, refl, refl)

counts : (counted Up 0xFFFF ≡ 0) × (counted Up 0x7FFF ≡ 0x8000) × (counted Down 0 ≡ 0xFFFF) × (counted Down 0x8000 ≡ 0x7FFF)
counts = (refl, refl, refl, refl)

counting_is : (counting Up ≡ Add) × (counting Down ≡ Sub)
counting_is = (refl, refl)

-- the byte at 0x1234; the packed address 0x1234 is the byte at 0x2468, and the last one that at 131,070 (Z 1.2)
addresses : (place_of ByteAddress 0x1234 ≡ 0x1234) × (place_of Packed 0x1234 ≡ 0x2468) × (place_of Packed 0xFFFF ≡ 131070)
addresses = (refl, refl, refl)
