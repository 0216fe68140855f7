-- Operands that are kept in place are those that were given.
use Rattle.std.proofs.Common.{◌≡◌, ℕ, ◌+◌, ◌*◌, ◌/◌, ◌%◌, ◌<◌, List, [], ◌∷◌, Some, refl, ap, arith}
use Rattle.zcode.specs.declared.types.OperandType.{OperandType}
use Rattle.zcode.specs.declared.types.OperandType.TheVariants as types
use Rattle.zcode.specs.declared.instr.Operand.{Operand}
use Rattle.zcode.specs.declared.instr.Operand.TheVariants.{Constant, Variable}
use Rattle.zcode.specs.Places.{IsByte, bits_of, operand_of, padded, type_byte, typed, word_of}
use Rattle.zcode.specs.Spelling.{before_omitted, type_of, types_of}

abbrev kind_of : Operand → OperandType
kind_of (Constant word) = types.Large
kind_of (Variable number) = types.Variable

kind_is : (a : Operand) → type_of (bits_of a) ≡ Some (kind_of a)
kind_is (Constant word) = refl
kind_is (Variable number) = refl

bits_small : (a : Operand) → bits_of a < 4
bits_small (Constant word) = omega arith
bits_small (Variable number) = omega arith

again : (a : Operand) → IsByte a → operand_of (kind_of a) (word_of a) ≡ a
again (Constant word) h = refl
again (Variable number) h = let small : number % 256 ≡ number = omega (arith, h) in ap (λ (n : ℕ). Variable n) small

unpacked : (byte a b c d : ℕ) → byte ≡ 64 * a + 16 * b + 4 * c + d → a < 4 → b < 4 → c < 4 → d < 4 → types_of byte ≡ before_omitted (type_of a ∷ type_of b ∷ type_of c ∷ type_of d ∷ [])
unpacked byte a b c d e ha hb hc hd =
    let first : byte / 64 ≡ a = omega arith in
    let second : byte / 16 % 4 ≡ b = omega arith in
    let third : byte / 4 % 4 ≡ c = omega arith in
    let fourth : byte % 4 ≡ d = omega arith in
    rw (first, second, third, fourth) refl

-- The words and the type byte are how the operands are kept.
pub record IsKept (byte : ℕ) (words : List ℕ) (operands : List Operand) : Type 0 where
  pub view : typed (types_of byte) words ≡ operands
  pub words_are : words ≡ padded operands
  pub byte_is : byte ≡ type_byte operands

pub two_kept : (byte wa wb : ℕ) (a b : Operand) → byte ≡ 64 * bits_of a + 16 * bits_of b + 15 → wa ≡ word_of a → wb ≡ word_of b → IsByte a → IsByte b → IsKept byte (wa ∷ wb ∷ 0 ∷ 0 ∷ []) (a ∷ b ∷ [])
two_kept byte wa wb a b e ea eb ha hb =
    let types : types_of byte ≡ before_omitted (type_of (bits_of a) ∷ type_of (bits_of b) ∷ type_of 3 ∷ type_of 3 ∷ []) = unpacked byte (bits_of a) (bits_of b) 3 3 (omega arith) (bits_small a) (bits_small b) (omega arith) (omega arith) in
    record {
      view = rw (ea, eb, types, kind_is a, kind_is b) (simp (again a ha, again b hb));
      words_are = rw (ea, eb) refl;
      byte_is = omega arith;
    }

pub three_kept : (byte wa wb wc : ℕ) (a b c : Operand) → byte ≡ 64 * bits_of a + 16 * bits_of b + 4 * bits_of c + 3 → wa ≡ word_of a → wb ≡ word_of b → wc ≡ word_of c → IsByte a → IsByte b → IsByte c → IsKept byte (wa ∷ wb ∷ wc ∷ 0 ∷ []) (a ∷ b ∷ c ∷ [])
three_kept byte wa wb wc a b c e ea eb ec ha hb hc =
    let types : types_of byte ≡ before_omitted (type_of (bits_of a) ∷ type_of (bits_of b) ∷ type_of (bits_of c) ∷ type_of 3 ∷ []) = unpacked byte (bits_of a) (bits_of b) (bits_of c) 3 (omega arith) (bits_small a) (bits_small b) (bits_small c) (omega arith) in
    record {
      view = rw (ea, eb, ec, types, kind_is a, kind_is b, kind_is c) (simp (again a ha, again b hb, again c hc));
      words_are = rw (ea, eb, ec) refl;
      byte_is = omega arith;
    }

pub four_kept : (byte wa wb wc wd : ℕ) (a b c d : Operand) → byte ≡ 64 * bits_of a + 16 * bits_of b + 4 * bits_of c + bits_of d → wa ≡ word_of a → wb ≡ word_of b → wc ≡ word_of c → wd ≡ word_of d → IsByte a → IsByte b → IsByte c → IsByte d → IsKept byte (wa ∷ wb ∷ wc ∷ wd ∷ []) (a ∷ b ∷ c ∷ d ∷ [])
four_kept byte wa wb wc wd a b c d e ea eb ec ed ha hb hc hd =
    let types : types_of byte ≡ before_omitted (type_of (bits_of a) ∷ type_of (bits_of b) ∷ type_of (bits_of c) ∷ type_of (bits_of d) ∷ []) = unpacked byte (bits_of a) (bits_of b) (bits_of c) (bits_of d) (omega arith) (bits_small a) (bits_small b) (bits_small c) (bits_small d) in
    record {
      view = rw (ea, eb, ec, ed, types, kind_is a, kind_is b, kind_is c, kind_is d) (simp (again a ha, again b hb, again c hc, again d hd));
      words_are = rw (ea, eb, ec, ed) refl;
      byte_is = omega arith;
    }
