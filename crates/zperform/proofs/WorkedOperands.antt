-- Values of the operands of instructions in words, computed.
use Rattle.std.proofs.Common.{◌≡◌, [], ◌∷◌, codes, refl}
use Rattle.std.specs.Fmt.{digits}
use Rattle.zcode.specs.declared.opcode.Opcode.TheVariants as opcodes
use Rattle.zcode.specs.declared.instr.Operand.TheVariants.{Constant, Variable}
use Rattle.zperform.specs.Operands.{meaning_at, operands_text, variable_text}
use Rattle.zperform.specs.declared.operands.Meaning.TheVariants as meanings

variables : (variable_text 0 ≡ codes "stack") × (variable_text 1 ≡ codes "local 1") × (variable_text 15 ≡ codes "local 15") × (variable_text 16 ≡ codes "global 16") × (variable_text 255 ≡ codes "global 255")
unfolding digits
variables = (refl, refl, refl, refl, refl)

-- a third operand is a number
third : (meaning_at opcodes.PutProp 0 ≡ meanings.Object) × (meaning_at opcodes.PutProp 1 ≡ meanings.Property) × (meaning_at opcodes.PutProp 2 ≡ meanings.Number)
third = (refl, refl, refl)

lines :
    (operands_text opcodes.NewLine [] ≡ []) × (operands_text opcodes.GetParent (Variable 33 ∷ []) ≡ codes " global 33")
    × (operands_text opcodes.InsertObj (Constant 5 ∷ Variable 1 ∷ []) ≡ codes " object 5, local 1") × (operands_text opcodes.TestAttr (Constant 12 ∷ Constant 31 ∷ []) ≡ codes " object 12, attribute 31")
    × (operands_text opcodes.PutProp (Variable 0 ∷ Constant 7 ∷ Constant 65535 ∷ []) ≡ codes " stack, property 7, -1")
    × (operands_text opcodes.Store (Constant 17 ∷ Constant 300 ∷ []) ≡ codes " global 17, 300") × (operands_text opcodes.Inc (Variable 2 ∷ []) ≡ codes " [local 2]")
    × (operands_text opcodes.Load (Constant 256 ∷ []) ≡ codes " variable 256") × (operands_text opcodes.Call (Constant 451 ∷ Constant 2 ∷ []) ≡ codes " routine 00386, 2")
unfolding digits
lines = (refl, refl, refl, refl, refl, refl, refl, refl, refl)
