-- The whole table of opcodes as the standard gives it (Z 14, 15), in the order of the numbers from 0 on, beside what the definitions
-- say: the name, the fewest and the most operands, whether a store byte, branch data and text follow, what is done, and what is read
-- behind the operands.
use Rattle.std.proofs.Common.{◌≡◌, ℕ, Bool, true, false, List, [], ◌∷◌, map, Some, None, Ok, Err, refl}
use Rattle.std.specs.Prelude.{codes}
use Rattle.zword.specs.declared.unary.UnaryOp.TheVariants as unary
use Rattle.zword.specs.declared.binary.BinaryOp.TheVariants as binary
use Rattle.zword.specs.declared.question.Question.TheVariants as questions
use Rattle.zword.specs.declared.count.CountOp.TheVariants as counts
use Rattle.zword.specs.declared.addressing.Addressing.TheVariants as addressings
use Rattle.zarray.specs.declared.width.Width.TheVariants as widths
use Rattle.zobj.specs.declared.tree.Link.TheVariants as links
use Rattle.zobj.specs.declared.answers.PropertyQuestion.TheVariants as properties
use Rattle.zcode.specs.declared.error.DecodeError.TheVariants.{NoSuchOpcode, NotInProfile}
use Rattle.zcode.specs.declared.table.OperandCount.TheVariants.{Two, One, Zero, Many}
use Rattle.zcode.specs.declared.instr.Operand.{Operand}
use Rattle.zcode.specs.declared.instr.Operand.TheVariants.{Constant, Variable}
use Rattle.zcode.specs.declared.operation.Operation.{Operation}
use Rattle.zcode.specs.declared.operation.Operation.TheVariants.{Unary, Binary, Compare, Count, Store, Load, Jump, Verify, PrintChar, PrintNumber, Print, NewLine, Nop, Quit, Return, PrintReturn, Call, Inside, TestAttribute, Follow, SetAttribute, ClearAttribute, Insert, Remove, Property, PropertyLength, SetProperty, PrintObject, PrintAt, ShowStatus, LoadArray, StoreArray, Random, ReadLine, Save, Restore, Restart}
use Rattle.zcode.specs.Names.{name_of, excluded_name}
use Rattle.zcode.specs.Opcodes.{Entry, table, operand_bounds, stores, branches, prints_text}
use Rattle.zcode.specs.Operation.{operation_of, implied}

-- what stands at a number: an opcode, one that is out of the profile, no opcode, or what may not stand there
data Said : Type 0 where
  row : List ℕ → ℕ → ℕ → Bool → Bool → Bool → Operation → List Operand → Said
  left_out : List ℕ → Said
  nothing : Said
  other : Said

said : Entry → Said
said (Ok opcode) = row (name_of opcode) (operand_bounds opcode).0 (operand_bounds opcode).1 (stores opcode) (branches opcode) (prints_text opcode) (operation_of opcode) (implied opcode)
said (Err NoSuchOpcode) = nothing
said (Err (NotInProfile opcode)) = left_out (excluded_name opcode)
said (Err _) = other

two_operands : map said (table Two) ≡
    nothing ∷
    row (codes "je") 2 4 false true false (Compare questions.Equal) [] ∷
    row (codes "jl") 2 2 false true false (Compare questions.Less) [] ∷
    row (codes "jg") 2 2 false true false (Compare questions.Greater) [] ∷
    row (codes "dec_chk") 2 2 false true false (Count counts.Down (Some questions.Less)) [] ∷
    row (codes "inc_chk") 2 2 false true false (Count counts.Up (Some questions.Greater)) [] ∷
    row (codes "jin") 2 2 false true false Inside [] ∷
    row (codes "test") 2 2 false true false (Compare questions.Test) [] ∷
    row (codes "or") 2 2 true false false (Binary binary.Or) [] ∷
    row (codes "and") 2 2 true false false (Binary binary.And) [] ∷
    row (codes "test_attr") 2 2 false true false TestAttribute [] ∷
    row (codes "set_attr") 2 2 false false false SetAttribute [] ∷
    row (codes "clear_attr") 2 2 false false false ClearAttribute [] ∷
    row (codes "store") 2 2 false false false Store [] ∷
    row (codes "insert_obj") 2 2 false false false Insert [] ∷
    row (codes "loadw") 2 2 true false false (LoadArray widths.Word) [] ∷
    row (codes "loadb") 2 2 true false false (LoadArray widths.Byte) [] ∷
    row (codes "get_prop") 2 2 true false false (Property properties.Value) [] ∷
    row (codes "get_prop_addr") 2 2 true false false (Property properties.Address) [] ∷
    row (codes "get_next_prop") 2 2 true false false (Property properties.Next) [] ∷
    row (codes "add") 2 2 true false false (Binary binary.Add) [] ∷
    row (codes "sub") 2 2 true false false (Binary binary.Sub) [] ∷
    row (codes "mul") 2 2 true false false (Binary binary.Mul) [] ∷
    row (codes "div") 2 2 true false false (Binary binary.Div) [] ∷
    row (codes "mod") 2 2 true false false (Binary binary.Mod) [] ∷ []
unfolding said operation_of
two_operands = refl

one_operand : map said (table One) ≡
    row (codes "jz") 1 1 false true false (Compare questions.Equal) (Constant 0 ∷ []) ∷
    row (codes "get_sibling") 1 1 true true false (Follow links.Sibling) [] ∷
    row (codes "get_child") 1 1 true true false (Follow links.Child) [] ∷
    row (codes "get_parent") 1 1 true false false (Follow links.Parent) [] ∷
    row (codes "get_prop_len") 1 1 true false false PropertyLength [] ∷
    row (codes "inc") 1 1 false false false (Count counts.Up None) [] ∷
    row (codes "dec") 1 1 false false false (Count counts.Down None) [] ∷
    row (codes "print_addr") 1 1 false false false (PrintAt addressings.Byte) [] ∷
    nothing ∷
    row (codes "remove_obj") 1 1 false false false Remove [] ∷
    row (codes "print_obj") 1 1 false false false PrintObject [] ∷
    row (codes "ret") 1 1 false false false Return [] ∷
    row (codes "jump") 1 1 false false false Jump [] ∷
    row (codes "print_paddr") 1 1 false false false (PrintAt addressings.Packed) [] ∷
    row (codes "load") 1 1 true false false Load [] ∷
    row (codes "not") 1 1 true false false (Unary unary.Not) [] ∷ []
unfolding said operation_of
one_operand = refl

no_operand : map said (table Zero) ≡
    row (codes "rtrue") 0 0 false false false Return (Constant 1 ∷ []) ∷
    row (codes "rfalse") 0 0 false false false Return (Constant 0 ∷ []) ∷
    row (codes "print") 0 0 false false true Print [] ∷
    row (codes "print_ret") 0 0 false false true PrintReturn [] ∷
    row (codes "nop") 0 0 false false false Nop [] ∷
    row (codes "save") 0 0 false true false Save [] ∷
    row (codes "restore") 0 0 false true false Restore [] ∷
    row (codes "restart") 0 0 false false false Restart [] ∷
    row (codes "ret_popped") 0 0 false false false Return (Variable 0 ∷ []) ∷
    row (codes "pop") 0 0 false false false Nop (Variable 0 ∷ []) ∷
    row (codes "quit") 0 0 false false false Quit [] ∷
    row (codes "new_line") 0 0 false false false NewLine [] ∷
    row (codes "show_status") 0 0 false false false ShowStatus [] ∷
    row (codes "verify") 0 0 false true false Verify [] ∷ []
unfolding said operation_of
no_operand = refl

many_operands : map said (table Many) ≡
    row (codes "call") 1 4 true false false Call [] ∷
    row (codes "storew") 3 3 false false false (StoreArray widths.Word) [] ∷
    row (codes "storeb") 3 3 false false false (StoreArray widths.Byte) [] ∷
    row (codes "put_prop") 3 3 false false false SetProperty [] ∷
    row (codes "sread") 2 2 false false false ReadLine [] ∷
    row (codes "print_char") 1 1 false false false PrintChar [] ∷
    row (codes "print_num") 1 1 false false false PrintNumber [] ∷
    row (codes "random") 1 1 true false false Random [] ∷
    row (codes "push") 1 1 false false false (Unary unary.Keep) [] ∷
    row (codes "pull") 1 1 false false false Store (Variable 0 ∷ []) ∷
    left_out (codes "split_window") ∷
    left_out (codes "set_window") ∷
    nothing ∷
    nothing ∷
    nothing ∷
    nothing ∷
    nothing ∷
    nothing ∷
    nothing ∷
    left_out (codes "output_stream") ∷
    left_out (codes "input_stream") ∷
    left_out (codes "sound_effect") ∷ []
unfolding said operation_of
many_operands = refl
