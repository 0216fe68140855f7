-- What the standard says of each opcode, but for its number (Z 14, 15; that no other number of operands is taken is own): the one table
-- from which every layer takes it.
use Rattle.std.specs.Prelude.{ℕ, List, Some, None, codes}
use Rattle.zword.specs.declared.unary.UnaryOp.TheVariants as unary
use Rattle.zword.specs.declared.binary.BinaryOp.TheVariants as binary
use Rattle.zword.specs.declared.question.Question.TheVariants as questions
use Rattle.zword.specs.declared.count.CountOp.TheVariants as counts
use Rattle.zword.specs.declared.addressing.Addressing.TheVariants as addressings
use Rattle.zarray.specs.declared.width.Width.TheVariants as widths
use Rattle.zobj.specs.declared.tree.Link.TheVariants as links
use Rattle.zobj.specs.declared.answers.PropertyQuestion.TheVariants as properties
use Rattle.zcode.specs.declared.opcode.Opcode.{Opcode}
use Rattle.zcode.specs.declared.opcode.Opcode.TheVariants as opcodes
use Rattle.zcode.specs.declared.operation.Operation.{Operation}
use Rattle.zcode.specs.declared.operation.Operation.TheVariants.{Unary, Binary, Compare, Count, Store, Load, Jump, Verify, PrintChar, PrintNumber, Print, NewLine, Nop, Quit, Return, PrintReturn, Call, Inside, TestAttribute, Follow, SetAttribute, ClearAttribute, Insert, Remove, Property, PropertyLength, SetProperty, PrintObject, PrintAt, ShowStatus, LoadArray, StoreArray, Random, ReadLine, Save, Restore, Restart}
use Rattle.zcode.specs.declared.profile.Profile.{Profile as ARow}
use Rattle.zcode.specs.declared.profile.Tail.{Tail}
use Rattle.zcode.specs.declared.profile.Tail.TheVariants.{Plain, Stores, Branches, StoresAndBranches, Text}

pub record Profile : Type 0 where
  pub name : List ℕ
  -- the fewest operands, and the most
  pub bounds : ℕ × ℕ
  -- what follows them
  pub tail : Tail
  pub operation : Operation

-- the code's row
abbrev pub seen : ARow → Profile
seen r = record { name = r.name.now; bounds = r.bounds; tail = r.tail; operation = r.operation }

abbrev pub row : List ℕ → ℕ × ℕ → Tail → Operation → Profile
row name bounds tail operation = record { name = name; bounds = bounds; tail = tail; operation = operation }

abbrev pub profile_of : Opcode → Profile
profile_of opcodes.Je = row (codes "je") (2, 4) Branches (Compare questions.Equal)
profile_of opcodes.Jl = row (codes "jl") (2, 2) Branches (Compare questions.Less)
profile_of opcodes.Jg = row (codes "jg") (2, 2) Branches (Compare questions.Greater)
profile_of opcodes.DecChk = row (codes "dec_chk") (2, 2) Branches (Count counts.Down (Some questions.Less))
profile_of opcodes.IncChk = row (codes "inc_chk") (2, 2) Branches (Count counts.Up (Some questions.Greater))
profile_of opcodes.Jin = row (codes "jin") (2, 2) Branches Inside
profile_of opcodes.Test = row (codes "test") (2, 2) Branches (Compare questions.Test)
profile_of opcodes.Or = row (codes "or") (2, 2) Stores (Binary binary.Or)
profile_of opcodes.And = row (codes "and") (2, 2) Stores (Binary binary.And)
profile_of opcodes.TestAttr = row (codes "test_attr") (2, 2) Branches TestAttribute
profile_of opcodes.SetAttr = row (codes "set_attr") (2, 2) Plain SetAttribute
profile_of opcodes.ClearAttr = row (codes "clear_attr") (2, 2) Plain ClearAttribute
profile_of opcodes.Store = row (codes "store") (2, 2) Plain Store
profile_of opcodes.InsertObj = row (codes "insert_obj") (2, 2) Plain Insert
profile_of opcodes.Loadw = row (codes "loadw") (2, 2) Stores (LoadArray widths.Word)
profile_of opcodes.Loadb = row (codes "loadb") (2, 2) Stores (LoadArray widths.Byte)
profile_of opcodes.GetProp = row (codes "get_prop") (2, 2) Stores (Property properties.Value)
profile_of opcodes.GetPropAddr = row (codes "get_prop_addr") (2, 2) Stores (Property properties.Address)
profile_of opcodes.GetNextProp = row (codes "get_next_prop") (2, 2) Stores (Property properties.Next)
profile_of opcodes.Add = row (codes "add") (2, 2) Stores (Binary binary.Add)
profile_of opcodes.Sub = row (codes "sub") (2, 2) Stores (Binary binary.Sub)
profile_of opcodes.Mul = row (codes "mul") (2, 2) Stores (Binary binary.Mul)
profile_of opcodes.Div = row (codes "div") (2, 2) Stores (Binary binary.Div)
profile_of opcodes.Mod = row (codes "mod") (2, 2) Stores (Binary binary.Mod)
profile_of opcodes.Jz = row (codes "jz") (1, 1) Branches (Compare questions.Equal)
profile_of opcodes.GetSibling = row (codes "get_sibling") (1, 1) StoresAndBranches (Follow links.Sibling)
profile_of opcodes.GetChild = row (codes "get_child") (1, 1) StoresAndBranches (Follow links.Child)
profile_of opcodes.GetParent = row (codes "get_parent") (1, 1) Stores (Follow links.Parent)
profile_of opcodes.GetPropLen = row (codes "get_prop_len") (1, 1) Stores PropertyLength
profile_of opcodes.Inc = row (codes "inc") (1, 1) Plain (Count counts.Up None)
profile_of opcodes.Dec = row (codes "dec") (1, 1) Plain (Count counts.Down None)
profile_of opcodes.PrintAddr = row (codes "print_addr") (1, 1) Plain (PrintAt addressings.Byte)
profile_of opcodes.RemoveObj = row (codes "remove_obj") (1, 1) Plain Remove
profile_of opcodes.PrintObj = row (codes "print_obj") (1, 1) Plain PrintObject
profile_of opcodes.Ret = row (codes "ret") (1, 1) Plain Return
profile_of opcodes.Jump = row (codes "jump") (1, 1) Plain Jump
profile_of opcodes.PrintPaddr = row (codes "print_paddr") (1, 1) Plain (PrintAt addressings.Packed)
profile_of opcodes.Load = row (codes "load") (1, 1) Stores Load
profile_of opcodes.Not = row (codes "not") (1, 1) Stores (Unary unary.Not)
profile_of opcodes.Rtrue = row (codes "rtrue") (0, 0) Plain Return
profile_of opcodes.Rfalse = row (codes "rfalse") (0, 0) Plain Return
profile_of opcodes.Print = row (codes "print") (0, 0) Text Print
profile_of opcodes.PrintRet = row (codes "print_ret") (0, 0) Text PrintReturn
profile_of opcodes.Nop = row (codes "nop") (0, 0) Plain Nop
profile_of opcodes.Save = row (codes "save") (0, 0) Branches Save
profile_of opcodes.Restore = row (codes "restore") (0, 0) Branches Restore
profile_of opcodes.Restart = row (codes "restart") (0, 0) Plain Restart
profile_of opcodes.RetPopped = row (codes "ret_popped") (0, 0) Plain Return
profile_of opcodes.Pop = row (codes "pop") (0, 0) Plain Nop
profile_of opcodes.Quit = row (codes "quit") (0, 0) Plain Quit
profile_of opcodes.NewLine = row (codes "new_line") (0, 0) Plain NewLine
profile_of opcodes.ShowStatus = row (codes "show_status") (0, 0) Plain ShowStatus
profile_of opcodes.Verify = row (codes "verify") (0, 0) Branches Verify
profile_of opcodes.Call = row (codes "call") (1, 4) Stores Call
profile_of opcodes.Storew = row (codes "storew") (3, 3) Plain (StoreArray widths.Word)
profile_of opcodes.Storeb = row (codes "storeb") (3, 3) Plain (StoreArray widths.Byte)
profile_of opcodes.PutProp = row (codes "put_prop") (3, 3) Plain SetProperty
profile_of opcodes.Sread = row (codes "sread") (2, 2) Plain ReadLine
profile_of opcodes.PrintChar = row (codes "print_char") (1, 1) Plain PrintChar
profile_of opcodes.PrintNum = row (codes "print_num") (1, 1) Plain PrintNumber
profile_of opcodes.Random = row (codes "random") (1, 1) Stores Random
profile_of opcodes.Push = row (codes "push") (1, 1) Plain (Unary unary.Keep)
profile_of opcodes.Pull = row (codes "pull") (1, 1) Plain Store
