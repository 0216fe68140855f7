-- The numbers of faults (own).
use Rattle.std.specs.Prelude.{ℕ}
use Rattle.zfault.specs.declared.fault.Fault.{Fault}
use Rattle.zfault.specs.declared.fault.Fault.TheVariants.{UnlistedInstruction, IllegalOpcode, UnlistedCall, StackUnderflow, AbsentLocal, AbsentObject, AbsentAttribute, AbsentProperty, PropertyTooLong, ZeroDivisor, WriteOutside, ReadOutside, TextOutside, SmallBuffer, ReturnFromMain, BadVariable}

-- the number of a fault, as messages show it: F1 to F16
abbrev pub number_of : Fault → ℕ
number_of UnlistedInstruction = 1
number_of IllegalOpcode = 2
number_of UnlistedCall = 3
number_of StackUnderflow = 4
number_of AbsentLocal = 5
number_of AbsentObject = 6
number_of AbsentAttribute = 7
number_of AbsentProperty = 8
number_of PropertyTooLong = 9
number_of ZeroDivisor = 10
number_of WriteOutside = 11
number_of ReadOutside = 12
number_of TextOutside = 13
number_of SmallBuffer = 14
number_of ReturnFromMain = 15
number_of BadVariable = 16
