-- The numbers of a certificate's file and their widths. Each is written with its highest byte first (own).
use Rattle.std.specs.Prelude.{ℕ, ◌<◌, ◌^◌, List}
use Rattle.byteorder.specs.Endian.{big_bytes}

pub data Number : Type 0 where
  Magic : Number
  Version : Number
  Release : Number
  Checksum : Number
  LoadedLength : Number
  FrameLimit : Number
  RangeCount : Number
  RangeFirst : Number
  RangeLast : Number
  RoutineCount : Number
  RoutineAddress : Number
  LocalCount : Number
  InstructionCount : Number
  InstructionAddress : Number
  RoutineNumber : Number
  Height : Number
  FactCount : Number
  FactAddress : Number
  FactGlobal : Number
  -- an end of an interval, by its unsigned reading
  End : Number
  -- whether a set is an interval or a list
  Kind : Number
  -- how many words a list has
  WordCount : Number
  -- a word of a list, by its unsigned reading
  Word : Number

-- how many bytes a number has
abbrev pub width : Number → ℕ
width Magic = 4
width Version = 1
width Release = 2
width Checksum = 2
width LoadedLength = 4
width FrameLimit = 2
width RangeCount = 2
width RangeFirst = 2
width RangeLast = 2
width RoutineCount = 2
width RoutineAddress = 4
width LocalCount = 1
width InstructionCount = 4
width InstructionAddress = 4
width RoutineNumber = 2
width Height = 1
width FactCount = 4
width FactAddress = 4
width FactGlobal = 1
width End = 2
width Kind = 1
width WordCount = 1
width Word = 2

-- the bytes of a number
abbrev pub number : Number → ℕ → List ℕ
number kind n = big_bytes (width kind) n

-- it has room there
abbrev pub HasRoom : Number → ℕ → Type 0
HasRoom kind n = n < 256 ^ width kind
