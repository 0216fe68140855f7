-- Why a file is no story of this profile: each cause with its number, and which of several decides (own).
use Rattle.std.specs.Prelude.{◌≢◌, ℕ, ◌+◌, ◌*◌, ◌<◌, ◌≤◌, ◌⊎◌, List, length, ⊤}
use Rattle.zstory.specs.declared.load_error.LoadError.{LoadError}
use Rattle.zstory.specs.declared.load_error.LoadError.TheVariants.{TooShort, TooLong, NotVersion3, LengthWord, StaticBase, Globals, Objects, Dictionary, EntryLength, DictionaryOrder, FirstInstruction, OutOfMemory}
use Rattle.zstory.specs.Bytes.{readable_end}
use Rattle.zstory.specs.Header.{version, length_word, static_base, globals, object_table, dictionary, first_instruction}
use Rattle.zstory.specs.Dictionary.{entry_length, dictionary_end, HasFallingEntries}
use Rattle.zstory.specs.Loading.{stated_part}

-- the number of a refusal, L1 to L12
abbrev pub number_of : LoadError → ℕ
number_of TooShort = 1
number_of TooLong = 2
number_of NotVersion3 = 3
number_of LengthWord = 4
number_of StaticBase = 5
number_of Globals = 6
number_of Objects = 7
number_of Dictionary = 8
number_of EntryLength = 9
number_of DictionaryOrder = 10
number_of FirstInstruction = 11
number_of OutOfMemory = 12

-- The causes of L1 to L4 are facts of a file.

-- L1
abbrev pub IsTooShort : List ℕ → Type 0
IsTooShort file = length file < 64

-- L2: no story of version 3 is longer (Z 1.1.4)
abbrev pub IsTooLong : List ℕ → Type 0
IsTooLong file = 131072 < length file

-- L3
abbrev pub HasOtherVersion : List ℕ → Type 0
HasOtherVersion file = version file ≢ 3

-- L4: a length is stated, and is less than a header's or more than the file's
abbrev pub HasWrongLength : List ℕ → Type 0
HasWrongLength file = (length_word file ≢ 0) × ((2 * length_word file < 64) ⊎ (length file < 2 * length_word file))

-- The causes of L5 to L11 are facts of the file's stated part, which is its loaded memory but for Flags 1.

-- L5
abbrev pub HasWrongBase : List ℕ → Type 0
HasWrongBase memory = (static_base memory < 64) ⊎ (length memory < static_base memory)

-- a table of so many bytes isn't wholly in dynamic memory behind the header
abbrev pub IsMisplaced : List ℕ → ℕ → ℕ → Type 0
IsMisplaced memory at size = (at < 64) ⊎ (static_base memory < at + size)

-- L6: the 240 words of the globals (Z 6.2)
abbrev pub HasWrongGlobals : List ℕ → Type 0
HasWrongGlobals memory = IsMisplaced memory (globals memory) 480

-- L7: the 31 words of property defaults (Z 12.2)
abbrev pub HasWrongDefaults : List ℕ → Type 0
HasWrongDefaults memory = IsMisplaced memory (object_table memory) 62

-- L8: the dictionary isn't wholly static and readable
abbrev pub HasWrongDictionary : List ℕ → Type 0
HasWrongDictionary memory = (dictionary memory < static_base memory) ⊎ (readable_end memory < dictionary_end memory)

-- L9: an entry has no room for its text. L10 is `HasFallingEntries` of the dictionary
abbrev pub HasShortEntries : List ℕ → Type 0
HasShortEntries memory = entry_length memory < 4

-- L11
abbrev pub HasWrongStart : List ℕ → Type 0
HasWrongStart memory = (first_instruction memory < 64) ⊎ (length memory ≤ first_instruction memory)

-- what speaks against a file's stated part
abbrev pub IsFlaw : List ℕ → LoadError → Type 0
IsFlaw memory StaticBase = HasWrongBase memory
IsFlaw memory Globals = HasWrongGlobals memory
IsFlaw memory Objects = HasWrongDefaults memory
IsFlaw memory Dictionary = HasWrongDictionary memory
IsFlaw memory EntryLength = HasShortEntries memory
IsFlaw memory DictionaryOrder = HasFallingEntries memory
IsFlaw memory FirstInstruction = HasWrongStart memory
IsFlaw memory OutOfMemory = ⊤
IsFlaw memory _ = ⊥

-- what speaks against a file. Memory can be refused for any file: this cause says nothing of it and comes last
abbrev pub IsCause : List ℕ → LoadError → Type 0
IsCause file TooShort = IsTooShort file
IsCause file TooLong = IsTooLong file
IsCause file NotVersion3 = HasOtherVersion file
IsCause file LengthWord = HasWrongLength file
IsCause file error = IsFlaw (stated_part file) error

-- no cause with a lower number holds
abbrev pub NoneBelow : (LoadError → Type 0) → LoadError → Type 0
NoneBelow causes error = (lower : LoadError) → number_of lower < number_of error → ¬ causes lower

-- the cause holds, and it is the lowest that does
abbrev pub IsLowest : (LoadError → Type 0) → LoadError → Type 0
IsLowest causes error = causes error × NoneBelow causes error

-- no cause holds, memory aside
abbrev pub HasNone : (LoadError → Type 0) → Type 0
HasNone causes = NoneBelow causes OutOfMemory
