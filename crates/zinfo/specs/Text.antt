-- What is told of a story, one fact a line (own).
use Rattle.std.specs.Prelude.{ℕ, ◌/◌, ◌%◌, ◌==◌, ℤ, pos, negsuc, nat_lt, Option, None, Some, if◌then◌else◌, List, [], ◌∷◌, ◌++◌, codes, decimal}
use Rattle.std.specs.Fmt.{signed_decimal}
use Rattle.zcode.specs.Names.{excluded_name}
use Rattle.zcode.specs.declared.opcode.Excluded.{Excluded}
use Rattle.zcode.specs.declared.opcode.Excluded.TheVariants.{SplitWindow, SetWindow, OutputStream, InputStream, SoundEffect}
use Rattle.zcode.specs.declared.error.DecodeError.{DecodeError}
use Rattle.zcode.specs.declared.error.DecodeError.TheVariants.{Truncated, NoSuchOpcode, NotInProfile, Operands, Text}
use Rattle.zlist.specs.Listed.{place_of}
use Rattle.zlist.specs.declared.list_error.ListError.{ListError}
use Rattle.zlist.specs.declared.list_error.ListError.TheVariants.{Decode, TwoRoutines, ComputedJump, OutOfMemory}
use Rattle.zinfo.specs.Shown.{five_digits, hex_digit, shown}
use Rattle.zinfo.specs.declared.facts.Checksum.{Checksum}
use Rattle.zinfo.specs.declared.facts.Checksum.TheVariants.{Right, Unstated, Wrong}
use Rattle.zinfo.specs.declared.facts.Code.{Code}
use Rattle.zinfo.specs.declared.facts.Code.TheVariants.{Listed, Unlisted}
use Rattle.zinfo.specs.declared.facts.Info.{Info}
use Rattle.zinfo.specs.declared.facts.Unplayed.{Unplayed}

-- the four hexadecimal digits of a word
abbrev pub four_digits : ℕ → List ℕ
four_digits word = hex_digit (word / 4096) ∷ hex_digit (word / 256 % 16) ∷ hex_digit (word / 16 % 16) ∷ hex_digit (word % 16) ∷ []

-- a place: an address from 0 to 0xfffff in five hexadecimal digits, and any other number in decimal
abbrev pub place_text : ℤ → List ℕ
place_text (pos n) = if nat_lt n 1048576 then five_digits n else decimal n
place_text (negsuc n) = signed_decimal (negsuc n)

-- the code of what is at fault with a listing
abbrev pub fault_code : ListError → List ℕ
fault_code (Decode _ _) = codes "U1"
fault_code (TwoRoutines _) = codes "U2"
fault_code (ComputedJump _) = codes "U3"
fault_code OutOfMemory = codes "U4"

-- the code of what keeps bytes from being an instruction
abbrev pub cause_code : DecodeError → List ℕ
cause_code Truncated = codes "J1"
cause_code NoSuchOpcode = codes "J2"
cause_code (NotInProfile _) = codes "J3"
cause_code Operands = codes "J4"
cause_code Text = codes "J5"

-- the opcode that isn't played, if that is at fault
abbrev pub unplayed : ListError → Option Excluded
unplayed (Decode _ (NotInProfile opcode)) = Some opcode
unplayed _ = None

-- why no instruction stands at a place, with the name of an opcode that isn't played
abbrev pub cause_text : DecodeError → List ℕ
cause_text (NotInProfile opcode) = codes "J3 " ++ excluded_name opcode
cause_text cause = cause_code cause

abbrev pub behind_text : ListError → List ℕ
behind_text (Decode _ cause) = codes ", " ++ cause_text cause
behind_text _ = []

-- what is at fault with a listing, as `U1 at 00325, J3 set_window`
abbrev pub unlisted_text : ListError → List ℕ
unlisted_text error = fault_code error ++ codes " at " ++ place_text (place_of error) ++ behind_text error

-- a name and its value
abbrev pub line_of : List ℕ → List ℕ → List ℕ
line_of name value = name ++ codes ": " ++ value ++ 10 ∷ []

abbrev pub number_line : List ℕ → ℕ → List ℕ
number_line name number = line_of name (decimal number)

abbrev pub checksum_text : Checksum → List ℕ
checksum_text (Right sum) = four_digits sum ++ codes ", right"
checksum_text (Unstated sum) = codes "none, the sum is " ++ four_digits sum
checksum_text (Wrong stated sum) = four_digits stated ++ codes ", wrong, the sum is " ++ four_digits sum

abbrev pub code_text : Code → List ℕ
code_text (Listed routines instructions) = number_line (codes "routines") routines ++ number_line (codes "instructions") instructions
code_text (Unlisted error) = line_of (codes "unlisted") (unlisted_text error)

-- how often an opcode is met that isn't played, as `set_window 12`, or nothing where it isn't met
abbrev pub entry_text : Excluded → ℕ → List ℕ
entry_text opcode count = if count == 0 then [] else excluded_name opcode ++ codes " " ++ decimal count

-- an entry behind others, with a comma between them
abbrev pub with_entry : List ℕ → List ℕ → List ℕ
with_entry entries [] = entries
with_entry [] entry = entry
with_entry entries entry = entries ++ codes ", " ++ entry

-- how often those are met that are
abbrev pub entries_text : Unplayed → List ℕ
entries_text counts =
    with_entry (with_entry (with_entry (with_entry (with_entry [] (entry_text SplitWindow counts.split_window)) (entry_text SetWindow counts.set_window)) (entry_text OutputStream counts.output_stream)) (entry_text InputStream counts.input_stream)) (entry_text SoundEffect counts.sound_effect)

abbrev pub or_none : List ℕ → List ℕ
or_none [] = codes "none"
or_none entries = entries

abbrev pub unplayed_line : Unplayed → List ℕ
unplayed_line counts = line_of (codes "opcodes not played") (or_none (entries_text counts))

abbrev pub text_of_info : Info → List ℕ
text_of_info info =
    number_line (codes "release") info.release ++ line_of (codes "serial") (shown info.serial) ++ number_line (codes "length") info.length ++ line_of (codes "checksum") (checksum_text info.checksum)
    ++ number_line (codes "objects") info.objects ++ number_line (codes "words") info.words ++ code_text info.code ++ unplayed_line info.unplayed
