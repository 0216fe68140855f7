-- What is told of a story, as an object of JSON (own).
use Rattle.std.specs.Prelude.{ℕ, List, [], ◌∷◌, Option, None, Some, option_map, option_and_then, ◌++◌, true, false, codes}
use Rattle.json.specs.Json.{Json, null, string, boolean}
use Rattle.zcode.specs.Names.{excluded_name}
use Rattle.zlist.specs.Listed.{place_of}
use Rattle.zlist.specs.declared.list_error.ListError.TheVariants.{Decode}
use Rattle.zjson.specs.Objects.{Pair, line_of, number, number_or_null, text_or_null}
use Rattle.zinfo.specs.Beside.{code_of}
use Rattle.zinfo.specs.Shown.{shown}
use Rattle.zinfo.specs.Text.{cause_code, fault_code, place_text, unplayed}
use Rattle.zinfo.specs.declared.facts.Beside.{Beside}
use Rattle.zinfo.specs.declared.facts.Beside.TheVariants.{Nothing, Closed, Own}
use Rattle.zinfo.specs.declared.facts.Kept.{Kept}
use Rattle.zinfo.specs.declared.facts.Checksum.{Checksum}
use Rattle.zinfo.specs.declared.facts.Checksum.TheVariants.{Right, Unstated, Wrong}
use Rattle.zinfo.specs.declared.facts.Code.{Code}
use Rattle.zinfo.specs.declared.facts.Code.TheVariants.{Listed, Unlisted}
use Rattle.zinfo.specs.declared.facts.Info.{Info}

-- the checksum as it is stated, which is 0 where none is
abbrev pub stated_of : Checksum → ℕ
stated_of (Right sum) = sum
stated_of (Unstated sum) = 0
stated_of (Wrong stated sum) = stated

abbrev pub sum_of : Checksum → ℕ
sum_of (Right sum) = sum
sum_of (Unstated sum) = sum
sum_of (Wrong stated sum) = sum

-- whether it is right, where one is stated
abbrev pub right_of : Checksum → Json
right_of (Right sum) = boolean true
right_of (Unstated sum) = null
right_of (Wrong stated sum) = boolean false

abbrev pub routines_of : Code → Option ℕ
routines_of (Listed routines instructions) = Some routines
routines_of (Unlisted error) = None

abbrev pub instructions_of : Code → Option ℕ
instructions_of (Listed routines instructions) = Some instructions
instructions_of (Unlisted error) = None

-- what is at fault
abbrev pub fault_of : Code → Option (List ℕ)
fault_of (Listed routines instructions) = None
fault_of (Unlisted error) = Some (fault_code error)

-- where
abbrev pub address_of : Code → Option (List ℕ)
address_of (Listed routines instructions) = None
address_of (Unlisted error) = Some (place_text (place_of error))

-- what keeps bytes from being an instruction, if that is at fault
abbrev pub cause_of : Code → Option (List ℕ)
cause_of (Unlisted (Decode _ cause)) = Some (cause_code cause)
cause_of _ = None

-- the opcode that isn't played, if that is
abbrev pub opcode_of : Code → Option (List ℕ)
opcode_of (Unlisted error) = option_map excluded_name (unplayed error)
opcode_of _ = None

-- the facts of the story of a file, whose bytes have a digest
abbrev pub info_pairs : List ℕ → List ℕ → Info → List Pair
info_pairs file digest info =
    (codes "file", string file) ∷ (codes "sha256", string digest) ∷ (codes "release", number info.release) ∷ (codes "serial", string (shown info.serial)) ∷ (codes "length", number info.length)
    ∷ (codes "checksum", number (stated_of info.checksum)) ∷ (codes "sum", number (sum_of info.checksum)) ∷ (codes "checksum_right", right_of info.checksum)
    ∷ (codes "objects", number info.objects) ∷ (codes "words", number info.words) ∷ (codes "routines", number_or_null (routines_of info.code)) ∷ (codes "instructions", number_or_null (instructions_of info.code))
    ∷ (codes "code", text_or_null (fault_of info.code)) ∷ (codes "address", text_or_null (address_of info.code)) ∷ (codes "cause", text_or_null (cause_of info.code)) ∷ (codes "opcode", text_or_null (opcode_of info.code))
    ∷ (codes "unplayed_split_window", number info.unplayed.split_window) ∷ (codes "unplayed_set_window", number info.unplayed.set_window) ∷ (codes "unplayed_output_stream", number info.unplayed.output_stream)
    ∷ (codes "unplayed_input_stream", number info.unplayed.input_stream) ∷ (codes "unplayed_sound_effect", number info.unplayed.sound_effect) ∷ []

-- the name of the file beside it, if there is one
abbrev pub name_of : List ℕ → Beside → Json
name_of name Nothing = null
name_of name beside = string name

-- whether that can be read, if it is there
abbrev pub readable_of : Beside → Json
readable_of Nothing = null
readable_of Closed = boolean false
readable_of beside = boolean true

-- what the certificate has that is of the story, if it is
abbrev pub kept_of : Beside → Option Kept
kept_of (Own kept) = Some kept
kept_of beside = None

abbrev pub version_of : Option Kept → Option ℕ
version_of kept = option_map (λ k. k.version) kept

abbrev pub frames_of : Option Kept → Option ℕ
frames_of kept = option_and_then (λ k. k.frames) kept

abbrev pub parts_of : Option Kept → Option ℕ
parts_of kept = option_map (λ k. k.routines) kept

abbrev pub listed_of : Option Kept → Option ℕ
listed_of kept = option_map (λ k. k.instructions) kept

abbrev pub marks_of : Option Kept → Option ℕ
marks_of kept = option_map (λ k. k.marks) kept

abbrev pub facts_of : Option Kept → Option ℕ
facts_of kept = option_map (λ k. k.facts) kept

-- what stands beside it, by this name
abbrev pub beside_pairs : List ℕ → Beside → List Pair
beside_pairs certificate beside =
    (codes "certificate", name_of certificate beside) ∷ (codes "certificate_code", text_or_null (code_of beside)) ∷ (codes "certificate_readable", readable_of beside)
    ∷ (codes "certificate_version", number_or_null (version_of (kept_of beside)))
    ∷ (codes "certificate_frames", number_or_null (frames_of (kept_of beside))) ∷ (codes "certificate_routines", number_or_null (parts_of (kept_of beside)))
    ∷ (codes "certificate_instructions", number_or_null (listed_of (kept_of beside))) ∷ (codes "certificate_marks", number_or_null (marks_of (kept_of beside)))
    ∷ (codes "certificate_facts", number_or_null (facts_of (kept_of beside))) ∷ []

abbrev pub object_of_info : List ℕ → List ℕ → Info → List ℕ → Beside → List ℕ
object_of_info file digest info certificate beside = line_of (info_pairs file digest info ++ beside_pairs certificate beside)
