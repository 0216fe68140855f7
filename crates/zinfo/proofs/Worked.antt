-- Values of the definitions, computed.
use Rattle.std.proofs.Common.{◌≡◌, [], ◌∷◌, ◌++◌, codes, refl}
use Rattle.std.specs.Fmt.{digits}
use Rattle.std.specs.Prelude.{pos, negsuc, None, Some, true, false}
use Rattle.json.specs.Json.{boolean, null, string}
use Rattle.json.specs.Print.{print_from, escape_byte}
use Rattle.zcode.specs.declared.error.DecodeError.TheVariants.{Truncated, NotInProfile}
use Rattle.zcode.specs.declared.opcode.Excluded.TheVariants.{SetWindow}
use Rattle.zlist.specs.declared.list_error.ListError.TheVariants.{Decode, TwoRoutines}
use Rattle.zinfo.specs.Beside.{code_of, text_of_beside}
use Rattle.zinfo.specs.Info.{checksum_by}
use Rattle.zinfo.specs.Object.{kept_of, name_of, object_of_info, readable_of}
use Rattle.zinfo.specs.Shown.{five_digits, shown}
use Rattle.zinfo.specs.Text.{checksum_text, place_text, text_of_info, unlisted_text, unplayed_line}
use Rattle.zinfo.specs.declared.facts.Beside.TheVariants.{Nothing, Unreadable, Closed, OfAnother, Own}
use Rattle.zinfo.specs.declared.facts.Checksum.TheVariants.{Right, Unstated, Wrong}
use Rattle.zinfo.specs.declared.facts.Code.{Code}
use Rattle.zinfo.specs.declared.facts.Code.TheVariants.{Listed, Unlisted}
use Rattle.zinfo.specs.declared.facts.Info.{Info}
use Rattle.zinfo.specs.declared.facts.Kept.{Kept}
use Rattle.zinfo.specs.declared.facts.Unplayed.{Unplayed}

-- a serial number of digits, one with a backslash and bytes that aren't printed
serials :
    (shown (codes "860101") ≡ codes "860101") × (shown (92 ∷ 0 ∷ 32 ∷ 126 ∷ 127 ∷ 255 ∷ []) ≡ codes "\\x5c\\x00 ~\\x7f\\xff")
serials = (refl, refl)

-- a checksum that is the sum, that is 0 for a sum that isn't, that is another, and a sum of 0
checksums :
    (checksum_by 0x396E 0x396E ≡ Right 0x396E) × (checksum_by 0 0x396E ≡ Unstated 0x396E) × (checksum_by 0x396F 0x396E ≡ Wrong 0x396F 0x396E) × (checksum_by 0 0 ≡ Right 0)
    × (checksum_text (Right 0x396E) ≡ codes "396e, right") × (checksum_text (Unstated 0x396E) ≡ codes "none, the sum is 396e") × (checksum_text (Wrong 0x1A 0x396E) ≡ codes "001a, wrong, the sum is 396e")
checksums = (refl, refl, refl, refl, refl, refl, refl)

-- what is at fault, in memory and outside
faults :
    (unlisted_text (Decode (pos 0x325) (NotInProfile SetWindow)) ≡ codes "U1 at 00325, J3 set_window") × (unlisted_text (Decode (negsuc 1) Truncated) ≡ codes "U1 at -2, J1")
    × (unlisted_text (TwoRoutines 0x1FFFF) ≡ codes "U2 at 1ffff")
unfolding digits
faults = (refl, refl, refl)

-- a story, with or without a listing
small : Code → Unplayed → Info
small code unplayed = record { release = 1; serial = codes "260101"; length = 808; checksum = Right 0x396E; objects = 0; words = 0; code = code; unplayed = unplayed }

none_met : Unplayed
none_met = record { split_window = 0; set_window = 0; output_stream = 0; input_stream = 0; sound_effect = 0 }

-- how often each is met
each_met : Unplayed
each_met = record { split_window = 3; set_window = 12; output_stream = 5; input_stream = 7; sound_effect = 4096 }

listed :
    text_of_info (small (Listed 0 2) none_met)
    ≡ codes "release: 1" ++ 10 ∷ codes "serial: 260101" ++ 10 ∷ codes "length: 808" ++ 10 ∷ codes "checksum: 396e, right" ++ 10 ∷ codes "objects: 0" ++ 10 ∷ codes "words: 0" ++ 10 ∷ codes "routines: 0" ++ 10
    ∷ codes "instructions: 2" ++ 10 ∷ codes "opcodes not played: none" ++ 10 ∷ []
unfolding digits small none_met
listed = refl

-- the opcodes that are met, in the order of their numbers
unplayed_lines :
    (unplayed_line each_met ≡ codes "opcodes not played: split_window 3, set_window 12, output_stream 5, input_stream 7, sound_effect 4096" ++ 10 ∷ [])
    × (unplayed_line (record none_met { set_window = 1; input_stream = 2 }) ≡ codes "opcodes not played: set_window 1, input_stream 2" ++ 10 ∷ [])
    × (unplayed_line (record none_met { sound_effect = 10 }) ≡ codes "opcodes not played: sound_effect 10" ++ 10 ∷ [])
unfolding digits none_met each_met
unplayed_lines = (refl, refl, refl)

object :
    object_of_info (codes "a.z3") (codes "00ff") (small (Unlisted (Decode (pos 0x325) (NotInProfile SetWindow))) each_met) (codes "a.cert") Nothing
    ≡ codes "{\"file\":\"a.z3\",\"sha256\":\"00ff\",\"release\":1,\"serial\":\"260101\",\"length\":808,\"checksum\":14702,\"sum\":14702,\"checksum_right\":true,\"objects\":0,\"words\":0,\"routines\":null,\"instructions\":null,\"code\":\"U1\",\"address\":\"00325\",\"cause\":\"J3\",\"opcode\":\"set_window\",\"unplayed_split_window\":3,\"unplayed_set_window\":12,\"unplayed_output_stream\":5,\"unplayed_input_stream\":7,\"unplayed_sound_effect\":4096,\"certificate\":null,\"certificate_code\":null,\"certificate_readable\":null,\"certificate_version\":null,\"certificate_frames\":null,\"certificate_routines\":null,\"certificate_instructions\":null,\"certificate_marks\":null,\"certificate_facts\":null}" ++ 10 ∷ []
unfolding digits print_from escape_byte small each_met
object = refl

-- what stands beside a story
kept : Kept
kept = record { version = 5; frames = Some 1024; routines = 3; instructions = 40; marks = 2; facts = 7 }

beside :
    (text_of_beside Nothing ≡ codes "certificate: none" ++ 10 ∷ []) × (text_of_beside (Unreadable 3) ≡ codes "certificate: refused, K3" ++ 10 ∷ []) × (text_of_beside OfAnother ≡ codes "certificate: refused, S1" ++ 10 ∷ [])
    × (text_of_beside (Own kept) ≡ codes "certificate: version 5, frames 1024, routines 3, instructions 40, marked 2, facts 7" ++ 10 ∷ [])
unfolding digits kept
beside = (refl, refl, refl, refl)

-- a file beside it that can't be read: it has a name, and nothing else is known of it
closed :
    (text_of_beside Closed ≡ codes "certificate: can't be read" ++ 10 ∷ []) × (code_of Closed ≡ None) × (name_of (codes "a.cert") Closed ≡ string (codes "a.cert")) × (kept_of Closed ≡ None)
    × (readable_of Nothing ≡ null) × (readable_of Closed ≡ boolean false) × (readable_of (Unreadable 3) ≡ boolean true) × (readable_of OfAnother ≡ boolean true) × (readable_of (Own kept) ≡ boolean true)
closed = (refl, refl, refl, refl, refl, refl, refl, refl, refl)

-- addresses in five digits, and places that are none
places :
    (five_digits 0x325 ≡ codes "00325") × (five_digits 0xFFFFF ≡ codes "fffff") × (five_digits 0x1A0B9 ≡ codes "1a0b9") × (place_text (pos 0x100000) ≡ codes "1048576") × (place_text (negsuc 0) ≡ codes "-1")
unfolding digits
places = (refl, refl, refl, refl, refl)
