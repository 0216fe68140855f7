-- Values of the definitions, computed.
use Rattle.std.proofs.Common.{◌≡◌, List, [], ◌∷◌, Bool, true, false, codes, refl}
use Rattle.std.specs.Prelude.{IsSomeAnd, None, Option, Some}
use Rattle.std.specs.Char.{encode_utf8}
use Rattle.std.specs.Str.{chars}
use Rattle.clap.specs.Kinds.{Kinds}
use Rattle.clap.specs.Words.{Text, subcommand_of, fault_of}
use Rattle.clap.specs.Walk.{bundle_met, walked}
use Rattle.clap.specs.Faults.{defaults_fault, flags_fault, walk_fault}
use Rattle.zcommand.specs.CommandLine.{Asks, Front, Request, ListStory, Find, FindEach, OneForMany, Check, CheckEach, Show, Play, Info, Explain, Unpack, debug_asked, fitting_in, front_asked, is_width, no_front, number_in, zpc_app}
use Rattle.zscreen.specs.declared.status_lines.StatusLines.TheVariants.{Bracketed, Framed, Hidden}

-- a number is below 2 to the 32nd, or to the 64th, and has digits alone behind one plus
numbers :
    (number_in 32 (codes "0") ≡ 0) × (number_in 32 (codes "+17") ≡ 17) × (number_in 32 (codes "4294967295") ≡ 4294967295) × (number_in 32 (codes "4294967296") ≡ 0) × (number_in 32 (codes "1:") ≡ 0) × (number_in 32 (codes "1/") ≡ 0) × (number_in 32 (codes "1a") ≡ 0) × (number_in 32 (codes "+") ≡ 0)
    × (number_in 64 (codes "4294967296") ≡ 4294967296) × (number_in 64 (codes "18446744073709551615") ≡ 18446744073709551615) × (number_in 64 (codes "18446744073709551616") ≡ 0)
numbers = (refl, refl, refl, refl, refl, refl, refl, refl, refl, refl, refl)

-- a width is from 1 to 1000
widths :
    (fitting_in is_width (codes "1") ≡ Some 1) × (fitting_in is_width (codes "+80") ≡ Some 80) × (fitting_in is_width (codes "1000") ≡ Some 1000) × (fitting_in is_width (codes "0") ≡ None) × (fitting_in is_width (codes "1001") ≡ None) × (fitting_in is_width (codes "66336") ≡ None) × (fitting_in is_width (codes "8o") ≡ None) × (fitting_in is_width [] ≡ None)
widths = (refl, refl, refl, refl, refl, refl, refl, refl)

-- words that ask for something
abbrev Ask : List Text → Request → Type 0
Ask words request = (fault_of zpc_app words ≡ []) × IsSomeAnd (subcommand_of zpc_app words) (λ matches. Asks matches request)

asked :
    Ask (codes "list" ∷ codes "hello.z3" ∷ []) (ListStory (codes "hello.z3") None false)
    × Ask (codes "list" ∷ codes "hello.z3" ∷ codes "hello.cert" ∷ []) (ListStory (codes "hello.z3") (Some (codes "hello.cert")) false)
    × Ask (codes "list" ∷ codes "--json" ∷ codes "a.z3" ∷ []) (ListStory (codes "a.z3") None true)
    × Ask (codes "play" ∷ codes "hello.z3" ∷ []) (Play (codes "hello.z3") None 1 1000000000 Hidden None false false false)
    × Ask (codes "play" ∷ codes "--budget" ∷ codes "4294967295" ∷ codes "hello.z3" ∷ codes "hello.cert" ∷ codes "--status" ∷ codes "--seed" ∷ codes "18446744073709551615" ∷ []) (Play (codes "hello.z3") (Some (codes "hello.cert")) 18446744073709551615 4294967295 Bracketed None false false false)
    × Ask (codes "play" ∷ codes "--save" ∷ codes "a.qzl" ∷ codes "--tell" ∷ codes "--seed" ∷ codes "0" ∷ codes "--budget" ∷ codes "0" ∷ codes "hello.z3" ∷ []) (Play (codes "hello.z3") None 0 0 Hidden (Some (codes "a.qzl")) true false false)
    × Ask (codes "play" ∷ codes "--force" ∷ codes "--save" ∷ codes "a.qzl" ∷ codes "hello.z3" ∷ []) (Play (codes "hello.z3") None 1 1000000000 Hidden (Some (codes "a.qzl")) false true false)
    × Ask (codes "play" ∷ codes "--framed-status" ∷ codes "hello.z3" ∷ []) (Play (codes "hello.z3") None 1 1000000000 Framed None false false false)
    × Ask (codes "play" ∷ codes "--framed-status" ∷ codes "hello.z3" ∷ codes "--status" ∷ []) (Play (codes "hello.z3") None 1 1000000000 Framed None false false false)
    × Ask (codes "play" ∷ codes "--lenient" ∷ codes "hello.z3" ∷ []) (Play (codes "hello.z3") None 1 1000000000 Hidden None false false true)
    × Ask (codes "check" ∷ codes "hello.z3" ∷ codes "hello.cert" ∷ []) (Check (codes "hello.z3") (codes "hello.cert") false)
    × Ask (codes "check" ∷ codes "--json" ∷ codes "a" ∷ codes "b" ∷ []) (Check (codes "a") (codes "b") true)
    × Ask (codes "check" ∷ codes "hello.z3" ∷ []) (CheckEach (codes "hello.z3" ∷ []) false)
    × Ask (codes "check" ∷ codes "a.z3" ∷ codes "--json" ∷ []) (CheckEach (codes "a.z3" ∷ []) true)
    × Ask (codes "check" ∷ codes "a.z3" ∷ codes "b.Z3" ∷ []) (CheckEach (codes "a.z3" ∷ codes "b.Z3" ∷ []) false)
    × Ask (codes "check" ∷ codes "a.z3" ∷ codes "b" ∷ codes "c" ∷ []) (CheckEach (codes "a.z3" ∷ codes "b" ∷ codes "c" ∷ []) false)
    × Ask (codes "show" ∷ codes "hello.z3" ∷ codes "hello.cert" ∷ []) (Show (codes "hello.z3") (codes "hello.cert") None)
    × Ask (codes "show" ∷ codes "hello.z3" ∷ codes "hello.cert" ∷ codes "00325" ∷ []) (Show (codes "hello.z3") (codes "hello.cert") (Some (codes "00325")))
    × Ask (codes "find" ∷ codes "hello.z3" ∷ codes "hello.cert" ∷ []) (Find (codes "hello.z3") (codes "hello.cert") None false false false false)
    × Ask (codes "find" ∷ codes "a.z3" ∷ codes "b.cert" ∷ codes "--force" ∷ []) (Find (codes "a.z3") (codes "b.cert") None false false true false)
    × Ask (codes "find" ∷ codes "--frames" ∷ codes "4096" ∷ codes "hello.z3" ∷ codes "hello.cert" ∷ []) (Find (codes "hello.z3") (codes "hello.cert") (Some 4096) false false false false)
    × Ask (codes "find" ∷ codes "--strict" ∷ codes "hello.z3" ∷ codes "hello.cert" ∷ []) (Find (codes "hello.z3") (codes "hello.cert") None true false false false)
    × Ask (codes "find" ∷ codes "hello.z3" ∷ codes "hello.cert" ∷ codes "--places" ∷ codes "--json" ∷ []) (Find (codes "hello.z3") (codes "hello.cert") None false true false true)
    × Ask (codes "find" ∷ codes "a.z3" ∷ codes "-o" ∷ codes "c" ∷ []) (Find (codes "a.z3") (codes "c") None false false false false)
    × Ask (codes "find" ∷ codes "-oc" ∷ codes "a.z3" ∷ []) (Find (codes "a.z3") (codes "c") None false false false false)
    × Ask (codes "find" ∷ codes "--output" ∷ codes "c.z3" ∷ codes "a" ∷ []) (Find (codes "a") (codes "c.z3") None false false false false)
    × Ask (codes "find" ∷ codes "a.z3" ∷ []) (FindEach (codes "a.z3" ∷ []) None false false false false)
    × Ask (codes "find" ∷ codes "a.z3" ∷ codes "b.z3" ∷ codes "--frames" ∷ codes "7" ∷ codes "--json" ∷ []) (FindEach (codes "a.z3" ∷ codes "b.z3" ∷ []) (Some 7) false false false true)
    × Ask (codes "find" ∷ codes "--strict" ∷ codes "--places" ∷ codes "--force" ∷ codes "a.z3" ∷ codes "b.Z3" ∷ codes "c" ∷ []) (FindEach (codes "a.z3" ∷ codes "b.Z3" ∷ codes "c" ∷ []) None true true true false)
    × Ask (codes "find" ∷ codes "a.z3" ∷ codes "b.z3" ∷ codes "-o" ∷ codes "c" ∷ []) OneForMany
    × Ask (codes "find" ∷ codes "a.z3" ∷ codes "b" ∷ codes "-o" ∷ codes "c" ∷ []) OneForMany
    × Ask (codes "info" ∷ codes "hello.z3" ∷ []) (Info (codes "hello.z3") false)
    × Ask (codes "info" ∷ codes "--json" ∷ codes "hello.z3" ∷ []) (Info (codes "hello.z3") true)
    × Ask (codes "explain" ∷ []) (Explain None false)
    × Ask (codes "explain" ∷ codes "I5" ∷ []) (Explain (Some (codes "I5")) false)
    × Ask (codes "explain" ∷ codes "i5" ∷ codes "--json" ∷ []) (Explain (Some (codes "i5")) true)
    × Ask (codes "unpack" ∷ codes "a.z3" ∷ codes "a.qzl" ∷ codes "b.qzl" ∷ []) (Unpack (codes "a.z3") (codes "a.qzl") (codes "b.qzl") false)
    × Ask (codes "unpack" ∷ codes "--force" ∷ codes "a.z3" ∷ codes "a.qzl" ∷ codes "b.qzl" ∷ []) (Unpack (codes "a.z3") (codes "a.qzl") (codes "b.qzl") true)
unfolding walked bundle_met chars encode_utf8 flags_fault walk_fault defaults_fault
asked =
    ((refl, (refl, refl, refl, refl)), (refl, (refl, refl, refl, refl)), (refl, (refl, refl, refl, refl)), (refl, (refl, refl, refl, refl, refl, refl, refl, refl, refl, refl)), (refl, (refl, refl, refl, refl, refl, refl, refl, refl, refl, refl)), (refl, (refl, refl, refl, refl, refl, refl, refl, refl, refl, refl)), (refl, (refl, refl, refl, refl, refl, refl, refl, refl, refl, refl)), (refl, (refl, refl, refl, refl, refl, refl, refl, refl, refl, refl)), (refl, (refl, refl, refl, refl, refl, refl, refl, refl, refl, refl)), (refl, (refl, refl, refl, refl, refl, refl, refl, refl, refl, refl)), (refl, (refl, refl, refl)), (refl, (refl, refl, refl)), (refl, (refl, refl, refl, refl)), (refl, (refl, refl, refl, refl)), (refl, (refl, refl, refl, refl)), (refl, (refl, refl, refl, refl)), (refl, (refl, refl, refl, refl)), (refl, (refl, refl, refl, refl)), (refl, (refl, refl, (refl, refl, refl, refl, refl))), (refl, (refl, refl, (refl, refl, refl, refl, refl))), (refl, (refl, refl, (refl, refl, refl, refl, refl))), (refl, (refl, refl, (refl, refl, refl, refl, refl))), (refl, (refl, refl, (refl, refl, refl, refl, refl))), (refl, (refl, refl, (refl, refl, refl, refl, refl))), (refl, (refl, refl, (refl, refl, refl, refl, refl))), (refl, (refl, refl, (refl, refl, refl, refl, refl))), (refl, (refl, refl, refl, refl, (refl, refl, refl, refl, refl))), (refl, (refl, refl, refl, refl, (refl, refl, refl, refl, refl))), (refl, (refl, refl, refl, refl, (refl, refl, refl, refl, refl))), (refl, (refl, refl, refl)), (refl, (refl, refl, refl)), (refl, (refl, refl, refl)), (refl, (refl, refl, refl)), (refl, (refl, refl, refl)), (refl, (refl, refl, refl)), (refl, (refl, refl, refl)), (refl, (refl, refl, refl, refl, refl)), (refl, (refl, refl, refl, refl, refl)))

-- words that ask for nothing that is wrong, and for this front
abbrev AskFront : List Text → Front → Type 0
AskFront words front = (fault_of zpc_app words ≡ []) × (front_asked (subcommand_of zpc_app words) ≡ front)

-- each of its words is read by its own name; without them, and of another command, it asks for nothing
shown :
    AskFront (codes "play" ∷ codes "a.z3" ∷ []) no_front
    × AskFront (codes "play" ∷ codes "--width" ∷ codes "80" ∷ codes "a.z3" ∷ []) (record no_front { width = Some 80 })
    × AskFront (codes "play" ∷ codes "a.z3" ∷ codes "a.cert" ∷ codes "--width=1000" ∷ []) (record no_front { width = Some 1000 })
    × AskFront (codes "play" ∷ codes "--plain" ∷ codes "a.z3" ∷ []) (record no_front { plain = true })
    × AskFront (codes "play" ∷ codes "a.z3" ∷ codes "--transcript" ∷ codes "b.txt" ∷ []) (record no_front { transcript = Some (codes "b.txt") })
    × AskFront (codes "play" ∷ codes "--record=b.txt" ∷ codes "a.z3" ∷ []) (record no_front { typed_to = Some (codes "b.txt") })
    × AskFront (codes "play" ∷ codes "--replay" ∷ codes "b.txt" ∷ codes "a.z3" ∷ []) (record no_front { typed_before = Some (codes "b.txt") })
    × AskFront (codes "play" ∷ codes "a.z3" ∷ codes "--no-save" ∷ []) (record no_front { no_save = true })
    × AskFront (codes "play" ∷ codes "a.z3" ∷ codes "--commands" ∷ []) (record no_front { commands = true })
    × AskFront (codes "play" ∷ codes "--no-save" ∷ codes "--commands" ∷ codes "--replay" ∷ codes "d" ∷ codes "--record" ∷ codes "c" ∷ codes "--transcript" ∷ codes "b" ∷ codes "--plain" ∷ codes "--width" ∷ codes "1" ∷ codes "a.z3" ∷ codes "--save" ∷ codes "e" ∷ [])
    (record { width = Some 1; plain = true; transcript = Some (codes "b"); typed_to = Some (codes "c"); typed_before = Some (codes "d"); no_save = true; commands = true })
    × AskFront (codes "check" ∷ codes "a.z3" ∷ []) no_front
unfolding walked bundle_met chars encode_utf8 flags_fault walk_fault defaults_fault
shown = ((refl, refl), (refl, refl), (refl, refl), (refl, refl), (refl, refl), (refl, refl), (refl, refl), (refl, refl), (refl, refl), (refl, refl), (refl, refl))

-- words that ask for nothing that is wrong, and name this file of debug information
abbrev AskDebug : List Text → Option Text → Type 0
AskDebug words name = (fault_of zpc_app words ≡ []) × (debug_asked (subcommand_of zpc_app words) ≡ name)

-- each command on listings, certificates or plays names one, or needn't; no other command has one
debugged :
    AskDebug (codes "list" ∷ codes "a.z3" ∷ codes "--debug" ∷ codes "d" ∷ []) (Some (codes "d"))
    × AskDebug (codes "find" ∷ codes "--debug=d" ∷ codes "a.z3" ∷ codes "-o" ∷ codes "c" ∷ []) (Some (codes "d"))
    × AskDebug (codes "check" ∷ codes "a.z3" ∷ codes "--debug" ∷ codes "d" ∷ codes "b.z3" ∷ []) (Some (codes "d"))
    × AskDebug (codes "show" ∷ codes "--debug" ∷ codes "d" ∷ codes "a.z3" ∷ codes "c" ∷ codes "00325" ∷ []) (Some (codes "d"))
    × AskDebug (codes "play" ∷ codes "--record" ∷ codes "e" ∷ codes "--debug" ∷ codes "d" ∷ codes "a.z3" ∷ []) (Some (codes "d"))
    × AskDebug (codes "list" ∷ codes "a.z3" ∷ codes "c" ∷ []) None
    × AskDebug (codes "find" ∷ codes "-oc" ∷ codes "a.z3" ∷ []) None
    × AskDebug (codes "check" ∷ codes "a.z3" ∷ []) None
    × AskDebug (codes "show" ∷ codes "a.z3" ∷ codes "c" ∷ []) None
    × AskDebug (codes "play" ∷ codes "--record" ∷ codes "e" ∷ codes "a.z3" ∷ []) None
    × AskDebug (codes "info" ∷ codes "a.z3" ∷ []) None
    × AskDebug (codes "explain" ∷ codes "I5" ∷ []) None
    × AskDebug (codes "unpack" ∷ codes "a" ∷ codes "b" ∷ codes "c" ∷ []) None
unfolding walked bundle_met chars encode_utf8 flags_fault walk_fault defaults_fault
debugged = ((refl, refl), (refl, refl), (refl, refl), (refl, refl), (refl, refl), (refl, refl), (refl, refl), (refl, refl), (refl, refl), (refl, refl), (refl, refl), (refl, refl), (refl, refl))

-- a command lacks a file or has too many, or there is none of the name, or none at all, or the budget is 2 to the 32nd or the
-- seed 2 to the 64th, or the width isn't from 1 to 1000, or the flag has a value, or the option has none or an empty one, or is there twice
is_wrong : Kinds → Bool
is_wrong [] = false
is_wrong (kind ∷ kinds) = true

wrong :
    (is_wrong (fault_of zpc_app (codes "check" ∷ [])) ≡ true)
    × (is_wrong (fault_of zpc_app (codes "sing" ∷ [])) ≡ true)
    × (is_wrong (fault_of zpc_app (codes "list" ∷ [])) ≡ true)
    × (is_wrong (fault_of zpc_app (codes "list" ∷ codes "a" ∷ codes "b" ∷ codes "c" ∷ [])) ≡ true)
    × (is_wrong (fault_of zpc_app (codes "list" ∷ codes "--json" ∷ [])) ≡ true)
    × (is_wrong (fault_of zpc_app (codes "find" ∷ [])) ≡ true)
    × (is_wrong (fault_of zpc_app (codes "find" ∷ codes "--frames" ∷ codes "4097" ∷ codes "a" ∷ codes "b" ∷ [])) ≡ true)
    × (is_wrong (fault_of zpc_app (codes "find" ∷ codes "a" ∷ codes "b" ∷ codes "--frames" ∷ [])) ≡ true)
    × (is_wrong (fault_of zpc_app (codes "find" ∷ codes "a" ∷ codes "-o" ∷ [])) ≡ true)
    × (is_wrong (fault_of zpc_app (codes "find" ∷ codes "-o" ∷ codes "c" ∷ [])) ≡ true)
    × (is_wrong (fault_of zpc_app (codes "find" ∷ codes "a" ∷ codes "-o" ∷ [] ∷ [])) ≡ true)
    × (is_wrong (fault_of zpc_app (codes "find" ∷ codes "a" ∷ codes "--output=" ∷ [])) ≡ true)
    × (is_wrong (fault_of zpc_app (codes "find" ∷ codes "a" ∷ codes "-o" ∷ codes "c" ∷ codes "--output" ∷ codes "d" ∷ [])) ≡ true)
    × (is_wrong (fault_of zpc_app (codes "check" ∷ codes "a" ∷ codes "-o" ∷ codes "c" ∷ [])) ≡ true)
    × (is_wrong (fault_of zpc_app (codes "show" ∷ codes "hello.z3" ∷ [])) ≡ true)
    × (is_wrong (fault_of zpc_app (codes "show" ∷ codes "a" ∷ codes "b" ∷ codes "c" ∷ codes "d" ∷ [])) ≡ true)
    × (is_wrong (fault_of zpc_app (codes "unpack" ∷ codes "a" ∷ codes "b" ∷ [])) ≡ true)
    × (is_wrong (fault_of zpc_app (codes "unpack" ∷ codes "a" ∷ codes "b" ∷ codes "c" ∷ codes "d" ∷ [])) ≡ true)
    × (is_wrong (fault_of zpc_app (codes "info" ∷ [])) ≡ true)
    × (is_wrong (fault_of zpc_app (codes "info" ∷ codes "a" ∷ codes "b" ∷ [])) ≡ true)
    × (is_wrong (fault_of zpc_app (codes "explain" ∷ codes "I5" ∷ codes "I6" ∷ [])) ≡ true)
    × (is_wrong (fault_of zpc_app []) ≡ true)
    × (is_wrong (fault_of zpc_app (codes "play" ∷ codes "hello.z3" ∷ codes "--budget" ∷ codes "4294967296" ∷ [])) ≡ true)
    × (is_wrong (fault_of zpc_app (codes "play" ∷ codes "hello.z3" ∷ codes "--status=true" ∷ [])) ≡ true)
    × (is_wrong (fault_of zpc_app (codes "play" ∷ codes "hello.z3" ∷ codes "--tell=true" ∷ [])) ≡ true)
    × (is_wrong (fault_of zpc_app (codes "play" ∷ codes "hello.z3" ∷ codes "--lenient=true" ∷ [])) ≡ true)
    × (is_wrong (fault_of zpc_app (codes "play" ∷ codes "hello.z3" ∷ codes "--save" ∷ [])) ≡ true)
    × (is_wrong (fault_of zpc_app (codes "play" ∷ codes "hello.z3" ∷ codes "--save" ∷ [] ∷ [])) ≡ true)
    × (is_wrong (fault_of zpc_app (codes "play" ∷ codes "hello.z3" ∷ codes "--save=" ∷ [])) ≡ true)
    × (is_wrong (fault_of zpc_app (codes "play" ∷ codes "hello.z3" ∷ codes "--seed" ∷ codes "18446744073709551616" ∷ [])) ≡ true)
    × (is_wrong (fault_of zpc_app (codes "play" ∷ codes "a.z3" ∷ codes "--width" ∷ codes "0" ∷ [])) ≡ true)
    × (is_wrong (fault_of zpc_app (codes "play" ∷ codes "a.z3" ∷ codes "--width" ∷ codes "1001" ∷ [])) ≡ true)
    × (is_wrong (fault_of zpc_app (codes "play" ∷ codes "a.z3" ∷ codes "--width" ∷ [])) ≡ true)
    × (is_wrong (fault_of zpc_app (codes "play" ∷ codes "a.z3" ∷ codes "--width=" ∷ [])) ≡ true)
    × (is_wrong (fault_of zpc_app (codes "play" ∷ codes "a.z3" ∷ codes "--width" ∷ codes "80" ∷ codes "--width" ∷ codes "80" ∷ [])) ≡ true)
    × (is_wrong (fault_of zpc_app (codes "play" ∷ codes "a.z3" ∷ codes "--plain=true" ∷ [])) ≡ true)
    × (is_wrong (fault_of zpc_app (codes "play" ∷ codes "--plain" ∷ codes "a.z3" ∷ codes "--plain" ∷ [])) ≡ true)
    × (is_wrong (fault_of zpc_app (codes "play" ∷ codes "a.z3" ∷ codes "--transcript" ∷ [])) ≡ true)
    × (is_wrong (fault_of zpc_app (codes "play" ∷ codes "a.z3" ∷ codes "--transcript" ∷ [] ∷ [])) ≡ true)
    × (is_wrong (fault_of zpc_app (codes "play" ∷ codes "a.z3" ∷ codes "--transcript=" ∷ [])) ≡ true)
    × (is_wrong (fault_of zpc_app (codes "play" ∷ codes "a.z3" ∷ codes "--transcript" ∷ codes "b" ∷ codes "--transcript" ∷ codes "c" ∷ [])) ≡ true)
    × (is_wrong (fault_of zpc_app (codes "play" ∷ codes "a.z3" ∷ codes "--record" ∷ [] ∷ [])) ≡ true)
    × (is_wrong (fault_of zpc_app (codes "play" ∷ codes "a.z3" ∷ codes "--record=" ∷ [])) ≡ true)
    × (is_wrong (fault_of zpc_app (codes "play" ∷ codes "a.z3" ∷ codes "--replay" ∷ [] ∷ [])) ≡ true)
    × (is_wrong (fault_of zpc_app (codes "play" ∷ codes "a.z3" ∷ codes "--replay=" ∷ [])) ≡ true)
    × (is_wrong (fault_of zpc_app (codes "play" ∷ codes "a.z3" ∷ codes "--no-save=true" ∷ [])) ≡ true)
    × (is_wrong (fault_of zpc_app (codes "play" ∷ codes "--no-save" ∷ codes "a.z3" ∷ codes "--no-save" ∷ [])) ≡ true)
    × (is_wrong (fault_of zpc_app (codes "check" ∷ codes "a.z3" ∷ codes "--record" ∷ codes "b" ∷ [])) ≡ true)
    × (is_wrong (fault_of zpc_app (codes "list" ∷ codes "a.z3" ∷ codes "--debug" ∷ [])) ≡ true)
    × (is_wrong (fault_of zpc_app (codes "find" ∷ codes "a.z3" ∷ codes "--debug" ∷ [] ∷ [])) ≡ true)
    × (is_wrong (fault_of zpc_app (codes "check" ∷ codes "a.z3" ∷ codes "--debug=" ∷ [])) ≡ true)
    × (is_wrong (fault_of zpc_app (codes "play" ∷ codes "a.z3" ∷ codes "--debug" ∷ codes "b" ∷ codes "--debug" ∷ codes "c" ∷ [])) ≡ true)
    × (is_wrong (fault_of zpc_app (codes "info" ∷ codes "a.z3" ∷ codes "--debug" ∷ codes "b" ∷ [])) ≡ true)
    × (is_wrong (fault_of zpc_app (codes "explain" ∷ codes "I5" ∷ codes "--debug" ∷ codes "b" ∷ [])) ≡ true)
    × (is_wrong (fault_of zpc_app (codes "unpack" ∷ codes "a" ∷ codes "b" ∷ codes "c" ∷ codes "--debug" ∷ codes "d" ∷ [])) ≡ true)
    × (is_wrong (fault_of zpc_app (codes "list" ∷ codes "a.z3" ∷ codes "--width" ∷ codes "80" ∷ [])) ≡ true)
unfolding is_wrong walked bundle_met chars encode_utf8 flags_fault walk_fault defaults_fault
wrong = (refl, refl, refl, refl, refl, refl, refl, refl, refl, refl, refl, refl, refl, refl, refl, refl, refl, refl, refl, refl, refl, refl, refl, refl, refl, refl, refl, refl, refl, refl, refl, refl, refl, refl, refl, refl, refl, refl, refl, refl, refl, refl, refl, refl, refl, refl, refl, refl, refl, refl, refl, refl, refl, refl, refl, refl)
