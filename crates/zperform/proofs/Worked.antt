-- Values of the definitions, computed.
use Rattle.std.proofs.Common.{◌≡◌, ◌<◌, inl, inr, ℕ, List, length, ap, [], ◌∷◌, ◌++◌, Bool, true, false, true≢false, pos, codes, Err, refl, sym, subst, take, length-take, ◌∙◌, arith}
use Rattle.std.specs.Fmt.{digits}
use Rattle.clap.specs.declared.error.kind.ErrorKind.TheVariants.{DisplayHelp, DisplayVersion, UnknownArgument}
use Rattle.zfault.specs.declared.fault.Fault.{Fault}
use Rattle.zfault.specs.declared.fault.Fault.TheVariants as faults
use Rattle.zstory.specs.LoadedStory.{LoadedStory}
use Rattle.zstory.specs.Refusal.{number_of}
use Rattle.zstory.specs.declared.load_error.LoadError.{LoadError}
use Rattle.zstory.specs.declared.load_error.LoadError.TheVariants as loads
use Rattle.zcert.specs.declared.error.CertError.{CertError}
use Rattle.zcert.specs.declared.error.CertError.TheVariants as readings
use Rattle.zcert.specs.Format.{interval_format}
use Rattle.zcert.specs.Lists.{values_format}
use Rattle.zcert.specs.Reading.{fields_at, heading_at, identity_at, magic_at, reading, version_at}
use Rattle.zcert.specs.Streaming.{Stream, IsFed}
use Rattle.zdomain.specs.declared.interval.Interval.{Interval}
use Rattle.zrule.specs.declared.rule.Rule.TheVariants as rules
use Rattle.zdomain.specs.Domain.{SetOperations}
use Rattle.zcheck.specs.Acceptance.{AcceptanceOver}
use Rattle.zcheck.specs.declared.refusal.StoryRule.TheVariants as story_rules
use Rattle.zcheck.specs.declared.refusal.Refusal.TheVariants as refusals
use Rattle.zcheck.specs.declared.refusal.StreamRefusal.TheVariants as streams
use Rattle.zplayer.specs.declared.end.End.{End}
use Rattle.zplayer.specs.declared.end.End.TheVariants as ends
use Rattle.zprompt.specs.declared.manner.Manner.{Manner}
use Rattle.zplayer.specs.declared.end.PlayError.{PlayError}
use Rattle.zplayer.specs.declared.end.PlayError.TheVariants as errors
use Rattle.zperform.specs.declared.outcome.Failure.{Failure}
use Rattle.zperform.specs.declared.outcome.Failure.TheVariants.{File, Read, Write, Memory}
use Rattle.zperform.specs.declared.outcome.Problem.TheVariants.{Refused, Unreadable, BreaksStory, BreaksInstruction, Unlisted, Unfound, Occupied, Failed}
use Rattle.zperform.specs.declared.outcome.Purpose.TheVariants as purposes
use Rattle.zperform.specs.declared.outcome.Purpose.{Purpose}
use Rattle.zperform.specs.declared.outcome.Problem.{Problem}
use Rattle.zperform.specs.Keeping.{BeginsSo, IsOccupied, MayWrite, kept_in, purpose_number}
use Rattle.zperform.specs.declared.outcome.Outcome.{Outcome}
use Rattle.zperform.specs.declared.outcome.Outcome.TheVariants.{Listed, Found, Accepted, Explained, NoSuchCode, Played, Stopped}
use Rattle.std.specs.Prelude.{◌≢◌, ◌⊎◌, ⊤, ℤ, negsuc, Option, None, Some, Result, if◌then◌else◌, slice_index}
use Rattle.std.specs.Str.{bytes_eq}
use Rattle.zcode.specs.declared.error.DecodeError.TheVariants.{NoSuchOpcode, Truncated}
use Rattle.zcode.specs.declared.opcode.Opcode.{Opcode}
use Rattle.zcode.specs.declared.opcode.Opcode.TheVariants as opcodes
use Rattle.zfind.specs.declared.error.FindError.TheVariants.{NotFound, RoundLimit}
use Rattle.zfind.specs.declared.error.Obstacle.TheVariants as obstacles
use Rattle.zlist.specs.declared.list_error.ListError.TheVariants as listings
use Rattle.zlist.specs.declared.record.Record.{Record}
use Rattle.zperform.specs.Listing.{IsNoListing, listing_text}
use Rattle.zperform.specs.Contents.{GivesPart, IsBeginning}
use Rattle.zperform.specs.Accepting.{CheckComesTo, HoldsStory, IsFedTo, IsNoCertificate, IsPlayedBy, IsUnread, PlayComesTo, Stops, version_of}
use Rattle.zcommand.specs.CommandLine.{ListStory, Find, Check, Show, Play, Explain}
use Rattle.zplayer.specs.World.{World}
use Rattle.zperform.specs.Devices.{Breaks, Ends, FlushesUnless, Held, ReadsUnless, Says, Seen, Takes, UsesUnless}
use Rattle.zperform.specs.Performing.{IsBlamed, given, is_quiet, is_request, spoken, store_of, written_by}
use Rattle.zperform.specs.declared.wording.Speech.TheVariants.{Codes, Words}
use Rattle.zperform.specs.Finding.{HasAlone}
use Rattle.zperform.specs.Playing.{ComesTo, Holds, IsPlayed, IsRefused}
use Rattle.zperform.specs.declared.accepting.TheConstants.{STORY_LIMIT}
use Rattle.zperform.proofs.AcceptLemmas.{story_bytes}
use Rattle.zperform.specs.Report.{line_of, place_text, problem_of_checking, problem_of_listing, problem_of_load, problem_of_play, problem_of_reading, problem_of_stream, status_of, text_of}
use Rattle.zscreen.specs.declared.status_lines.StatusLines.TheVariants.{Bracketed, Hidden}

-- ---- what is said, and the exit statuses

-- what was done
done :
    (text_of Listed ≡ []) × (text_of Found ≡ []) × (text_of Accepted ≡ []) × (text_of Explained ≡ []) × (text_of (Played ends.Quit) ≡ []) × (text_of (Played ends.NoInput) ≡ codes "end: no input") × (text_of (Played ends.Budget) ≡ codes "end: budget")
    × (text_of (Played ends.FrameLimit) ≡ codes "end: frame limit")
done = (refl, refl, refl, refl, refl, refl, refl, refl)

-- the story's fault, at each kind of place
faulty :
    (text_of (Played (ends.Fault faults.IllegalOpcode (pos 804))) ≡ codes "fault: F2 at 00324") × (text_of (Played (ends.Fault faults.UnlistedInstruction (pos 0))) ≡ codes "fault: F1 at 00000")
    × (text_of (Played (ends.Fault faults.BadVariable (pos 1048575))) ≡ codes "fault: F16 at fffff") × (text_of (Played (ends.Fault faults.ReturnFromMain (pos 1048576))) ≡ codes "fault: F15 at 1048576")
    × (text_of (Played (ends.Fault faults.StackUnderflow (negsuc 6))) ≡ codes "fault: F4 at -7")
unfolding digits
faulty = (refl, refl, refl, refl, refl)

places :
    (place_text (pos 0) ≡ codes "00000") × (place_text (pos 43981) ≡ codes "0abcd") × (place_text (pos 1048575) ≡ codes "fffff") × (place_text (pos 1048576) ≡ codes "1048576") × (place_text (negsuc 0) ≡ codes "-1")
    × (place_text (negsuc 2147483647) ≡ codes "-2147483648")
unfolding digits
places = (refl, refl, refl, refl, refl, refl)

-- each digit that isn't among those
digits_are : (place_text (pos 0xFFFF) ≡ codes "0ffff") × (place_text (pos 0x10000) ≡ codes "10000") × (place_text (pos 0x12345) ≡ codes "12345") × (place_text (pos 0x6789E) ≡ codes "6789e")
unfolding digits
digits_are = (refl, refl, refl, refl)

-- what is wrong with a story, with a certificate, and with both
refused :
    (text_of (Stopped (Refused loads.TooShort)) ≡ codes "refused: L1") × (text_of (Stopped (Refused loads.TooLong)) ≡ codes "refused: L2") × (text_of (Stopped (Refused loads.FirstInstruction)) ≡ codes "refused: L11")
    × (text_of (Stopped (Unreadable readings.Magic)) ≡ codes "refused: K1") × (text_of (Stopped (Unreadable readings.Truncated)) ≡ codes "refused: K3") × (text_of (Stopped (Unreadable readings.Limit)) ≡ codes "refused: K7")
    × (text_of (Stopped (BreaksStory story_rules.Identity)) ≡ codes "refused: S1") × (text_of (Stopped (BreaksInstruction 804 rules.Successor)) ≡ codes "refused: I4 at 00324")
    × (text_of (Stopped (BreaksInstruction 1048576 rules.Successor)) ≡ codes "refused: I4 at 1048576")
unfolding digits
refused = (refl, refl, refl, refl, refl, refl, refl, refl, refl)

-- what is wrong with a listing, and where
unlisted :
    (text_of (Stopped (Unlisted (listings.Decode (pos 806) NoSuchOpcode))) ≡ codes "refused: U1 at 00326") × (text_of (Stopped (Unlisted (listings.Decode (negsuc 9) Truncated))) ≡ codes "refused: U1 at -10")
    × (text_of (Stopped (Unlisted (listings.TwoRoutines 131071))) ≡ codes "refused: U2 at 1ffff") × (text_of (Stopped (Unlisted (listings.ComputedJump 804))) ≡ codes "refused: U3 at 00324")
unfolding digits
unlisted = (refl, refl, refl, refl)

-- what kept a certificate from being found, where, and on a second line what is broken in every one, if that is known
unfound :
    (text_of (Stopped (Unfound (NotFound (obstacles.Place (pos 903) rules.Object)) (Some (obstacles.Place (pos 2969) rules.Object)))) ≡ codes "refused: G1 at 00387" ++ 10 ∷ codes "no certificate: I5 at 00b99")
    × (text_of (Stopped (Unfound (NotFound (obstacles.Place (negsuc 9) rules.Decodes)) (Some (obstacles.Place (negsuc 9) rules.Decodes)))) ≡ codes "refused: G1 at -10" ++ 10 ∷ codes "no certificate: I1 at -10")
    × (text_of (Stopped (Unfound (NotFound (obstacles.Story story_rules.Tables)) (Some (obstacles.Story story_rules.Tables)))) ≡ codes "refused: G1" ++ 10 ∷ codes "no certificate: S8")
    × (text_of (Stopped (Unfound (NotFound (obstacles.Place (pos 804) rules.Successor)) None)) ≡ codes "refused: G1 at 00324" ++ 10 ∷ codes "not found")
    × (text_of (Stopped (Unfound RoundLimit None)) ≡ codes "refused: G2" ++ 10 ∷ codes "not found")
unfolding digits
unfound = (refl, refl, refl, refl, refl)

-- a line for each instruction, its routine in decimal
listed_at : ℕ → ℕ → Opcode → Record
listed_at address routine opcode = record { address = address; routine = routine; instruction = record { opcode = opcode; operands = []; store = None; branch = None; size = 1 } }

listing_lines :
    (listing_text [] ≡ [])
    × (listing_text (listed_at 804 0 opcodes.Print ∷ listed_at 809 0 opcodes.Quit ∷ []) ≡ codes "00324 0 print" ++ 10 ∷ codes "00329 0 quit" ++ 10 ∷ [])
    × (listing_text (listed_at 131071 65535 opcodes.GetNextProp ∷ []) ≡ codes "1ffff 65535 get_next_prop" ++ 10 ∷ [])
unfolding digits listed_at
listing_lines = (refl, refl, refl)

failed :
    (text_of (Stopped (Failed File)) ≡ codes "failed: file") × (text_of (Stopped (Failed Read)) ≡ codes "failed: read") × (text_of (Stopped (Failed Write)) ≡ codes "failed: write")
    × (text_of (Stopped (Failed Memory)) ≡ codes "failed: memory")
failed = (refl, refl, refl, refl)

-- a line ends with the byte 10, and with nothing to say there is none
lines : (line_of [] ≡ []) × (line_of (codes "end: budget") ≡ codes "end: budget" ++ 10 ∷ []) × (line_of (text_of (Stopped (Failed Write))) ≡ codes "failed: write" ++ 10 ∷ [])
lines = (refl, refl, refl)

well : (status_of Listed ≡ 0) × (status_of Found ≡ 0) × (status_of Explained ≡ 0) × (status_of NoSuchCode ≡ 2) × (status_of Accepted ≡ 0) × (status_of (Played ends.Quit) ≡ 0) × (status_of (Played ends.NoInput) ≡ 0) × (status_of (Played ends.Budget) ≡ 0) × (status_of (Played ends.FrameLimit) ≡ 0)
well = (refl, refl, refl, refl, refl, refl, refl, refl, refl)

refusals_are_1 :
    (status_of (Stopped (Refused loads.TooShort)) ≡ 1) × (status_of (Stopped (Unreadable readings.Truncated)) ≡ 1) × (status_of (Stopped (BreaksStory story_rules.Tables)) ≡ 1)
    × (status_of (Stopped (BreaksInstruction 804 rules.Successor)) ≡ 1) × (status_of (Stopped (Unlisted (listings.ComputedJump 804))) ≡ 1)
    × (status_of (Stopped (Unfound RoundLimit None)) ≡ 1)
refusals_are_1 = (refl, refl, refl, refl, refl, refl)

faults_are_3 : (fault : Fault) (place : ℤ) → status_of (Played (ends.Fault fault place)) ≡ 3
faults_are_3 fault place = refl

failures_are_4 : (failure : Failure) → status_of (Stopped (Failed failure)) ≡ 4
failures_are_4 failure = refl

-- ---- how far files are read

limit : STORY_LIMIT ≡ 131073
limit = refl

-- A file of 131,073 bytes or more is refused as too long, or it isn't read at all. It holds no story.
long_file : (file : List ℕ) → 131072 < length file → ((error : LoadError) → IsRefused file error → error ≡ loads.TooLong) × ((story : LoadedStory) → Holds file story → ⊥)
long_file file long = (lowest, λ story holds. holds.no_cause loads.TooLong (omega arith) long)
  where
    lowest : (error : LoadError) → IsRefused file error → error ≡ loads.TooLong
    lowest loads.TooShort is = absurd (omega (arith, is.lowest.0))
    lowest loads.TooLong is = refl
    lowest loads.OutOfMemory is = absurd (is.of_file refl)
    lowest loads.NotVersion3 is = absurd (is.lowest.1 loads.TooLong (omega arith) long)
    lowest loads.LengthWord is = absurd (is.lowest.1 loads.TooLong (omega arith) long)
    lowest loads.StaticBase is = absurd (is.lowest.1 loads.TooLong (omega arith) long)
    lowest loads.Globals is = absurd (is.lowest.1 loads.TooLong (omega arith) long)
    lowest loads.Objects is = absurd (is.lowest.1 loads.TooLong (omega arith) long)
    lowest loads.Dictionary is = absurd (is.lowest.1 loads.TooLong (omega arith) long)
    lowest loads.EntryLength is = absurd (is.lowest.1 loads.TooLong (omega arith) long)
    lowest loads.DictionaryOrder is = absurd (is.lowest.1 loads.TooLong (omega arith) long)
    lowest loads.FirstInstruction is = absurd (is.lowest.1 loads.TooLong (omega arith) long)

-- an empty file is no certificate: it is cut off
empty_certificate : reading interval_format [] ≡ Err readings.Truncated
unfolding reading heading_at magic_at
empty_certificate = refl

-- for an empty story's file memory is never wanted, and it is too short
empty_story : (manner : Manner) (given : World) (before now : Option (List ℕ)) → (ComesTo (Some []) manner given [] before now (Stopped (Failed Memory)) → ⊥) × (IsRefused [] loads.TooShort)
empty_story manner given before now = (unwanted, record { lowest = (omega arith, λ lower below. absurd (none lower below)); of_file = λ e. cc })
  where
    unwanted : ComesTo (Some []) manner given [] before now (Stopped (Failed Memory)) → ⊥
    unwanted (inl (same, none, some)) = omega (arith, some)
    unwanted (inr (file, same, cut)) = cut.holds.no_cause loads.TooShort (omega arith) (omega (arith, ap length same))

    none : (lower : LoadError) → number_of lower < 1 → ⊥
    none loads.TooShort below = omega (arith, below)
    none loads.TooLong below = omega (arith, below)
    none loads.NotVersion3 below = omega (arith, below)
    none loads.LengthWord below = omega (arith, below)
    none loads.StaticBase below = omega (arith, below)
    none loads.Globals below = omega (arith, below)
    none loads.Objects below = omega (arith, below)
    none loads.Dictionary below = omega (arith, below)
    none loads.EntryLength below = omega (arith, below)
    none loads.DictionaryOrder below = omega (arith, below)
    none loads.FirstInstruction below = omega (arith, below)
    none loads.OutOfMemory below = omega (arith, below)

-- what asks, and what is a mistake
kinds : (is_request DisplayHelp ≡ true) × (is_request DisplayVersion ≡ true) × (is_request UnknownArgument ≡ false)
kinds = (refl, refl, refl)

-- want of memory is a failure, and anything else a refusal
problems :
    (problem_of_load loads.OutOfMemory ≡ Failed Memory) × (problem_of_load loads.TooShort ≡ Refused loads.TooShort)
    × (problem_of_reading readings.OutOfMemory ≡ Failed Memory) × (problem_of_reading readings.Magic ≡ Unreadable readings.Magic)
    × (problem_of_listing listings.OutOfMemory ≡ Failed Memory) × (problem_of_listing (listings.TwoRoutines 804) ≡ Unlisted (listings.TwoRoutines 804))
    × (problem_of_checking refusals.OutOfMemory ≡ Failed Memory) × (problem_of_checking (refusals.Story story_rules.Tables) ≡ BreaksStory story_rules.Tables)
    × (problem_of_checking (refusals.Instruction 804 rules.Write) ≡ BreaksInstruction 804 rules.Write)
    × (problem_of_stream (streams.Cert readings.OutOfMemory) ≡ Failed Memory) × (problem_of_stream (streams.Cert readings.Magic) ≡ Unreadable readings.Magic)
    × (problem_of_stream (streams.Check refusals.OutOfMemory) ≡ Failed Memory) × (problem_of_stream (streams.Check (refusals.Story story_rules.Tables)) ≡ BreaksStory story_rules.Tables)
    × (problem_of_play errors.Read ≡ Failed Read) × (problem_of_play errors.Write ≡ Failed Write) × (problem_of_play errors.OutOfMemory ≡ Failed Memory)
problems = (refl, refl, refl, refl, refl, refl, refl, refl, refl, refl, refl, refl, refl, refl, refl, refl)

-- nothing is kept at first where saves go nowhere, nothing is known of a file, and no call failed
stores : (store_of None ≡ record { kept = Some None; failures = 0; refusals = [] }) × (store_of (Some (codes "a.qzl")) ≡ record { kept = None; failures = 0; refusals = [] })
stores = (refl, refl)

-- a certificate's file may fail, is cut off where it is empty, and wants memory only where it has bytes
unread :
    IsNoCertificate interval_format (Some []) (Failed File) × IsNoCertificate interval_format (Some []) (Unreadable readings.Truncated) × (IsNoCertificate interval_format (Some []) (Failed Memory) → ⊥) × IsNoCertificate interval_format (Some (90 ∷ [])) (Failed Memory)
    × (IsNoCertificate interval_format None (Failed Read) → ⊥)
unread = (tt, ([], refl, (refl, empty_certificate)), (λ bytes. omega (arith, bytes)), omega arith, λ never. never)

-- the fifth byte tells the kind of sets: that of version 2 where it is 2, 3, 4 or 5, and of all else that of version 1, also where it isn't there
versions :
    (version_of [] ≡ 1) × (version_of (codes "ZPCC") ≡ 1) × (version_of (codes "ZPCC" ++ 0 ∷ []) ≡ 1) × (version_of (codes "ZPCC" ++ 1 ∷ []) ≡ 1) × (version_of (codes "ZPCC" ++ 2 ∷ []) ≡ 2) × (version_of (codes "ZPCC" ++ 3 ∷ []) ≡ 2) × (version_of (codes "ZPCC" ++ 4 ∷ []) ≡ 2) × (version_of (codes "ZPCC" ++ 5 ∷ []) ≡ 2) × (version_of (codes "ZPCC" ++ 6 ∷ []) ≡ 1)
    × (version_of (2 ∷ 2 ∷ 2 ∷ 2 ∷ 1 ∷ 2 ∷ []) ≡ 1) × (version_of (1 ∷ 1 ∷ 1 ∷ 1 ∷ 2 ∷ 1 ∷ []) ≡ 2) × (interval_format.version ≡ 1) × (values_format.version ≡ 2)
versions = (refl, refl, refl, refl, refl, refl, refl, refl, refl, refl, refl, refl, refl)

-- so version 6 is refused in version 1, and a file of version 2, 3, 4 or 5 that is cut off in its own
refused_versions :
    IsUnread interval_format (codes "ZPCC" ++ 6 ∷ []) readings.Version × IsUnread values_format (codes "ZPCC" ++ 5 ∷ []) readings.Truncated × IsUnread values_format (codes "ZPCC" ++ 4 ∷ []) readings.Truncated × IsUnread values_format (codes "ZPCC" ++ 3 ∷ []) readings.Truncated × IsUnread values_format (codes "ZPCC" ++ 2 ∷ []) readings.Truncated × ((error : CertError) → IsUnread interval_format (codes "ZPCC" ++ 2 ∷ []) error → ⊥)
    × ((error : CertError) → IsUnread values_format (codes "ZPCC" ++ 1 ∷ []) error → ⊥)
unfolding reading fields_at heading_at magic_at version_at identity_at
refused_versions = ((refl, refl), (refl, refl), (refl, refl), (refl, refl), (refl, refl), (λ error unread. omega (arith, unread.0)), λ error unread. omega (arith, unread.0))

-- of a file of three bytes a buffer with room for three gets the last two from place 1 on, and none from its end on
part_given : GivesPart (10 ∷ 20 ∷ 30 ∷ []) 1 2 (20 ∷ 30 ∷ 99 ∷ []) × GivesPart (10 ∷ 20 ∷ 30 ∷ []) 3 0 (99 ∷ [])
part_given = (record { within = omega arith; read = refl; ends = λ none _. omega (arith, none) }, record { within = omega arith; read = refl; ends = λ _ _. omega arith })

-- but not none before its end
no_gap : GivesPart (10 ∷ 20 ∷ 30 ∷ []) 1 0 (99 ∷ []) → ⊥
no_gap it = omega (arith, it.ends refl (omega arith))

-- the first two bytes of three, and two others
begun : IsBeginning (10 ∷ 20 ∷ []) (10 ∷ 20 ∷ 30 ∷ []) × IsBeginning [] [] × (IsBeginning (10 ∷ 30 ∷ []) (10 ∷ 20 ∷ 30 ∷ []) → ⊥) × (IsBeginning (10 ∷ 20 ∷ []) (10 ∷ []) → ⊥)
begun = (refl, refl, λ e. absurd cc, λ e. absurd cc)

-- a stream was fed the first two bytes of three; not two bytes of one, nor two at the count of one
fed_to : (s : Stream Interval) → IsFed interval_format s (90 ∷ 80 ∷ []) → IsFedTo interval_format (Some (90 ∷ 80 ∷ 67 ∷ [])) 2 s
fed_to s came = record { fed = 90 ∷ 80 ∷ []; version = refl; first = refl; counted = refl; came = came }

not_fed_to : (s : Stream Interval) → (IsFedTo interval_format (Some (90 ∷ [])) 2 s → ⊥) × ((to : IsFedTo interval_format (Some (90 ∷ 80 ∷ [])) 1 s) → IsFed interval_format s (90 ∷ []))
not_fed_to s = (
  λ to. omega (arith, to.counted, ap length to.first, length-take {A = ℕ} (length to.fed) (90 ∷ [])),
  λ to. subst (IsFed interval_format s) (to.first ∙ ap (λ (n : ℕ). take n (90 ∷ 80 ∷ [])) to.counted) to.came,
)

-- ---- what is said, and what commands come to

shelf : List ℕ → ℕ → Bool → Seen
shelf bytes failures waits = record { contents = Some bytes; failures = failures; waits = waits }

-- a text is taken whole and flushed, or a failure breaks it off; it isn't lost in silence, nor left unflushed, nor tried twice
said :
    Says (shelf (1 ∷ []) 0 false) (shelf (1 ∷ 2 ∷ 3 ∷ []) 0 false) (2 ∷ 3 ∷ []) × (Takes (shelf (1 ∷ []) 0 false) (shelf (1 ∷ []) 0 false) (2 ∷ []) → ⊥) × (Takes (shelf [] 0 false) (shelf (2 ∷ []) 0 true) (2 ∷ []) → ⊥)
    × (Breaks (shelf [] 0 false) (shelf [] 0 false) (2 ∷ []) → ⊥) × (Breaks (shelf [] 0 false) (shelf [] 2 false) (2 ∷ []) → ⊥) × (Says (shelf [] 0 false) (shelf [] 1 false) [] → ⊥)
unfolding shelf
said = (
  inl (record { whole = refl; quiet = refl; flushed = refl }),
  λ taken. omega (arith, ap length taken.whole),
  λ taken. absurd (let e = taken.flushed in cc),
  λ broken. omega (arith, broken.blamed),
  λ broken. omega (arith, broken.blamed),
  λ same. omega (arith, ap (λ (s : Seen). s.failures) same),
)

-- the outcome of a text is the one that is given, or that writing failed
ended : (old new : Seen) → (Ends old new [] Found Listed → ⊥) × (Ends old new [] Found (Stopped (Failed Read)) → ⊥) × (Breaks old new [] → Ends old new [] Found (Stopped (Failed Write)))
ended old new = (other Listed (λ e. cc) (λ e. cc), other (Stopped (Failed Read)) (λ e. cc) (λ e. cc), λ broke. inr (refl, broke))
  where
    other : (outcome : Outcome) → outcome ≢ Found → outcome ≢ Stopped (Failed Write) → Ends old new [] Found outcome → ⊥
    other outcome not_found not_failed (inl (is, taken)) = not_found is
    other outcome not_found not_failed (inr (is, broke)) = not_failed is

-- a failed write leaves a beginning, and any other problem nothing
stopped : Stops ⊤ (λ why. ⊥) None None (Failed Write) × (Stops ⊤ (λ why. ⊥) None None (Failed Read) → ⊥) × (Stops ⊤ (λ why. ⊤) (Some []) (Some (1 ∷ [])) (Failed File) → ⊥)
stopped = (tt, (λ no. no.0), λ no. absurd (let e : ◌≡◌ {A = Option (List ℕ)} (Some (1 ∷ [])) (Some []) = no.1 in cc))

-- a writer that fails is blamed; else what was written is flushed
through :
    FlushesUnless (λ (s : Seen). s.failures) (λ (s : Seen). s.waits) (shelf [] 0 false) (shelf (2 ∷ []) 0 false) ⊥ × FlushesUnless (λ (s : Seen). s.failures) (λ (s : Seen). s.waits) (shelf [] 0 true) (shelf [] 0 true) ⊥
    × (FlushesUnless (λ (s : Seen). s.failures) (λ (s : Seen). s.waits) (shelf [] 0 false) (shelf (2 ∷ []) 0 true) ⊥ → ⊥) × (FlushesUnless (λ (s : Seen). s.failures) (λ (s : Seen). s.waits) (shelf [] 0 false) (shelf [] 0 false) ⊤ → ⊥)
unfolding shelf
through = (
  record { blamed = (λ fails. absurd fails, λ other. refl); flushed = λ other. inl refl },
  record { blamed = (λ fails. absurd fails, λ other. refl); flushed = λ other. inr refl },
  λ writer. waits (writer.flushed (λ fails. fails)),
  λ writer. omega (arith, writer.blamed.0 tt),
)
  where
    waits : (true ≡ false) ⊎ (◌≡◌ {A = Seen} (record { contents = Some (2 ∷ []); failures = 0; waits = true }) (record { contents = Some []; failures = 0; waits = false })) → ⊥
    waits (inl e) = absurd cc
    waits (inr e) = absurd (let f = ap (λ (s : Seen). s.waits) e in cc)

-- files of which one has bytes, and one can fail
drawer : ℕ → List ℕ → List ℕ → List ℕ → Held
drawer failures name bytes weak = record { known = λ asked. if bytes_eq asked name then Some bytes else None; failures = failures; can_fail = λ asked. bytes_eq asked weak; blamed = None }

-- files fail in silence only where saves are kept in one, and only that one is written
used :
    UsesUnless (λ (f : Held). f.known) (λ (f : Held). f.failures) (drawer 0 [] [] []) (drawer 3 [] [] []) (Some (7 ∷ [])) None ⊥
    × (UsesUnless (λ (f : Held). f.known) (λ (f : Held). f.failures) (drawer 0 [] [] []) (drawer 1 [] [] []) None None ⊥ → ⊥)
    × (UsesUnless (λ (f : Held). f.known) (λ (f : Held). f.failures) (drawer 0 (5 ∷ []) (1 ∷ []) []) (drawer 0 (5 ∷ []) (2 ∷ []) []) (Some (7 ∷ [])) (Some (7 ∷ [])) ⊥ → ⊥)
    × (ReadsUnless (λ (f : Held). f.known) (λ (f : Held). f.failures) (λ (f : Held). f.can_fail) (drawer 0 [] [] []) (drawer 0 [] [] []) ⊤ → ⊥)
    × (ReadsUnless (λ (f : Held). f.known) (λ (f : Held). f.failures) (λ (f : Held). f.can_fail) (drawer 0 [] [] []) (drawer 1 [] [] []) ⊥ → ⊥)
unfolding drawer
used = (
  record { unread = λ fails. absurd fails; unfailed = λ none. absurd cc; kept = λ none. refl; spared = λ other another. refl },
  λ files. omega (arith, files.unfailed refl (λ fails. fails)),
  λ files. changed (files.spared (5 ∷ []) other),
  λ files. omega (arith, files.blamed.0 tt),
  λ files. omega (arith, files.blamed.1 (λ fails. fails)),
)
  where
    other : ◌≢◌ {A = Option (List ℕ)} (Some (7 ∷ [])) (Some (5 ∷ []))
    other e = absurd cc

    changed : ◌≡◌ {A = Option (List ℕ)} (Some (2 ∷ [])) (Some (1 ∷ [])) → ⊥
    changed e = absurd cc

-- a failure is of the story's file, or of the other that a request names once there is a story; of no file that it doesn't name
blamed :
    IsBlamed (ListStory (5 ∷ []) None false) (drawer 0 [] [] (5 ∷ [])) × (IsBlamed (ListStory (5 ∷ []) None false) (drawer 0 [] [] (6 ∷ [])) → ⊥)
    × IsBlamed (ListStory (5 ∷ []) (Some (6 ∷ [])) false) (drawer 0 [] [] (5 ∷ [])) × (IsBlamed (ListStory (5 ∷ []) (Some (6 ∷ [])) false) (drawer 0 (5 ∷ []) [] (6 ∷ [])) → ⊥)
    × (IsBlamed (ListStory (5 ∷ []) (Some (6 ∷ [])) false) (drawer 0 [] [] (7 ∷ [])) → ⊥)
    × IsBlamed (Play (5 ∷ []) None 1 100 Hidden (Some (6 ∷ [])) false false false) (drawer 0 [] [] (5 ∷ [])) × (IsBlamed (Play (5 ∷ []) None 1 100 Hidden (Some (6 ∷ [])) false false false) (drawer 0 [] [] (6 ∷ [])) → ⊥)
    × IsBlamed (Check (5 ∷ []) (6 ∷ []) false) (drawer 0 [] [] (5 ∷ [])) × (IsBlamed (Check (5 ∷ []) (6 ∷ []) false) (drawer 0 (5 ∷ []) [] (6 ∷ [])) → ⊥) × (IsBlamed (Check (5 ∷ []) (6 ∷ []) false) (drawer 0 [] [] (7 ∷ [])) → ⊥)
    × IsBlamed (Play (5 ∷ []) (Some (6 ∷ [])) 1 100 Hidden None false false false) (drawer 0 [] [] (5 ∷ [])) × (IsBlamed (Play (5 ∷ []) (Some (6 ∷ [])) 1 100 Hidden None false false false) (drawer 0 (5 ∷ []) [] (6 ∷ [])) → ⊥)
    × IsBlamed (Show (5 ∷ []) (6 ∷ []) None) (drawer 0 [] [] (5 ∷ [])) × (IsBlamed (Show (5 ∷ []) (6 ∷ []) None) (drawer 0 (5 ∷ []) [] (6 ∷ [])) → ⊥)
    × IsBlamed (Find (5 ∷ []) (6 ∷ []) None false false false false) (drawer 0 [] [] (5 ∷ [])) × (IsBlamed (Find (5 ∷ []) (6 ∷ []) None false false false false) (drawer 0 (5 ∷ []) [] (6 ∷ [])) → ⊥) × (IsBlamed (Explain (Some (5 ∷ [])) false) (drawer 0 [] [] (5 ∷ [])) → ⊥)
unfolding drawer
blamed = (
  refl,
  λ e. true≢false (sym e),
  inl refl,
  of_none,
  of_another,
  refl,
  λ e. true≢false (sym e),
  inl refl,
  of_none,
  of_another,
  inl refl,
  of_none,
  inl refl,
  of_none,
  (refl, inl refl),
  of_none_found,
  λ no. no,
)
  where
    empty_holds_none : (story : LoadedStory) → HoldsStory (Some []) story → ⊥
    empty_holds_none story held = omega (arith, story_bytes (Some []) story held)

    of_none : IsBlamed (Check (5 ∷ []) (6 ∷ []) false) (drawer 0 (5 ∷ []) [] (6 ∷ [])) → ⊥
    of_none (inl e) = true≢false (sym e)
    of_none (inr ((story, held), e)) = empty_holds_none story held

    of_another : IsBlamed (Check (5 ∷ []) (6 ∷ []) false) (drawer 0 [] [] (7 ∷ [])) → ⊥
    of_another (inl e) = true≢false (sym e)
    of_another (inr (held, e)) = true≢false (sym e)

    of_none_found : IsBlamed (Find (5 ∷ []) (6 ∷ []) None false false false false) (drawer 0 (5 ∷ []) [] (6 ∷ [])) → ⊥
    of_none_found (plain, inl e) = true≢false (sym e)
    of_none_found (plain, inr ((bytes, text, marks, (story, held, found)), e)) = empty_holds_none story held

-- for an empty story's file memory is never wanted, nor is it listed
unlisted_empty : IsNoListing (Some []) (Failed Memory) → ⊥
unlisted_empty (inl some) = omega (arith, some)
unlisted_empty (inr (story, holds, why)) = omega (arith, story_bytes (Some []) story holds)

-- playing never comes to an acceptance, nor checking to the end of a play or to a failed read
never : (story certificate before now : Option (List ℕ)) (manner : Manner) (outside : World) →
    (ComesTo story manner outside [] before now Accepted → ⊥) × (PlayComesTo story certificate manner outside [] before now Accepted → ⊥)
    × (CheckComesTo story certificate before now (Played ends.Quit) → ⊥) × (CheckComesTo story certificate before now (Stopped (Failed Read)) → ⊥)
never story certificate before now manner outside = (λ no. no, none, λ no. no, λ no. none no.0)
  where
    none : ⊥ ⊎ ⊥ → ⊥
    none (inl accepts) = accepts
    none (inr accepts) = accepts

-- input is read for a play alone
input_read : (is_quiet (ListStory (codes "hello.z3") None true) ≡ true) × (is_quiet (ListStory (codes "hello.z3") (Some (codes "hello.cert")) true) ≡ true) × (is_quiet (Find (codes "hello.z3") (codes "hello.cert") None false false false true) ≡ true) × (is_quiet (Explain (Some (codes "I5")) true) ≡ true) × (is_quiet (Check (codes "hello.z3") (codes "hello.cert") true) ≡ true) × (is_quiet (Play (codes "hello.z3") None 1 100 Hidden None false false false) ≡ false)
input_read = (refl, refl, refl, refl, refl, refl)

-- on a terminal a play tells of refused saves, whether that is asked for or not; elsewhere what is asked for is done
told_on_a_terminal :
    (spoken Words (Play (1 ∷ []) None 1 2 Bracketed (Some (7 ∷ [])) false false false) ≡ Play (1 ∷ []) None 1 2 Bracketed (Some (7 ∷ [])) true false false)
    × (spoken Codes (Play (1 ∷ []) (Some (2 ∷ [])) 1 2 Hidden (Some (7 ∷ [])) false true false) ≡ Play (1 ∷ []) (Some (2 ∷ [])) 1 2 Hidden (Some (7 ∷ [])) false true false)
    × (spoken Codes (Play (1 ∷ []) None 1 2 Hidden None true false false) ≡ Play (1 ∷ []) None 1 2 Hidden None true false false) × (spoken Words (Check (1 ∷ []) (2 ∷ []) true) ≡ Check (1 ∷ []) (2 ∷ []) true)
told_on_a_terminal = (refl, refl, refl, refl)

-- a file may be written for a certificate and for saves
files_written :
    (written_by (ListStory (codes "hello.z3") None true) ≡ None) × (written_by (ListStory (codes "hello.z3") (Some (codes "hello.cert")) true) ≡ None) × (written_by (Find (codes "hello.z3") (codes "hello.cert") None false false false true) ≡ Some (codes "hello.cert")) × (written_by (Check (codes "hello.z3") (codes "hello.cert") true) ≡ None)
    × (written_by (Play (codes "hello.z3") None 1 100 Hidden (Some (codes "a.qzl")) false false false) ≡ Some (codes "a.qzl")) × (written_by (Explain (Some (codes "I5")) true) ≡ None)
files_written = (refl, refl, refl, refl, refl, refl)

-- a text that was found isn't kept by a file of other bytes
kept_whole : HasAlone (1 ∷ 2 ∷ []) (Some (1 ∷ 2 ∷ [])) × (HasAlone (1 ∷ 2 ∷ []) (Some (1 ∷ [])) → ⊥)
kept_whole = (refl, λ e. omega (arith, ap length e))

-- where saves are kept nowhere, none is kept by a play of either machine, whatever comes of it
kept_nowhere :
    {V : Type 0} (o : SetOperations V) (input before now : Option (List ℕ)) (seed : ℕ) (manner : Manner) (result : Result End PlayError)
    → ((file : List ℕ) (p : IsPlayed file manner (given input seed (store_of None)) [] before now result) → p.store.kept ≡ Some None)
    × ((a : AcceptanceOver V) (p : IsPlayedBy o a manner (given input seed (store_of None)) [] before now result) → p.store.kept ≡ Some None)
kept_nowhere o input before now seed manner result = (λ file p. p.unsaved refl, λ a p. p.unsaved refl)

-- ---- files that are to be written over

-- a file is what it is to be where it begins so, or is shorter and as far as it goes
begun_so :
    BeginsSo (codes "ZPCC") [] × BeginsSo (codes "ZPCC") (codes "ZPC") × BeginsSo (codes "ZPCC") (codes "ZPCC") × BeginsSo (codes "FORM") (codes "FORM" ++ 0 ∷ [])
    × (BeginsSo (codes "ZPCC") (3 ∷ []) → ⊥) × (BeginsSo (codes "ZPCC") (codes "ZPCD") → ⊥) × (BeginsSo (codes "FORM") (codes "FORN" ++ 0 ∷ []) → ⊥)
begun_so = (refl, refl, refl, refl, λ e. absurd cc, λ e. omega (arith, ap (λ (bytes : List ℕ). slice_index bytes 3) e), λ e. omega (arith, ap (λ (bytes : List ℕ). slice_index bytes 3) e))

-- a certificate that is found and saves are kept so, unless any file may be written over
kept_so :
    (kept_in (Find (1 ∷ []) (2 ∷ []) None false false false false) ≡ Some (2 ∷ [], purposes.Certificate)) × (kept_in (Find (1 ∷ []) (2 ∷ []) None true true true false) ≡ None)
    × (kept_in (Play (1 ∷ []) None 1 2 Hidden (Some (7 ∷ [])) true false false) ≡ Some (7 ∷ [], purposes.Save)) × (kept_in (Play (1 ∷ []) (Some (2 ∷ [])) 1 2 Hidden (Some (7 ∷ [])) false true false) ≡ None)
    × (kept_in (Play (1 ∷ []) None 1 2 Bracketed None true false false) ≡ None) × (kept_in (Check (1 ∷ []) (2 ∷ []) false) ≡ None)
kept_so = (refl, refl, refl, refl, refl, refl)

-- a story's file isn't written over by saves, and a file of saves is, or by anything where that is asked for
module _ (story saves : List ℕ → Option (List ℕ)) (is : story (7 ∷ []) ≡ Some (3 ∷ 0 ∷ [])) (are : saves (7 ∷ []) ≡ Some (codes "FORM")) where
  occupied :
      IsOccupied (Play (7 ∷ []) None 1 2 Hidden (Some (7 ∷ [])) false false false) story (Occupied purposes.Save) × (MayWrite (Play (7 ∷ []) None 1 2 Hidden (Some (7 ∷ [])) false false false) story → ⊥)
      × MayWrite (Play (1 ∷ []) None 1 2 Hidden (Some (7 ∷ [])) false false false) saves × MayWrite (Play (7 ∷ []) None 1 2 Hidden (Some (7 ∷ [])) false true false) story
      × (IsOccupied (Find (1 ∷ []) (7 ∷ []) None false false false false) story (Occupied purposes.Save) → ⊥)
  occupied = (((7 ∷ [], purposes.Save), refl, refl, rw is other), rw is other, rw are refl, tt, another)
    where
      number_in : Option (List ℕ × Purpose) → ℕ
      number_in None = 0
      number_in (Some file) = purpose_number file.1

      number_told : Problem → ℕ
      number_told (Occupied purpose) = purpose_number purpose
      number_told problem = 0

      other : BeginsSo (codes "FORM") (3 ∷ 0 ∷ []) → ⊥
      other e = omega (arith, ap (λ (bytes : List ℕ). slice_index bytes 0) e)

      another : IsOccupied (Find (1 ∷ []) (7 ∷ []) None false false false false) story (Occupied purposes.Save) → ⊥
      another (file, e, told, held) = omega (arith, ap (λ (o : Option (List ℕ × Purpose)). number_in o) e, ap number_told told)

-- and that is told, as a refusal
occupied_told :
    (text_of (Stopped (Occupied purposes.Certificate)) ≡ codes "refused: N1") × (text_of (Stopped (Occupied purposes.Save)) ≡ codes "refused: N2") × (status_of (Stopped (Occupied purposes.Save)) ≡ 1)
unfolding digits
occupied_told = (refl, refl, refl)
