-- Values of the definitions, computed.
use Rattle.std.proofs.Common.{◌≡◌, true, false, ℕ, List, [], ◌∷◌, ◌++◌, length, replicate, zero, suc, Some, None, Ok, Err, pos, negsuc, inl, inr, refl, ap, arith}
use Rattle.std.specs.List.{AllByRecursion}
use Rattle.std.specs.Prelude.{is_some}
use Rattle.std.proofs.lemmas.Int.{ints}
use Rattle.zdomain.specs.declared.interval.Interval.{Interval}
use Rattle.zdomain.specs.Interval.{point, all_words, interval_of, in_order}
use Rattle.zstory.specs.declared.identity.Identity.{Identity}
use Rattle.zcert.specs.declared.edition.Edition.{Edition}
use Rattle.zcert.specs.declared.edition.Edition.TheVariants as editions
use Rattle.zcert.specs.declared.error.CertError.TheVariants as errors
use Rattle.zcert.specs.declared.field.Field.TheVariants as fields
use Rattle.zcert.specs.declared.field.Header.{Header}
use Rattle.zcert.specs.declared.field.Turn.{Turn}
use Rattle.zcert.specs.declared.field.Turn.TheVariants as turns
use Rattle.zcert.specs.declared.parts.Range.{Range}
use Rattle.zcert.specs.declared.parts.Routine.{Routine}
use Rattle.zcert.specs.declared.instructions.Stored.{Stored}
use Rattle.zcert.specs.declared.limits.TheConstants.{MAGIC, VERSION, GLOBALS, ADDRESS_LIMIT, MAX_LOCALS, MAX_INSTRUCTIONS, MAX_RANGES, MAX_ROUTINES, MAX_HEIGHT, LIMIT_VERSION, MAX_FRAMES}
use Rattle.zcert.specs.Numbers.{width, number, HasRoom}
use Rattle.zcert.specs.Numbers as numbers
use Rattle.zcert.specs.Certificate.{Instruction, locals_of, limit_or_usual}
use Rattle.zcert.specs.Steps.{◌>>=◌, need, sized_at, number_at, serial_at}
use Rattle.zcert.specs.Format.{IsAllowed, interval_format, nonempty, version_of}
use Rattle.zcert.specs.Lists.{values_format}
use Rattle.zcert.specs.Spelling.{identity_bytes, limit_bytes, range_bytes, counted, routine_bytes, instruction_bytes, heading, IsIdentity, IsLimit, IsRange, AreApart, InstructionsRise, IsRoutine, IsInstruction}
use Rattle.zcert.specs.Reading.{magic_at, version_at, heading_at, identity_at, limit_at, range_at, ranges_at, all_ranges_at, address_fits, values_at, routine_at, routines_at, all_routines_at, instruction_at, instructions_at, all_instructions_at, reading}
use Rattle.zcert.specs.Building.{Progress, opening, behind_identity, limit_before, before_globals, before_ranges, before_routines, before_instructions, instruction_of, with_routine, InTurn, taken, all_taken, Adds, IsDue}
use Rattle.zcert.specs.Fields.{field_bytes, IsField, field_at, next_at, IsReached, LeadsToPart}
use Rattle.zcert.specs.Keeping.{intervals_kept}
use Rattle.zcert.specs.Contents.{has_mark, values_of, stored_instruction, LiesIn}
use Rattle.zcert.specs.Listed.{listed_at, Finds}
use Rattle.zcert.specs.Listed as listing
use Rattle.zcert.specs.Refusal.{number_of}
use Rattle.zcert.specs.declared.stage.Stage.TheVariants as stages
use Rattle.zcert.specs.declared.interval_spelled.Begun.TheVariants.{Nothing, Lower}
use Rattle.zcert.specs.Turns.{IsOfSet, IsSetNext, field_width, next_width, IsPartOf, IsAwaiting}
use Rattle.zcert.specs.Begun.{end_bytes, ends_turns}
use Rattle.zcert.specs.Streaming.{IsCut, GoesOn, unfed, Leads, IsRefusal, IsUnread, IsFed, IsOpen}
use Rattle.zcert.proofs.Follows.{magic_refused}
use Rattle.zcert.proofs.Fronts.{intervals_held}
use Rattle.zcert.specs.View.{Answers, Refuses, RefusesField, Takes}

-- ---- limits

limits : (MAGIC ≡ 0x5A504343) × (VERSION ≡ 1) × (GLOBALS ≡ 240) × (ADDRESS_LIMIT ≡ 131072) × (MAX_LOCALS ≡ 15) × (MAX_INSTRUCTIONS ≡ 131072) × (MAX_RANGES ≡ 65535) × (MAX_ROUTINES ≡ 65535) × (MAX_HEIGHT ≡ 64)
limits = (refl, refl, refl, refl, refl, refl, refl, refl, refl)

-- ---- numbers

widths : (width numbers.Magic ≡ 4) × (width numbers.LocalCount ≡ 1) × (width numbers.RoutineNumber ≡ 2)
widths = (refl, refl, refl)

-- the highest byte first
written : (number numbers.Release 258 ≡ 1 ∷ 2 ∷ []) × (number numbers.LoadedLength 810 ≡ 0 ∷ 0 ∷ 3 ∷ 0x2A ∷ []) × (number numbers.Height 64 ≡ 64 ∷ [])
written = (refl, refl, refl)

room : HasRoom numbers.Height 255 × HasRoom numbers.RangeLast 65535 × (HasRoom numbers.Height 256 → ⊥)
room = (omega arith, omega arith, λ more. omega (arith, more))

-- each number of an identity has room of its own, and so has the last place of a range
crowded : (i : Identity) → (IsIdentity (record i { release = 65536; checksum = 0 }) → ⊥) × (IsIdentity (record i { release = 0; checksum = 65536 }) → ⊥) × (IsRange (record { first = 0; last = 65536 }) → ⊥)
crowded i = (λ it. omega (arith, it.release), λ it. omega (arith, it.checksum), λ it. omega (arith, it.room))

-- both ends of an interval are signed words
too_high : interval_format.Has (record { lo = pos 0; hi = pos 32767; ordered = in_order (pos 0) (pos 32767) refl }) × (interval_format.Has (record { lo = pos 0; hi = pos 32768; ordered = in_order (pos 0) (pos 32768) refl }) → ⊥)
too_high = ((omega arith, omega arith), λ has. omega (arith, has.1))

-- ---- parts

range : Range
range = record { first = 64; last = 66 }

-- a routine at 0x32E with one local, which gives 1; and one with 15
routine : Routine Interval
routine = record { address = 0x32E; locals = 1; result = point 1 }

-- addresses rise, whichever routines the instructions are in
abbrev bare : ℕ → ℕ → Instruction Interval
bare address number = record { address = address; routine = number; is_marked = false; locals = []; slots = [] }

addresses_rise : InstructionsRise (bare 5 1 ∷ bare 6 0 ∷ []) × (InstructionsRise (bare 6 0 ∷ bare 5 1 ∷ []) → ⊥)
addresses_rise = ((omega arith, (omega arith, tt)), λ rise. omega (arith, rise.1.0))

routines : List (Routine Interval)
routines = routine ∷ record { address = 0x340; locals = 15; result = point 2 } ∷ []

-- the main code has no locals, nor has what isn't there
locals : (locals_of routines 0 ≡ 0) × (locals_of routines 1 ≡ 1) × (locals_of routines 2 ≡ 15) × (locals_of routines 3 ≡ 0)
unfolding routines routine
locals = (refl, refl, refl, refl)

-- an instruction of that routine, with its local in [0, 0] and a slot with 7
instruction : Instruction Interval
instruction = record { address = 0x331; routine = 1; is_marked = false; locals = point 0 ∷ []; slots = point 7 ∷ [] }

main_instruction : Instruction Interval
main_instruction = record { address = 0x324; routine = 0; is_marked = false; locals = []; slots = [] }

-- an instruction of the main code with two slots: the bottom one in [1, 2], the top one in [-1, 3]
stacked : Instruction Interval
stacked = record {
  address = 0x326;
  routine = 0;
  is_marked = false;
  locals = [];
  slots = record { lo = pos 1; hi = pos 2; ordered = in_order (pos 1) (pos 2) refl } ∷ record { lo = negsuc 0; hi = pos 3; ordered = in_order (negsuc 0) (pos 3) refl } ∷ [];
}

stacked_text : List ℕ
stacked_text = 0 ∷ 0 ∷ 3 ∷ 0x26 ∷ 0 ∷ 0 ∷ 2 ∷ 0 ∷ 1 ∷ 0 ∷ 2 ∷ 0xFF ∷ 0xFF ∷ 0 ∷ 3 ∷ []

identity : Identity
identity = record { release = 1; serial = 0x32 ∷ 0x36 ∷ 0x30 ∷ 0x31 ∷ 0x30 ∷ 0x31 ∷ []; checksum = 0x3A7A; length = 0x32A }

identity_text : List ℕ
identity_text = 0x00 ∷ 0x01 ∷ 0x32 ∷ 0x36 ∷ 0x30 ∷ 0x31 ∷ 0x30 ∷ 0x31 ∷ 0x3A ∷ 0x7A ∷ 0x00 ∷ 0x00 ∷ 0x03 ∷ 0x2A ∷ []

-- ---- steps of reading

needs : (need true errors.Limit ≡ Ok tt) × (need false errors.Limit ≡ Err errors.Limit) × (need false errors.Order ≡ Err errors.Order)
needs = (refl, refl, refl)

numbers_read : (number_at numbers.Release (1 ∷ 2 ∷ 3 ∷ []) ≡ Ok (258, 3 ∷ [])) × (number_at numbers.Release (1 ∷ []) ≡ Err errors.Truncated) × (sized_at 1 (9 ∷ []) ≡ Ok (9, [])) × (sized_at 4 (0 ∷ 0 ∷ 3 ∷ []) ≡ Err errors.Truncated)
numbers_read = (refl, refl, refl, refl)

serials : (serial_at (1 ∷ 2 ∷ 3 ∷ 4 ∷ 5 ∷ 6 ∷ 7 ∷ []) ≡ Ok (1 ∷ 2 ∷ 3 ∷ 4 ∷ 5 ∷ 6 ∷ [], 7 ∷ [])) × (serial_at (1 ∷ 2 ∷ 3 ∷ 4 ∷ 5 ∷ []) ≡ Err errors.Truncated)
serials = (refl, refl)

-- what is wrong first is what is answered
chained : (((need true errors.Order) >>= λ _. need false errors.Limit) ≡ Err errors.Limit) × (((need false errors.Order) >>= λ _. need false errors.Limit) ≡ Err errors.Order)
chained = (refl, refl)

-- ---- sets of words

below_zero : Interval
below_zero = record { lo = negsuc 1; hi = pos 5; ordered = in_order (negsuc 1) (pos 5) refl }

-- each end is a signed word, the lower one first
spelled : (interval_format.spelled below_zero ≡ 0xFF ∷ 0xFE ∷ 0 ∷ 5 ∷ []) × (interval_format.spelled (point 0x102) ≡ 1 ∷ 2 ∷ 1 ∷ 2 ∷ []) × (interval_format.spelled all_words ≡ 0x80 ∷ 0 ∷ 0x7F ∷ 0xFF ∷ [])
unfolding below_zero
spelled = (refl, refl, refl)

read_again : (interval_format.value_at (0xFF ∷ 0xFE ∷ 0 ∷ 5 ∷ 9 ∷ []) ≡ Ok (below_zero, 9 ∷ [])) × (interval_format.value_at (0 ∷ 1 ∷ 0 ∷ 0 ∷ []) ≡ Err errors.EmptyInterval) × (interval_format.value_at (0 ∷ 5 ∷ 0xFF ∷ 0xFE ∷ []) ≡ Err errors.EmptyInterval) × (interval_format.value_at (0 ∷ 1 ∷ 0 ∷ []) ≡ Err errors.Truncated)
unfolding below_zero
read_again = (refl, refl, refl, refl)

none_between : (nonempty (interval_of (pos 1) (pos 0)) ≡ Err errors.EmptyInterval) × (nonempty None ≡ Err errors.EmptyInterval) × (nonempty (Some below_zero) ≡ Ok below_zero)
none_between = (refl, refl, refl)

-- ---- the spelling

identity_spelled : identity_bytes identity ≡ identity_text
unfolding identity identity_text
identity_spelled = refl

ranges_spelled : (range_bytes range ≡ 0 ∷ 64 ∷ 0 ∷ 66 ∷ []) × (counted numbers.RangeCount range_bytes [] ≡ 0 ∷ 0 ∷ []) × (counted numbers.RangeCount range_bytes (range ∷ []) ≡ 0 ∷ 1 ∷ 0 ∷ 64 ∷ 0 ∷ 66 ∷ [])
unfolding range
ranges_spelled = (refl, refl, refl)

routine_spelled : routine_bytes interval_format routine ≡ 0 ∷ 0 ∷ 3 ∷ 0x2E ∷ 1 ∷ 0 ∷ 1 ∷ 0 ∷ 1 ∷ []
unfolding routine
routine_spelled = refl

-- the height says how many slots there are, and the locals come before them
instructions_spelled : (instruction_bytes interval_format main_instruction ≡ 0 ∷ 0 ∷ 3 ∷ 0x24 ∷ 0 ∷ 0 ∷ 0 ∷ []) × (instruction_bytes interval_format instruction ≡ 0 ∷ 0 ∷ 3 ∷ 0x31 ∷ 0 ∷ 1 ∷ 1 ∷ 0 ∷ 0 ∷ 0 ∷ 0 ∷ 0 ∷ 7 ∷ 0 ∷ 7 ∷ [])
unfolding main_instruction instruction
instructions_spelled = (refl, refl)

-- the bottom slot first
stack_spelled : instruction_bytes interval_format stacked ≡ stacked_text
unfolding stacked stacked_text
stack_spelled = refl

heading_spelled : (heading interval_format editions.Plain ≡ 0x5A ∷ 0x50 ∷ 0x43 ∷ 0x43 ∷ 1 ∷ []) × (heading values_format editions.Limited ≡ 0x5A ∷ 0x50 ∷ 0x43 ∷ 0x43 ∷ 3 ∷ []) × (heading values_format editions.Marking ≡ 0x5A ∷ 0x50 ∷ 0x43 ∷ 0x43 ∷ 4 ∷ [])
heading_spelled = (refl, refl, refl)

-- a limit of frames is named in version 3 alone, whose sets may be lists, and is 1,024 where it isn't
limits_named : (limit_bytes None ≡ []) × (limit_bytes (Some 0x1000) ≡ 0x10 ∷ 0 ∷ []) × (limit_or_usual None ≡ 1024) × (limit_or_usual (Some 3) ≡ 3) × (LIMIT_VERSION ≡ 3) × (MAX_FRAMES ≡ 4096) × (version_of values_format editions.Plain ≡ 2) × (version_of values_format editions.Limited ≡ 3) × (version_of values_format editions.Marking ≡ 4)
limits_named = (refl, refl, refl, refl, refl, refl, refl, refl, refl)

limits_allowed : IsAllowed values_format editions.Limited × (IsAllowed interval_format editions.Limited → ⊥) × IsAllowed values_format editions.Marking × (IsAllowed interval_format editions.Marking → ⊥) × IsLimit interval_format None × IsLimit values_format (Some 4096) × (IsLimit values_format (Some 4097) → ⊥) × (IsLimit interval_format (Some 3) → ⊥)
limits_allowed = (refl, (λ e. absurd cc), refl, (λ e. absurd cc), tt, (refl, omega arith), (λ l. omega (arith, l.1)), λ l. absurd (let e = l.0 in cc))

-- a range may end where it begins, and not before; another begins at least two above its end
ordered : IsRange (record { first = 64; last = 64 }) × (IsRange (record { first = 65; last = 64 }) → ⊥)
ordered = (record { ordered = omega arith; room = omega arith }, λ r. omega (arith, r.ordered))

apart : AreApart 0 (range ∷ record { first = 68; last = 68 } ∷ []) × (AreApart 0 (range ∷ record { first = 67; last = 68 } ∷ []) → ⊥) × (AreApart 65 (range ∷ []) → ⊥)
unfolding range
apart = ((omega arith, (omega arith, tt)), λ a. omega (arith, a.1.0), λ a. omega (arith, a.0))

rising : InstructionsRise (main_instruction ∷ instruction ∷ []) × (InstructionsRise (main_instruction ∷ main_instruction ∷ []) → ⊥) × (InstructionsRise (instruction ∷ main_instruction ∷ []) → ⊥)
unfolding main_instruction instruction
rising = ((omega arith, (omega arith, tt)), λ r. omega (arith, r.1.0), λ r. omega (arith, r.1.0))

is_identity : IsIdentity identity
unfolding identity
is_identity = record {
  release = omega arith;
  serial = refl;
  serial_bytes = (omega arith, (omega arith, (omega arith, (omega arith, (omega arith, (omega arith, tt))))));
  checksum = omega arith;
  loaded_length = omega arith;
}

last_address : IsRoutine interval_format (record routine { address = 131071; locals = 15 }) × (IsInstruction interval_format [] (record main_instruction { address = 131072 }) → ⊥)
unfolding routine main_instruction
last_address = (record { address = omega arith; locals = omega arith; result = (omega arith, omega arith) }, λ i. omega (arith, i.address))

-- 64 slots are as many as there may be
each_alike : (n : ℕ) (v : Interval) → interval_format.Has v → AllByRecursion interval_format.Has (replicate n v)
each_alike zero v has = tt
each_alike (suc n) v has = (has, each_alike n v has)

high : Instruction Interval
high = record { address = 0x324; routine = 0; is_marked = false; locals = []; slots = replicate 64 (point 0) }

heights : IsInstruction interval_format [] high × ((i : Instruction Interval) → length i.slots ≡ 65 → IsInstruction interval_format [] i → ⊥)
unfolding high
heights = (
  record { address = omega arith; routine = omega arith; locals = refl; height = omega arith; local_values = tt; slot_values = each_alike 64 (point 0) (omega arith, omega arith) },
  λ i e is. omega (arith, e, is.height),
)

is_routine : IsRoutine interval_format routine × (IsRoutine interval_format (record routine { locals = 16 }) → ⊥) × (IsRoutine interval_format (record routine { address = 131072 }) → ⊥)
unfolding routine
is_routine = (record { address = omega arith; locals = omega arith; result = (omega arith, omega arith) }, λ r. omega (arith, r.locals), λ r. omega (arith, r.address))

-- it has a local for each of its routine's, and its routine is there
is_instruction : IsInstruction interval_format [] main_instruction × (IsInstruction interval_format routines main_instruction) × (IsInstruction interval_format [] (record main_instruction { routine = 1 }) → ⊥) × (IsInstruction interval_format routines (record main_instruction { routine = 1 }) → ⊥)
unfolding main_instruction routines routine
is_instruction = (
  record { address = omega arith; routine = omega arith; locals = refl; height = omega arith; local_values = tt; slot_values = tt },
  record { address = omega arith; routine = omega arith; locals = refl; height = omega arith; local_values = tt; slot_values = tt },
  λ i. omega (arith, i.routine),
  λ i. omega (arith, i.locals),
)

-- ---- reading

magics : (magic_at (0x5A ∷ 0x50 ∷ 0x43 ∷ 0x43 ∷ 9 ∷ []) ≡ Ok (9 ∷ [])) × (magic_at (0x5B ∷ 0x50 ∷ 0x43 ∷ 0x43 ∷ []) ≡ Err errors.Magic) × (magic_at (0x5B ∷ 0x50 ∷ 0x43 ∷ []) ≡ Err errors.Truncated)
unfolding magic_at
magics = (refl, refl, refl)

versions : (version_at interval_format (1 ∷ 7 ∷ []) ≡ Ok (editions.Plain, 7 ∷ [])) × (version_at interval_format (2 ∷ []) ≡ Err errors.Version) × (version_at interval_format (3 ∷ []) ≡ Err errors.Version) × (version_at interval_format (4 ∷ []) ≡ Err errors.Version) × (version_at interval_format [] ≡ Err errors.Truncated)
unfolding version_at
versions = (refl, refl, refl, refl, refl)

-- the magic is looked at before the version
headings : (heading_at interval_format (0x5A ∷ 0x50 ∷ 0x43 ∷ 0x43 ∷ 1 ∷ 8 ∷ []) ≡ Ok (editions.Plain, 8 ∷ [])) × (heading_at interval_format (0x5A ∷ 0x50 ∷ 0x43 ∷ 0x44 ∷ 2 ∷ []) ≡ Err errors.Magic) × (heading_at interval_format (0x5A ∷ 0x50 ∷ 0x43 ∷ 0x43 ∷ []) ≡ Err errors.Truncated)
unfolding heading_at magic_at version_at
headings = (refl, refl, refl)

-- a limit of at most 4,096
limits_read : (limit_at true (0x10 ∷ 0 ∷ 7 ∷ []) ≡ Ok (Some 4096, 7 ∷ [])) × (limit_at true (0x10 ∷ 1 ∷ 7 ∷ []) ≡ Err errors.Limit) × (limit_at true (0 ∷ 0 ∷ []) ≡ Ok (Some 0, [])) × (limit_at true (0x10 ∷ []) ≡ Err errors.Truncated) × (limit_at false (0x10 ∷ 1 ∷ []) ≡ Ok (None, 0x10 ∷ 1 ∷ []))
unfolding limit_at
limits_read = (refl, refl, refl, refl, refl)

identities : (identity_at (identity_text ++ 5 ∷ []) ≡ Ok (identity, 5 ∷ [])) × (identity_at (0 ∷ 1 ∷ 2 ∷ []) ≡ Err errors.Truncated)
unfolding identity_at identity identity_text
identities = (refl, refl)

-- a first byte below what is due is refused before the last one is read
ranges_read : (range_at 64 (0 ∷ 64 ∷ 0 ∷ 66 ∷ 9 ∷ []) ≡ Ok (range, 9 ∷ [])) × (range_at 65 (0 ∷ 64 ∷ []) ≡ Err errors.Order) × (range_at 0 (0 ∷ 64 ∷ 0 ∷ []) ≡ Err errors.Truncated) × (range_at 0 (0 ∷ 64 ∷ 0 ∷ 63 ∷ []) ≡ Err errors.Order)
unfolding range_at range
ranges_read = (refl, refl, refl, refl)

several_ranges : (ranges_at 2 0 (0 ∷ 64 ∷ 0 ∷ 66 ∷ 0 ∷ 68 ∷ 0 ∷ 68 ∷ []) ≡ Ok (range ∷ record { first = 68; last = 68 } ∷ [], [])) × (ranges_at 2 0 (0 ∷ 64 ∷ 0 ∷ 66 ∷ 0 ∷ 67 ∷ 0 ∷ 68 ∷ []) ≡ Err errors.Order) × (ranges_at 0 0 (3 ∷ []) ≡ Ok ([], 3 ∷ []))
unfolding ranges_at range_at range
several_ranges = (refl, refl, refl)

counted_ranges : (all_ranges_at (0 ∷ 0 ∷ 4 ∷ []) ≡ Ok ([], 4 ∷ [])) × (all_ranges_at (0 ∷ 1 ∷ 0 ∷ 64 ∷ 0 ∷ 66 ∷ 9 ∷ []) ≡ Ok (range ∷ [], 9 ∷ [])) × (all_ranges_at (0 ∷ []) ≡ Err errors.Truncated)
unfolding all_ranges_at ranges_at range_at range
counted_ranges = (refl, refl, refl)

-- the order is judged before the limit
addresses : (address_fits 0 131071 ≡ Ok tt) × (address_fits 0 131072 ≡ Err errors.Limit) × (address_fits 131073 131072 ≡ Err errors.Order) × (address_fits 5 4 ≡ Err errors.Order) × (address_fits 5 5 ≡ Ok tt)
addresses = (refl, refl, refl, refl, refl)

sets : (values_at interval_format 2 (0 ∷ 0 ∷ 0 ∷ 0 ∷ 0 ∷ 7 ∷ 0 ∷ 7 ∷ 1 ∷ []) ≡ Ok (point 0 ∷ point 7 ∷ [], 1 ∷ [])) × (values_at interval_format 2 (0 ∷ 0 ∷ 0 ∷ 0 ∷ 0 ∷ 7 ∷ 0 ∷ 6 ∷ []) ≡ Err errors.EmptyInterval) × (values_at interval_format 1 [] ≡ Err errors.Truncated)
unfolding values_at
sets = (refl, refl, refl)

routines_read : (routine_at interval_format 0 (0 ∷ 0 ∷ 3 ∷ 0x2E ∷ 1 ∷ 0 ∷ 1 ∷ 0 ∷ 1 ∷ 6 ∷ []) ≡ Ok (routine, 6 ∷ [])) × (routine_at interval_format 0 (0 ∷ 0 ∷ 3 ∷ 0x2E ∷ 16 ∷ []) ≡ Err errors.Limit) × (routine_at interval_format 0 (0 ∷ 2 ∷ 0 ∷ 0 ∷ []) ≡ Err errors.Limit) × (routine_at interval_format 0x32F (0 ∷ 0 ∷ 3 ∷ 0x2E ∷ []) ≡ Err errors.Order)
unfolding routine_at routine
routines_read = (refl, refl, refl, refl)

two_routines : (routines_at interval_format 2 0 (0 ∷ 0 ∷ 3 ∷ 0x2E ∷ 1 ∷ 0 ∷ 1 ∷ 0 ∷ 1 ∷ 0 ∷ 0 ∷ 3 ∷ 0x40 ∷ 15 ∷ 0 ∷ 2 ∷ 0 ∷ 2 ∷ []) ≡ Ok (routines, [])) × (routines_at interval_format 2 0 (0 ∷ 0 ∷ 3 ∷ 0x2E ∷ 1 ∷ 0 ∷ 1 ∷ 0 ∷ 1 ∷ 0 ∷ 0 ∷ 3 ∷ 0x2F ∷ 1 ∷ 0 ∷ 1 ∷ 0 ∷ 1 ∷ []) ≡ Ok (routine ∷ record routine { address = 0x32F } ∷ [], [])) × (routines_at interval_format 2 0 (0 ∷ 0 ∷ 3 ∷ 0x2E ∷ 1 ∷ 0 ∷ 1 ∷ 0 ∷ 1 ∷ 0 ∷ 0 ∷ 3 ∷ 0x2E ∷ []) ≡ Err errors.Order)
unfolding routines_at routine_at routines routine
two_routines = (refl, refl, refl)

-- the lowest address is 0
counted_routines : (all_routines_at interval_format (0 ∷ 0 ∷ 4 ∷ []) ≡ Ok ([], 4 ∷ [])) × (all_routines_at interval_format (0 ∷ 1 ∷ 0 ∷ 0 ∷ 3 ∷ 0x2E ∷ 1 ∷ 0 ∷ 1 ∷ 0 ∷ 1 ∷ 9 ∷ []) ≡ Ok (routine ∷ [], 9 ∷ [])) × (all_routines_at interval_format (0 ∷ []) ≡ Err errors.Truncated) × (all_routines_at interval_format (0 ∷ 1 ∷ 0 ∷ 0 ∷ 0 ∷ 0 ∷ 1 ∷ 0 ∷ 1 ∷ 0 ∷ 1 ∷ []) ≡ Ok (record routine { address = 0 } ∷ [], []))
unfolding all_routines_at routines_at routine_at routine
counted_routines = (refl, refl, refl, refl)

-- a set for each local of its routine; a routine that isn't there is refused before the height is read
instructions_read : (instruction_at interval_format false [] 0 (0 ∷ 0 ∷ 3 ∷ 0x24 ∷ 0 ∷ 0 ∷ 0 ∷ 2 ∷ []) ≡ Ok (main_instruction, 2 ∷ [])) × (instruction_at interval_format false routines 0 (0 ∷ 0 ∷ 3 ∷ 0x31 ∷ 0 ∷ 1 ∷ 0 ∷ 0 ∷ 0 ∷ 0 ∷ 0 ∷ []) ≡ Ok (record instruction { slots = [] }, [])) × (instruction_at interval_format false routines 0 (0 ∷ 0 ∷ 3 ∷ 0x31 ∷ 0 ∷ 3 ∷ []) ≡ Err errors.Limit)
unfolding instruction_at values_at main_instruction instruction routines routine
instructions_read = (refl, refl, refl)

two_instructions : (instructions_at interval_format false [] 2 0 (0 ∷ 0 ∷ 3 ∷ 0x24 ∷ 0 ∷ 0 ∷ 0 ∷ 0 ∷ 0 ∷ 3 ∷ 0x25 ∷ 0 ∷ 0 ∷ 0 ∷ []) ≡ Ok (main_instruction ∷ record main_instruction { address = 0x325 } ∷ [], [])) × (instructions_at interval_format false [] 2 0 (0 ∷ 0 ∷ 3 ∷ 0x24 ∷ 0 ∷ 0 ∷ 0 ∷ 0 ∷ 0 ∷ 3 ∷ 0x24 ∷ []) ≡ Err errors.Order)
unfolding instructions_at instruction_at values_at main_instruction
two_instructions = (refl, refl)

-- 131,072 are let pass, and then the first is missing; one more isn't; the lowest address is 0
counted_instructions : (all_instructions_at interval_format false [] (0 ∷ 0 ∷ 0 ∷ 0 ∷ 3 ∷ []) ≡ Ok ([], 3 ∷ [])) × (all_instructions_at interval_format false [] (0 ∷ 2 ∷ 0 ∷ 0 ∷ []) ≡ Err errors.Truncated) × (all_instructions_at interval_format false [] (0 ∷ 2 ∷ 0 ∷ 1 ∷ []) ≡ Err errors.Limit) × (all_instructions_at interval_format false [] (0 ∷ 0 ∷ 0 ∷ 1 ∷ 0 ∷ 0 ∷ 0 ∷ 0 ∷ 0 ∷ 0 ∷ 0 ∷ []) ≡ Ok (record main_instruction { address = 0 } ∷ [], []))
unfolding all_instructions_at instructions_at instruction_at values_at main_instruction
counted_instructions = (refl, refl, refl, refl)

-- any count of two bytes is let pass, and then the first is missing
most_counted : (all_ranges_at (255 ∷ 255 ∷ []) ≡ Err errors.Truncated) × (all_routines_at interval_format (255 ∷ 255 ∷ []) ≡ Err errors.Truncated)
unfolding all_ranges_at ranges_at range_at all_routines_at routines_at routine_at
most_counted = (refl, refl)

-- a stack of 64 is let pass, and then a slot is missing; a stack of 65 isn't, whatever follows
stacks_read : (instruction_at interval_format false [] 0 (stacked_text ++ 6 ∷ []) ≡ Ok (stacked, 6 ∷ [])) × (instruction_at interval_format false [] 0 (0 ∷ 0 ∷ 3 ∷ 0x24 ∷ 0 ∷ 0 ∷ 64 ∷ replicate 256 0) ≡ Ok (high, [])) × (instruction_at interval_format false [] 0 (0 ∷ 0 ∷ 3 ∷ 0x24 ∷ 0 ∷ 0 ∷ 64 ∷ replicate 255 0) ≡ Err errors.Truncated) × (instruction_at interval_format false [] 0 (0 ∷ 0 ∷ 3 ∷ 0x24 ∷ 0 ∷ 0 ∷ 65 ∷ []) ≡ Err errors.Limit) × (instruction_at interval_format false [] 0 (0 ∷ 0 ∷ 3 ∷ 0x24 ∷ 0 ∷ 0 ∷ []) ≡ Err errors.Truncated)
unfolding instruction_at values_at stacked stacked_text high
stacks_read = (refl, refl, refl, refl, refl)

-- after a local of its routine a slot, and the local is read first
local_and_slot : instruction_at interval_format false routines 0 (0 ∷ 0 ∷ 3 ∷ 0x31 ∷ 0 ∷ 1 ∷ 1 ∷ 0 ∷ 0 ∷ 0 ∷ 0 ∷ 0 ∷ 7 ∷ 0 ∷ 7 ∷ []) ≡ Ok (instruction, [])
unfolding instruction_at values_at instruction routines routine
local_and_slot = refl

-- ---- field by field

-- what is to come, where so many parts are
turns_before : (before_ranges 0 ≡ turns.Global 239) × (before_ranges 1 ≡ turns.RangeFirst 0) × (before_globals 0 ≡ turns.RoutineCount) × (before_globals 1 ≡ turns.Global 0) × (before_routines 0 ≡ turns.InstructionCount) × (before_routines 2 ≡ turns.RoutineAddress 1) × (before_instructions false 0 ≡ turns.Complete) × (before_instructions false 2 ≡ turns.InstructionAddress 1)
turns_before = (refl, refl, refl, refl, refl, refl, refl, refl)

header : Header
header = record { address = 0x331; routine = 1; locals = 1; height = 1; is_marked = false }

-- the locals come first
made_of_values : instruction_of header (point 0 ∷ point 7 ∷ []) ≡ instruction
unfolding header instruction
made_of_values = refl

-- one local, and then two slots
made_of_three : instruction_of (record { address = 4; routine = 1; locals = 1; height = 2; is_marked = false }) (point 0 ∷ point 7 ∷ point 8 ∷ []) ≡ record { address = 4; routine = 1; is_marked = false; locals = point 0 ∷ []; slots = point 7 ∷ point 8 ∷ [] }
made_of_three = refl

start : Progress Interval
start = opening editions.Plain

at_turn : Turn → ℕ → Progress Interval
at_turn turn floor = record (opening editions.Plain) { turn = turn; floor = floor }

-- fields in their turn, and one out of it
first_fields : (all_taken start (fields.Release 1 ∷ fields.Serial identity.serial ∷ fields.Checksum 0x3A7A ∷ fields.LoadedLength 0x32A ∷ fields.RangeCount 0 ∷ []) ≡ Ok (record { content = record { identity = identity; limit = None; marking = false; stating = false; ranges = []; globals = []; routines = []; instructions = []; facts = [] }; values = []; floor = 0; turn = turns.Global 239 })) × (taken start (fields.Checksum 1) ≡ Err errors.Order) × (all_taken start (fields.Release 1 ∷ fields.Release 1 ∷ []) ≡ Err errors.Order)
unfolding start identity
first_fields = (refl, refl, refl)

-- nor is any other where none is to come
abbrev complete : Progress Interval
complete = record (opening editions.Plain) { turn = turns.Complete }

out_of_turn :
    (taken complete (fields.Release 1) ≡ Err errors.Order) × (taken complete (fields.Serial []) ≡ Err errors.Order) × (taken complete (fields.Checksum 1) ≡ Err errors.Order) × (taken complete (fields.LoadedLength 1) ≡ Err errors.Order)
    × (taken complete (fields.RangeCount 1) ≡ Err errors.Order) × (taken complete (fields.RangeFirst 1) ≡ Err errors.Order) × (taken complete (fields.RangeLast 1) ≡ Err errors.Order) × (taken complete (fields.Global (point 1)) ≡ Err errors.Order)
    × (taken complete (fields.RoutineCount 1) ≡ Err errors.Order) × (taken complete (fields.RoutineAddress 1) ≡ Err errors.Order) × (taken complete (fields.LocalCount 1) ≡ Err errors.Order) × (taken complete (fields.RoutineResult (point 1)) ≡ Err errors.Order)
    × (taken complete (fields.InstructionCount 1) ≡ Err errors.Order) × (taken complete (fields.InstructionAddress 1) ≡ Err errors.Order) × (taken complete (fields.RoutineNumber 1) ≡ Err errors.Order) × (taken complete (fields.Height 1) ≡ Err errors.Order)
    × (taken complete (fields.Value (point 1)) ≡ Err errors.Order)
out_of_turn = (refl, refl, refl, refl, refl, refl, refl, refl, refl, refl, refl, refl, refl, refl, refl, refl, refl)

-- the limit comes behind the identity, where one is to be named
limit_fields : (all_taken (opening {V = Interval} editions.Limited) (fields.Release 1 ∷ fields.Serial [] ∷ fields.Checksum 2 ∷ fields.LoadedLength 3 ∷ fields.RangeCount 0 ∷ []) ≡ Err errors.Order) × (all_taken start (fields.Release 1 ∷ fields.Serial [] ∷ fields.Checksum 2 ∷ fields.LoadedLength 3 ∷ fields.FrameLimit 0 ∷ []) ≡ Err errors.Order) × (taken (at_turn turns.FrameLimit 0) (fields.FrameLimit 4097) ≡ Err errors.Limit) × (taken (at_turn turns.FrameLimit 0) (fields.FrameLimit 4096) ≡ Ok (record start { content = record start.content { limit = Some 4096 }; turn = turns.RangeCount }))
unfolding at_turn start
limit_fields = (refl, refl, refl, refl)

limit_turns : (behind_identity None ≡ turns.RangeCount) × (behind_identity (Some 0) ≡ turns.FrameLimit) × (limit_before false ≡ None) × (is_some (limit_before true) ≡ true)
limit_turns = (refl, refl, refl, refl)

range_fields : (taken (at_turn (turns.RangeFirst 0) 68) (fields.RangeFirst 68) ≡ Ok (at_turn (turns.RangeLast 0 68) 68)) × (taken (at_turn (turns.RangeFirst 0) 68) (fields.RangeFirst 67) ≡ Err errors.Order) × (taken (at_turn (turns.RangeLast 0 68) 68) (fields.RangeLast 67) ≡ Err errors.Order)
unfolding at_turn
range_fields = (refl, refl, refl)

-- the next range begins above the byte after this one's last
range_ended : taken (at_turn (turns.RangeLast 1 64) 64) (fields.RangeLast 66) ≡ Ok (record { content = record start.content { ranges = range ∷ [] }; values = []; floor = 68; turn = turns.RangeFirst 0 })
unfolding at_turn start range
range_ended = refl

-- a number at its limit is taken, and the next isn't
at_limits : (taken (at_turn turns.RangeCount 7) (fields.RangeCount 65535) ≡ Ok (at_turn (turns.RangeFirst 65534) 0)) × (taken (at_turn turns.RangeCount 7) (fields.RangeCount 65536) ≡ Err errors.Limit) × (taken (at_turn turns.RoutineCount 7) (fields.RoutineCount 0) ≡ Ok (at_turn turns.InstructionCount 0)) × (taken (at_turn turns.RoutineCount 7) (fields.RoutineCount 65535) ≡ Ok (at_turn (turns.RoutineAddress 65534) 0)) × (taken (at_turn turns.RoutineCount 7) (fields.RoutineCount 65536) ≡ Err errors.Limit) × (taken (at_turn (turns.LocalCount 1 0x32E) 0) (fields.LocalCount 15) ≡ Ok (at_turn (turns.RoutineResult 1 0x32E 15) 0)) × (taken (at_turn turns.InstructionCount 7) (fields.InstructionCount 131072) ≡ Ok (at_turn (turns.InstructionAddress 131071) 0))
unfolding at_turn
at_limits = (refl, refl, refl, refl, refl, refl, refl)

heights_taken : (taken (at_turn (turns.Height 1 0x324 0) 0) (fields.Height 64) ≡ Ok (at_turn (turns.Value 1 (record { address = 0x324; routine = 0; locals = 0; height = 64; is_marked = false }) 63) 0)) × (taken (at_turn (turns.Height 1 0x324 0) 0) (fields.Height 65) ≡ Err errors.Limit)
unfolding at_turn
heights_taken = (refl, refl)

-- an address rises and is below its limit
addresses_taken : (taken (at_turn (turns.RoutineAddress 0) 5) (fields.RoutineAddress 4) ≡ Err errors.Order) × (taken (at_turn (turns.RoutineAddress 0) 5) (fields.RoutineAddress 131072) ≡ Err errors.Limit) × (taken (at_turn (turns.InstructionAddress 0) 5) (fields.InstructionAddress 4) ≡ Err errors.Order) × (taken (at_turn (turns.InstructionAddress 0) 5) (fields.InstructionAddress 131071) ≡ Ok (at_turn (turns.RoutineNumber 0 131071) 5))
unfolding at_turn
addresses_taken = (refl, refl, refl, refl)

-- a field is in turn by its kind alone; sets come in three places
in_turns : InTurn {V = Interval} turns.Checksum (fields.Checksum 7) × (InTurn {V = Interval} turns.Checksum (fields.Release 7) → ⊥) × InTurn (turns.Global 3) (fields.Global (point 1)) × (InTurn (turns.Global 3) (fields.Value (point 1)) → ⊥) × (InTurn (turns.Value 3 header 1) (fields.RoutineResult (point 1)) → ⊥) × (InTurn {V = Interval} turns.Complete (fields.Release 7) → ⊥) × InTurn (turns.Value 3 header 1) (fields.Value (point 1))
in_turns = (tt, λ t. t, tt, λ t. t, λ t. t, λ t. t, tt)

-- at an instruction of a routine of two locals
with_two_locals : Turn → Progress Interval
with_two_locals turn = record (at_turn turn 0) { content = with_routine (at_turn turn 0).content (record { address = 4; locals = 2; result = point 1 }) }

-- which fields need room, a height only with no values behind it, and what is due in an unfinished one
parts_added :
    Adds start (fields.RangeLast 1) × (Adds start (fields.RangeFirst 1) → ⊥) × (Adds start (fields.InstructionAddress 1) → ⊥) × Adds start (fields.Value (point 1)) × Adds (at_turn (turns.Height 0 5 0) 0) (fields.Height 0)
    × (Adds (at_turn (turns.Height 0 5 0) 0) (fields.Height 1) → ⊥) × (Adds (with_two_locals (turns.Height 0 5 1)) (fields.Height 0) → ⊥) × (Adds start (fields.Height 0) → ⊥)
unfolding start at_turn with_two_locals
parts_added = (tt, λ a. a, λ a. a, tt, refl, λ a. omega (arith, a), λ a. omega (arith, a), λ a. a)

due : IsDue {V = Interval} (turns.LocalCount 0 131071) [] × (IsDue {V = Interval} (turns.RoutineResult 0 131072 1) [] → ⊥) × (IsDue {V = Interval} (turns.Height 0 131072 0) [] → ⊥) × (IsDue (turns.RoutineNumber 0 1) (point 1 ∷ []) → ⊥) × IsDue (turns.Value 0 header 0) (point 1 ∷ []) × (IsDue (turns.Value 0 header 1) (point 1 ∷ []) → ⊥)
unfolding header
due = (omega arith, λ d. omega (arith, d), λ d. omega (arith, d.0), λ d. omega (arith, d.1), (omega arith, refl), λ d. omega (arith, d.1))

-- an error that is due, and want of memory, which a refused field never gives
refused : Refuses errors.Order (taken start (fields.Checksum 1)) × (Refuses errors.Limit (taken start (fields.Checksum 1)) → ⊥) × Refuses errors.OutOfMemory (taken start (fields.Checksum 1)) × RefusesField errors.OutOfMemory (taken start (fields.Release 1)) × (RefusesField errors.OutOfMemory (taken start (fields.Checksum 1)) → ⊥) × (RefusesField {Y = ℕ} errors.Order (Ok 1) → ⊥)
unfolding start
refused = (refl, λ e. absurd cc, tt, refl, λ e. absurd cc, λ e. absurd cc)

-- what is refused with what is due leaves the old one
left : Takes {P = ℕ} {U = ℕ} 1 1 (Err errors.Order) (Err errors.Order) × (Takes {P = ℕ} {U = ℕ} 1 2 (Err errors.Order) (Err errors.Order) → ⊥) × Takes {P = ℕ} {U = ℕ} 1 2 (Ok 0) (Ok 2)
left = ((refl, refl), (λ t. omega (arith, t.0)), refl)

-- where memory is refused, a field that is wrong is still told as wrong, and of a whole certificate nothing is
lacking : (Takes {P = ℕ} {U = ℕ} 1 1 (Err errors.OutOfMemory) (Err errors.Order) → ⊥) × Takes {P = ℕ} {U = ℕ} 1 1 (Err errors.OutOfMemory) (Ok 2) × Answers {Y = ℕ} (Err errors.OutOfMemory) (Err errors.Order) × (Answers {Y = ℕ} (Err errors.Order) (Ok 1) → ⊥)
lacking = ((λ t. absurd (let e : false ≡ true = t.1 in cc)), (refl, refl), tt, (λ e. absurd cc))

-- the next address is to be above this one
routine_fields : (taken (at_turn (turns.RoutineAddress 1) 0) (fields.RoutineAddress 0x32E) ≡ Ok (at_turn (turns.LocalCount 1 0x32E) 0)) × (taken (at_turn (turns.LocalCount 1 0x32E) 0) (fields.LocalCount 16) ≡ Err errors.Limit) × (taken (at_turn (turns.RoutineResult 1 0x32E 1) 0) (fields.RoutineResult (point 1)) ≡ Ok (record { content = record start.content { routines = routine ∷ [] }; values = []; floor = 0x32F; turn = turns.RoutineAddress 0 }))
unfolding at_turn start routine
routine_fields = (refl, refl, refl)

instruction_fields : (taken (at_turn turns.InstructionCount 7) (fields.InstructionCount 131073) ≡ Err errors.Limit) × (taken (at_turn turns.InstructionCount 7) (fields.InstructionCount 2) ≡ Ok (at_turn (turns.InstructionAddress 1) 0)) × (taken (at_turn (turns.RoutineNumber 1 0x324) 0) (fields.RoutineNumber 1) ≡ Err errors.Limit) × (taken (at_turn (turns.Height 1 0x324 0) 0) (fields.Height 0) ≡ Ok (record { content = record start.content { instructions = main_instruction ∷ [] }; values = []; floor = 0x325; turn = turns.InstructionAddress 0 })) × (taken (at_turn (turns.RoutineNumber 1 0x324) 0) (fields.RoutineNumber 0) ≡ Ok (at_turn (turns.Height 1 0x324 0) 0))
unfolding at_turn start main_instruction
instruction_fields = (refl, refl, refl, refl, refl)

value_fields : (taken (at_turn (turns.Value 0 header 1) 0) (fields.Value (point 0)) ≡ Ok (record { content = start.content; values = point 0 ∷ []; floor = 0; turn = turns.Value 0 header 0 })) × (taken (record { content = start.content; values = point 0 ∷ []; floor = 0; turn = turns.Value 0 header 0 }) (fields.Value (point 7)) ≡ Ok (record { content = record start.content { instructions = instruction ∷ [] }; values = point 0 ∷ point 7 ∷ []; floor = 0x332; turn = turns.Complete }))
unfolding at_turn start header instruction
value_fields = (refl, refl)

field_texts : (field_bytes interval_format (fields.LocalCount 3) ≡ 3 ∷ []) × (field_bytes interval_format (fields.RoutineNumber 3) ≡ 0 ∷ 3 ∷ []) × (field_bytes interval_format (fields.Value (point 7)) ≡ 0 ∷ 7 ∷ 0 ∷ 7 ∷ [])
field_texts = (refl, refl, refl)

is_field : IsField interval_format (fields.Height 255) × (IsField interval_format (fields.Height 256) → ⊥) × (IsField interval_format (fields.Serial (1 ∷ [])) → ⊥)
is_field = (omega arith, λ f. omega (arith, f), λ f. absurd cc)

fields_read : (field_at interval_format (turns.LocalCount 1 0x32E) (3 ∷ 4 ∷ []) ≡ Ok (fields.LocalCount 3, 4 ∷ [])) × (field_at interval_format turns.RoutineCount (3 ∷ []) ≡ Err errors.Truncated) × (field_at interval_format turns.Complete (3 ∷ []) ≡ Err errors.Trailing) × (field_at interval_format turns.Complete [] ≡ Err errors.Trailing)
fields_read = (refl, refl, refl, refl)

-- read and taken
next_fields : (next_at interval_format (at_turn (turns.RangeFirst 0) 68) (0 ∷ 68 ∷ 5 ∷ []) ≡ Ok (at_turn (turns.RangeLast 0 68) 68, 5 ∷ [])) × (next_at interval_format (at_turn (turns.RangeFirst 0) 68) (0 ∷ 67 ∷ []) ≡ Err errors.Order) × (next_at interval_format (at_turn (turns.RangeFirst 0) 68) (0 ∷ []) ≡ Err errors.Truncated)
unfolding at_turn
next_fields = (refl, refl, refl)

reached : IsReached interval_format start
unfolding start
reached = (editions.Plain, tt, ([], tt, refl))

-- the first global is the first part of a certificate without ranges; before it nothing wants memory
first_part : LeadsToPart interval_format (heading interval_format editions.Plain ++ identity_text ++ 0 ∷ 0 ∷ 0 ∷ 0 ∷ 0 ∷ 7 ∷ 9 ∷ [])
unfolding identity identity_text
first_part = record {
  edition = editions.Plain;
  allowed = tt;
  fields = fields.Release 1 ∷ fields.Serial (0x32 ∷ 0x36 ∷ 0x30 ∷ 0x31 ∷ 0x30 ∷ 0x31 ∷ []) ∷ fields.Checksum 0x3A7A ∷ fields.LoadedLength 0x32A ∷ fields.RangeCount 0 ∷ [];
  last = fields.Global (record { lo = pos 0; hi = pos 7; ordered = in_order (pos 0) (pos 7) refl });
  rest = 9 ∷ [];
  each = (
    omega arith,
    ((refl, (omega arith, (omega arith, (omega arith, (omega arith, (omega arith, (omega arith, tt))))))), (omega arith, (omega arith, (omega arith, ((omega arith, omega arith), tt))))),
  );
  before = record { content = record { identity = identity; limit = None; marking = false; stating = false; ranges = []; globals = []; routines = []; instructions = []; facts = [] }; values = []; floor = 0; turn = turns.Global 239 };
  reached = refl;
  led = refl;
  adds = tt;
  spelled = refl;
}

no_part : LeadsToPart interval_format (0x5A ∷ 0x50 ∷ 0x43 ∷ 0x43 ∷ 2 ∷ []) → ⊥
no_part l = by l.edition l.allowed l.spelled
  where
    by : (edition : Edition) → IsAllowed interval_format edition → {rest : List ℕ} → 0x5A ∷ 0x50 ∷ 0x43 ∷ 0x43 ∷ 2 ∷ [] ≡ heading interval_format edition ++ rest → ⊥
    by editions.Plain may e = absurd cc
    by editions.Limited may e = absurd (let none = may in cc)
    by editions.Marking may e = absurd (let none = may in cc)
    by editions.Stating may e = absurd (let none = may in cc)

-- ---- how it is kept

stored : Stored
stored = record { address = 0x331; routine = 1; locals = 1; height = 1; is_marked = false; start = 2 }

all_values : List Interval
all_values = point 5 ∷ point 6 ∷ point 0 ∷ point 7 ∷ point 8 ∷ []

kept : (values_of intervals_kept all_values stored ≡ point 0 ∷ point 7 ∷ []) × (stored_instruction intervals_kept all_values stored ≡ instruction) × (has_mark stored ≡ false) × (has_mark (record stored { is_marked = true }) ≡ true) × LiesIn interval_format intervals_kept all_values stored × (LiesIn interval_format intervals_kept (point 5 ∷ point 6 ∷ point 0 ∷ []) stored → ⊥)
unfolding all_values stored instruction
kept = (
  refl,
  refl,
  refl,
  refl,
  record { begun = omega arith; holds = record { kept = point 0 ∷ point 7 ∷ []; rest = point 8 ∷ []; counted = refl; have = ((omega (arith, ints), omega (arith, ints)), ((omega (arith, ints), omega (arith, ints)), tt)); are = refl } },
  λ l. absurd (omega (arith, intervals_held 2 (point 0 ∷ []) l.holds)),
)

-- ---- what is listed

found : (listed_at (main_instruction ∷ instruction ∷ []) 0x331 ≡ Some instruction) × (listed_at (main_instruction ∷ instruction ∷ []) 0x332 ≡ None) × Finds (main_instruction ∷ instruction ∷ []) 0x331 (Some 1) × Finds (main_instruction ∷ instruction ∷ []) 0x323 None
unfolding main_instruction instruction
found = (refl, refl, (omega arith, refl), refl)

not_found : Finds (main_instruction ∷ instruction ∷ []) 0x331 (Some 0) → ⊥
unfolding main_instruction instruction
not_found f = absurd cc

-- the first, the second, and none between them
routine_found : (listing.routine_at routines 0x32E ≡ Some 0) × (listing.routine_at routines 0x340 ≡ Some 1) × (listing.routine_at routines 0x32F ≡ None)
unfolding routines routine
routine_found = (refl, refl, refl)

-- ---- refusals

refusals : (number_of errors.Magic ≡ 1) × (number_of errors.Version ≡ 2) × (number_of errors.Truncated ≡ 3) × (number_of errors.Trailing ≡ 4) × (number_of errors.Order ≡ 5) × (number_of errors.EmptyInterval ≡ 6) × (number_of errors.Limit ≡ 7) × (number_of errors.OutOfMemory ≡ 8) × (number_of errors.ListForm ≡ 9)
refusals = (refl, refl, refl, refl, refl, refl, refl, refl, refl)

-- ---- pieces

-- the turns of parts that are begun don't differ from others; a set takes an end at a time
turn_widths : (field_width ends_turns turns.Serial Nothing ≡ 6) × (field_width ends_turns turns.Checksum Nothing ≡ 2) × (field_width ends_turns (turns.RangeLast 1 2) Nothing ≡ 2) × (field_width ends_turns (turns.Global 3) Nothing ≡ 2) × (field_width ends_turns (turns.Global 3) (Lower 5) ≡ 2) × (field_width ends_turns (turns.RoutineAddress 3) Nothing ≡ 4) × (field_width ends_turns (turns.LocalCount 3 5) Nothing ≡ 1) × (field_width ends_turns (turns.Height 1 2 3) Nothing ≡ 1) × (field_width ends_turns turns.Complete Nothing ≡ 1)
turn_widths = (refl, refl, refl, refl, refl, refl, refl, refl, refl)

next_widths : (next_width ends_turns stages.Magic turns.Serial Nothing ≡ 4) × (next_width ends_turns stages.Version turns.Serial Nothing ≡ 1) × (next_width ends_turns stages.Field turns.Serial Nothing ≡ 6)
next_widths = (refl, refl, refl)

-- the bytes that have come of an interval
came_so_far : (end_bytes Nothing ≡ []) × (end_bytes (Lower 0x1234) ≡ 0x12 ∷ 0x34 ∷ []) × (ends_turns.came (Lower 0x1234) ≡ 0x12 ∷ 0x34 ∷ []) × (ends_turns.awaited (Lower 3) ≡ 2)
came_so_far = (refl, refl, refl, refl)

-- sets come in four places, and nothing of one has come elsewhere
part_places : IsOfSet (turns.Global 3) × IsOfSet (turns.RoutineResult 1 2 3) × IsOfSet (turns.Value 3 header 1) × (IsOfSet turns.Checksum → ⊥) × (IsOfSet turns.Complete → ⊥) × IsSetNext stages.Field (turns.Global 3) × (IsSetNext stages.Version (turns.Global 3) → ⊥) × (IsSetNext stages.Magic (turns.Global 3) → ⊥) × IsPartOf ends_turns stages.Field (turns.Global 3) (Lower 5) × IsPartOf ends_turns stages.Field turns.Checksum Nothing × (IsPartOf ends_turns stages.Field turns.Checksum (Lower 5) → ⊥)
part_places = (tt, tt, tt, λ i. i, λ i. i, tt, λ i. i, λ i. i, λ out. absurd (out tt), λ out. refl, λ part. absurd (let e = part (λ i. i) in cc))

awaited_bytes : IsAwaiting ends_turns stages.Magic turns.Release Nothing (1 ∷ 2 ∷ 3 ∷ []) × (IsAwaiting ends_turns stages.Magic turns.Release Nothing (1 ∷ 2 ∷ 3 ∷ 4 ∷ []) → ⊥) × IsAwaiting ends_turns stages.Field (turns.Global 3) (Lower 5) (1 ∷ []) × (IsAwaiting ends_turns stages.Field (turns.Global 3) (Lower 5) (1 ∷ 2 ∷ []) → ⊥) × (IsAwaiting ends_turns stages.Field turns.Checksum (Lower 5) [] → ⊥)
awaited_bytes = ((λ out. refl, omega arith), (λ a. omega (arith, a.1)), (λ out. absurd (out tt), omega arith), (λ a. omega (arith, a.1)), (λ a. absurd (let e = a.0 (λ i. i) in cc)))

-- cut off: magic, version, a set by one byte, and nothing behind the last field
cut_so_far : IsCut interval_format stages.Magic turns.Release (1 ∷ 2 ∷ 3 ∷ []) × (IsCut interval_format stages.Magic turns.Release (1 ∷ 2 ∷ 3 ∷ 4 ∷ []) → ⊥) × IsCut interval_format stages.Version turns.Release [] × (IsCut interval_format stages.Version turns.Release (1 ∷ []) → ⊥) × IsCut interval_format stages.Field (turns.Global 3) (0 ∷ 5 ∷ 0 ∷ []) × (IsCut interval_format stages.Field (turns.Global 3) (0 ∷ 5 ∷ 0 ∷ 7 ∷ []) → ⊥) × (IsCut interval_format stages.Field (turns.Global 3) (0 ∷ 5 ∷ 0 ∷ 4 ∷ []) → ⊥) × IsCut interval_format stages.Field turns.Complete [] × (IsCut interval_format stages.Field turns.Complete (1 ∷ []) → ⊥)
cut_so_far = (omega arith, (λ c. omega (arith, c)), omega arith, (λ c. omega (arith, c)), refl, (λ e. absurd cc), (λ e. absurd cc), refl, (λ e. absurd cc))

-- the lower end, and then the upper one, with which the value is taken; what came isn't forgotten between them
set_in_two : GoesOn interval_format ends_turns (at_turn (turns.Value 0 header 1) 0) Nothing (0 ∷ 0 ∷ []) (at_turn (turns.Value 0 header 1) 0) (Lower 0) × GoesOn interval_format ends_turns (at_turn (turns.Value 0 header 1) 0) (Lower 0) (0 ∷ 0 ∷ []) (record { content = start.content; values = point 0 ∷ []; floor = 0; turn = turns.Value 0 header 0 }) Nothing × (GoesOn interval_format ends_turns (at_turn (turns.Value 0 header 1) 0) Nothing (0 ∷ 7 ∷ []) (at_turn (turns.Value 0 header 1) 0) Nothing → ⊥) × (GoesOn interval_format ends_turns (at_turn turns.Checksum 0) Nothing (0 ∷ 7 ∷ []) (at_turn turns.Checksum 0) (Lower 7) → ⊥)
unfolding at_turn start header
set_in_two = (inr (refl, tt, refl), inl (refl, refl), elim [ inl both ↦ absurd (let e = both.0 in cc) | inr stays ↦ absurd (let e = stays.2 in cc) ], elim [ inl both ↦ absurd (let e = both.1 in cc) | inr stays ↦ stays.1 ])

-- a wrong magic that is cut short is cut off; whole, it is wrong
magic_in_pieces : (reading interval_format (0x5A ∷ 0x50 ∷ []) ≡ Err errors.Truncated) × (reading interval_format (0x5A ∷ 0x50 ∷ 0x43 ∷ 0x44 ∷ []) ≡ Err errors.Magic) × (reading interval_format (0x5B ∷ []) ≡ Err errors.Truncated)
unfolding reading heading_at magic_at
magic_in_pieces = (refl, refl, refl)

-- what is a certificate, or cut off, is open
opens : IsOpen {A = ℕ} (Ok 3) × IsOpen {A = ℕ} (Err errors.Truncated) × (IsOpen {A = ℕ} (Err errors.Trailing) → ⊥)
opens = (tt, refl, λ e. absurd cc)

-- the bytes before the first field are the heading
leads_so_far : Leads interval_format stages.Magic (opening editions.Plain) (0x5A ∷ []) (0x5A ∷ []) × Leads interval_format stages.Version (opening editions.Plain) (0x5A ∷ 0x50 ∷ 0x43 ∷ 0x43 ∷ 7 ∷ []) (7 ∷ []) × Leads interval_format stages.Field (opening editions.Plain) (0x5A ∷ 0x50 ∷ 0x43 ∷ 0x43 ∷ 1 ∷ 9 ∷ []) (9 ∷ []) × (Leads interval_format stages.Version (opening editions.Plain) (0x5A ∷ 0x50 ∷ []) [] → ⊥)
leads_so_far = ((refl, refl), (refl, refl), record { edition = editions.Plain; allowed = tt; fields = []; each = tt; led = refl; spelled = refl }, λ led. omega (arith, ap length led.0))

-- a stream keeps what came of the magic, and all of it; what it refuses so, no more bytes mend
streams : IsFed interval_format unfed [] × IsFed interval_format (record unfed { kept = 0x5A ∷ 0x50 ∷ [] }) (0x5A ∷ 0x50 ∷ []) × (IsFed interval_format unfed (0x5A ∷ []) → ⊥) × (IsFed interval_format (record unfed { kept = 0x5A ∷ 0x50 ∷ 0x43 ∷ 0x43 ∷ [] }) (0x5A ∷ 0x50 ∷ 0x43 ∷ 0x43 ∷ []) → ⊥) × (IsFed interval_format (record unfed { refused = Some errors.Truncated }) (0x5A ∷ []) → ⊥)
streams = (((refl, refl), omega arith), ((refl, refl), omega arith), (λ come. omega (arith, ap length come.0.0)), (λ come. omega (arith, come.1)), λ none. none)

stream_refusals : IsRefusal interval_format (0x5A ∷ 0x50 ∷ 0x43 ∷ 0x44 ∷ []) errors.Magic × IsUnread interval_format (0x5B ∷ []) errors.Truncated × (IsRefusal interval_format (0x5B ∷ []) errors.Truncated → ⊥)
unfolding reading heading_at magic_at
stream_refusals = (magic_refused interval_format (opening editions.Plain) (0x5A ∷ 0x50 ∷ 0x43 ∷ 0x44 ∷ []) (0x5A ∷ 0x50 ∷ 0x43 ∷ 0x44 ∷ []) errors.Magic (λ e. absurd cc) refl (refl, refl), refl, λ none. none)
