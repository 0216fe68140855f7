-- Reading a certificate field by field, with the first wrong one. At a field the cut comes first, then the lowest number.
use Rattle.std.specs.Prelude.{ℕ, zero, suc, ◌+◌, Bool, true, false, ◌&&◌, List, [], ◌∷◌, length, take, drop, Option, None, Some, Result, Ok, Err, nat_lt, nat_le, ◌==◌}
use Rattle.zstory.specs.declared.identity.Identity.{Identity}
use Rattle.zcert.specs.declared.edition.Edition.{Edition}
use Rattle.zcert.specs.declared.edition.Edition.TheVariants as editions
use Rattle.zcert.specs.declared.error.CertError.{CertError}
use Rattle.zcert.specs.declared.error.CertError.TheVariants as errors
use Rattle.zcert.specs.declared.parts.Fact.{Fact}
use Rattle.zcert.specs.declared.parts.Range.{Range}
use Rattle.zcert.specs.declared.parts.Routine.{Routine}
use Rattle.zcert.specs.declared.limits.TheConstants.{MAGIC, GLOBALS, ADDRESS_LIMIT, MAX_LOCALS, MAX_INSTRUCTIONS, MAX_RANGES, MAX_ROUTINES, MAX_HEIGHT, MAX_FRAMES, MAX_FACTS, LIMIT_VERSION, MARK_VERSION, FACT_VERSION}
use Rattle.zcert.specs.Numbers as numbers
use Rattle.zcert.specs.Editions.{is_limited, is_marking, is_stating}
use Rattle.zcert.specs.Certificate.{Instruction, Certificate, locals_of}
use Rattle.zcert.specs.Marks.{is_mark, height_in}
use Rattle.zcert.specs.Facts.{least_global}
use Rattle.zcert.specs.Steps.{◌>>=◌, need, number_at, serial_at}
use Rattle.zcert.specs.Format.{Format}

unfoldable pub magic_at : List ℕ → Result (List ℕ) CertError
magic_at bytes = do
  magic ← number_at numbers.Magic bytes
  _ ← need (magic.0 == MAGIC) errors.Magic
  Ok magic.1

-- the edition of which the version is, by whether that is the plain one, the one for limits, the one for marks, and the one for facts
abbrev pub edition_where : Bool → Bool → Bool → Bool → Result Edition CertError
edition_where true limit mark fact = Ok editions.Plain
edition_where false true mark fact = Ok editions.Limited
edition_where false false true fact = Ok editions.Marking
edition_where false false false true = Ok editions.Stating
edition_where false false false false = Err errors.Version

-- the version of a certificate of such sets
unfoldable pub version_at : {V : Type 0} → Format V → List ℕ → Result (Edition × List ℕ) CertError
version_at format bytes = do
  found ← number_at numbers.Version bytes
  edition ← edition_where (found.0 == format.version) (format.limited && (found.0 == LIMIT_VERSION)) (format.limited && (found.0 == MARK_VERSION)) (format.limited && (found.0 == FACT_VERSION))
  Ok (edition, found.1)

unfoldable pub identity_at : List ℕ → Result (Identity × List ℕ) CertError
identity_at bytes = do
  release ← number_at numbers.Release bytes
  serial ← serial_at release.1
  checksum ← number_at numbers.Checksum serial.1
  loaded ← number_at numbers.LoadedLength checksum.1
  Ok (record { release = release.0; serial = serial.0; checksum = checksum.0; length = loaded.0 }, loaded.1)

-- magic and version
unfoldable pub heading_at : {V : Type 0} → Format V → List ℕ → Result (Edition × List ℕ) CertError
heading_at format bytes = do
  rest ← magic_at bytes
  version_at format rest

-- the limit of frames, where one is named
unfoldable pub limit_at : Bool → List ℕ → Result (Option ℕ × List ℕ) CertError
limit_at false bytes = Ok (None, bytes)
limit_at true bytes = do
  limit ← number_at numbers.FrameLimit bytes
  _ ← need (nat_le limit.0 MAX_FRAMES) errors.Limit
  Ok (Some limit.0, limit.1)

-- a range, whose first byte is to stand at `floor` or above
unfoldable pub range_at : ℕ → List ℕ → Result (Range × List ℕ) CertError
range_at floor bytes = do
  first ← number_at numbers.RangeFirst bytes
  _ ← need (nat_le floor first.0) errors.Order
  last ← number_at numbers.RangeLast first.1
  _ ← need (nat_le first.0 last.0) errors.Order
  Ok (record { first = first.0; last = last.0 }, last.1)

-- so many ranges
unfoldable pub ranges_at : ℕ → ℕ → List ℕ → Result (List Range × List ℕ) CertError
ranges_at zero floor bytes = Ok ([], bytes)
ranges_at (suc n) floor bytes = do
  r ← range_at floor bytes
  rs ← ranges_at n (r.0.last + 2) r.1
  Ok (r.0 ∷ rs.0, rs.1)

-- the count of ranges, and the ranges
unfoldable pub all_ranges_at : List ℕ → Result (List Range × List ℕ) CertError
all_ranges_at bytes = do
  count ← number_at numbers.RangeCount bytes
  _ ← need (nat_le count.0 MAX_RANGES) errors.Limit
  ranges_at count.0 0 count.1

-- an address of an instruction or a routine, which is to be at `floor` or above
abbrev pub address_fits : ℕ → ℕ → Result (Unit {0}) CertError
address_fits floor address = do
  _ ← need (nat_le floor address) errors.Order
  need (nat_lt address ADDRESS_LIMIT) errors.Limit

-- a global of a fact, which is to be `least` or above
abbrev pub global_fits : ℕ → ℕ → Result (Unit {0}) CertError
global_fits least global = do
  _ ← need (nat_le least global) errors.Order
  need (nat_lt global GLOBALS) errors.Limit

module _ {V : Type 0} (format : Format V) where
  unfoldable pub values_at : ℕ → List ℕ → Result (List V × List ℕ) CertError
  values_at zero bytes = Ok ([], bytes)
  values_at (suc n) bytes = do
    v ← format.value_at bytes
    vs ← values_at n v.1
    Ok (v.0 ∷ vs.0, vs.1)

  unfoldable pub routine_at : ℕ → List ℕ → Result (Routine V × List ℕ) CertError
  routine_at floor bytes = do
    address ← number_at numbers.RoutineAddress bytes
    _ ← address_fits floor address.0
    locals ← number_at numbers.LocalCount address.1
    _ ← need (nat_le locals.0 MAX_LOCALS) errors.Limit
    value ← format.value_at locals.1
    Ok (record { address = address.0; locals = locals.0; result = value.0 }, value.1)

  unfoldable pub routines_at : ℕ → ℕ → List ℕ → Result (List (Routine V) × List ℕ) CertError
  routines_at zero floor bytes = Ok ([], bytes)
  routines_at (suc n) floor bytes = do
    r ← routine_at floor bytes
    rs ← routines_at n (r.0.address + 1) r.1
    Ok (r.0 ∷ rs.0, rs.1)

  unfoldable pub all_routines_at : List ℕ → Result (List (Routine V) × List ℕ) CertError
  all_routines_at bytes = do
    count ← number_at numbers.RoutineCount bytes
    _ ← need (nat_le count.0 MAX_ROUTINES) errors.Limit
    routines_at count.0 0 count.1

  -- an instruction, which may be marked or not, with a set for each local of its routine and then for each slot
  unfoldable pub instruction_at : Bool → List (Routine V) → ℕ → List ℕ → Result (Instruction V × List ℕ) CertError
  instruction_at marking routines floor bytes = do
    address ← number_at numbers.InstructionAddress bytes
    _ ← address_fits floor address.0
    routine ← number_at numbers.RoutineNumber address.1
    _ ← need (nat_le routine.0 (length routines)) errors.Limit
    height ← number_at numbers.Height routine.1
    _ ← need (nat_le (height_in marking height.0) MAX_HEIGHT) errors.Limit
    values ← values_at (locals_of routines routine.0 + height_in marking height.0) height.1
    Ok (record { address = address.0; routine = routine.0; is_marked = is_mark marking height.0; locals = take (locals_of routines routine.0) values.0; slots = drop (locals_of routines routine.0) values.0 }, values.1)

  unfoldable pub instructions_at : Bool → List (Routine V) → ℕ → ℕ → List ℕ → Result (List (Instruction V) × List ℕ) CertError
  instructions_at marking routines zero floor bytes = Ok ([], bytes)
  instructions_at marking routines (suc n) floor bytes = do
    i ← instruction_at marking routines floor bytes
    is ← instructions_at marking routines n (i.0.address + 1) i.1
    Ok (i.0 ∷ is.0, is.1)

  unfoldable pub all_instructions_at : Bool → List (Routine V) → List ℕ → Result (List (Instruction V) × List ℕ) CertError
  all_instructions_at marking routines bytes = do
    count ← number_at numbers.InstructionCount bytes
    _ ← need (nat_le count.0 MAX_INSTRUCTIONS) errors.Limit
    instructions_at marking routines count.0 0 count.1

  -- a fact, which is to stand at the address `floor` of the global `least`, or behind that
  unfoldable pub fact_at : ℕ → ℕ → List ℕ → Result (Fact V × List ℕ) CertError
  fact_at floor least bytes = do
    address ← number_at numbers.FactAddress bytes
    _ ← address_fits floor address.0
    global ← number_at numbers.FactGlobal address.1
    _ ← global_fits (least_global floor least address.0) global.0
    value ← format.value_at global.1
    Ok (record { address = address.0; global = global.0; values = value.0 }, value.1)

  unfoldable pub facts_from : ℕ → ℕ → ℕ → List ℕ → Result (List (Fact V) × List ℕ) CertError
  facts_from zero floor least bytes = Ok ([], bytes)
  facts_from (suc n) floor least bytes = do
    f ← fact_at floor least bytes
    fs ← facts_from n f.0.address (f.0.global + 1) f.1
    Ok (f.0 ∷ fs.0, fs.1)

  -- the facts, where they may be stated
  unfoldable pub all_facts_at : Bool → List ℕ → Result (List (Fact V) × List ℕ) CertError
  all_facts_at false bytes = Ok ([], bytes)
  all_facts_at true bytes = do
    count ← number_at numbers.FactCount bytes
    _ ← need (nat_le count.0 MAX_FACTS) errors.Limit
    facts_from count.0 0 0 count.1

  -- nothing follows
  unfoldable pub at_end : Certificate V → List ℕ → Result (Certificate V) CertError
  at_end c [] = Ok c
  at_end c (b ∷ bytes) = Err errors.Trailing

  -- what follows magic and version
  unfoldable pub fields_at : Edition → List ℕ → Result (Certificate V) CertError
  fields_at edition bytes = do
    identity ← identity_at bytes
    limit ← limit_at (is_limited edition) identity.1
    ranges ← all_ranges_at limit.1
    globals ← values_at GLOBALS ranges.1
    routines ← all_routines_at globals.1
    instructions ← all_instructions_at (is_marking edition) routines.0 routines.1
    facts ← all_facts_at (is_stating edition) instructions.1
    at_end (record { identity = identity.0; limit = limit.0; marking = is_marking edition; stating = is_stating edition; ranges = ranges.0; globals = globals.0; routines = routines.0; instructions = instructions.0; facts = facts.0 }) facts.1

  -- the certificate that all of the bytes spell, or the first wrong field
  unfoldable pub reading : List ℕ → Result (Certificate V) CertError
  reading bytes = do
    heading ← heading_at format bytes
    fields_at heading.0 heading.1
