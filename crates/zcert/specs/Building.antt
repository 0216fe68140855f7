-- Taking the fields of a certificate one after another. A field out of turn is out of order.
use Rattle.std.specs.Prelude.{◌≡◌, ℕ, zero, suc, ◌+◌, ◌<◌, Bool, true, false, List, [], ◌∷◌, ◌++◌, length, take, drop, Option, None, Some, Result, Ok, Err, nat_le, ⊤}
use Rattle.zstory.specs.declared.identity.Identity.{Identity}
use Rattle.zcert.specs.declared.edition.Edition.{Edition}
use Rattle.zcert.specs.declared.error.CertError.{CertError}
use Rattle.zcert.specs.declared.error.CertError.TheVariants as errors
use Rattle.zcert.specs.declared.field.Field.{Field}
use Rattle.zcert.specs.declared.field.Field.TheVariants as fields
use Rattle.zcert.specs.declared.field.Header.{Header}
use Rattle.zcert.specs.declared.field.Turn.{Turn}
use Rattle.zcert.specs.declared.field.Turn.TheVariants as turns
use Rattle.zcert.specs.declared.parts.Fact.{Fact}
use Rattle.zcert.specs.declared.parts.Range.{Range}
use Rattle.zcert.specs.declared.parts.Routine.{Routine}
use Rattle.zcert.specs.declared.limits.TheConstants.{GLOBALS, ADDRESS_LIMIT, MAX_LOCALS, MAX_INSTRUCTIONS, MAX_RANGES, MAX_ROUTINES, MAX_HEIGHT, MAX_FRAMES, MAX_FACTS}
use Rattle.zcert.specs.Editions.{is_limited, is_marking, is_stating}
use Rattle.zcert.specs.Certificate.{Instruction, Certificate, locals_of}
use Rattle.zcert.specs.Marks.{is_mark, height_in}
use Rattle.zcert.specs.Facts.{least_global}
use Rattle.zcert.specs.Steps.{◌>>=◌, need}
use Rattle.zcert.specs.Reading.{address_fits, global_fits}

pub record Progress (V : Type 0) : Type 0 where
  -- what is whole so far, with an identity of zeros where it has not come
  pub content : Certificate V
  -- the values of the newest instruction, so far
  pub values : List V
  -- the least that the next address or range may begin at
  pub floor : ℕ
  -- which field comes next
  pub turn : Turn

-- the turn before so many ranges, globals, routines or instructions
abbrev pub before_globals : ℕ → Turn
before_globals zero = turns.RoutineCount
before_globals (suc more) = turns.Global more

abbrev pub before_ranges : ℕ → Turn
before_ranges zero = before_globals GLOBALS
before_ranges (suc more) = turns.RangeFirst more

abbrev pub before_routines : ℕ → Turn
before_routines zero = turns.InstructionCount
before_routines (suc more) = turns.RoutineAddress more

-- behind the instructions, where facts may be stated and where not
abbrev pub behind_instructions : Bool → Turn
behind_instructions false = turns.Complete
behind_instructions true = turns.FactCount

abbrev pub before_instructions : Bool → ℕ → Turn
before_instructions stating zero = behind_instructions stating
before_instructions stating (suc more) = turns.InstructionAddress more

-- before so many facts, where the least global that may be stated at the floor is this one
abbrev pub before_facts : ℕ → ℕ → Turn
before_facts least zero = turns.Complete
before_facts least (suc more) = turns.FactAddress more least

-- an instruction by its header and its values
abbrev pub instruction_of : {V : Type 0} → Header → List V → Instruction V
instruction_of h values = record { address = h.address; routine = h.routine; is_marked = h.is_marked; locals = take h.locals values; slots = drop h.locals values }

-- the turn behind the identity, where a limit is named and where none is
abbrev pub behind_identity : Option ℕ → Turn
behind_identity None = turns.RangeCount
behind_identity (Some n) = turns.FrameLimit

-- before the first field
abbrev pub no_identity : Identity
no_identity = record { release = 0; serial = 0 ∷ 0 ∷ 0 ∷ 0 ∷ 0 ∷ 0 ∷ []; checksum = 0; length = 0 }

-- a limit that is to be named, and none
abbrev pub limit_before : Bool → Option ℕ
limit_before false = None
limit_before true = Some 0

abbrev pub opening : {V : Type 0} → Edition → Progress V
opening edition = record {
  content = record { identity = no_identity; limit = limit_before (is_limited edition); marking = is_marking edition; stating = is_stating edition; ranges = []; globals = []; routines = []; instructions = []; facts = [] };
  values = [];
  floor = 0;
  turn = turns.Release;
}

-- with a new identity, a limit, one more range, global, routine, instruction or fact
module _ {V : Type 0} (c : Certificate V) where
  abbrev pub with_identity : Identity → Certificate V
  with_identity i = record c { identity = i }

  abbrev pub with_limit : ℕ → Certificate V
  with_limit n = record c { limit = Some n }

  abbrev pub with_range : Range → Certificate V
  with_range r = record c { ranges = c.ranges ++ r ∷ [] }

  abbrev pub with_global : V → Certificate V
  with_global v = record c { globals = c.globals ++ v ∷ [] }

  abbrev pub with_routine : Routine V → Certificate V
  with_routine r = record c { routines = c.routines ++ r ∷ [] }

  abbrev pub with_instruction : Instruction V → Certificate V
  with_instruction i = record c { instructions = c.instructions ++ i ∷ [] }

  abbrev pub with_fact : Fact V → Certificate V
  with_fact f = record c { facts = c.facts ++ f ∷ [] }

-- Where a field leads, by whose turn it is.
module _ {V : Type 0} where
  abbrev pub after_release : ℕ → Turn → Progress V → Result (Progress V) CertError
  after_release n turns.Release p = Ok (record p { content = with_identity p.content (record p.content.identity { release = n }); turn = turns.Serial })
  after_release n _ p = Err errors.Order

  abbrev pub after_serial : List ℕ → Turn → Progress V → Result (Progress V) CertError
  after_serial s turns.Serial p = Ok (record p { content = with_identity p.content (record p.content.identity { serial = s }); turn = turns.Checksum })
  after_serial s _ p = Err errors.Order

  abbrev pub after_checksum : ℕ → Turn → Progress V → Result (Progress V) CertError
  after_checksum n turns.Checksum p = Ok (record p { content = with_identity p.content (record p.content.identity { checksum = n }); turn = turns.LoadedLength })
  after_checksum n _ p = Err errors.Order

  abbrev pub after_loaded_length : ℕ → Turn → Progress V → Result (Progress V) CertError
  after_loaded_length n turns.LoadedLength p = Ok (record p { content = with_identity p.content (record p.content.identity { length = n }); turn = behind_identity p.content.limit })
  after_loaded_length n _ p = Err errors.Order

  abbrev pub after_frame_limit : ℕ → Turn → Progress V → Result (Progress V) CertError
  after_frame_limit n turns.FrameLimit p = do
    _ ← need (nat_le n MAX_FRAMES) errors.Limit
    Ok (record p { content = with_limit p.content n; turn = turns.RangeCount })
  after_frame_limit n _ p = Err errors.Order

  abbrev pub after_range_count : ℕ → Turn → Progress V → Result (Progress V) CertError
  after_range_count n turns.RangeCount p = do
    _ ← need (nat_le n MAX_RANGES) errors.Limit
    Ok (record p { floor = 0; turn = before_ranges n })
  after_range_count n _ p = Err errors.Order

  abbrev pub after_range_first : ℕ → Turn → Progress V → Result (Progress V) CertError
  after_range_first first (turns.RangeFirst more) p = do
    _ ← need (nat_le p.floor first) errors.Order
    Ok (record p { turn = turns.RangeLast more first })
  after_range_first first _ p = Err errors.Order

  abbrev pub after_range_last : ℕ → Turn → Progress V → Result (Progress V) CertError
  after_range_last last (turns.RangeLast more first) p = do
    _ ← need (nat_le first last) errors.Order
    Ok (record p { content = with_range p.content (record { first = first; last = last }); floor = last + 2; turn = before_ranges more })
  after_range_last last _ p = Err errors.Order

  abbrev pub after_global : V → Turn → Progress V → Result (Progress V) CertError
  after_global v (turns.Global more) p = Ok (record p { content = with_global p.content v; turn = before_globals more })
  after_global v _ p = Err errors.Order

  abbrev pub after_routine_count : ℕ → Turn → Progress V → Result (Progress V) CertError
  after_routine_count n turns.RoutineCount p = do
    _ ← need (nat_le n MAX_ROUTINES) errors.Limit
    Ok (record p { floor = 0; turn = before_routines n })
  after_routine_count n _ p = Err errors.Order

  abbrev pub after_routine_address : ℕ → Turn → Progress V → Result (Progress V) CertError
  after_routine_address address (turns.RoutineAddress more) p = do
    _ ← address_fits p.floor address
    Ok (record p { turn = turns.LocalCount more address })
  after_routine_address address _ p = Err errors.Order

  abbrev pub after_local_count : ℕ → Turn → Progress V → Result (Progress V) CertError
  after_local_count n (turns.LocalCount more address) p = do
    _ ← need (nat_le n MAX_LOCALS) errors.Limit
    Ok (record p { turn = turns.RoutineResult more address n })
  after_local_count n _ p = Err errors.Order

  abbrev pub after_routine_result : V → Turn → Progress V → Result (Progress V) CertError
  after_routine_result v (turns.RoutineResult more address locals) p =
      Ok (record p { content = with_routine p.content (record { address = address; locals = locals; result = v }); floor = address + 1; turn = before_routines more })
  after_routine_result v _ p = Err errors.Order

  abbrev pub after_instruction_count : ℕ → Turn → Progress V → Result (Progress V) CertError
  after_instruction_count n turns.InstructionCount p = do
    _ ← need (nat_le n MAX_INSTRUCTIONS) errors.Limit
    Ok (record p { floor = 0; turn = before_instructions p.content.stating n })
  after_instruction_count n _ p = Err errors.Order

  abbrev pub after_instruction_address : ℕ → Turn → Progress V → Result (Progress V) CertError
  after_instruction_address address (turns.InstructionAddress more) p = do
    _ ← address_fits p.floor address
    Ok (record p { values = []; turn = turns.RoutineNumber more address })
  after_instruction_address address _ p = Err errors.Order

  abbrev pub after_routine_number : ℕ → Turn → Progress V → Result (Progress V) CertError
  after_routine_number routine (turns.RoutineNumber more address) p = do
    _ ← need (nat_le routine (length p.content.routines)) errors.Limit
    Ok (record p { turn = turns.Height more address routine })
  after_routine_number routine _ p = Err errors.Order

  -- with so many values of an instruction to come, and so many instructions after it
  abbrev pub before_values : ℕ → ℕ → Header → Progress V → Progress V
  before_values zero more h p = record p { content = with_instruction p.content (instruction_of h p.values); floor = h.address + 1; turn = before_instructions p.content.stating more }
  before_values (suc left) more h p = record p { turn = turns.Value more h left }

  abbrev pub header_of : Progress V → ℕ → ℕ → ℕ → Header
  header_of p address routine byte =
      record { address = address; routine = routine; locals = locals_of p.content.routines routine; height = height_in p.content.marking byte; is_marked = is_mark p.content.marking byte }

  abbrev pub after_height : ℕ → Turn → Progress V → Result (Progress V) CertError
  after_height byte (turns.Height more address routine) p = do
    _ ← need (nat_le (height_in p.content.marking byte) MAX_HEIGHT) errors.Limit
    Ok (before_values (locals_of p.content.routines routine + height_in p.content.marking byte) more (header_of p address routine byte) p)
  after_height byte _ p = Err errors.Order

  abbrev pub after_value : V → Turn → Progress V → Result (Progress V) CertError
  after_value v (turns.Value more h left) p = Ok (before_values left more h (record p { values = p.values ++ v ∷ [] }))
  after_value v _ p = Err errors.Order

  abbrev pub after_fact_count : ℕ → Turn → Progress V → Result (Progress V) CertError
  after_fact_count n turns.FactCount p = do
    _ ← need (nat_le n MAX_FACTS) errors.Limit
    Ok (record p { floor = 0; turn = before_facts 0 n })
  after_fact_count n _ p = Err errors.Order

  abbrev pub after_fact_address : ℕ → Turn → Progress V → Result (Progress V) CertError
  after_fact_address address (turns.FactAddress more least) p = do
    _ ← address_fits p.floor address
    Ok (record p { turn = turns.FactGlobal more address (least_global p.floor least address) })
  after_fact_address address _ p = Err errors.Order

  abbrev pub after_fact_global : ℕ → Turn → Progress V → Result (Progress V) CertError
  after_fact_global global (turns.FactGlobal more address least) p = do
    _ ← global_fits least global
    Ok (record p { turn = turns.FactValues more address global })
  after_fact_global global _ p = Err errors.Order

  abbrev pub after_fact_values : V → Turn → Progress V → Result (Progress V) CertError
  after_fact_values v (turns.FactValues more address global) p =
      Ok (record p { content = with_fact p.content (record { address = address; global = global; values = v }); floor = address; turn = before_facts (global + 1) more })
  after_fact_values v _ p = Err errors.Order

  -- where a field leads, or why it is refused
  abbrev pub taken : Progress V → Field V → Result (Progress V) CertError
  taken p (fields.Release n) = after_release n p.turn p
  taken p (fields.Serial s) = after_serial s p.turn p
  taken p (fields.Checksum n) = after_checksum n p.turn p
  taken p (fields.LoadedLength n) = after_loaded_length n p.turn p
  taken p (fields.FrameLimit n) = after_frame_limit n p.turn p
  taken p (fields.RangeCount n) = after_range_count n p.turn p
  taken p (fields.RangeFirst n) = after_range_first n p.turn p
  taken p (fields.RangeLast n) = after_range_last n p.turn p
  taken p (fields.Global v) = after_global v p.turn p
  taken p (fields.RoutineCount n) = after_routine_count n p.turn p
  taken p (fields.RoutineAddress n) = after_routine_address n p.turn p
  taken p (fields.LocalCount n) = after_local_count n p.turn p
  taken p (fields.RoutineResult v) = after_routine_result v p.turn p
  taken p (fields.InstructionCount n) = after_instruction_count n p.turn p
  taken p (fields.InstructionAddress n) = after_instruction_address n p.turn p
  taken p (fields.RoutineNumber n) = after_routine_number n p.turn p
  taken p (fields.Height n) = after_height n p.turn p
  taken p (fields.Value v) = after_value v p.turn p
  taken p (fields.FactCount n) = after_fact_count n p.turn p
  taken p (fields.FactAddress n) = after_fact_address n p.turn p
  taken p (fields.FactGlobal n) = after_fact_global n p.turn p
  taken p (fields.FactValues v) = after_fact_values v p.turn p

  -- where these fields lead, one after another
  abbrev pub all_taken : Progress V → List (Field V) → Result (Progress V) CertError
  all_taken p [] = Ok p
  all_taken p (f ∷ fs) = do
    q ← taken p f
    all_taken q fs

-- the field is of the kind whose turn it is
abbrev pub InTurn : {V : Type 0} → Turn → Field V → Type 0
InTurn turns.Release (fields.Release n) = ⊤
InTurn turns.Serial (fields.Serial s) = ⊤
InTurn turns.Checksum (fields.Checksum n) = ⊤
InTurn turns.LoadedLength (fields.LoadedLength n) = ⊤
InTurn turns.FrameLimit (fields.FrameLimit n) = ⊤
InTurn turns.RangeCount (fields.RangeCount n) = ⊤
InTurn (turns.RangeFirst more) (fields.RangeFirst n) = ⊤
InTurn (turns.RangeLast more first) (fields.RangeLast n) = ⊤
InTurn (turns.Global more) (fields.Global v) = ⊤
InTurn turns.RoutineCount (fields.RoutineCount n) = ⊤
InTurn (turns.RoutineAddress more) (fields.RoutineAddress n) = ⊤
InTurn (turns.LocalCount more address) (fields.LocalCount n) = ⊤
InTurn (turns.RoutineResult more address locals) (fields.RoutineResult v) = ⊤
InTurn turns.InstructionCount (fields.InstructionCount n) = ⊤
InTurn (turns.InstructionAddress more) (fields.InstructionAddress n) = ⊤
InTurn (turns.RoutineNumber more address) (fields.RoutineNumber n) = ⊤
InTurn (turns.Height more address routine) (fields.Height n) = ⊤
InTurn (turns.Value more h left) (fields.Value v) = ⊤
InTurn turns.FactCount (fields.FactCount n) = ⊤
InTurn (turns.FactAddress more least) (fields.FactAddress n) = ⊤
InTurn (turns.FactGlobal more address least) (fields.FactGlobal n) = ⊤
InTurn (turns.FactValues more address global) (fields.FactValues v) = ⊤
InTurn _ _ = ⊥

-- no values come behind a height: its routine has no locals, and there are no slots
abbrev pub HasNoValues : {V : Type 0} → List (Routine V) → Turn → ℕ → Type 0
HasNoValues routines (turns.Height more address routine) height = locals_of routines routine + height ≡ 0
HasNoValues routines turn height = ⊥

-- the field adds something for which there has to be room: a part of which it is the last field, or a value of an instruction
abbrev pub Adds : {V : Type 0} → Progress V → Field V → Type 0
Adds p (fields.RangeLast n) = Unit {0}
Adds p (fields.Global v) = Unit {0}
Adds p (fields.RoutineResult v) = Unit {0}
Adds p (fields.Height n) = HasNoValues p.content.routines p.turn (height_in p.content.marking n)
Adds p (fields.Value v) = Unit {0}
Adds p (fields.FactValues v) = Unit {0}
Adds p _ = ⊥

-- what is known of an unfinished part: its address is below the limit, an instruction lacks as many values as are left, and the global
-- of a fact is one
abbrev pub IsDue : {V : Type 0} → Turn → List V → Type 0
IsDue (turns.LocalCount more address) values = address < ADDRESS_LIMIT
IsDue (turns.RoutineResult more address locals) values = address < ADDRESS_LIMIT
IsDue (turns.RoutineNumber more address) values = (address < ADDRESS_LIMIT) × (length values ≡ 0)
IsDue (turns.Height more address routine) values = (address < ADDRESS_LIMIT) × (length values ≡ 0)
IsDue (turns.Value more h left) values = (h.address < ADDRESS_LIMIT) × (length values + suc left ≡ h.locals + h.height)
IsDue (turns.FactValues more address global) values = global < GLOBALS
IsDue _ values = ⊤
