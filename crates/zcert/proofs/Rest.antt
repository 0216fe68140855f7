-- What the rest of the bytes would be read as, once some fields are taken; and that to take a field is to read on.
use Rattle.std.proofs.Common.{◌≡◌, ℕ, zero, suc, ◌+◌, Bool, true, false, Option, None, Some, List, [], ◌∷◌, ◌++◌, length, Result, Ok, Err, refl, sym, ap, ◌∙◌, append_assoc}
use Rattle.std.proofs.lemmas.List.{append-nil}
use Rattle.std.specs.Prelude.{nat_le, is_some}
use Rattle.zstory.specs.declared.identity.Identity.{Identity}
use Rattle.zcert.specs.declared.edition.Edition.{Edition}
use Rattle.zcert.specs.declared.edition.Edition.TheVariants as editions
use Rattle.zcert.specs.declared.error.CertError.{CertError}
use Rattle.zcert.specs.declared.error.CertError.TheVariants as errors
use Rattle.zcert.specs.declared.field.Header.{Header}
use Rattle.zcert.specs.declared.field.Turn.{Turn}
use Rattle.zcert.specs.declared.field.Turn.TheVariants as turns
use Rattle.zcert.specs.declared.parts.Fact.{Fact}
use Rattle.zcert.specs.declared.parts.Range.{Range}
use Rattle.zcert.specs.declared.parts.Routine.{Routine}
use Rattle.zcert.specs.declared.limits.TheConstants.{GLOBALS, MAX_LOCALS, MAX_INSTRUCTIONS, MAX_RANGES, MAX_ROUTINES, MAX_HEIGHT, MAX_FRAMES, MAX_FACTS}
use Rattle.zcert.specs.Numbers as numbers
use Rattle.zcert.specs.Certificate.{Instruction, Certificate, locals_of}
use Rattle.zcert.specs.Marks.{is_mark, height_in}
use Rattle.zcert.specs.Facts.{least_global}
use Rattle.zcert.specs.Steps.{◌>>=◌, need, number_at, serial_at}
use Rattle.zcert.specs.Format.{Format}
use Rattle.zcert.specs.Reading.{heading_at, identity_at, limit_at, fields_at, range_at, ranges_at, all_ranges_at, address_fits, global_fits, values_at, routine_at, routines_at, all_routines_at, instruction_at, instructions_at, all_instructions_at, fact_at, facts_from, all_facts_at, at_end, reading}
use Rattle.zcert.specs.Building.{Progress, opening, instruction_of, with_identity, with_range, behind_identity, with_global, with_routine, with_instruction, with_fact, behind_instructions, before_facts, before_ranges, before_globals, before_routines, before_instructions, before_values, taken}
use Rattle.zcert.specs.Fields.{field_at}

-- one more part in front of the others
abbrev preceded : {A : Type 0} → A → Result (List A × List ℕ) CertError → Result (List A × List ℕ) CertError
preceded x read = read >>= λ y. Ok (x ∷ y.0, y.1)

joined : {A C : Type 0} (front : List A) (x : A) (read : Result (List A × List ℕ) CertError) (k : List A → List ℕ → Result C CertError) → (preceded x read >>= λ y. k (front ++ y.0) y.1) ≡ (read >>= λ y. k ((front ++ x ∷ []) ++ y.0) y.1)
joined front x (Ok y) k = ap (λ l. k l y.1) (sym (append_assoc front (x ∷ []) y.0))
joined front x (Err e) k = refl

-- a condition on the way, once, twice and three times nested
on_condition : {A C P : Type 0} (u : Result (Unit {0}) CertError) (read : Result A CertError) (k : A → Result C CertError) (p : P) (g : P → Result C CertError) → (read >>= k) ≡ g p → ((u >>= λ _. read) >>= k) ≡ ((u >>= λ _. Ok p) >>= g)
on_condition (Ok x) read k p g e = e
on_condition (Err d) read k p g e = refl

on_condition_within : {A B C P : Type 0} (u : Result (Unit {0}) CertError) (read : Result A CertError) (h : A → Result B CertError) (k : B → Result C CertError) (p : P) (g : P → Result C CertError) → ((read >>= h) >>= k) ≡ g p → (((u >>= λ _. read) >>= h) >>= k) ≡ ((u >>= λ _. Ok p) >>= g)
on_condition_within (Ok x) read h k p g e = e
on_condition_within (Err d) read h k p g e = refl

module _ {V : Type 0} (format : Format V) where
  -- with more parts
  abbrev and_instructions : Certificate V → List (Instruction V) → Certificate V
  and_instructions c is = record c { instructions = c.instructions ++ is }

  abbrev and_routines : Certificate V → List (Routine V) → Certificate V
  and_routines c rs = record c { routines = c.routines ++ rs }

  abbrev and_globals : Certificate V → List V → Certificate V
  and_globals c vs = record c { globals = c.globals ++ vs }

  abbrev and_ranges : Certificate V → List Range → Certificate V
  and_ranges c rs = record c { ranges = c.ranges ++ rs }

  abbrev and_facts : Certificate V → List (Fact V) → Certificate V
  and_facts c fs = record c { facts = c.facts ++ fs }

  -- what follows each part
  abbrev then_facts : Certificate V → Result (List (Fact V) × List ℕ) CertError → Result (Certificate V) CertError
  then_facts c read = read >>= λ fs. at_end format (and_facts c fs.0) fs.1

  abbrev then_instructions : Certificate V → Result (List (Instruction V) × List ℕ) CertError → Result (Certificate V) CertError
  then_instructions c read = read >>= λ is. then_facts (and_instructions c is.0) (all_facts_at format c.stating is.1)

  abbrev then_routines : Certificate V → Result (List (Routine V) × List ℕ) CertError → Result (Certificate V) CertError
  then_routines c read = read >>= λ rs. then_instructions (and_routines c rs.0) (all_instructions_at format c.marking (and_routines c rs.0).routines rs.1)

  abbrev then_globals : Certificate V → Result (List V × List ℕ) CertError → Result (Certificate V) CertError
  then_globals c read = read >>= λ vs. then_routines (and_globals c vs.0) (all_routines_at format vs.1)

  abbrev then_ranges : Certificate V → Result (List Range × List ℕ) CertError → Result (Certificate V) CertError
  then_ranges c read = read >>= λ rs. then_globals (and_ranges c rs.0) (values_at format GLOBALS rs.1)

  abbrev and_limit : Certificate V → Option ℕ → Certificate V
  and_limit c limit = record c { limit = limit }

  abbrev then_limit : Certificate V → Result (Option ℕ × List ℕ) CertError → Result (Certificate V) CertError
  then_limit c read = read >>= λ l. then_ranges (and_limit c l.0) (all_ranges_at l.1)

  abbrev then_identity : Certificate V → Result (Identity × List ℕ) CertError → Result (Certificate V) CertError
  then_identity c read = read >>= λ i. then_limit (with_identity c i.0) (limit_at (is_some c.limit) i.1)

  -- the parts of an identity, a range, a routine and an instruction that are still to come
  abbrev identity_from_length : Identity → List ℕ → Result (Identity × List ℕ) CertError
  identity_from_length i bytes = number_at numbers.LoadedLength bytes >>= λ n. Ok (record i { length = n.0 }, n.1)

  abbrev identity_from_checksum : Identity → List ℕ → Result (Identity × List ℕ) CertError
  identity_from_checksum i bytes = number_at numbers.Checksum bytes >>= λ n. identity_from_length (record i { checksum = n.0 }) n.1

  abbrev identity_from_serial : Identity → List ℕ → Result (Identity × List ℕ) CertError
  identity_from_serial i bytes = serial_at bytes >>= λ s. identity_from_checksum (record i { serial = s.0 }) s.1

  abbrev identity_from_release : Identity → List ℕ → Result (Identity × List ℕ) CertError
  identity_from_release i bytes = number_at numbers.Release bytes >>= λ n. identity_from_serial (record i { release = n.0 }) n.1

  abbrev range_from_last : ℕ → List ℕ → Result (Range × List ℕ) CertError
  range_from_last first bytes = number_at numbers.RangeLast bytes >>= λ last. need (nat_le first last.0) errors.Order >>= λ _. Ok (record { first = first; last = last.0 }, last.1)

  abbrev and_more_ranges : ℕ → Result (Range × List ℕ) CertError → Result (List Range × List ℕ) CertError
  and_more_ranges more read = read >>= λ r. preceded r.0 (ranges_at more (r.0.last + 2) r.1)

  abbrev routine_from_result : ℕ → ℕ → List ℕ → Result (Routine V × List ℕ) CertError
  routine_from_result address locals bytes = format.value_at bytes >>= λ v. Ok (record { address = address; locals = locals; result = v.0 }, v.1)

  abbrev routine_from_locals : ℕ → List ℕ → Result (Routine V × List ℕ) CertError
  routine_from_locals address bytes = number_at numbers.LocalCount bytes >>= λ n. need (nat_le n.0 MAX_LOCALS) errors.Limit >>= λ _. routine_from_result address n.0 n.1

  abbrev and_more_routines : ℕ → Result (Routine V × List ℕ) CertError → Result (List (Routine V) × List ℕ) CertError
  and_more_routines more read = read >>= λ r. preceded r.0 (routines_at format more (r.0.address + 1) r.1)

  abbrev instruction_from_values : Header → List V → Result (List V × List ℕ) CertError → Result (Instruction V × List ℕ) CertError
  instruction_from_values h values read = read >>= λ vs. Ok (instruction_of h (values ++ vs.0), vs.1)

  abbrev header : Bool → List (Routine V) → ℕ → ℕ → ℕ → Header
  header marking routines address routine byte = record { address = address; routine = routine; locals = locals_of routines routine; height = height_in marking byte; is_marked = is_mark marking byte }

  abbrev instruction_from_height : Bool → List (Routine V) → List V → ℕ → ℕ → List ℕ → Result (Instruction V × List ℕ) CertError
  instruction_from_height marking routines values address routine bytes =
      number_at numbers.Height bytes >>= λ n. need (nat_le (height_in marking n.0) MAX_HEIGHT) errors.Limit >>= λ _. instruction_from_values (header marking routines address routine n.0) values (values_at format (locals_of routines routine + height_in marking n.0) n.1)

  abbrev instruction_from_routine : Bool → List (Routine V) → List V → ℕ → List ℕ → Result (Instruction V × List ℕ) CertError
  instruction_from_routine marking routines values address bytes =
      number_at numbers.RoutineNumber bytes >>= λ n. need (nat_le n.0 (length routines)) errors.Limit >>= λ _. instruction_from_height marking routines values address n.0 n.1

  abbrev and_more_instructions : Bool → List (Routine V) → ℕ → Result (Instruction V × List ℕ) CertError → Result (List (Instruction V) × List ℕ) CertError
  and_more_instructions marking routines more read = read >>= λ i. preceded i.0 (instructions_at format marking routines more (i.0.address + 1) i.1)

  abbrev fact_from_values : ℕ → ℕ → List ℕ → Result (Fact V × List ℕ) CertError
  fact_from_values address global bytes = format.value_at bytes >>= λ v. Ok (record { address = address; global = global; values = v.0 }, v.1)

  abbrev fact_from_global : ℕ → ℕ → List ℕ → Result (Fact V × List ℕ) CertError
  fact_from_global address least bytes = number_at numbers.FactGlobal bytes >>= λ n. global_fits least n.0 >>= λ _. fact_from_values address n.0 n.1

  abbrev and_more_facts : ℕ → Result (Fact V × List ℕ) CertError → Result (List (Fact V) × List ℕ) CertError
  and_more_facts more read = read >>= λ f. preceded f.0 (facts_from format more f.0.address (f.0.global + 1) f.1)

  -- what the rest of the bytes would be read as
  abbrev rest_from : Turn → Progress V → List ℕ → Result (Certificate V) CertError
  rest_from turns.Release p bytes = then_identity p.content (identity_from_release p.content.identity bytes)
  rest_from turns.Serial p bytes = then_identity p.content (identity_from_serial p.content.identity bytes)
  rest_from turns.Checksum p bytes = then_identity p.content (identity_from_checksum p.content.identity bytes)
  rest_from turns.LoadedLength p bytes = then_identity p.content (identity_from_length p.content.identity bytes)
  rest_from turns.FrameLimit p bytes = then_limit p.content (limit_at true bytes)
  rest_from turns.RangeCount p bytes = then_ranges p.content (all_ranges_at bytes)
  rest_from (turns.RangeFirst more) p bytes = then_ranges p.content (ranges_at (suc more) p.floor bytes)
  rest_from (turns.RangeLast more first) p bytes = then_ranges p.content (and_more_ranges more (range_from_last first bytes))
  rest_from (turns.Global more) p bytes = then_globals p.content (values_at format (suc more) bytes)
  rest_from turns.RoutineCount p bytes = then_routines p.content (all_routines_at format bytes)
  rest_from (turns.RoutineAddress more) p bytes = then_routines p.content (routines_at format (suc more) p.floor bytes)
  rest_from (turns.LocalCount more address) p bytes = then_routines p.content (and_more_routines more (routine_from_locals address bytes))
  rest_from (turns.RoutineResult more address locals) p bytes = then_routines p.content (and_more_routines more (routine_from_result address locals bytes))
  rest_from turns.InstructionCount p bytes = then_instructions p.content (all_instructions_at format p.content.marking p.content.routines bytes)
  rest_from (turns.InstructionAddress more) p bytes = then_instructions p.content (instructions_at format p.content.marking p.content.routines (suc more) p.floor bytes)
  rest_from (turns.RoutineNumber more address) p bytes = then_instructions p.content (and_more_instructions p.content.marking p.content.routines more (instruction_from_routine p.content.marking p.content.routines p.values address bytes))
  rest_from (turns.Height more address routine) p bytes = then_instructions p.content (and_more_instructions p.content.marking p.content.routines more (instruction_from_height p.content.marking p.content.routines p.values address routine bytes))
  rest_from (turns.Value more h left) p bytes = then_instructions p.content (and_more_instructions p.content.marking p.content.routines more (instruction_from_values h p.values (values_at format (suc left) bytes)))
  rest_from turns.FactCount p bytes = then_facts p.content (all_facts_at format true bytes)
  rest_from (turns.FactAddress more least) p bytes = then_facts p.content (facts_from format (suc more) p.floor least bytes)
  rest_from (turns.FactGlobal more address least) p bytes = then_facts p.content (and_more_facts more (fact_from_global address least bytes))
  rest_from (turns.FactValues more address global) p bytes = then_facts p.content (and_more_facts more (fact_from_values address global bytes))
  rest_from turns.Complete p bytes = at_end format p.content bytes

  unfoldable pub rest_of : Progress V → List ℕ → Result (Certificate V) CertError
  rest_of p bytes = rest_from p.turn p bytes

  -- the state at a turn
  abbrev pub at_turn : Certificate V → List V → ℕ → Turn → Progress V
  at_turn c values floor turn = record { content = c; values = values; floor = floor; turn = turn }

  abbrev pub read_on : Progress V → List ℕ → Result (Certificate V) CertError
  read_on p bytes = field_at format p.turn bytes >>= λ f. taken p f.0 >>= λ q. rest_of q f.1

  -- where more parts are none
  no_ranges : (c : Certificate V) → and_ranges c [] ≡ c
  no_ranges c = ap (λ rs. record c { ranges = rs }) (append-nil c.ranges)

  no_globals : (c : Certificate V) → and_globals c [] ≡ c
  no_globals c = ap (λ vs. record c { globals = vs }) (append-nil c.globals)

  no_routines : (c : Certificate V) → and_routines c [] ≡ c
  no_routines c = ap (λ rs. record c { routines = rs }) (append-nil c.routines)

  no_instructions : (c : Certificate V) → and_instructions c [] ≡ c
  no_instructions c = ap (λ is. record c { instructions = is }) (append-nil c.instructions)

  -- to read so many parts is to read from the turn before them
  no_facts : (c : Certificate V) → and_facts c [] ≡ c
  no_facts c = ap (λ fs. record c { facts = fs }) (append-nil c.facts)

  from_facts : (n : ℕ) (c : Certificate V) (values : List V) (floor least : ℕ) (bytes : List ℕ) → then_facts c (facts_from format n floor least bytes) ≡ rest_of (at_turn c values floor (before_facts least n)) bytes
  unfolding rest_of facts_from
  from_facts zero c values floor least bytes = ap (λ d. at_end format d bytes) (no_facts c)
  from_facts (suc n) c values floor least bytes = refl

  -- behind the instructions
  from_end : (stating : Bool) (c : Certificate V) (values : List V) (floor : ℕ) (bytes : List ℕ) → then_facts c (all_facts_at format stating bytes) ≡ rest_of (at_turn c values floor (behind_instructions stating)) bytes
  unfolding rest_of all_facts_at
  from_end false c values floor bytes = ap (λ d. at_end format d bytes) (no_facts c)
  from_end true c values floor bytes = refl

  from_instructions : (n : ℕ) (c : Certificate V) (values : List V) (floor : ℕ) (bytes : List ℕ) → then_instructions c (instructions_at format c.marking c.routines n floor bytes) ≡ rest_of (at_turn c values floor (before_instructions c.stating n)) bytes
  unfolding rest_of instructions_at
  from_instructions zero c values floor bytes = ap (λ (d : Certificate V). then_facts d (all_facts_at format d.stating bytes)) (no_instructions c) ∙ from_end c.stating c values floor bytes
  from_instructions (suc n) c values floor bytes = refl

  from_routines : (n : ℕ) (c : Certificate V) (values : List V) (floor : ℕ) (bytes : List ℕ) → then_routines c (routines_at format n floor bytes) ≡ rest_of (at_turn c values floor (before_routines n)) bytes
  unfolding rest_of routines_at
  from_routines zero c values floor bytes = ap (λ d. then_instructions d (all_instructions_at format d.marking d.routines bytes)) (no_routines c)
  from_routines (suc n) c values floor bytes = refl

  from_globals : (n : ℕ) (c : Certificate V) (values : List V) (floor : ℕ) (bytes : List ℕ) → then_globals c (values_at format n bytes) ≡ rest_of (at_turn c values floor (before_globals n)) bytes
  unfolding rest_of values_at
  from_globals zero c values floor bytes = ap (λ d. then_routines d (all_routines_at format bytes)) (no_globals c)
  from_globals (suc n) c values floor bytes = refl

  from_ranges : (n : ℕ) (c : Certificate V) (values : List V) (floor : ℕ) (bytes : List ℕ) → then_ranges c (ranges_at n floor bytes) ≡ rest_of (at_turn c values floor (before_ranges n)) bytes
  unfolding rest_of ranges_at
  from_ranges zero c values floor bytes = ap (λ d. then_globals d (values_at format GLOBALS bytes)) (no_ranges c) ∙ from_globals GLOBALS c values floor bytes
  from_ranges (suc n) c values floor bytes = refl

  from_limit : (limit : Option ℕ) (c : Certificate V) (values : List V) (floor : ℕ) (bytes : List ℕ) → c.limit ≡ limit → then_limit c (limit_at (is_some limit) bytes) ≡ rest_of (at_turn c values floor (behind_identity limit)) bytes
  unfolding rest_of limit_at
  from_limit None c values floor bytes e = ap (λ (l : Option ℕ). then_ranges (and_limit c l) (all_ranges_at bytes)) (sym e)
  from_limit (Some n) c values floor bytes e = refl

  -- to take the next field is to read on
  abbrev IsReadingOn : Certificate V → List V → ℕ → Turn → List ℕ → Type 0
  IsReadingOn c values floor turn bytes = rest_of (at_turn c values floor turn) bytes ≡ read_on (at_turn c values floor turn) bytes

  on_release : (c : Certificate V) (values : List V) (floor : ℕ) (bytes : List ℕ) (r : Result (ℕ × List ℕ) CertError) → number_at numbers.Release bytes ≡ r → IsReadingOn c values floor turns.Release bytes
  unfolding rest_of
  on_release c values floor bytes (Ok n) e = rw e refl
  on_release c values floor bytes (Err d) e = rw e refl

  on_serial : (c : Certificate V) (values : List V) (floor : ℕ) (bytes : List ℕ) (r : Result (List ℕ × List ℕ) CertError) → serial_at bytes ≡ r → IsReadingOn c values floor turns.Serial bytes
  unfolding rest_of
  on_serial c values floor bytes (Ok n) e = rw e refl
  on_serial c values floor bytes (Err d) e = rw e refl

  on_checksum : (c : Certificate V) (values : List V) (floor : ℕ) (bytes : List ℕ) (r : Result (ℕ × List ℕ) CertError) → number_at numbers.Checksum bytes ≡ r → IsReadingOn c values floor turns.Checksum bytes
  unfolding rest_of
  on_checksum c values floor bytes (Ok n) e = rw e refl
  on_checksum c values floor bytes (Err d) e = rw e refl

  on_loaded_length : (c : Certificate V) (values : List V) (floor : ℕ) (bytes : List ℕ) (r : Result (ℕ × List ℕ) CertError) → number_at numbers.LoadedLength bytes ≡ r → IsReadingOn c values floor turns.LoadedLength bytes
  unfolding rest_of
  on_loaded_length c values floor bytes (Ok n) e = rw e (from_limit c.limit (with_identity c (record c.identity { length = n.0 })) values floor n.1 refl)
  on_loaded_length c values floor bytes (Err d) e = rw e refl

  on_frame_limit : (c : Certificate V) (values : List V) (floor : ℕ) (bytes : List ℕ) (r : Result (ℕ × List ℕ) CertError) → number_at numbers.FrameLimit bytes ≡ r → IsReadingOn c values floor turns.FrameLimit bytes
  unfolding rest_of limit_at
  on_frame_limit c values floor bytes (Ok n) e = rw e (on_condition (need (nat_le n.0 MAX_FRAMES) errors.Limit) (Ok (Some n.0, n.1)) _ _ _ refl)
  on_frame_limit c values floor bytes (Err d) e = rw e refl

  on_range_count : (c : Certificate V) (values : List V) (floor : ℕ) (bytes : List ℕ) (r : Result (ℕ × List ℕ) CertError) → number_at numbers.RangeCount bytes ≡ r → IsReadingOn c values floor turns.RangeCount bytes
  unfolding rest_of all_ranges_at
  on_range_count c values floor bytes (Ok n) e = rw e (on_condition (need (nat_le n.0 MAX_RANGES) errors.Limit) (ranges_at n.0 0 n.1) _ _ _ (from_ranges n.0 c values 0 n.1))
  on_range_count c values floor bytes (Err d) e = rw e refl

  on_range_first : (more : ℕ) (c : Certificate V) (values : List V) (floor : ℕ) (bytes : List ℕ) (r : Result (ℕ × List ℕ) CertError) → number_at numbers.RangeFirst bytes ≡ r → IsReadingOn c values floor (turns.RangeFirst more) bytes
  unfolding rest_of ranges_at range_at
  on_range_first more c values floor bytes (Ok n) e = rw e (on_condition_within (need (nat_le floor n.0) errors.Order) (range_from_last n.0 n.1) _ _ _ _ refl)
  on_range_first more c values floor bytes (Err d) e = rw e refl

  on_range_last : (more first : ℕ) (c : Certificate V) (values : List V) (floor : ℕ) (bytes : List ℕ) (r : Result (ℕ × List ℕ) CertError) → number_at numbers.RangeLast bytes ≡ r → IsReadingOn c values floor (turns.RangeLast more first) bytes
  unfolding rest_of
  on_range_last more first c values floor bytes (Ok n) e =
      let r : Range = record { first = first; last = n.0 } in
      rw e (on_condition_within (need (nat_le first n.0) errors.Order) (Ok (r, n.1)) _ _ _ _ (
      joined c.ranges r (ranges_at more (n.0 + 2) n.1) (λ rs rest. then_globals (record c { ranges = rs }) (values_at format GLOBALS rest))
      ∙ from_ranges more (with_range c r) values (n.0 + 2) n.1
      ))
  on_range_last more first c values floor bytes (Err d) e = rw e refl

  on_global : (more : ℕ) (c : Certificate V) (values : List V) (floor : ℕ) (bytes : List ℕ) (r : Result (V × List ℕ) CertError) → format.value_at bytes ≡ r → IsReadingOn c values floor (turns.Global more) bytes
  unfolding rest_of values_at
  on_global more c values floor bytes (Ok v) e =
      rw e (
      joined c.globals v.0 (values_at format more v.1) (λ vs rest. then_routines (record c { globals = vs }) (all_routines_at format rest))
      ∙ from_globals more (with_global c v.0) values floor v.1
      )
  on_global more c values floor bytes (Err d) e = rw e refl

  on_routine_count : (c : Certificate V) (values : List V) (floor : ℕ) (bytes : List ℕ) (r : Result (ℕ × List ℕ) CertError) → number_at numbers.RoutineCount bytes ≡ r → IsReadingOn c values floor turns.RoutineCount bytes
  unfolding rest_of all_routines_at
  on_routine_count c values floor bytes (Ok n) e = rw e (on_condition (need (nat_le n.0 MAX_ROUTINES) errors.Limit) (routines_at format n.0 0 n.1) _ _ _ (from_routines n.0 c values 0 n.1))
  on_routine_count c values floor bytes (Err d) e = rw e refl

  on_routine_address : (more : ℕ) (c : Certificate V) (values : List V) (floor : ℕ) (bytes : List ℕ) (r : Result (ℕ × List ℕ) CertError) → number_at numbers.RoutineAddress bytes ≡ r → IsReadingOn c values floor (turns.RoutineAddress more) bytes
  unfolding rest_of routines_at routine_at
  on_routine_address more c values floor bytes (Ok n) e = rw e (on_condition_within (address_fits floor n.0) (routine_from_locals n.0 n.1) _ _ _ _ refl)
  on_routine_address more c values floor bytes (Err d) e = rw e refl

  on_local_count : (more address : ℕ) (c : Certificate V) (values : List V) (floor : ℕ) (bytes : List ℕ) (r : Result (ℕ × List ℕ) CertError) → number_at numbers.LocalCount bytes ≡ r → IsReadingOn c values floor (turns.LocalCount more address) bytes
  unfolding rest_of
  on_local_count more address c values floor bytes (Ok n) e = rw e (on_condition_within (need (nat_le n.0 MAX_LOCALS) errors.Limit) (routine_from_result address n.0 n.1) _ _ _ _ refl)
  on_local_count more address c values floor bytes (Err d) e = rw e refl

  on_routine_result : (more address locals : ℕ) (c : Certificate V) (values : List V) (floor : ℕ) (bytes : List ℕ) (r : Result (V × List ℕ) CertError) → format.value_at bytes ≡ r → IsReadingOn c values floor (turns.RoutineResult more address locals) bytes
  unfolding rest_of
  on_routine_result more address locals c values floor bytes (Ok v) e =
      let r : Routine V = record { address = address; locals = locals; result = v.0 } in
      rw e (
      joined c.routines r (routines_at format more (address + 1) v.1) (λ rs rest. then_instructions (record c { routines = rs }) (all_instructions_at format c.marking rs rest))
      ∙ from_routines more (with_routine c r) values (address + 1) v.1
      )
  on_routine_result more address locals c values floor bytes (Err d) e = rw e refl

  on_instruction_count : (c : Certificate V) (values : List V) (floor : ℕ) (bytes : List ℕ) (r : Result (ℕ × List ℕ) CertError) → number_at numbers.InstructionCount bytes ≡ r → IsReadingOn c values floor turns.InstructionCount bytes
  unfolding rest_of all_instructions_at
  on_instruction_count c values floor bytes (Ok n) e = rw e (on_condition (need (nat_le n.0 MAX_INSTRUCTIONS) errors.Limit) (instructions_at format c.marking c.routines n.0 0 n.1) _ _ _ (from_instructions n.0 c values 0 n.1))
  on_instruction_count c values floor bytes (Err d) e = rw e refl

  on_instruction_address : (more : ℕ) (c : Certificate V) (values : List V) (floor : ℕ) (bytes : List ℕ) (r : Result (ℕ × List ℕ) CertError) → number_at numbers.InstructionAddress bytes ≡ r → IsReadingOn c values floor (turns.InstructionAddress more) bytes
  unfolding rest_of instructions_at instruction_at
  on_instruction_address more c values floor bytes (Ok n) e = rw e (on_condition_within (address_fits floor n.0) (instruction_from_routine c.marking c.routines [] n.0 n.1) _ _ _ _ refl)
  on_instruction_address more c values floor bytes (Err d) e = rw e refl

  on_routine_number : (more address : ℕ) (c : Certificate V) (values : List V) (floor : ℕ) (bytes : List ℕ) (r : Result (ℕ × List ℕ) CertError) → number_at numbers.RoutineNumber bytes ≡ r → IsReadingOn c values floor (turns.RoutineNumber more address) bytes
  unfolding rest_of
  on_routine_number more address c values floor bytes (Ok n) e = rw e (on_condition_within (need (nat_le n.0 (length c.routines)) errors.Limit) (instruction_from_height c.marking c.routines values address n.0 n.1) _ _ _ _ refl)
  on_routine_number more address c values floor bytes (Err d) e = rw e refl

  -- so many values of an instruction, the instructions after it, and what follows
  abbrev then_values : Certificate V → List V → ℕ → Header → Result (List V × List ℕ) CertError → Result (Certificate V) CertError
  then_values c values more h read = then_instructions c (and_more_instructions c.marking c.routines more (instruction_from_values h values read))

  from_values : (left : ℕ) (t : Turn) (more : ℕ) (h : Header) (c : Certificate V) (values : List V) (floor : ℕ) (bytes : List ℕ) → then_values c values more h (values_at format left bytes) ≡ rest_of (before_values left more h (at_turn c values floor t)) bytes
  unfolding rest_of values_at
  from_values zero t more h c values floor bytes =
      let i : Instruction V = instruction_of h values in
      ap (λ vs. then_instructions c (and_more_instructions c.marking c.routines more (Ok (instruction_of h vs, bytes)))) (append-nil values)
      ∙ joined c.instructions i (instructions_at format c.marking c.routines more (h.address + 1) bytes) (λ is rest. then_facts (record c { instructions = is }) (all_facts_at format c.stating rest))
      ∙ from_instructions more (with_instruction c i) values (h.address + 1) bytes
  from_values (suc left) t more h c values floor bytes = refl

  on_height : (more address routine : ℕ) (c : Certificate V) (values : List V) (floor : ℕ) (bytes : List ℕ) (r : Result (ℕ × List ℕ) CertError) → number_at numbers.Height bytes ≡ r → IsReadingOn c values floor (turns.Height more address routine) bytes
  unfolding rest_of
  on_height more address routine c values floor bytes (Ok n) e =
      let h = header c.marking c.routines address routine n.0 in
      let height = height_in c.marking n.0 in
      rw e (on_condition_within (need (nat_le height MAX_HEIGHT) errors.Limit) (instruction_from_values h values (values_at format (locals_of c.routines routine + height) n.1)) _ _ _ _ (from_values (locals_of c.routines routine + height) (turns.Height more address routine) more h c values floor n.1))
  on_height more address routine c values floor bytes (Err d) e = rw e refl

  regrouped : (h : Header) (values : List V) (v : V) (read : Result (List V × List ℕ) CertError) → instruction_from_values h values (preceded v read) ≡ instruction_from_values h (values ++ v ∷ []) read
  regrouped h values v (Ok vs) = ap (λ l. Ok (instruction_of h l, vs.1)) (sym (append_assoc values (v ∷ []) vs.0))
  regrouped h values v (Err d) = refl

  on_value : (more : ℕ) (h : Header) (left : ℕ) (c : Certificate V) (values : List V) (floor : ℕ) (bytes : List ℕ) (r : Result (V × List ℕ) CertError) → format.value_at bytes ≡ r → IsReadingOn c values floor (turns.Value more h left) bytes
  unfolding rest_of values_at
  on_value more h left c values floor bytes (Ok v) e =
      rw e (
      ap (λ read. then_instructions c (and_more_instructions c.marking c.routines more read)) (regrouped h values v.0 (values_at format left v.1))
      ∙ from_values left (turns.Value more h left) more h c (values ++ v.0 ∷ []) floor v.1
      )
  on_value more h left c values floor bytes (Err d) e = rw e refl

  on_fact_count : (c : Certificate V) (values : List V) (floor : ℕ) (bytes : List ℕ) (r : Result (ℕ × List ℕ) CertError) → number_at numbers.FactCount bytes ≡ r → IsReadingOn c values floor turns.FactCount bytes
  unfolding rest_of all_facts_at
  on_fact_count c values floor bytes (Ok n) e = rw e (on_condition (need (nat_le n.0 MAX_FACTS) errors.Limit) (facts_from format n.0 0 0 n.1) _ _ _ (from_facts n.0 c values 0 0 n.1))
  on_fact_count c values floor bytes (Err d) e = rw e refl

  on_fact_address : (more least : ℕ) (c : Certificate V) (values : List V) (floor : ℕ) (bytes : List ℕ) (r : Result (ℕ × List ℕ) CertError) → number_at numbers.FactAddress bytes ≡ r → IsReadingOn c values floor (turns.FactAddress more least) bytes
  unfolding rest_of facts_from fact_at
  on_fact_address more least c values floor bytes (Ok n) e = rw e (on_condition_within (address_fits floor n.0) (fact_from_global n.0 (least_global floor least n.0) n.1) _ _ _ _ refl)
  on_fact_address more least c values floor bytes (Err d) e = rw e refl

  on_fact_global : (more address least : ℕ) (c : Certificate V) (values : List V) (floor : ℕ) (bytes : List ℕ) (r : Result (ℕ × List ℕ) CertError) → number_at numbers.FactGlobal bytes ≡ r → IsReadingOn c values floor (turns.FactGlobal more address least) bytes
  unfolding rest_of
  on_fact_global more address least c values floor bytes (Ok n) e = rw e (on_condition_within (global_fits least n.0) (fact_from_values address n.0 n.1) _ _ _ _ refl)
  on_fact_global more address least c values floor bytes (Err d) e = rw e refl

  on_fact_values : (more address global : ℕ) (c : Certificate V) (values : List V) (floor : ℕ) (bytes : List ℕ) (r : Result (V × List ℕ) CertError) → format.value_at bytes ≡ r → IsReadingOn c values floor (turns.FactValues more address global) bytes
  unfolding rest_of
  on_fact_values more address global c values floor bytes (Ok v) e =
      let f : Fact V = record { address = address; global = global; values = v.0 } in
      rw e (
      joined c.facts f (facts_from format more address (global + 1) v.1) (λ fs rest. at_end format (record c { facts = fs }) rest)
      ∙ from_facts more (with_fact c f) values address (global + 1) v.1
      )
  on_fact_values more address global c values floor bytes (Err d) e = rw e refl

  -- a field is in turn, or bytes are left where none is
  abbrev pub HasMore : Turn → List ℕ → Type 0
  HasMore turns.Complete [] = ⊥
  HasMore _ bytes = Unit {0}

  on_turn : (t : Turn) (c : Certificate V) (values : List V) (floor : ℕ) (bytes : List ℕ) → HasMore t bytes → IsReadingOn c values floor t bytes
  unfolding rest_of at_end
  on_turn turns.Release c values floor bytes m = on_release c values floor bytes (number_at numbers.Release bytes) refl
  on_turn turns.Serial c values floor bytes m = on_serial c values floor bytes (serial_at bytes) refl
  on_turn turns.Checksum c values floor bytes m = on_checksum c values floor bytes (number_at numbers.Checksum bytes) refl
  on_turn turns.LoadedLength c values floor bytes m = on_loaded_length c values floor bytes (number_at numbers.LoadedLength bytes) refl
  on_turn turns.FrameLimit c values floor bytes m = on_frame_limit c values floor bytes (number_at numbers.FrameLimit bytes) refl
  on_turn turns.RangeCount c values floor bytes m = on_range_count c values floor bytes (number_at numbers.RangeCount bytes) refl
  on_turn (turns.RangeFirst more) c values floor bytes m = on_range_first more c values floor bytes (number_at numbers.RangeFirst bytes) refl
  on_turn (turns.RangeLast more first) c values floor bytes m = on_range_last more first c values floor bytes (number_at numbers.RangeLast bytes) refl
  on_turn (turns.Global more) c values floor bytes m = on_global more c values floor bytes (format.value_at bytes) refl
  on_turn turns.RoutineCount c values floor bytes m = on_routine_count c values floor bytes (number_at numbers.RoutineCount bytes) refl
  on_turn (turns.RoutineAddress more) c values floor bytes m = on_routine_address more c values floor bytes (number_at numbers.RoutineAddress bytes) refl
  on_turn (turns.LocalCount more address) c values floor bytes m = on_local_count more address c values floor bytes (number_at numbers.LocalCount bytes) refl
  on_turn (turns.RoutineResult more address locals) c values floor bytes m = on_routine_result more address locals c values floor bytes (format.value_at bytes) refl
  on_turn turns.InstructionCount c values floor bytes m = on_instruction_count c values floor bytes (number_at numbers.InstructionCount bytes) refl
  on_turn (turns.InstructionAddress more) c values floor bytes m = on_instruction_address more c values floor bytes (number_at numbers.InstructionAddress bytes) refl
  on_turn (turns.RoutineNumber more address) c values floor bytes m = on_routine_number more address c values floor bytes (number_at numbers.RoutineNumber bytes) refl
  on_turn (turns.Height more address routine) c values floor bytes m = on_height more address routine c values floor bytes (number_at numbers.Height bytes) refl
  on_turn (turns.Value more h left) c values floor bytes m = on_value more h left c values floor bytes (format.value_at bytes) refl
  on_turn turns.FactCount c values floor bytes m = on_fact_count c values floor bytes (number_at numbers.FactCount bytes) refl
  on_turn (turns.FactAddress more least) c values floor bytes m = on_fact_address more least c values floor bytes (number_at numbers.FactAddress bytes) refl
  on_turn (turns.FactGlobal more address least) c values floor bytes m = on_fact_global more address least c values floor bytes (number_at numbers.FactGlobal bytes) refl
  on_turn (turns.FactValues more address global) c values floor bytes m = on_fact_values more address global c values floor bytes (format.value_at bytes) refl
  on_turn turns.Complete c values floor [] m = absurd m
  on_turn turns.Complete c values floor (b ∷ bytes) m = refl

  -- to take the next field is to read on
  pub reads_on : (p : Progress V) (bytes : List ℕ) → HasMore p.turn bytes → rest_of p bytes ≡ read_on p bytes
  reads_on p bytes m = on_turn p.turn p.content p.values p.floor bytes m

  complete_at : (t : Turn) (c : Certificate V) (values : List V) (floor : ℕ) → t ≡ turns.Complete → rest_of (at_turn c values floor t) [] ≡ Ok c
  unfolding rest_of at_end
  complete_at t c values floor e = ap (λ (x : Turn). rest_from x (at_turn c values floor x) []) e

  -- where no field is in turn and no byte is left, the certificate is read
  pub completes : (p : Progress V) → p.turn ≡ turns.Complete → rest_of p [] ≡ Ok p.content
  completes p e = complete_at p.turn p.content p.values p.floor e

  fields_open : (edition : Edition) (bytes : List ℕ) → fields_at format edition bytes ≡ rest_of (opening edition) bytes
  unfolding rest_of fields_at identity_at
  fields_open editions.Plain bytes = refl
  fields_open editions.Limited bytes = refl
  fields_open editions.Marking bytes = refl
  fields_open editions.Stating bytes = refl

  all_open : (r : Result (Edition × List ℕ) CertError) → (r >>= λ x. fields_at format x.0 x.1) ≡ (r >>= λ x. rest_of (opening x.0) x.1)
  all_open (Ok x) = fields_open x.0 x.1
  all_open (Err d) = refl

  -- a certificate is read from its version on as the rest before the first field
  pub opens : (bytes : List ℕ) → reading format bytes ≡ (heading_at format bytes >>= λ x. rest_of (opening x.0) x.1)
  unfolding reading
  opens bytes = all_open (heading_at format bytes)
