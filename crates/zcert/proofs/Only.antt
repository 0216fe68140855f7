-- What is spelled is read.
use Rattle.std.proofs.Common.{◌≡◌, ◌≢◌, ℕ, suc, ◌+◌, ◌<◌, ◌≤◌, Bool, true, false, Option, None, Some, List, [], ◌∷◌, ◌++◌, length, Result, Ok, eq-eqb, refl, sym, ap, ◌∙◌, append_assoc, arith, length-append}
use Rattle.std.specs.Prelude.{◌==◌, is_some}
use Rattle.std.specs.List.{flat_map, AllByRecursion}
use Rattle.std.proofs.lemmas.Bool.{eqb-true, le-leb, lt-ltb}
use Rattle.std.proofs.lemmas.List.{take_at, drop_at, append-nil}
use Rattle.zstory.specs.declared.identity.Identity.{Identity}
use Rattle.zcert.specs.declared.edition.Edition.{Edition}
use Rattle.zcert.specs.declared.edition.Edition.TheVariants as editions
use Rattle.zcert.specs.declared.error.CertError.{CertError}
use Rattle.zcert.specs.declared.parts.Fact.{Fact}
use Rattle.zcert.specs.declared.parts.Range.{Range}
use Rattle.zcert.specs.declared.parts.Routine.{Routine}
use Rattle.zcert.specs.declared.limits.TheConstants.{MAGIC, GLOBALS, ADDRESS_LIMIT, MAX_LOCALS, MAX_INSTRUCTIONS, MAX_RANGES, MAX_ROUTINES, MAX_HEIGHT, MAX_FRAMES, MAX_FACTS, LIMIT_VERSION, MARK_VERSION, FACT_VERSION}
use Rattle.zcert.specs.Numbers.{number, HasRoom}
use Rattle.zcert.specs.Numbers as numbers
use Rattle.zcert.specs.Certificate.{Instruction, Certificate, locals_of, edition_of}
use Rattle.zcert.specs.Marks.{height_byte, is_mark, height_in, IsMarkable}
use Rattle.zcert.specs.Facts.{least_global, FactsRise, AreStated}
use Rattle.zcert.specs.Format.{Format, version_of, IsAllowed}
use Rattle.zcert.specs.Spelling.{identity_bytes, limit_bytes, range_bytes, values_bytes, routine_bytes, instruction_bytes, fact_bytes, facts_bytes, counted, heading, spelling, IsIdentity, IsLimit, IsRange, AreApart, Rise, IsRoutine, IsInstruction, IsFact, HasSpelling}
use Rattle.zcert.specs.Reading.{magic_at, version_at, heading_at, identity_at, limit_at, fields_at, range_at, ranges_at, all_ranges_at, address_fits, values_at, routine_at, routines_at, all_routines_at, instruction_at, instructions_at, all_instructions_at, fact_at, facts_from, all_facts_at, at_end, reading}
use Rattle.zcert.specs.FormatLaw.Stepping.{number_again, serial_again}
use Rattle.zcert.specs.FormatLaw.{IsFormat}
use Rattle.zcert.proofs.Marked.{byte_has_room, mark_again, height_again, limited_by, marking_by, stating_by, edition_allowed}

-- parts one after another, before what follows
two : (a b rest : List ℕ) → (a ++ b) ++ rest ≡ a ++ (b ++ rest)
two a b rest = append_assoc a b rest

three : (a b c rest : List ℕ) → (a ++ b ++ c) ++ rest ≡ a ++ (b ++ (c ++ rest))
three a b c rest = simp append_assoc

four : (a b c d rest : List ℕ) → (a ++ b ++ c ++ d) ++ rest ≡ a ++ (b ++ (c ++ (d ++ rest)))
four a b c d rest = simp append_assoc

pub magic_again : (rest : List ℕ) → magic_at (number numbers.Magic MAGIC ++ rest) ≡ Ok rest
unfolding magic_at
magic_again rest = rw (number_again numbers.Magic MAGIC rest (omega arith)) refl

eqb_same : (n : ℕ) → (n == n) ≡ true
eqb_same n = eq-eqb n n refl

other_version : (b : Bool) (m n : ℕ) → n ≢ m → (m == n) ≡ b → b ≡ false
other_version true m n apart e = absurd (apart (sym (eqb-true _ _ e)))
other_version false m n apart e = refl

version_again : {V : Type 0} (format : Format V) (law : IsFormat format) (edition : Edition) (rest : List ℕ) → IsAllowed format edition → version_at format (number numbers.Version (version_of format edition) ++ rest) ≡ Ok (edition, rest)
unfolding version_at
version_again format law editions.Plain rest may = rw (number_again numbers.Version format.version rest law.version, eqb_same format.version) refl
version_again format law editions.Limited rest may =
    let other : (LIMIT_VERSION == format.version) ≡ false = other_version _ LIMIT_VERSION format.version law.apart refl in
    rw (number_again numbers.Version LIMIT_VERSION rest (omega arith), other, may) refl
version_again format law editions.Marking rest may =
    let other : (MARK_VERSION == format.version) ≡ false = other_version _ MARK_VERSION format.version law.unmarked refl in
    rw (number_again numbers.Version MARK_VERSION rest (omega arith), other, may) refl
version_again format law editions.Stating rest may =
    let other : (FACT_VERSION == format.version) ≡ false = other_version _ FACT_VERSION format.version law.unstated refl in
    rw (number_again numbers.Version FACT_VERSION rest (omega arith), other, may) refl

pub heading_again : {V : Type 0} (format : Format V) (law : IsFormat format) (edition : Edition) (rest : List ℕ) → IsAllowed format edition → heading_at format (heading format edition ++ rest) ≡ Ok (edition, rest)
unfolding heading_at
heading_again format law edition rest may =
    let version = number numbers.Version (version_of format edition) in
    ap (heading_at format) (two (number numbers.Magic MAGIC) version rest) ∙ rw (magic_again (version ++ rest)) (version_again format law edition rest may)

limit_again : {V : Type 0} (format : Format V) (limit : Option ℕ) (rest : List ℕ) → IsLimit format limit → limit_at (is_some limit) (limit_bytes limit ++ rest) ≡ Ok (limit, rest)
unfolding limit_at
limit_again format None rest is = refl
limit_again format (Some n) rest is = rw (number_again numbers.FrameLimit n rest (omega (arith, is.1)), le-leb n MAX_FRAMES is.1) refl

identity_again : (i : Identity) (rest : List ℕ) → IsIdentity i → identity_at (identity_bytes i ++ rest) ≡ Ok (i, rest)
unfolding identity_at
identity_again i rest is =
    let checksum = number numbers.Checksum i.checksum in
    let loaded = number numbers.LoadedLength i.length in
    ap identity_at (four (number numbers.Release i.release) i.serial checksum loaded rest) ∙ rw (
      number_again numbers.Release i.release (i.serial ++ (checksum ++ (loaded ++ rest))) is.release,
      serial_again i.serial (checksum ++ (loaded ++ rest)) is.serial,
      number_again numbers.Checksum i.checksum (loaded ++ rest) is.checksum,
      number_again numbers.LoadedLength i.length rest is.loaded_length,
    ) refl

range_again : (floor : ℕ) (r : Range) (rest : List ℕ) → floor ≤ r.first → IsRange r → range_at floor (range_bytes r ++ rest) ≡ Ok (r, rest)
unfolding range_at
range_again floor r rest above is =
    let last = number numbers.RangeLast r.last in
    let room : HasRoom numbers.RangeFirst r.first = omega (arith, is.ordered, is.room) in
    ap (range_at floor) (two (number numbers.RangeFirst r.first) last rest) ∙ rw (
      number_again numbers.RangeFirst r.first (last ++ rest) room,
      le-leb floor r.first above,
      number_again numbers.RangeLast r.last rest is.room,
      le-leb r.first r.last is.ordered,
    ) refl

ranges_again : (floor : ℕ) (rs : List Range) (rest : List ℕ) → AllByRecursion IsRange rs → AreApart floor rs → ranges_at (length rs) floor (flat_map range_bytes rs ++ rest) ≡ Ok (rs, rest)
unfolding ranges_at
ranges_again floor [] rest each apart = refl
ranges_again floor (r ∷ rs) rest each apart =
    ap (ranges_at (suc (length rs)) floor) (two (range_bytes r) (flat_map range_bytes rs) rest) ∙ rw (
      range_again floor r (flat_map range_bytes rs ++ rest) apart.0 each.0,
      ranges_again (r.last + 2) rs rest each.1 apart.1,
    ) refl

all_ranges_again : (rs : List Range) (rest : List ℕ) → length rs ≤ MAX_RANGES → AllByRecursion IsRange rs → AreApart 0 rs → all_ranges_at (counted numbers.RangeCount range_bytes rs ++ rest) ≡ Ok (rs, rest)
unfolding all_ranges_at
all_ranges_again rs rest few each apart =
    ap all_ranges_at (two (number numbers.RangeCount (length rs)) (flat_map range_bytes rs) rest) ∙ rw (
      number_again numbers.RangeCount (length rs) (flat_map range_bytes rs ++ rest) (omega (arith, few)),
      le-leb (length rs) MAX_RANGES few,
    ) (ranges_again 0 rs rest each apart)

address_again : (floor address : ℕ) → floor ≤ address → address < ADDRESS_LIMIT → address_fits floor address ≡ Ok tt
address_again floor address above below = rw (le-leb floor address above, lt-ltb address ADDRESS_LIMIT below) refl

module _ {V : Type 0} (format : Format V) (law : IsFormat format) where
  values_again : (vs : List V) (rest : List ℕ) → AllByRecursion format.Has vs → values_at format (length vs) (values_bytes format vs ++ rest) ≡ Ok (vs, rest)
  unfolding values_at
  values_again [] rest each = refl
  values_again (v ∷ vs) rest each =
      ap (values_at format (suc (length vs))) (two (format.spelled v) (values_bytes format vs) rest) ∙ rw (
        law.again v (values_bytes format vs ++ rest) each.0,
        values_again vs rest each.1,
      ) refl

  routine_again : (floor : ℕ) (r : Routine V) (rest : List ℕ) → floor ≤ r.address → IsRoutine format r → routine_at format floor (routine_bytes format r ++ rest) ≡ Ok (r, rest)
  unfolding routine_at
  routine_again floor r rest above is =
      let locals = number numbers.LocalCount r.locals in
      let result = format.spelled r.result in
      ap (routine_at format floor) (three (number numbers.RoutineAddress r.address) locals result rest) ∙ rw (
        number_again numbers.RoutineAddress r.address (locals ++ (result ++ rest)) (omega (arith, is.address)),
        le-leb floor r.address above,
        lt-ltb r.address ADDRESS_LIMIT is.address,
        number_again numbers.LocalCount r.locals (result ++ rest) (omega (arith, is.locals)),
        le-leb r.locals MAX_LOCALS is.locals,
        law.again r.result rest is.result,
      ) refl

  routines_again : (floor : ℕ) (rs : List (Routine V)) (rest : List ℕ) → AllByRecursion (IsRoutine format) rs → Rise (λ (r : Routine V). r.address) floor rs → routines_at format (length rs) floor (flat_map (routine_bytes format) rs ++ rest) ≡ Ok (rs, rest)
  unfolding routines_at
  routines_again floor [] rest each rise = refl
  routines_again floor (r ∷ rs) rest each rise =
      ap (routines_at format (suc (length rs)) floor) (two (routine_bytes format r) (flat_map (routine_bytes format) rs) rest) ∙ rw (
        routine_again floor r (flat_map (routine_bytes format) rs ++ rest) rise.0 each.0,
        routines_again (r.address + 1) rs rest each.1 rise.1,
      ) refl

  all_routines_again : (rs : List (Routine V)) (rest : List ℕ) → length rs ≤ MAX_ROUTINES → AllByRecursion (IsRoutine format) rs → Rise (λ (r : Routine V). r.address) 0 rs → all_routines_at format (counted numbers.RoutineCount (routine_bytes format) rs ++ rest) ≡ Ok (rs, rest)
  unfolding all_routines_at
  all_routines_again rs rest few each rise =
      ap (all_routines_at format) (two (number numbers.RoutineCount (length rs)) (flat_map (routine_bytes format) rs) rest) ∙ rw (
        number_again numbers.RoutineCount (length rs) (flat_map (routine_bytes format) rs ++ rest) (omega (arith, few)),
        le-leb (length rs) MAX_ROUTINES few,
      ) (routines_again 0 rs rest each rise)

  pub both_each : (xs ys : List V) → AllByRecursion format.Has xs → AllByRecursion format.Has ys → AllByRecursion format.Has (xs ++ ys)
  both_each [] ys p q = q
  both_each (x ∷ xs) ys p q = (p.0, both_each xs ys p.1 q)

  instruction_again : (marking : Bool) (routines : List (Routine V)) (floor : ℕ) (i : Instruction V) (rest : List ℕ) → length routines ≤ MAX_ROUTINES → floor ≤ i.address → IsInstruction format routines i → IsMarkable marking i → instruction_at format marking routines floor (instruction_bytes format i ++ rest) ≡ Ok (i, rest)
  unfolding instruction_at
  instruction_again marking routines floor i rest few above is may =
      let routine = number numbers.RoutineNumber i.routine in
      let byte = height_byte i.is_marked (length i.slots) in
      let height = number numbers.Height byte in
      let said : height_in marking byte ≡ length i.slots = height_again marking i (length i.slots) is.height may in
      let marked : is_mark marking byte ≡ i.is_marked = mark_again marking i (length i.slots) is.height may in
      let vs = i.locals ++ i.slots in
      let values = values_bytes format vs in
      let n = locals_of routines i.routine in
      let count : n + length i.slots ≡ length vs = omega (arith, length-append i.locals i.slots, is.locals) in
      ap (instruction_at format marking routines floor) (four (number numbers.InstructionAddress i.address) routine height values rest) ∙ rw (
        number_again numbers.InstructionAddress i.address (routine ++ (height ++ (values ++ rest))) (omega (arith, is.address)),
        le-leb floor i.address above,
        lt-ltb i.address ADDRESS_LIMIT is.address,
        number_again numbers.RoutineNumber i.routine (height ++ (values ++ rest)) (omega (arith, is.routine, few)),
        le-leb i.routine (length routines) is.routine,
        number_again numbers.Height byte (values ++ rest) (byte_has_room i.is_marked (length i.slots) is.height),
        said,
        marked,
        le-leb (length i.slots) MAX_HEIGHT is.height,
        count,
        values_again vs rest (both_each i.locals i.slots is.local_values is.slot_values),
        take_at i.locals i.slots n is.locals,
        drop_at i.locals i.slots n is.locals,
      ) refl

  instructions_again : (marking : Bool) (routines : List (Routine V)) (floor : ℕ) (is : List (Instruction V)) (rest : List ℕ) → length routines ≤ MAX_ROUTINES → AllByRecursion (IsInstruction format routines) is → AllByRecursion (IsMarkable marking) is → Rise (λ (i : Instruction V). i.address) floor is → instructions_at format marking routines (length is) floor (flat_map (instruction_bytes format) is ++ rest) ≡ Ok (is, rest)
  unfolding instructions_at
  instructions_again marking routines floor [] rest few each may rise = refl
  instructions_again marking routines floor (i ∷ is) rest few each may rise =
      ap (instructions_at format marking routines (suc (length is)) floor) (two (instruction_bytes format i) (flat_map (instruction_bytes format) is) rest) ∙ rw (
        instruction_again marking routines floor i (flat_map (instruction_bytes format) is ++ rest) few rise.0 each.0 may.0,
        instructions_again marking routines (i.address + 1) is rest few each.1 may.1 rise.1,
      ) refl

  all_instructions_again : (marking : Bool) (routines : List (Routine V)) (is : List (Instruction V)) (rest : List ℕ) → length routines ≤ MAX_ROUTINES → length is ≤ MAX_INSTRUCTIONS → AllByRecursion (IsInstruction format routines) is → AllByRecursion (IsMarkable marking) is → Rise (λ (i : Instruction V). i.address) 0 is → all_instructions_at format marking routines (counted numbers.InstructionCount (instruction_bytes format) is ++ rest) ≡ Ok (is, rest)
  unfolding all_instructions_at
  all_instructions_again marking routines is rest few_routines few each may rise =
      ap (all_instructions_at format marking routines) (two (number numbers.InstructionCount (length is)) (flat_map (instruction_bytes format) is) rest) ∙ rw (
        number_again numbers.InstructionCount (length is) (flat_map (instruction_bytes format) is ++ rest) (omega (arith, few)),
        le-leb (length is) MAX_INSTRUCTIONS few,
      ) (instructions_again marking routines 0 is rest few_routines each may rise)

  fact_again : (floor least : ℕ) (f : Fact V) (rest : List ℕ) → floor ≤ f.address → least_global floor least f.address ≤ f.global → IsFact format f → fact_at format floor least (fact_bytes format f ++ rest) ≡ Ok (f, rest)
  unfolding fact_at
  fact_again floor least f rest above behind is =
      let global = number numbers.FactGlobal f.global in
      let values = format.spelled f.values in
      ap (fact_at format floor least) (three (number numbers.FactAddress f.address) global values rest) ∙ rw (
        number_again numbers.FactAddress f.address (global ++ (values ++ rest)) (omega (arith, is.address)),
        le-leb floor f.address above,
        lt-ltb f.address ADDRESS_LIMIT is.address,
        number_again numbers.FactGlobal f.global (values ++ rest) (omega (arith, is.global)),
        le-leb (least_global floor least f.address) f.global behind,
        lt-ltb f.global GLOBALS is.global,
        law.again f.values rest is.values,
      ) refl

  facts_again : (floor least : ℕ) (fs : List (Fact V)) (rest : List ℕ) → AllByRecursion (IsFact format) fs → FactsRise floor least fs → facts_from format (length fs) floor least (flat_map (fact_bytes format) fs ++ rest) ≡ Ok (fs, rest)
  unfolding facts_from
  facts_again floor least [] rest each rise = refl
  facts_again floor least (f ∷ fs) rest each rise =
      ap (facts_from format (suc (length fs)) floor least) (two (fact_bytes format f) (flat_map (fact_bytes format) fs) rest) ∙ rw (
        fact_again floor least f (flat_map (fact_bytes format) fs ++ rest) rise.0 rise.1 each.0,
        facts_again f.address (f.global + 1) fs rest each.1 rise.2,
      ) refl

  all_facts_again : (stating : Bool) (fs : List (Fact V)) (rest : List ℕ) → length fs ≤ MAX_FACTS → AllByRecursion (IsFact format) fs → FactsRise 0 0 fs → AreStated stating fs → all_facts_at format stating (facts_bytes format stating fs ++ rest) ≡ Ok (fs, rest)
  unfolding all_facts_at
  all_facts_again false fs rest few each rise none = ap (λ (l : List (Fact V)). Ok (l, rest)) (sym none)
  all_facts_again true fs rest few each rise stated =
      ap (all_facts_at format true) (two (number numbers.FactCount (length fs)) (flat_map (fact_bytes format) fs) rest) ∙ rw (
        number_again numbers.FactCount (length fs) (flat_map (fact_bytes format) fs ++ rest) (omega (arith, few)),
        le-leb (length fs) MAX_FACTS few,
      ) (facts_again 0 0 fs rest each rise)

  in_parts : (a b l c d e f g : List ℕ) → a ++ b ++ l ++ c ++ d ++ e ++ f ++ g ≡ a ++ (b ++ (l ++ (c ++ (d ++ (e ++ (f ++ (g ++ [])))))))
  in_parts a b l c d e f g = simp (append_assoc, append-nil)

  -- what has a spelling is read from it
  pub only : (c : Certificate V) → HasSpelling format c → reading format (spelling format c) ≡ Ok c
  unfolding reading fields_at at_end
  only c has =
      let identity = identity_bytes c.identity in
      let limit = limit_bytes c.limit in
      let ranges = counted numbers.RangeCount range_bytes c.ranges in
      let globals = values_bytes format c.globals in
      let routines = counted numbers.RoutineCount (routine_bytes format) c.routines in
      let instructions = counted numbers.InstructionCount (instruction_bytes format) c.instructions in
      let facts = facts_bytes format c.stating c.facts in
      let behind_routines = instructions ++ (facts ++ []) in
      let behind_globals = routines ++ behind_routines in
      let globals_read : values_at format GLOBALS (globals ++ behind_globals) ≡ Ok (c.globals, behind_globals) =
      ap (λ (n : ℕ). values_at format n (globals ++ behind_globals)) (sym has.globals) ∙ values_again c.globals behind_globals has.global_values
      in
      ap (reading format) (in_parts (heading format (edition_of c)) identity limit ranges globals routines instructions facts) ∙ rw (
        heading_again format law (edition_of c) (identity ++ (limit ++ (ranges ++ (globals ++ behind_globals)))) (edition_allowed format c.limit c.marking c.stating has.limit),
        identity_again c.identity (limit ++ (ranges ++ (globals ++ behind_globals))) has.identity,
        limited_by c.limit c.marking c.stating,
        marking_by c.limit c.marking c.stating has.marking,
        stating_by c.limit c.marking c.stating has.marking has.stating,
        limit_again format c.limit (ranges ++ (globals ++ behind_globals)) has.limit,
        all_ranges_again c.ranges (globals ++ behind_globals) has.few_ranges has.ranges has.ranges_apart,
        globals_read,
        all_routines_again c.routines behind_routines has.few_routines has.routines has.routines_rise,
        all_instructions_again c.marking c.routines c.instructions (facts ++ []) has.few_routines has.few_instructions has.instructions has.instructions_markable has.instructions_rise,
        all_facts_again c.stating c.facts [] has.few_facts has.facts has.facts_rise has.facts_stated,
      ) refl

  same_answer : (c d : Certificate V) (r : Result (Certificate V) CertError) → r ≡ Ok c → r ≡ Ok d → c ≡ d
  same_answer c d r p q = cc

  -- two certificates with one spelling are one
  pub one : (c d : Certificate V) → HasSpelling format c → HasSpelling format d → spelling format c ≡ spelling format d → c ≡ d
  one c d has also e = same_answer c d (reading format (spelling format c)) (only c has) (ap (reading format) e ∙ only d also)
