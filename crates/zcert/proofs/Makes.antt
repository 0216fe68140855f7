-- Calls of a builder and certificates belong together.
use Rattle.std.proofs.Common.{◌≡◌, ℕ, zero, suc, ◌≤◌, Bool, true, false, Option, None, Some, List, [], ◌∷◌, ◌++◌, length, Ok, Err, refl, sym, ap, subst, ◌∙◌, append_assoc, arith, ◌⊎◌, inl, inr}
use Rattle.std.specs.List.{flat_map, AllByRecursion}
use Rattle.std.proofs.lemmas.List.{append-nil}
use Rattle.zcert.specs.declared.edition.Edition.{Edition}
use Rattle.zcert.specs.declared.error.CertError.TheVariants as errors
use Rattle.zcert.specs.declared.field.Field.{Field}
use Rattle.zcert.specs.declared.field.Turn.{Turn}
use Rattle.zcert.specs.declared.field.Turn.TheVariants as turns
use Rattle.zstory.specs.declared.identity.Identity.{Identity}
use Rattle.zcert.specs.declared.parts.Fact.{Fact}
use Rattle.zcert.specs.declared.parts.Range.{Range}
use Rattle.zcert.specs.declared.parts.Routine.{Routine}
use Rattle.zcert.specs.declared.limits.TheConstants.{MAGIC}
use Rattle.zcert.specs.Numbers.{Number, number}
use Rattle.zcert.specs.Numbers as numbers
use Rattle.zcert.specs.Certificate.{Certificate, Instruction, edition_of}
use Rattle.zcert.specs.Marks.{height_byte}
use Rattle.zcert.specs.Steps.{◌>>=◌}
use Rattle.zcert.specs.Format.{Format, version_of, IsAllowed}
use Rattle.zcert.specs.Spelling.{identity_bytes, limit_bytes, range_bytes, counted, values_bytes, routine_bytes, instruction_bytes, fact_bytes, facts_bytes, heading, spelling, IsIdentity, IsRange, IsRoutine, IsInstruction, IsFact, HasSpelling}
use Rattle.zcert.specs.Reading.{reading}
use Rattle.zcert.specs.Building.{Progress, opening, taken, all_taken}
use Rattle.zcert.specs.Fields.{field_bytes, IsField, field_at, IsReached, Makes}
use Rattle.zcert.specs.FormatLaw.Stepping.{IsBytes-append, IsBytes-number, bind_ok, ok_is}
use Rattle.zcert.specs.FormatLaw.{IsBytes, IsFormat}
use Rattle.zcert.proofs.Found.{found}
use Rattle.zcert.proofs.Only.{heading_again, both_each, only}
use Rattle.zcert.proofs.Marked.{edition_allowed}
use Rattle.zcert.proofs.Rest.{rest_of, HasMore, reads_on, completes, opens}
use Rattle.zcert.proofs.FieldBytes.{fields_again, field_takes, below_each, IsBytes-fields}

module _ {V : Type 0} (format : Format V) (law : IsFormat format) where
  -- what follows the heading is read as the fields are
  pub after_heading : (edition : Edition) (bytes : List ℕ) → IsAllowed format edition → reading format (heading format edition ++ bytes) ≡ rest_of format (opening edition) bytes
  after_heading edition bytes may = opens format (heading format edition ++ bytes) ∙ rw (heading_again format law edition bytes may) refl

  -- the fields that led to the end are read as what they made
  made_is_read : (edition : Edition) (fs : List (Field V)) (p : Progress V) → IsAllowed format edition → AllByRecursion (IsField format) fs → all_taken (opening edition) fs ≡ Ok p → p.turn ≡ turns.Complete → reading format (heading format edition ++ flat_map (field_bytes format) fs) ≡ Ok p.content
  made_is_read edition fs p may each led complete =
      after_heading edition (flat_map (field_bytes format) fs) may
      ∙ ap (rest_of format (opening edition)) (sym (append-nil (flat_map (field_bytes format) fs)))
      ∙ fields_again format law fs (opening edition) p [] each led
      ∙ completes format p complete

  -- they are, one after another, its spelling
  pub made_is_spelled : (edition : Edition) (fs : List (Field V)) (p : Progress V) → IsAllowed format edition → AllByRecursion (IsField format) fs → all_taken (opening edition) fs ≡ Ok p → p.turn ≡ turns.Complete → (heading format edition ++ flat_map (field_bytes format) fs ≡ spelling format p.content) × HasSpelling format p.content
  made_is_spelled edition fs p may each led complete =
      let bytes = flat_map (field_bytes format) fs in
      let version = version_of format edition in
      let fits = IsBytes-append (heading format edition) bytes (IsBytes-append (number numbers.Magic MAGIC) (number numbers.Version version) (IsBytes-number numbers.Magic MAGIC) (IsBytes-number numbers.Version version)) (IsBytes-fields format law fs each) in
      found format law (heading format edition ++ bytes) p.content fits (made_is_read edition fs p may each led complete)

  -- ---- each certificate is made by some fields

  complete_or_more : (t : Turn) → (t ≡ turns.Complete) ⊎ ((bytes : List ℕ) → HasMore format t bytes)
  complete_or_more turns.Complete = inl refl
  complete_or_more _ = inr (λ bytes. tt)

  -- fields that lead from here to a certificate
  abbrev MakesFrom : Progress V → Certificate V → Type 0
  MakesFrom p c = (fs : List (Field V)) × (q : Progress V) × AllByRecursion (IsField format) fs × (all_taken p fs ≡ Ok q) × (q.turn ≡ turns.Complete) × (q.content ≡ c)

  end_nothing : (p : Progress V) (bytes : List ℕ) (c : Certificate V) → p.turn ≡ turns.Complete → rest_of format p bytes ≡ Ok c → p.content ≡ c
  end_nothing p [] c complete e = ok_is p.content c (sym (completes format p complete) ∙ e)
  end_nothing p (b ∷ bytes) c complete e =
      let on = reads_on format p (b ∷ bytes) (subst (λ (t : Turn). HasMore format t (b ∷ bytes)) (sym complete) tt) in
      let refused : field_at format p.turn (b ∷ bytes) ≡ Err errors.Trailing = ap (λ (t : Turn). field_at format t (b ∷ bytes)) complete in
      let none : rest_of format p (b ∷ bytes) ≡ Err errors.Trailing = on ∙ rw refused refl in
      absurd (let both = sym none ∙ e in cc)

  one_first : (f : Field V) (fs : List (Field V)) (p q r : Progress V) → taken p f ≡ Ok q → all_taken q fs ≡ Ok r → all_taken p (f ∷ fs) ≡ Ok r
  one_first f fs p q r e d = rw e d

  along : (n : ℕ) (p : Progress V) (bytes : List ℕ) (c : Certificate V) → length bytes ≤ n → IsBytes bytes → rest_of format p bytes ≡ Ok c → (p.turn ≡ turns.Complete) ⊎ ((bytes : List ℕ) → HasMore format p.turn bytes) → MakesFrom p c
  along n p bytes c few fits e (inl complete) = ([], p, tt, refl, complete, end_nothing p bytes c complete e)
  along zero p bytes c few fits e (inr more) =
      let a = bind_ok (field_at format p.turn bytes) (λ f. taken p f.0 >>= λ q. rest_of format q f.1) c (sym (reads_on format p bytes (more bytes)) ∙ e) in
      let t = field_takes format law p.turn bytes a.0.0 a.0.1 fits a.1 in
      absurd (omega (arith, t.shorter))
  along (suc n) p bytes c few fits e (inr more) =
      let a = bind_ok (field_at format p.turn bytes) (λ f. taken p f.0 >>= λ q. rest_of format q f.1) c (sym (reads_on format p bytes (more bytes)) ∙ e) in
      let b = bind_ok (taken p a.0.0) (λ q. rest_of format q a.0.1) c a.2 in
      let t = field_takes format law p.turn bytes a.0.0 a.0.1 fits a.1 in
      let m = along n b.0 a.0.1 c (omega (arith, t.shorter)) t.takes.rest_fits b.2 (complete_or_more b.0.turn) in
      (a.0.0 ∷ m.0, m.1, (t.is, m.2), one_first a.0.0 m.0 p b.0 m.1 b.1 m.3, m.4, m.5)

  -- what is made is spelled by the fields, one after another
  pub makes_spelled : (fs : List (Field V)) (c : Certificate V) → Makes format fs c → HasSpelling format c × (spelling format c ≡ heading format (edition_of c) ++ flat_map (field_bytes format) fs)
  makes_spelled fs c m =
      let edition : Edition = edition_of c in
      let s = made_is_spelled edition fs m.end m.allowed m.each m.led m.complete in
      subst (λ (d : Certificate V). HasSpelling format d × (spelling format d ≡ heading format edition ++ flat_map (field_bytes format) fs)) m.content (s.1, sym s.0)

  -- ---- a spelling is of bytes

  IsBytes-flat_map : {A : Type 0} (f : A → List ℕ) (P : A → Type 0) → ((x : A) → P x → IsBytes (f x)) → (xs : List A) → AllByRecursion P xs → IsBytes (flat_map f xs)
  IsBytes-flat_map f P each [] all = λ i. omega arith
  IsBytes-flat_map f P each (x ∷ xs) all = IsBytes-append (f x) (flat_map f xs) (each x all.0) (IsBytes-flat_map f P each xs all.1)

  IsBytes-counted : {A : Type 0} (kind : Number) (f : A → List ℕ) (P : A → Type 0) → ((x : A) → P x → IsBytes (f x)) → (xs : List A) → AllByRecursion P xs → IsBytes (counted kind f xs)
  IsBytes-counted kind f P each xs all = IsBytes-append (number kind (length xs)) (flat_map f xs) (IsBytes-number kind (length xs)) (IsBytes-flat_map f P each xs all)

  three_bytes : (a b c : List ℕ) → IsBytes a → IsBytes b → IsBytes c → IsBytes (a ++ b ++ c)
  three_bytes a b c p q r = IsBytes-append (a ++ b) c (IsBytes-append a b p q) r

  IsBytes-identity : (i : Identity) → IsIdentity i → IsBytes (identity_bytes i)
  IsBytes-identity i is =
      let release = number numbers.Release i.release in
      let checksum = number numbers.Checksum i.checksum in
      let loaded = number numbers.LoadedLength i.length in
      IsBytes-append (release ++ i.serial ++ checksum) loaded
      (three_bytes release i.serial checksum (IsBytes-number numbers.Release i.release) (below_each i.serial is.serial_bytes) (IsBytes-number numbers.Checksum i.checksum))
      (IsBytes-number numbers.LoadedLength i.length)

  IsBytes-limit : (limit : Option ℕ) → IsBytes (limit_bytes limit)
  IsBytes-limit None = λ i. omega arith
  IsBytes-limit (Some n) = IsBytes-number numbers.FrameLimit n

  IsBytes-range : (r : Range) → IsRange r → IsBytes (range_bytes r)
  IsBytes-range r is = IsBytes-append (number numbers.RangeFirst r.first) (number numbers.RangeLast r.last) (IsBytes-number numbers.RangeFirst r.first) (IsBytes-number numbers.RangeLast r.last)

  IsBytes-routine : (r : Routine V) → IsRoutine format r → IsBytes (routine_bytes format r)
  IsBytes-routine r is =
      three_bytes (number numbers.RoutineAddress r.address) (number numbers.LocalCount r.locals) (format.spelled r.result) (IsBytes-number numbers.RoutineAddress r.address) (IsBytes-number numbers.LocalCount r.locals) (law.bytes r.result is.result)

  IsBytes-instruction : (routines : List (Routine V)) (i : Instruction V) → IsInstruction format routines i → IsBytes (instruction_bytes format i)
  IsBytes-instruction routines i is =
      let address = number numbers.InstructionAddress i.address in
      let routine = number numbers.RoutineNumber i.routine in
      let byte = height_byte i.is_marked (length i.slots) in
      let height = number numbers.Height byte in
      IsBytes-append (address ++ routine ++ height) (values_bytes format (i.locals ++ i.slots))
      (three_bytes address routine height (IsBytes-number numbers.InstructionAddress i.address) (IsBytes-number numbers.RoutineNumber i.routine) (IsBytes-number numbers.Height byte))
      (IsBytes-flat_map format.spelled format.Has law.bytes (i.locals ++ i.slots) (both_each format law i.locals i.slots is.local_values is.slot_values))

  IsBytes-fact : (f : Fact V) → IsFact format f → IsBytes (fact_bytes format f)
  IsBytes-fact f is =
      three_bytes (number numbers.FactAddress f.address) (number numbers.FactGlobal f.global) (format.spelled f.values) (IsBytes-number numbers.FactAddress f.address) (IsBytes-number numbers.FactGlobal f.global) (law.bytes f.values is.values)

  IsBytes-facts : (stating : Bool) (fs : List (Fact V)) → AllByRecursion (IsFact format) fs → IsBytes (facts_bytes format stating fs)
  IsBytes-facts false fs each = λ i. omega arith
  IsBytes-facts true fs each = IsBytes-counted numbers.FactCount (fact_bytes format) (IsFact format) IsBytes-fact fs each

  -- what follows the heading
  abbrev body : Certificate V → List ℕ
  body c =
      identity_bytes c.identity
      ++ (limit_bytes c.limit
      ++ (counted numbers.RangeCount range_bytes c.ranges
      ++ (values_bytes format c.globals
      ++ (counted numbers.RoutineCount (routine_bytes format) c.routines
      ++ (counted numbers.InstructionCount (instruction_bytes format) c.instructions
      ++ facts_bytes format c.stating c.facts)))))

  IsBytes-body : (c : Certificate V) → HasSpelling format c → IsBytes (body c)
  IsBytes-body c has =
      let ranges = counted numbers.RangeCount range_bytes c.ranges in
      let globals = values_bytes format c.globals in
      let routines = counted numbers.RoutineCount (routine_bytes format) c.routines in
      let instructions = counted numbers.InstructionCount (instruction_bytes format) c.instructions in
      let facts = facts_bytes format c.stating c.facts in
      let behind_globals = routines ++ (instructions ++ facts) in
      let last = IsBytes-append instructions facts (IsBytes-counted numbers.InstructionCount (instruction_bytes format) (IsInstruction format c.routines) (IsBytes-instruction c.routines) c.instructions has.instructions) (IsBytes-facts c.stating c.facts has.facts) in
      let from_routines = IsBytes-append routines (instructions ++ facts) (IsBytes-counted numbers.RoutineCount (routine_bytes format) (IsRoutine format) IsBytes-routine c.routines has.routines) last in
      let from_globals = IsBytes-append globals behind_globals (IsBytes-flat_map format.spelled format.Has law.bytes c.globals has.global_values) from_routines in
      let from_ranges = IsBytes-append ranges (globals ++ behind_globals) (IsBytes-counted numbers.RangeCount range_bytes IsRange IsBytes-range c.ranges has.ranges) from_globals in
      let from_limit = IsBytes-append (limit_bytes c.limit) (ranges ++ (globals ++ behind_globals)) (IsBytes-limit c.limit) from_ranges in
      IsBytes-append (identity_bytes c.identity) (limit_bytes c.limit ++ (ranges ++ (globals ++ behind_globals))) (IsBytes-identity c.identity has.identity) from_limit

  in_two : (a b l c d e f g : List ℕ) → a ++ b ++ l ++ c ++ d ++ e ++ f ++ g ≡ a ++ (b ++ (l ++ (c ++ (d ++ (e ++ (f ++ g))))))
  in_two a b l c d e f g = simp append_assoc

  -- a spelling is its heading and what follows it
  parts_of : (c : Certificate V) → spelling format c ≡ heading format (edition_of c) ++ body c
  parts_of c = in_two (heading format (edition_of c)) (identity_bytes c.identity) (limit_bytes c.limit) (counted numbers.RangeCount range_bytes c.ranges) (values_bytes format c.globals) (counted numbers.RoutineCount (routine_bytes format) c.routines) (counted numbers.InstructionCount (instruction_bytes format) c.instructions) (facts_bytes format c.stating c.facts)

  -- each certificate that has a spelling is made by some fields
  pub each_is_made : (c : Certificate V) → HasSpelling format c → (fs : List (Field V)) × Makes format fs c
  each_is_made c has =
      let edition : Edition = edition_of c in
      let may = edition_allowed format c.limit c.marking c.stating has.limit in
      let read : rest_of format (opening edition) (body c) ≡ Ok c = sym (after_heading edition (body c) may) ∙ ap (reading format) (sym (parts_of c)) ∙ only format law c has in
      let m = along (length (body c)) (opening edition) (body c) c (omega arith) (IsBytes-body c has) read (complete_or_more turns.Release) in
      (m.0, record { end = m.1; allowed = may; each = m.2; led = m.3; complete = m.4; content = m.5 })

  -- what is reached at the end has a spelling
  pub reached_has_spelling : (p : Progress V) → IsReached format p → p.turn ≡ turns.Complete → HasSpelling format p.content
  reached_has_spelling p (edition, may, (fs, each, led)) complete = (made_is_spelled edition fs p may each led complete).1
