-- The bytes of fields: those that were taken are read as the certificate that they make.
use Rattle.std.proofs.Common.{◌≡◌, ℕ, ◌<◌, List, [], ◌∷◌, ◌++◌, length, get_or, Result, Ok, Err, inl, inr, ◌⊎◌, refl, sym, ap, subst, ◌∙◌, append_assoc, arith, length-append}
use Rattle.std.specs.List.{flat_map, AllByRecursion}
use Rattle.byteorder.specs.Numbers.{length-bytes_high_first}
use Rattle.zcert.specs.declared.error.CertError.{CertError}
use Rattle.zcert.specs.declared.error.CertError.TheVariants as errors
use Rattle.zcert.specs.declared.field.Field.{Field}
use Rattle.zcert.specs.declared.field.Field.TheVariants as fields
use Rattle.zcert.specs.declared.field.Turn.{Turn}
use Rattle.zcert.specs.declared.field.Turn.TheVariants as turns
use Rattle.zcert.specs.Numbers.{Number, number, width, HasRoom}
use Rattle.zcert.specs.Numbers as numbers
use Rattle.zcert.specs.Steps.{number_at, serial_at}
use Rattle.zcert.specs.Format.{Format}
use Rattle.zcert.specs.Building.{Progress, InTurn, taken, all_taken, after_release, after_serial, after_checksum, after_loaded_length, after_frame_limit, after_range_count, after_range_first, after_range_last, after_global, after_routine_count, after_routine_address, after_local_count, after_routine_result, after_instruction_count, after_instruction_address, after_routine_number, after_height, after_value, after_fact_count, after_fact_address, after_fact_global, after_fact_values}
use Rattle.zcert.specs.Fields.{field_bytes, IsField, as_field, field_at}
use Rattle.zcert.specs.FormatLaw.Stepping.{IsBytes-append, IsBytes-number, by_place, width_some, bind_ok, ok_is, number_takes, number_again, serial_takes, serial_again}
use Rattle.zcert.specs.FormatLaw.{IsBytes, Takes, IsFormat}
use Rattle.zcert.proofs.Found.{each_below}
use Rattle.zcert.proofs.Rest.{rest_of, HasMore, reads_on}

pub below_each : (s : List ℕ) → AllByRecursion (λ b. b < 256) s → IsBytes s
below_each [] each = λ i. omega arith
below_each (b ∷ s) each = by_place (λ i. get_or (b ∷ s) i 0 < 256) each.0 (below_each s each.1)

-- a field is in its turn, or out of order
module _ {V : Type 0} where
  turn_release : (n : ℕ) (t : Turn) (p : Progress V) → InTurn {V = V} t (fields.Release n) ⊎ (after_release n t p ≡ Err errors.Order)
  turn_release n turns.Release p = inl tt
  turn_release n _ p = inr refl

  turn_serial : (s : List ℕ) (t : Turn) (p : Progress V) → InTurn {V = V} t (fields.Serial s) ⊎ (after_serial s t p ≡ Err errors.Order)
  turn_serial s turns.Serial p = inl tt
  turn_serial s _ p = inr refl

  turn_checksum : (n : ℕ) (t : Turn) (p : Progress V) → InTurn {V = V} t (fields.Checksum n) ⊎ (after_checksum n t p ≡ Err errors.Order)
  turn_checksum n turns.Checksum p = inl tt
  turn_checksum n _ p = inr refl

  turn_loaded_length : (n : ℕ) (t : Turn) (p : Progress V) → InTurn {V = V} t (fields.LoadedLength n) ⊎ (after_loaded_length n t p ≡ Err errors.Order)
  turn_loaded_length n turns.LoadedLength p = inl tt
  turn_loaded_length n _ p = inr refl

  turn_frame_limit : (n : ℕ) (t : Turn) (p : Progress V) → InTurn {V = V} t (fields.FrameLimit n) ⊎ (after_frame_limit n t p ≡ Err errors.Order)
  turn_frame_limit n turns.FrameLimit p = inl tt
  turn_frame_limit n _ p = inr refl

  turn_range_count : (n : ℕ) (t : Turn) (p : Progress V) → InTurn {V = V} t (fields.RangeCount n) ⊎ (after_range_count n t p ≡ Err errors.Order)
  turn_range_count n turns.RangeCount p = inl tt
  turn_range_count n _ p = inr refl

  turn_range_first : (n : ℕ) (t : Turn) (p : Progress V) → InTurn {V = V} t (fields.RangeFirst n) ⊎ (after_range_first n t p ≡ Err errors.Order)
  turn_range_first n (turns.RangeFirst more) p = inl tt
  turn_range_first n _ p = inr refl

  turn_range_last : (n : ℕ) (t : Turn) (p : Progress V) → InTurn {V = V} t (fields.RangeLast n) ⊎ (after_range_last n t p ≡ Err errors.Order)
  turn_range_last n (turns.RangeLast more first) p = inl tt
  turn_range_last n _ p = inr refl

  turn_global : (v : V) (t : Turn) (p : Progress V) → InTurn {V = V} t (fields.Global v) ⊎ (after_global v t p ≡ Err errors.Order)
  turn_global v (turns.Global more) p = inl tt
  turn_global v _ p = inr refl

  turn_routine_count : (n : ℕ) (t : Turn) (p : Progress V) → InTurn {V = V} t (fields.RoutineCount n) ⊎ (after_routine_count n t p ≡ Err errors.Order)
  turn_routine_count n turns.RoutineCount p = inl tt
  turn_routine_count n _ p = inr refl

  turn_routine_address : (n : ℕ) (t : Turn) (p : Progress V) → InTurn {V = V} t (fields.RoutineAddress n) ⊎ (after_routine_address n t p ≡ Err errors.Order)
  turn_routine_address n (turns.RoutineAddress more) p = inl tt
  turn_routine_address n _ p = inr refl

  turn_local_count : (n : ℕ) (t : Turn) (p : Progress V) → InTurn {V = V} t (fields.LocalCount n) ⊎ (after_local_count n t p ≡ Err errors.Order)
  turn_local_count n (turns.LocalCount more address) p = inl tt
  turn_local_count n _ p = inr refl

  turn_routine_result : (v : V) (t : Turn) (p : Progress V) → InTurn {V = V} t (fields.RoutineResult v) ⊎ (after_routine_result v t p ≡ Err errors.Order)
  turn_routine_result v (turns.RoutineResult more address locals) p = inl tt
  turn_routine_result v _ p = inr refl

  turn_instruction_count : (n : ℕ) (t : Turn) (p : Progress V) → InTurn {V = V} t (fields.InstructionCount n) ⊎ (after_instruction_count n t p ≡ Err errors.Order)
  turn_instruction_count n turns.InstructionCount p = inl tt
  turn_instruction_count n _ p = inr refl

  turn_instruction_address : (n : ℕ) (t : Turn) (p : Progress V) → InTurn {V = V} t (fields.InstructionAddress n) ⊎ (after_instruction_address n t p ≡ Err errors.Order)
  turn_instruction_address n (turns.InstructionAddress more) p = inl tt
  turn_instruction_address n _ p = inr refl

  turn_routine_number : (n : ℕ) (t : Turn) (p : Progress V) → InTurn {V = V} t (fields.RoutineNumber n) ⊎ (after_routine_number n t p ≡ Err errors.Order)
  turn_routine_number n (turns.RoutineNumber more address) p = inl tt
  turn_routine_number n _ p = inr refl

  turn_height : (n : ℕ) (t : Turn) (p : Progress V) → InTurn {V = V} t (fields.Height n) ⊎ (after_height n t p ≡ Err errors.Order)
  turn_height n (turns.Height more address routine) p = inl tt
  turn_height n _ p = inr refl

  turn_value : (v : V) (t : Turn) (p : Progress V) → InTurn {V = V} t (fields.Value v) ⊎ (after_value v t p ≡ Err errors.Order)
  turn_value v (turns.Value more h left) p = inl tt
  turn_value v _ p = inr refl

  turn_fact_count : (n : ℕ) (t : Turn) (p : Progress V) → InTurn {V = V} t (fields.FactCount n) ⊎ (after_fact_count n t p ≡ Err errors.Order)
  turn_fact_count n turns.FactCount p = inl tt
  turn_fact_count n _ p = inr refl

  turn_fact_address : (n : ℕ) (t : Turn) (p : Progress V) → InTurn {V = V} t (fields.FactAddress n) ⊎ (after_fact_address n t p ≡ Err errors.Order)
  turn_fact_address n (turns.FactAddress more least) p = inl tt
  turn_fact_address n _ p = inr refl

  turn_fact_global : (n : ℕ) (t : Turn) (p : Progress V) → InTurn {V = V} t (fields.FactGlobal n) ⊎ (after_fact_global n t p ≡ Err errors.Order)
  turn_fact_global n (turns.FactGlobal more address least) p = inl tt
  turn_fact_global n _ p = inr refl

  turn_fact_values : (v : V) (t : Turn) (p : Progress V) → InTurn {V = V} t (fields.FactValues v) ⊎ (after_fact_values v t p ≡ Err errors.Order)
  turn_fact_values v (turns.FactValues more address global) p = inl tt
  turn_fact_values v _ p = inr refl

  pub in_turn_or : (f : Field V) (p : Progress V) → InTurn p.turn f ⊎ (taken p f ≡ Err errors.Order)
  in_turn_or (fields.Release n) p = turn_release n p.turn p
  in_turn_or (fields.Serial s) p = turn_serial s p.turn p
  in_turn_or (fields.Checksum n) p = turn_checksum n p.turn p
  in_turn_or (fields.LoadedLength n) p = turn_loaded_length n p.turn p
  in_turn_or (fields.FrameLimit n) p = turn_frame_limit n p.turn p
  in_turn_or (fields.RangeCount n) p = turn_range_count n p.turn p
  in_turn_or (fields.RangeFirst n) p = turn_range_first n p.turn p
  in_turn_or (fields.RangeLast n) p = turn_range_last n p.turn p
  in_turn_or (fields.Global v) p = turn_global v p.turn p
  in_turn_or (fields.RoutineCount n) p = turn_routine_count n p.turn p
  in_turn_or (fields.RoutineAddress n) p = turn_routine_address n p.turn p
  in_turn_or (fields.LocalCount n) p = turn_local_count n p.turn p
  in_turn_or (fields.RoutineResult v) p = turn_routine_result v p.turn p
  in_turn_or (fields.InstructionCount n) p = turn_instruction_count n p.turn p
  in_turn_or (fields.InstructionAddress n) p = turn_instruction_address n p.turn p
  in_turn_or (fields.RoutineNumber n) p = turn_routine_number n p.turn p
  in_turn_or (fields.Height n) p = turn_height n p.turn p
  in_turn_or (fields.Value v) p = turn_value v p.turn p
  in_turn_or (fields.FactCount n) p = turn_fact_count n p.turn p
  in_turn_or (fields.FactAddress n) p = turn_fact_address n p.turn p
  in_turn_or (fields.FactGlobal n) p = turn_fact_global n p.turn p
  in_turn_or (fields.FactValues v) p = turn_fact_values v p.turn p

  in_turn_of : (t : Turn) (f : Field V) (answer : Result (Progress V) CertError) (q : Progress V) → InTurn t f ⊎ (answer ≡ Err errors.Order) → answer ≡ Ok q → InTurn t f
  in_turn_of t f answer q (inl due) e = due
  in_turn_of t f answer q (inr out) e = absurd (let both = sym out ∙ e in cc)

  taken_in_turn : (f : Field V) (p q : Progress V) → taken p f ≡ Ok q → InTurn p.turn f
  taken_in_turn f p q e = in_turn_of p.turn f (taken p f) q (in_turn_or f p) e

module _ {V : Type 0} (format : Format V) (law : IsFormat format) where
  -- a field that is in its turn is read from its bytes
  abbrev IsReadAgain : Turn → Field V → List ℕ → Type 0
  IsReadAgain t f rest = field_at format t (field_bytes format f ++ rest) ≡ Ok (f, rest)

  pub again_at : (t : Turn) (f : Field V) (rest : List ℕ) → IsField format f → InTurn t f → IsReadAgain t f rest
  again_at turns.Release (fields.Release n) rest is due = rw (number_again numbers.Release n rest is) refl
  again_at turns.Serial (fields.Serial s) rest is due = rw (serial_again s rest is.0) refl
  again_at turns.Checksum (fields.Checksum n) rest is due = rw (number_again numbers.Checksum n rest is) refl
  again_at turns.LoadedLength (fields.LoadedLength n) rest is due = rw (number_again numbers.LoadedLength n rest is) refl
  again_at turns.FrameLimit (fields.FrameLimit n) rest is due = rw (number_again numbers.FrameLimit n rest is) refl
  again_at turns.RangeCount (fields.RangeCount n) rest is due = rw (number_again numbers.RangeCount n rest is) refl
  again_at (turns.RangeFirst more) (fields.RangeFirst n) rest is due = rw (number_again numbers.RangeFirst n rest is) refl
  again_at (turns.RangeLast more first) (fields.RangeLast n) rest is due = rw (number_again numbers.RangeLast n rest is) refl
  again_at (turns.Global more) (fields.Global v) rest is due = rw (law.again v rest is) refl
  again_at turns.RoutineCount (fields.RoutineCount n) rest is due = rw (number_again numbers.RoutineCount n rest is) refl
  again_at (turns.RoutineAddress more) (fields.RoutineAddress n) rest is due = rw (number_again numbers.RoutineAddress n rest is) refl
  again_at (turns.LocalCount more address) (fields.LocalCount n) rest is due = rw (number_again numbers.LocalCount n rest is) refl
  again_at (turns.RoutineResult more address locals) (fields.RoutineResult v) rest is due = rw (law.again v rest is) refl
  again_at turns.InstructionCount (fields.InstructionCount n) rest is due = rw (number_again numbers.InstructionCount n rest is) refl
  again_at (turns.InstructionAddress more) (fields.InstructionAddress n) rest is due = rw (number_again numbers.InstructionAddress n rest is) refl
  again_at (turns.RoutineNumber more address) (fields.RoutineNumber n) rest is due = rw (number_again numbers.RoutineNumber n rest is) refl
  again_at (turns.Height more address routine) (fields.Height n) rest is due = rw (number_again numbers.Height n rest is) refl
  again_at (turns.Value more h left) (fields.Value v) rest is due = rw (law.again v rest is) refl
  again_at turns.FactCount (fields.FactCount n) rest is due = rw (number_again numbers.FactCount n rest is) refl
  again_at (turns.FactAddress more least) (fields.FactAddress n) rest is due = rw (number_again numbers.FactAddress n rest is) refl
  again_at (turns.FactGlobal more address least) (fields.FactGlobal n) rest is due = rw (number_again numbers.FactGlobal n rest is) refl
  again_at (turns.FactValues more address global) (fields.FactValues v) rest is due = rw (law.again v rest is) refl
  again_at _ _ rest is due = absurd due

  field_again : (f : Field V) (p q : Progress V) (rest : List ℕ) → IsField format f → taken p f ≡ Ok q → IsReadAgain p.turn f rest
  field_again f p q rest is e = again_at p.turn f rest is (taken_in_turn f p q e)

  -- where a field was read, one is in turn
  pub has_more : (t : Turn) (bytes : List ℕ) (x : Field V × List ℕ) → field_at format t bytes ≡ Ok x → HasMore format t bytes
  has_more turns.Complete bytes x e = absurd cc
  has_more _ bytes x e = tt

  -- fields that are taken are read on
  pub fields_again : (fs : List (Field V)) (p q : Progress V) (rest : List ℕ) → AllByRecursion (IsField format) fs → all_taken p fs ≡ Ok q → rest_of format p (flat_map (field_bytes format) fs ++ rest) ≡ rest_of format q rest
  fields_again [] p q rest each e = ap (λ x. rest_of format x rest) (ok_is p q e)
  fields_again (f ∷ fs) p q rest each e =
      let a = bind_ok (taken p f) (λ x. all_taken x fs) q e in
      let after = flat_map (field_bytes format) fs ++ rest in
      let again = field_again f p a.0 after each.0 a.1 in
      let on = reads_on format p (field_bytes format f ++ after) (has_more p.turn _ (f, after) again) in
      ap (rest_of format p) (append_assoc (field_bytes format f) (flat_map (field_bytes format) fs) rest) ∙ on ∙ rw (again, a.1) (fields_again fs a.0 q rest each.1 a.2)

  -- ---- a field that is read

  -- what was taken is spelled so, and shorter by it
  pub record TakesField (bytes : List ℕ) (f : Field V) (rest : List ℕ) : Type 0 where
    pub takes : Takes bytes (field_bytes format f) rest
    pub is : IsField format f
    pub shorter : length rest < length bytes

  number_field : (kind : Number) (make : ℕ → Field V) (bytes : List ℕ) (f : Field V) (rest : List ℕ) → ((n : ℕ) → field_bytes format (make n) ≡ number kind n) → ((n : ℕ) → HasRoom kind n → IsField format (make n)) → IsBytes bytes → as_field format make (number_at kind bytes) ≡ Ok (f, rest) → TakesField bytes f rest
  number_field kind make bytes f rest spelled room fits e =
      let a = bind_ok (number_at kind bytes) (λ n. Ok (make n.0, n.1)) (f, rest) e in
      let t = number_takes kind bytes a.0.0 a.0.1 fits a.1 in
      let made : Field V × List ℕ = (make a.0.0, a.0.1) in
      let parts : bytes ≡ number kind a.0.0 ++ a.0.1 = t.0.parts in
      subst (λ (x : Field V × List ℕ). TakesField bytes x.0 x.1) {x = made} (ok_is made (f, rest) a.2) (record {
        takes = rw (spelled a.0.0) t.0;
        is = room a.0.0 t.1;
        shorter = omega (arith, width_some kind, length-bytes_high_first (width kind) a.0.0, length-append (number kind a.0.0) a.0.1, ap length parts);
      })

  value_field : (make : V → Field V) (bytes : List ℕ) (f : Field V) (rest : List ℕ) → ((v : V) → field_bytes format (make v) ≡ format.spelled v) → ((v : V) → format.Has v → IsField format (make v)) → IsBytes bytes → as_field format make (format.value_at bytes) ≡ Ok (f, rest) → TakesField bytes f rest
  value_field make bytes f rest spelled has fits e =
      let a = bind_ok (format.value_at bytes) (λ v. Ok (make v.0, v.1)) (f, rest) e in
      let t = law.takes bytes a.0.0 a.0.1 fits a.1 in
      let made : Field V × List ℕ = (make a.0.0, a.0.1) in
      let parts : bytes ≡ format.spelled a.0.0 ++ a.0.1 = t.0.parts in
      subst (λ (x : Field V × List ℕ). TakesField bytes x.0 x.1) {x = made} (ok_is made (f, rest) a.2) (record {
        takes = rw (spelled a.0.0) t.0;
        is = has a.0.0 t.1;
        shorter = omega (arith, law.long a.0.0, length-append (format.spelled a.0.0) a.0.1, ap length parts);
      })

  serial_field : (bytes : List ℕ) (f : Field V) (rest : List ℕ) → IsBytes bytes → as_field format fields.Serial (serial_at bytes) ≡ Ok (f, rest) → TakesField bytes f rest
  serial_field bytes f rest fits e =
      let a = bind_ok (serial_at bytes) (λ s. Ok (fields.Serial s.0, s.1)) (f, rest) e in
      let t = serial_takes bytes a.0.0 a.0.1 fits a.1 in
      let made : Field V × List ℕ = (fields.Serial a.0.0, a.0.1) in
      let parts : bytes ≡ a.0.0 ++ a.0.1 = t.0.parts in
      subst (λ (x : Field V × List ℕ). TakesField bytes x.0 x.1) {x = made} (ok_is made (f, rest) a.2) (record {
        takes = t.0;
        is = (t.1, each_below a.0.0 t.2);
        shorter = omega (arith, t.1, length-append a.0.0 a.0.1, ap length parts);
      })

  pub field_takes : (t : Turn) (bytes : List ℕ) (f : Field V) (rest : List ℕ) → IsBytes bytes → field_at format t bytes ≡ Ok (f, rest) → TakesField bytes f rest
  field_takes turns.Release bytes f rest fits e = number_field numbers.Release fields.Release bytes f rest (λ n. refl) (λ n h. h) fits e
  field_takes turns.Serial bytes f rest fits e = serial_field bytes f rest fits e
  field_takes turns.Checksum bytes f rest fits e = number_field numbers.Checksum fields.Checksum bytes f rest (λ n. refl) (λ n h. h) fits e
  field_takes turns.LoadedLength bytes f rest fits e = number_field numbers.LoadedLength fields.LoadedLength bytes f rest (λ n. refl) (λ n h. h) fits e
  field_takes turns.FrameLimit bytes f rest fits e = number_field numbers.FrameLimit fields.FrameLimit bytes f rest (λ n. refl) (λ n h. h) fits e
  field_takes turns.RangeCount bytes f rest fits e = number_field numbers.RangeCount fields.RangeCount bytes f rest (λ n. refl) (λ n h. h) fits e
  field_takes (turns.RangeFirst more) bytes f rest fits e = number_field numbers.RangeFirst fields.RangeFirst bytes f rest (λ n. refl) (λ n h. h) fits e
  field_takes (turns.RangeLast more first) bytes f rest fits e = number_field numbers.RangeLast fields.RangeLast bytes f rest (λ n. refl) (λ n h. h) fits e
  field_takes (turns.Global more) bytes f rest fits e = value_field fields.Global bytes f rest (λ v. refl) (λ v h. h) fits e
  field_takes turns.RoutineCount bytes f rest fits e = number_field numbers.RoutineCount fields.RoutineCount bytes f rest (λ n. refl) (λ n h. h) fits e
  field_takes (turns.RoutineAddress more) bytes f rest fits e = number_field numbers.RoutineAddress fields.RoutineAddress bytes f rest (λ n. refl) (λ n h. h) fits e
  field_takes (turns.LocalCount more address) bytes f rest fits e = number_field numbers.LocalCount fields.LocalCount bytes f rest (λ n. refl) (λ n h. h) fits e
  field_takes (turns.RoutineResult more address locals) bytes f rest fits e = value_field fields.RoutineResult bytes f rest (λ v. refl) (λ v h. h) fits e
  field_takes turns.InstructionCount bytes f rest fits e = number_field numbers.InstructionCount fields.InstructionCount bytes f rest (λ n. refl) (λ n h. h) fits e
  field_takes (turns.InstructionAddress more) bytes f rest fits e = number_field numbers.InstructionAddress fields.InstructionAddress bytes f rest (λ n. refl) (λ n h. h) fits e
  field_takes (turns.RoutineNumber more address) bytes f rest fits e = number_field numbers.RoutineNumber fields.RoutineNumber bytes f rest (λ n. refl) (λ n h. h) fits e
  field_takes (turns.Height more address routine) bytes f rest fits e = number_field numbers.Height fields.Height bytes f rest (λ n. refl) (λ n h. h) fits e
  field_takes (turns.Value more h left) bytes f rest fits e = value_field fields.Value bytes f rest (λ v. refl) (λ v k. k) fits e
  field_takes turns.FactCount bytes f rest fits e = number_field numbers.FactCount fields.FactCount bytes f rest (λ n. refl) (λ n h. h) fits e
  field_takes (turns.FactAddress more least) bytes f rest fits e = number_field numbers.FactAddress fields.FactAddress bytes f rest (λ n. refl) (λ n h. h) fits e
  field_takes (turns.FactGlobal more address least) bytes f rest fits e = number_field numbers.FactGlobal fields.FactGlobal bytes f rest (λ n. refl) (λ n h. h) fits e
  field_takes (turns.FactValues more address global) bytes f rest fits e = value_field fields.FactValues bytes f rest (λ v. refl) (λ v h. h) fits e
  field_takes turns.Complete bytes f rest fits e = absurd cc

  -- the bytes of a field are bytes
  IsBytes-field : (f : Field V) → IsField format f → IsBytes (field_bytes format f)
  IsBytes-field (fields.Release n) is = IsBytes-number numbers.Release n
  IsBytes-field (fields.Serial s) is = below_each s is.1
  IsBytes-field (fields.Checksum n) is = IsBytes-number numbers.Checksum n
  IsBytes-field (fields.LoadedLength n) is = IsBytes-number numbers.LoadedLength n
  IsBytes-field (fields.FrameLimit n) is = IsBytes-number numbers.FrameLimit n
  IsBytes-field (fields.RangeCount n) is = IsBytes-number numbers.RangeCount n
  IsBytes-field (fields.RangeFirst n) is = IsBytes-number numbers.RangeFirst n
  IsBytes-field (fields.RangeLast n) is = IsBytes-number numbers.RangeLast n
  IsBytes-field (fields.Global v) is = law.bytes v is
  IsBytes-field (fields.RoutineCount n) is = IsBytes-number numbers.RoutineCount n
  IsBytes-field (fields.RoutineAddress n) is = IsBytes-number numbers.RoutineAddress n
  IsBytes-field (fields.LocalCount n) is = IsBytes-number numbers.LocalCount n
  IsBytes-field (fields.RoutineResult v) is = law.bytes v is
  IsBytes-field (fields.InstructionCount n) is = IsBytes-number numbers.InstructionCount n
  IsBytes-field (fields.InstructionAddress n) is = IsBytes-number numbers.InstructionAddress n
  IsBytes-field (fields.RoutineNumber n) is = IsBytes-number numbers.RoutineNumber n
  IsBytes-field (fields.Height n) is = IsBytes-number numbers.Height n
  IsBytes-field (fields.Value v) is = law.bytes v is
  IsBytes-field (fields.FactCount n) is = IsBytes-number numbers.FactCount n
  IsBytes-field (fields.FactAddress n) is = IsBytes-number numbers.FactAddress n
  IsBytes-field (fields.FactGlobal n) is = IsBytes-number numbers.FactGlobal n
  IsBytes-field (fields.FactValues v) is = law.bytes v is

  pub IsBytes-fields : (fs : List (Field V)) → AllByRecursion (IsField format) fs → IsBytes (flat_map (field_bytes format) fs)
  IsBytes-fields [] each = λ i. omega arith
  IsBytes-fields (f ∷ fs) each = IsBytes-append (field_bytes format f) (flat_map (field_bytes format) fs) (IsBytes-field f each.0) (IsBytes-fields fs each.1)
