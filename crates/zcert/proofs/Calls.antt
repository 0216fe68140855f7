-- What is known of the fields that were taken: they are spelled one after another by the certificate that they make.
use Rattle.std.proofs.Common.{◌≡◌, ℕ, zero, suc, ◌+◌, ◌<◌, Bool, true, false, Option, None, Some, List, [], ◌∷◌, ◌++◌, length, Result, Ok, Err, refl, sym, subst, arith, length-append}
use Rattle.std.specs.Prelude.{nat_le}
use Rattle.std.specs.List.{AllByRecursion}
use Rattle.zcert.specs.declared.error.CertError.{CertError}
use Rattle.zcert.specs.declared.field.Field.{Field}
use Rattle.zcert.specs.declared.field.Field.TheVariants as fields
use Rattle.zcert.specs.declared.field.Header.{Header}
use Rattle.zcert.specs.declared.field.Turn.{Turn}
use Rattle.zcert.specs.declared.field.Turn.TheVariants as turns
use Rattle.zcert.specs.declared.limits.TheConstants.{GLOBALS, ADDRESS_LIMIT, MAX_LOCALS, MAX_INSTRUCTIONS, MAX_RANGES, MAX_ROUTINES, MAX_HEIGHT, MAX_FRAMES, MAX_FACTS}
use Rattle.zcert.specs.Certificate.{locals_of}
use Rattle.zcert.specs.Marks.{height_in}
use Rattle.zcert.specs.Format.{Format}
use Rattle.zcert.specs.Reading.{address_fits, global_fits}
use Rattle.zcert.specs.Building.{Progress, opening, before_ranges, before_globals, before_routines, before_instructions, behind_instructions, before_facts, before_values, header_of, taken, all_taken, IsDue, after_release, after_serial, after_checksum, after_loaded_length, after_frame_limit, after_range_count, behind_identity, after_range_first, after_range_last, after_global, after_routine_count, after_routine_address, after_local_count, after_routine_result, after_instruction_count, after_instruction_address, after_routine_number, after_height, after_value, after_fact_count, after_fact_address, after_fact_global, after_fact_values}
use Rattle.zcert.specs.Fields.{IsField, IsReached}
use Rattle.zcert.specs.View.{Takes}
use Rattle.zcert.specs.FormatLaw.Stepping.{bind_ok, need_ok, ok_is}
use Rattle.zcert.proofs.Found.{address_is, global_is}

-- ---- a part that is unfinished is as it should be

module _ {V : Type 0} where
  due_globals : (n : ℕ) (values : List V) → IsDue (before_globals n) values
  due_globals zero values = tt
  due_globals (suc n) values = tt

  due_ranges : (n : ℕ) (values : List V) → IsDue (before_ranges n) values
  due_ranges zero values = due_globals GLOBALS values
  due_ranges (suc n) values = tt

  due_routines : (n : ℕ) (values : List V) → IsDue (before_routines n) values
  due_routines zero values = tt
  due_routines (suc n) values = tt

  due_end : (stating : Bool) (values : List V) → IsDue (behind_instructions stating) values
  due_end true values = tt
  due_end false values = tt

  due_instructions : (stating : Bool) (n : ℕ) (values : List V) → IsDue (before_instructions stating n) values
  due_instructions stating zero values = due_end stating values
  due_instructions stating (suc n) values = tt

  due_facts : (least n : ℕ) (values : List V) → IsDue (before_facts least n) values
  due_facts least zero values = tt
  due_facts least (suc n) values = tt

  due_behind : (limit : Option ℕ) (values : List V) → IsDue (behind_identity limit) values
  due_behind None values = tt
  due_behind (Some n) values = tt

  due_values : (left more : ℕ) (h : Header) (p : Progress V) → h.address < ADDRESS_LIMIT → length p.values + left ≡ h.locals + h.height → IsDue (before_values left more h p).turn (before_values left more h p).values
  due_values zero more h p low counted = due_instructions p.content.stating more p.values
  due_values (suc left) more h p low counted = (low, counted)

  abbrev DueAfter : Turn → Progress V → Result (Progress V) CertError → Type 0
  DueAfter t p answer = IsDue t p.values → (q : Progress V) → answer ≡ Ok q → IsDue q.turn q.values

  abbrev accepted : Progress V → Result (Progress V) CertError
  accepted p = Ok p

  due_is : (p q : Progress V) → accepted p ≡ Ok q → IsDue p.turn p.values → IsDue q.turn q.values
  due_is p q e due = subst (λ (x : Progress V). IsDue x.turn x.values) (ok_is p q e) due

  due_release : (n : ℕ) (t : Turn) (p : Progress V) → DueAfter t p (after_release n t p)
  due_release n turns.Release p due q e = due_is _ q e tt
  due_release n _ p due q e = absurd cc

  due_serial : (s : List ℕ) (t : Turn) (p : Progress V) → DueAfter t p (after_serial s t p)
  due_serial s turns.Serial p due q e = due_is _ q e tt
  due_serial s _ p due q e = absurd cc

  due_checksum : (n : ℕ) (t : Turn) (p : Progress V) → DueAfter t p (after_checksum n t p)
  due_checksum n turns.Checksum p due q e = due_is _ q e tt
  due_checksum n _ p due q e = absurd cc

  due_loaded_length : (n : ℕ) (t : Turn) (p : Progress V) → DueAfter t p (after_loaded_length n t p)
  due_loaded_length n turns.LoadedLength p due q e = due_is _ q e (due_behind p.content.limit p.values)
  due_loaded_length n _ p due q e = absurd cc

  due_frame_limit : (n : ℕ) (t : Turn) (p : Progress V) → DueAfter t p (after_frame_limit n t p)
  due_frame_limit n turns.FrameLimit p due q e = due_is _ q (need_ok (nat_le n MAX_FRAMES) _ _ q e).1 tt
  due_frame_limit n _ p due q e = absurd cc

  due_range_count : (n : ℕ) (t : Turn) (p : Progress V) → DueAfter t p (after_range_count n t p)
  due_range_count n turns.RangeCount p due q e = due_is _ q (need_ok (nat_le n MAX_RANGES) _ _ q e).1 (due_ranges n p.values)
  due_range_count n _ p due q e = absurd cc

  due_range_first : (first : ℕ) (t : Turn) (p : Progress V) → DueAfter t p (after_range_first first t p)
  due_range_first first (turns.RangeFirst more) p due q e = due_is _ q (need_ok (nat_le p.floor first) _ _ q e).1 tt
  due_range_first first _ p due q e = absurd cc

  due_range_last : (last : ℕ) (t : Turn) (p : Progress V) → DueAfter t p (after_range_last last t p)
  due_range_last last (turns.RangeLast more first) p due q e = due_is _ q (need_ok (nat_le first last) _ _ q e).1 (due_ranges more p.values)
  due_range_last last _ p due q e = absurd cc

  due_global : (v : V) (t : Turn) (p : Progress V) → DueAfter t p (after_global v t p)
  due_global v (turns.Global more) p due q e = due_is _ q e (due_globals more p.values)
  due_global v _ p due q e = absurd cc

  due_routine_count : (n : ℕ) (t : Turn) (p : Progress V) → DueAfter t p (after_routine_count n t p)
  due_routine_count n turns.RoutineCount p due q e = due_is _ q (need_ok (nat_le n MAX_ROUTINES) _ _ q e).1 (due_routines n p.values)
  due_routine_count n _ p due q e = absurd cc

  due_routine_address : (address : ℕ) (t : Turn) (p : Progress V) → DueAfter t p (after_routine_address address t p)
  due_routine_address address (turns.RoutineAddress more) p due q e =
      let a = bind_ok (address_fits p.floor address) _ q e in
      due_is _ q a.2 (address_is p.floor address a.0 a.1).1
  due_routine_address address _ p due q e = absurd cc

  due_local_count : (n : ℕ) (t : Turn) (p : Progress V) → DueAfter t p (after_local_count n t p)
  due_local_count n (turns.LocalCount more address) p due q e = due_is _ q (need_ok (nat_le n MAX_LOCALS) _ _ q e).1 due
  due_local_count n _ p due q e = absurd cc

  due_routine_result : (v : V) (t : Turn) (p : Progress V) → DueAfter t p (after_routine_result v t p)
  due_routine_result v (turns.RoutineResult more address locals) p due q e = due_is _ q e (due_routines more p.values)
  due_routine_result v _ p due q e = absurd cc

  due_instruction_count : (n : ℕ) (t : Turn) (p : Progress V) → DueAfter t p (after_instruction_count n t p)
  due_instruction_count n turns.InstructionCount p due q e = due_is _ q (need_ok (nat_le n MAX_INSTRUCTIONS) _ _ q e).1 (due_instructions p.content.stating n p.values)
  due_instruction_count n _ p due q e = absurd cc

  due_instruction_address : (address : ℕ) (t : Turn) (p : Progress V) → DueAfter t p (after_instruction_address address t p)
  due_instruction_address address (turns.InstructionAddress more) p due q e =
      let a = bind_ok (address_fits p.floor address) _ q e in
      due_is _ q a.2 ((address_is p.floor address a.0 a.1).1, refl)
  due_instruction_address address _ p due q e = absurd cc

  due_routine_number : (routine : ℕ) (t : Turn) (p : Progress V) → DueAfter t p (after_routine_number routine t p)
  due_routine_number routine (turns.RoutineNumber more address) p due q e = due_is _ q (need_ok (nat_le routine (length p.content.routines)) _ _ q e).1 due
  due_routine_number routine _ p due q e = absurd cc

  due_height : (byte : ℕ) (t : Turn) (p : Progress V) → DueAfter t p (after_height byte t p)
  due_height byte (turns.Height more address routine) p due q e =
      let height = height_in p.content.marking byte in
      due_is _ q (need_ok (nat_le height MAX_HEIGHT) _ _ q e).1 (due_values (locals_of p.content.routines routine + height) more (header_of p address routine byte) p due.0 (omega (arith, due.1)))
  due_height byte _ p due q e = absurd cc

  due_value : (v : V) (t : Turn) (p : Progress V) → DueAfter t p (after_value v t p)
  due_value v (turns.Value more h left) p due q e =
      due_is _ q e (due_values left more h (record p { values = p.values ++ v ∷ [] }) due.0 (omega (arith, due.1, length-append p.values (v ∷ []))))
  due_value v _ p due q e = absurd cc

  due_fact_count : (n : ℕ) (t : Turn) (p : Progress V) → DueAfter t p (after_fact_count n t p)
  due_fact_count n turns.FactCount p due q e = due_is _ q (need_ok (nat_le n MAX_FACTS) _ _ q e).1 (due_facts 0 n p.values)
  due_fact_count n _ p due q e = absurd cc

  due_fact_address : (address : ℕ) (t : Turn) (p : Progress V) → DueAfter t p (after_fact_address address t p)
  due_fact_address address (turns.FactAddress more least) p due q e =
      let a = bind_ok (address_fits p.floor address) _ q e in
      due_is _ q a.2 tt
  due_fact_address address _ p due q e = absurd cc

  due_fact_global : (global : ℕ) (t : Turn) (p : Progress V) → DueAfter t p (after_fact_global global t p)
  due_fact_global global (turns.FactGlobal more address least) p due q e =
      let a = bind_ok (global_fits least global) _ q e in
      due_is _ q a.2 (global_is least global a.0 a.1).1
  due_fact_global global _ p due q e = absurd cc

  due_fact_values : (v : V) (t : Turn) (p : Progress V) → DueAfter t p (after_fact_values v t p)
  due_fact_values v (turns.FactValues more address global) p due q e = due_is _ q e (due_facts (global + 1) more p.values)
  due_fact_values v _ p due q e = absurd cc

  due_taken : (f : Field V) (p q : Progress V) → taken p f ≡ Ok q → IsDue p.turn p.values → IsDue q.turn q.values
  due_taken (fields.Release n) p q e due = due_release n p.turn p due q e
  due_taken (fields.Serial s) p q e due = due_serial s p.turn p due q e
  due_taken (fields.Checksum n) p q e due = due_checksum n p.turn p due q e
  due_taken (fields.LoadedLength n) p q e due = due_loaded_length n p.turn p due q e
  due_taken (fields.FrameLimit n) p q e due = due_frame_limit n p.turn p due q e
  due_taken (fields.RangeCount n) p q e due = due_range_count n p.turn p due q e
  due_taken (fields.RangeFirst n) p q e due = due_range_first n p.turn p due q e
  due_taken (fields.RangeLast n) p q e due = due_range_last n p.turn p due q e
  due_taken (fields.Global v) p q e due = due_global v p.turn p due q e
  due_taken (fields.RoutineCount n) p q e due = due_routine_count n p.turn p due q e
  due_taken (fields.RoutineAddress n) p q e due = due_routine_address n p.turn p due q e
  due_taken (fields.LocalCount n) p q e due = due_local_count n p.turn p due q e
  due_taken (fields.RoutineResult v) p q e due = due_routine_result v p.turn p due q e
  due_taken (fields.InstructionCount n) p q e due = due_instruction_count n p.turn p due q e
  due_taken (fields.InstructionAddress n) p q e due = due_instruction_address n p.turn p due q e
  due_taken (fields.RoutineNumber n) p q e due = due_routine_number n p.turn p due q e
  due_taken (fields.Height n) p q e due = due_height n p.turn p due q e
  due_taken (fields.Value v) p q e due = due_value v p.turn p due q e
  due_taken (fields.FactCount n) p q e due = due_fact_count n p.turn p due q e
  due_taken (fields.FactAddress n) p q e due = due_fact_address n p.turn p due q e
  due_taken (fields.FactGlobal n) p q e due = due_fact_global n p.turn p due q e
  due_taken (fields.FactValues v) p q e due = due_fact_values v p.turn p due q e

  due_all : (fs : List (Field V)) (p q : Progress V) → all_taken p fs ≡ Ok q → IsDue p.turn p.values → IsDue q.turn q.values
  due_all [] p q e due = due_is p q e due
  due_all (f ∷ fs) p q e due =
      let a = bind_ok (taken p f) (λ x. all_taken x fs) q e in
      due_all fs a.0 q a.2 (due_taken f p a.0 a.1 due)

  pub one_more : (fs : List (Field V)) (f : Field V) (p q r : Progress V) → all_taken p fs ≡ Ok q → taken q f ≡ Ok r → all_taken p (fs ++ f ∷ []) ≡ Ok r
  one_more [] f p q r e d = let same = ok_is p q e in rw (same, d) refl
  one_more (g ∷ fs) f p q r e d =
      let a = bind_ok (taken p g) (λ x. all_taken x fs) q e in
      rw a.1 (one_more fs f a.0 q r a.2 d)

module _ {V : Type 0} (format : Format V) where
  pub reached_due : (p : Progress V) → IsReached format p → IsDue p.turn p.values
  reached_due p (edition, may, (fs, each, led)) = due_all fs (opening edition) p led tt

  pub each_more : (fs : List (Field V)) (f : Field V) → AllByRecursion (IsField format) fs → IsField format f → AllByRecursion (IsField format) (fs ++ f ∷ [])
  each_more [] f each is = (is, tt)
  each_more (g ∷ fs) f each is = (each.0, each_more fs f each.1 is)

  pub reached_more : (p q : Progress V) (f : Field V) → IsReached format p → IsField format f → taken p f ≡ Ok q → IsReached format q
  reached_more p q f (edition, may, (fs, each, led)) is e = (edition, may, (fs ++ f ∷ [], each_more fs f each is, one_more fs f (opening edition) p q led e))

  -- after a field, whether it is taken or refused
  pub reached_after : {U : Type 0} (p q : Progress V) (f : Field V) (answer : Result U CertError) → IsReached format p → IsField format f → Takes p q answer (taken p f) → IsReached format q
  reached_after p q f (Ok u) reached is e = reached_more p q f reached is e
  reached_after p q f (Err d) reached is e = subst (λ (x : Progress V). IsReached format x) (sym e.0) reached
