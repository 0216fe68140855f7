-- A field that is taken or refused isn't cut off.
use Rattle.std.proofs.Common.{◌≡◌, ◌≢◌, ℕ, List, length, Bool, true, false, Result, Ok, Err, ap}
use Rattle.std.specs.Prelude.{nat_le, nat_lt}
use Rattle.zcert.specs.declared.error.CertError.{CertError}
use Rattle.zcert.specs.declared.error.CertError.TheVariants as errors
use Rattle.zcert.specs.declared.field.Field.{Field}
use Rattle.zcert.specs.declared.field.Field.TheVariants as fields
use Rattle.zcert.specs.declared.field.Turn.{Turn}
use Rattle.zcert.specs.declared.field.Turn.TheVariants as turns
use Rattle.zcert.specs.declared.limits.TheConstants.{ADDRESS_LIMIT, GLOBALS, MAX_LOCALS, MAX_INSTRUCTIONS, MAX_RANGES, MAX_ROUTINES, MAX_HEIGHT, MAX_FRAMES, MAX_FACTS}
use Rattle.zcert.specs.Marks.{height_in}
use Rattle.zcert.specs.Steps.{◌>>=◌, need}
use Rattle.zcert.specs.Reading.{address_fits, global_fits}
use Rattle.zcert.specs.Building.{Progress, taken, after_release, after_serial, after_checksum, after_loaded_length, after_frame_limit, after_range_count, after_range_first, after_range_last, after_global, after_routine_count, after_routine_address, after_local_count, after_routine_result, after_instruction_count, after_instruction_address, after_routine_number, after_height, after_value, after_fact_count, after_fact_address, after_fact_global, after_fact_values}

abbrev pub IsUncut : {A : Type 0} → Result A CertError → Type 0
IsUncut r = r ≢ Err errors.Truncated

pub uncut_need : (b : Bool) (d : CertError) → d ≢ errors.Truncated → IsUncut (need b d)
uncut_need true d other e = absurd cc
uncut_need false d other e = other cc

-- a condition, and then what it leads to
uncut_when : {A : Type 0} (u : Result (Unit {0}) CertError) (x : A) → IsUncut u → IsUncut (u >>= λ _. Ok x)
uncut_when (Ok t) x uncut e = absurd cc
uncut_when (Err d) x uncut e = uncut (let same : d ≡ errors.Truncated = cc in ap (λ (x : CertError). Err x) same)

order : errors.Order ≢ errors.Truncated
order e = absurd cc

limit : errors.Limit ≢ errors.Truncated
limit e = absurd cc

uncut_then : (u v : Result (Unit {0}) CertError) → IsUncut u → IsUncut v → IsUncut (u >>= λ _. v)
uncut_then (Ok t) v uncut next e = next e
uncut_then (Err d) v uncut next e = uncut e

uncut_address : (floor address : ℕ) → IsUncut (address_fits floor address)
uncut_address floor address = uncut_then (need (nat_le floor address) errors.Order) (need (nat_lt address ADDRESS_LIMIT) errors.Limit) (uncut_need _ _ order) (uncut_need _ _ limit)

uncut_global : (least global : ℕ) → IsUncut (global_fits least global)
uncut_global least global = uncut_then (need (nat_le least global) errors.Order) (need (nat_lt global GLOBALS) errors.Limit) (uncut_need _ _ order) (uncut_need _ _ limit)

module _ {V : Type 0} where
  of_release : (n : ℕ) (t : Turn) (p : Progress V) → IsUncut (after_release n t p)
  of_release n turns.Release p e = absurd cc
  of_release n _ p e = absurd cc

  of_serial : (s : List ℕ) (t : Turn) (p : Progress V) → IsUncut (after_serial s t p)
  of_serial s turns.Serial p e = absurd cc
  of_serial s _ p e = absurd cc

  of_checksum : (n : ℕ) (t : Turn) (p : Progress V) → IsUncut (after_checksum n t p)
  of_checksum n turns.Checksum p e = absurd cc
  of_checksum n _ p e = absurd cc

  of_loaded_length : (n : ℕ) (t : Turn) (p : Progress V) → IsUncut (after_loaded_length n t p)
  of_loaded_length n turns.LoadedLength p e = absurd cc
  of_loaded_length n _ p e = absurd cc

  of_frame_limit : (n : ℕ) (t : Turn) (p : Progress V) → IsUncut (after_frame_limit n t p)
  of_frame_limit n turns.FrameLimit p = uncut_when (need (nat_le n MAX_FRAMES) errors.Limit) _ (uncut_need _ _ limit)
  of_frame_limit n _ p = λ e. absurd cc

  of_range_count : (n : ℕ) (t : Turn) (p : Progress V) → IsUncut (after_range_count n t p)
  of_range_count n turns.RangeCount p = uncut_when (need (nat_le n MAX_RANGES) errors.Limit) _ (uncut_need _ _ limit)
  of_range_count n _ p = λ e. absurd cc

  of_range_first : (n : ℕ) (t : Turn) (p : Progress V) → IsUncut (after_range_first n t p)
  of_range_first n (turns.RangeFirst more) p = uncut_when (need (nat_le p.floor n) errors.Order) _ (uncut_need _ _ order)
  of_range_first n _ p = λ e. absurd cc

  of_range_last : (n : ℕ) (t : Turn) (p : Progress V) → IsUncut (after_range_last n t p)
  of_range_last n (turns.RangeLast more first) p = uncut_when (need (nat_le first n) errors.Order) _ (uncut_need _ _ order)
  of_range_last n _ p = λ e. absurd cc

  of_global : (v : V) (t : Turn) (p : Progress V) → IsUncut (after_global v t p)
  of_global v (turns.Global more) p e = absurd cc
  of_global v _ p e = absurd cc

  of_routine_count : (n : ℕ) (t : Turn) (p : Progress V) → IsUncut (after_routine_count n t p)
  of_routine_count n turns.RoutineCount p = uncut_when (need (nat_le n MAX_ROUTINES) errors.Limit) _ (uncut_need _ _ limit)
  of_routine_count n _ p = λ e. absurd cc

  of_routine_address : (n : ℕ) (t : Turn) (p : Progress V) → IsUncut (after_routine_address n t p)
  of_routine_address n (turns.RoutineAddress more) p = uncut_when (address_fits p.floor n) _ (uncut_address p.floor n)
  of_routine_address n _ p = λ e. absurd cc

  of_local_count : (n : ℕ) (t : Turn) (p : Progress V) → IsUncut (after_local_count n t p)
  of_local_count n (turns.LocalCount more address) p = uncut_when (need (nat_le n MAX_LOCALS) errors.Limit) _ (uncut_need _ _ limit)
  of_local_count n _ p = λ e. absurd cc

  of_routine_result : (v : V) (t : Turn) (p : Progress V) → IsUncut (after_routine_result v t p)
  of_routine_result v (turns.RoutineResult more address locals) p e = absurd cc
  of_routine_result v _ p e = absurd cc

  of_instruction_count : (n : ℕ) (t : Turn) (p : Progress V) → IsUncut (after_instruction_count n t p)
  of_instruction_count n turns.InstructionCount p = uncut_when (need (nat_le n MAX_INSTRUCTIONS) errors.Limit) _ (uncut_need _ _ limit)
  of_instruction_count n _ p = λ e. absurd cc

  of_instruction_address : (n : ℕ) (t : Turn) (p : Progress V) → IsUncut (after_instruction_address n t p)
  of_instruction_address n (turns.InstructionAddress more) p = uncut_when (address_fits p.floor n) _ (uncut_address p.floor n)
  of_instruction_address n _ p = λ e. absurd cc

  of_routine_number : (n : ℕ) (t : Turn) (p : Progress V) → IsUncut (after_routine_number n t p)
  of_routine_number n (turns.RoutineNumber more address) p = uncut_when (need (nat_le n (length p.content.routines)) errors.Limit) _ (uncut_need _ _ limit)
  of_routine_number n _ p = λ e. absurd cc

  of_height : (n : ℕ) (t : Turn) (p : Progress V) → IsUncut (after_height n t p)
  of_height n (turns.Height more address routine) p = uncut_when (need (nat_le (height_in p.content.marking n) MAX_HEIGHT) errors.Limit) _ (uncut_need _ _ limit)
  of_height n _ p = λ e. absurd cc

  of_value : (v : V) (t : Turn) (p : Progress V) → IsUncut (after_value v t p)
  of_value v (turns.Value more h left) p e = absurd cc
  of_value v _ p e = absurd cc

  of_fact_count : (n : ℕ) (t : Turn) (p : Progress V) → IsUncut (after_fact_count n t p)
  of_fact_count n turns.FactCount p = uncut_when (need (nat_le n MAX_FACTS) errors.Limit) _ (uncut_need _ _ limit)
  of_fact_count n _ p = λ e. absurd cc

  of_fact_address : (n : ℕ) (t : Turn) (p : Progress V) → IsUncut (after_fact_address n t p)
  of_fact_address n (turns.FactAddress more least) p = uncut_when (address_fits p.floor n) _ (uncut_address p.floor n)
  of_fact_address n _ p = λ e. absurd cc

  of_fact_global : (n : ℕ) (t : Turn) (p : Progress V) → IsUncut (after_fact_global n t p)
  of_fact_global n (turns.FactGlobal more address least) p = uncut_when (global_fits least n) _ (uncut_global least n)
  of_fact_global n _ p = λ e. absurd cc

  of_fact_values : (v : V) (t : Turn) (p : Progress V) → IsUncut (after_fact_values v t p)
  of_fact_values v (turns.FactValues more address global) p e = absurd cc
  of_fact_values v _ p e = absurd cc

  pub taken_uncut : (p : Progress V) (f : Field V) → IsUncut (taken p f)
  taken_uncut p (fields.Release n) = of_release n p.turn p
  taken_uncut p (fields.Serial s) = of_serial s p.turn p
  taken_uncut p (fields.Checksum n) = of_checksum n p.turn p
  taken_uncut p (fields.LoadedLength n) = of_loaded_length n p.turn p
  taken_uncut p (fields.FrameLimit n) = of_frame_limit n p.turn p
  taken_uncut p (fields.RangeCount n) = of_range_count n p.turn p
  taken_uncut p (fields.RangeFirst n) = of_range_first n p.turn p
  taken_uncut p (fields.RangeLast n) = of_range_last n p.turn p
  taken_uncut p (fields.Global v) = of_global v p.turn p
  taken_uncut p (fields.RoutineCount n) = of_routine_count n p.turn p
  taken_uncut p (fields.RoutineAddress n) = of_routine_address n p.turn p
  taken_uncut p (fields.LocalCount n) = of_local_count n p.turn p
  taken_uncut p (fields.RoutineResult v) = of_routine_result v p.turn p
  taken_uncut p (fields.InstructionCount n) = of_instruction_count n p.turn p
  taken_uncut p (fields.InstructionAddress n) = of_instruction_address n p.turn p
  taken_uncut p (fields.RoutineNumber n) = of_routine_number n p.turn p
  taken_uncut p (fields.Height n) = of_height n p.turn p
  taken_uncut p (fields.Value v) = of_value v p.turn p
  taken_uncut p (fields.FactCount n) = of_fact_count n p.turn p
  taken_uncut p (fields.FactAddress n) = of_fact_address n p.turn p
  taken_uncut p (fields.FactGlobal n) = of_fact_global n p.turn p
  taken_uncut p (fields.FactValues v) = of_fact_values v p.turn p
