-- What is known after an instruction, from what is known before it: the step again, over sets in place of words (own).
use Rattle.std.specs.Prelude.{ℕ, zero, suc, ◌-◌, ◌==◌, nat_le, nat_lt, Bool, true, false, ◌&&◌, is_some, if◌then◌else◌, List, [], ◌∷◌, length, take, drop, filter, Option, Some, None, option_map, slice_get, slice_set, slice_index_or, pos, ◌-ℤ◌}
use Rattle.std.specs.Option.{option_and_then}
use Rattle.zword.specs.declared.binary.BinaryOp.{BinaryOp}
use Rattle.zword.specs.declared.binary.BinaryOp.TheVariants.{Div, Mod}
use Rattle.zword.specs.declared.question.Question.{Question}
use Rattle.zword.specs.declared.question.Question.TheVariants.{Equal, Greater}
use Rattle.zword.specs.declared.count.CountOp.{CountOp}
use Rattle.zword.specs.Binary.{signed}
use Rattle.zword.specs.Question.{holds}
use Rattle.zword.specs.Count.{counting}
use Rattle.zcode.specs.declared.instr.Operand.{Operand}
use Rattle.zcode.specs.declared.instr.Operand.TheVariants.{Constant, Variable}
use Rattle.zcode.specs.declared.instr.Branch.{Branch}
use Rattle.zcode.specs.declared.instr.Destination.{Destination}
use Rattle.zcode.specs.declared.instr.Destination.TheVariants.{ReturnFalse, ReturnTrue, Relative}
use Rattle.zcode.specs.declared.operation.Operation.{Operation}
use Rattle.zcode.specs.declared.operation.Operation.TheVariants.{Unary, Binary, Compare, Count, Store, Load, Jump, Verify, PrintChar, PrintNumber, Print, NewLine, Nop, Quit, Return, PrintReturn, Call, Inside, TestAttribute, Follow, SetAttribute, ClearAttribute, Insert, Remove, Property, PropertyLength, SetProperty, PrintObject, PrintAt, ShowStatus, LoadArray, StoreArray, Random, ReadLine, Save, Restore, Restart}
use Rattle.zcode.specs.Instruction.{Instruction}
use Rattle.zcode.specs.Operation.{operation_of, inputs, target}
use Rattle.zdomain.specs.Domain.{SetOperations}
use Rattle.zcert.specs.declared.parts.Fact.{Fact}
use Rattle.zstate.specs.Step.{way, arguments}
use Rattle.zpairs.specs.Frozen.{FrozenStory}
use Rattle.zpairs.specs.Pairs.{answers}
use Rattle.zruns.specs.Runs.{elements}
use Rattle.zflow.specs.declared.parts.Access.TheVariants.{Reading, Writing}
use Rattle.zflow.specs.declared.parts.Asked.TheVariants.{Answered, Filled}
use Rattle.zflow.specs.declared.parts.Demands.{Demands}
use Rattle.zflow.specs.declared.parts.Lead.{Lead}
use Rattle.zflow.specs.declared.parts.Lead.TheVariants.{Ahead, Returning, Entering}
use Rattle.zflow.specs.declared.parts.Kept.{Kept}
use Rattle.zflow.specs.declared.parts.Outcome.{Outcome}

-- what is known of a frame: the values that each local may have, and each slot of the stack, the top first
pub record Shape (V : Type 0) : Type 0 where
  pub locals : List V
  pub slots : List V

-- ---- what is read

-- reading the operand takes a word off the stack
abbrev pub takes_slot : Operand → Bool
takes_slot (Constant n) = false
takes_slot (Variable v) = v == 0

-- how many words operands take off the stack
abbrev pub pops : List Operand → ℕ
pops operands = length (filter takes_slot operands)

-- the shape without its topmost slots
abbrev pub below : {V : Type 0} → ℕ → Shape V → Shape V
below n e = record { locals = e.locals; slots = drop n e.slots }

module _ {V : Type 0} (o : SetOperations V) (globals : List V) where
  -- the values of a variable; one that isn't there may have any
  abbrev pub variable_set : ℕ → Shape V → V
  variable_set v e =
      if v == 0 then slice_index_or e.slots 0 o.any
      else (if nat_lt v 16 then slice_index_or e.locals (v - 1) o.any else slice_index_or globals (v - 16) o.any)

  abbrev pub values_of : Operand → Shape V → V
  values_of (Constant n) e = o.single n
  values_of (Variable v) e = variable_set v e

  -- one that isn't there is 0
  abbrev pub values_if : Option Operand → Shape V → V
  values_if None e = o.single 0
  values_if (Some x) e = values_of x e

  -- the values of an operand, by its place among them: those before it were read
  abbrev pub operand_set : List Operand → Shape V → ℕ → V
  operand_set operands e k = values_if (slice_get operands k) (below (pops (take k operands)) e)

-- ---- what an operation asks for, once for an instruction

abbrev pub nothing : {V : Type 0} → Demands V
nothing = record { indirect = false; variable = None; divisor = None; object = None; under = None; named = None; attribute = None; property = None; address = None; elements = None; texts = None; buffers = None; certain = true; has_text = false; shows_status = false }

abbrev pub naming : {V : Type 0} → Option ℕ → Demands V
naming variable = record nothing { indirect = true; variable = variable }

abbrev pub divisor_of : {V : Type 0} → BinaryOp → V → Option V
divisor_of Div a = Some a
divisor_of Mod a = Some a
divisor_of _ a = None

-- the number of a variable
abbrev pub small : Option ℕ → Option ℕ
small None = None
small (Some v) = if nat_lt v 256 then Some v else None

module _ {V : Type 0} (o : SetOperations V) where
  -- what an operation asks for, by the sets of what it reads
  unfoldable pub demands_of : Operation → (ℕ → V) → Demands V
  demands_of (Unary op) arg = nothing
  demands_of (Binary op) arg = record nothing { divisor = divisor_of op (arg 1) }
  demands_of (Compare q) arg = nothing
  demands_of (Count op question) arg = naming (small (o.known (arg 0)))
  demands_of Store arg = naming (small (o.known (arg 0)))
  demands_of Load arg = naming (small (o.known (arg 0)))
  demands_of Jump arg = record nothing { certain = is_some (o.known (arg 0)) }
  demands_of Verify arg = nothing
  demands_of PrintChar arg = nothing
  demands_of PrintNumber arg = nothing
  demands_of Print arg = record nothing { has_text = true }
  demands_of NewLine arg = nothing
  demands_of Nop arg = nothing
  demands_of Quit arg = nothing
  demands_of Return arg = nothing
  demands_of PrintReturn arg = record nothing { has_text = true }
  demands_of Call arg = nothing
  demands_of Inside arg = record nothing { object = Some (arg 0) }
  demands_of TestAttribute arg = record nothing { object = Some (arg 0); attribute = Some (arg 1) }
  demands_of (Follow link) arg = record nothing { object = Some (arg 0) }
  demands_of SetAttribute arg = record nothing { object = Some (arg 0); attribute = Some (arg 1) }
  demands_of ClearAttribute arg = record nothing { object = Some (arg 0); attribute = Some (arg 1) }
  demands_of Insert arg = record nothing { object = Some (arg 0); under = Some (arg 1) }
  demands_of Remove arg = record nothing { object = Some (arg 0) }
  demands_of (Property question) arg = record nothing { object = Some (arg 0); property = Some (record { asked = Answered question; objects = arg 0; numbers = arg 1 }) }
  demands_of PropertyLength arg = record nothing { address = Some (arg 0) }
  demands_of SetProperty arg = record nothing { object = Some (arg 0); property = Some (record { asked = Filled; objects = arg 0; numbers = arg 1 }) }
  demands_of PrintObject arg = record nothing { object = Some (arg 0); named = Some (arg 0) }
  demands_of (PrintAt addressing) arg = record nothing { texts = Some (record { addressing = addressing; places = arg 0 }) }
  demands_of ShowStatus arg = record nothing { shows_status = true }
  demands_of (LoadArray width) arg = record nothing { elements = Some (record { access = Reading; width = width; arrays = arg 0; indices = arg 1 }) }
  demands_of (StoreArray width) arg = record nothing { elements = Some (record { access = Writing; width = width; arrays = arg 0; indices = arg 1 }) }
  demands_of Random arg = nothing
  demands_of ReadLine arg = record nothing { buffers = Some (record { texts = arg 0; parses = arg 1 }); shows_status = true }
  demands_of Save arg = nothing
  demands_of Restore arg = nothing
  demands_of Restart arg = nothing

-- ---- what may come of it

abbrev pub untold : {V : Type 0} → Kept V
untold = record { first = None; second = None; first_global = None; second_global = None }

abbrev pub goes_on : {V : Type 0} → Outcome V
goes_on = record { gives = None; assigns = None; tests = None; kept = untold; leads = Ahead (pos 0) }

abbrev pub gives_in : {V : Type 0} → V → Outcome V
gives_in a = record goes_on { gives = Some a }

abbrev pub assigns_in : {V : Type 0} → ℕ → V → Outcome V
assigns_in v a = record goes_on { assigns = Some (v, a) }

abbrev pub asks : {V : Type 0} → Bool → Kept V → Outcome V
asks c kept = record goes_on { tests = Some c; kept = kept }

abbrev pub counts_in : {V : Type 0} → ℕ → V → Bool → Kept V → Outcome V
counts_in v a c kept = record goes_on { assigns = Some (v, a); tests = Some c; kept = kept }

abbrev pub jumps : {V : Type 0} → ℕ → Outcome V
jumps x = record goes_on { leads = Ahead (signed x -ℤ pos 2) }

abbrev pub returns_in : {V : Type 0} → V → Outcome V
returns_in a = record goes_on { leads = Returning a }

abbrev pub enters_in : {V : Type 0} → V → Outcome V
enters_in a = record goes_on { leads = Entering a }

abbrev pub follows_in : {V : Type 0} → Bool → V → Outcome V
follows_in c a = record (asks c untold) { gives = Some a }

abbrev pub is_local : ℕ → Bool
is_local v = nat_le 1 v && nat_lt v 16

-- a variable that is a local keeps what a branch says of it
abbrev pub local_kept : {V : Type 0} → ℕ → V → Option (ℕ × V)
local_kept v a = if is_local v then Some (v, a) else None

abbrev pub operand_kept : {V : Type 0} → Option Operand → V → Option (ℕ × V)
operand_kept None a = None
operand_kept (Some (Constant n)) a = None
operand_kept (Some (Variable v)) a = local_kept v a

-- and so does one that is a global
abbrev pub global_kept : {V : Type 0} → ℕ → V → Option (ℕ × V)
global_kept v a = if nat_lt v 16 then None else Some (v, a)

abbrev pub operand_global : {V : Type 0} → Option Operand → V → Option (ℕ × V)
operand_global None a = None
operand_global (Some (Constant n)) a = None
operand_global (Some (Variable v)) a = global_kept v a

abbrev pub both_kept : {V : Type 0} → List Operand → V × V → Kept V
both_kept operands p = record { first = operand_kept (slice_get operands 0) p.0; second = operand_kept (slice_get operands 1) p.1; first_global = operand_global (slice_get operands 0) p.0; second_global = operand_global (slice_get operands 1) p.1 }

-- what asks nothing has one outcome, which stands where a condition would hold
abbrev pub once : {V : Type 0} → Bool → Outcome V → Option (Outcome V)
once true w = Some w
once false w = None

abbrev pub once_known : {V : Type 0} → Bool → Option ℕ → (ℕ → Outcome V) → Option (Outcome V)
once_known c None w = None
once_known c (Some v) w = once c (w v)

module _ {V : Type 0} (o : SetOperations V) (globals : List V) where
  -- what a variable has once it was counted
  abbrev pub counted_set : CountOp → ℕ → Shape V → V
  counted_set op v e = o.binary (counting op) (variable_set o globals v e) (o.single 1)

  -- what a branch says of two that it compares; of more it says nothing
  abbrev pub compared_kept : Question → Bool → List Operand → (ℕ → V) → Option (Kept V)
  compared_kept q c operands arg = if length operands == 2 then option_map (both_kept operands) (o.narrow q c (arg 0) (arg 1)) else Some untold

  -- and of a local that was counted; of another variable that was, it says nothing
  abbrev pub counted_kept : Question → Bool → ℕ → V → V → Option (Kept V)
  counted_kept q c v new x = if is_local v then option_map (λ p. record untold { first = Some (v, p.0) }) (o.narrow q c new x) else Some untold

  -- a variable that was counted, and asked against others
  abbrev pub counted_outcome : CountOp → Question → Bool → Option ℕ → V → Shape V → Option (Outcome V)
  counted_outcome op q c None x e = None
  counted_outcome op q c (Some v) x e = option_map (counts_in v (counted_set op v e) c) (counted_kept q c v (counted_set op v e) x)

  -- what comes of a call: of a routine where the address isn't 0, and 0 where it is
  abbrev pub called_outcome : Bool → V → Option (Outcome V)
  called_outcome true a = option_map (λ p. enters_in p.0) (o.narrow Equal false a (o.single 0))
  called_outcome false a = option_map (λ p. gives_in (o.single 0)) (o.narrow Equal true a (o.single 0))

  -- where a link leads to: to one of so many objects, or to none
  abbrev pub followed_outcome : ℕ → Bool → Option (Outcome V)
  followed_outcome objects true = if objects == 0 then None else Some (follows_in true (o.between 1 objects))
  followed_outcome objects false = Some (follows_in false (o.single 0))

-- what is drawn: from 1 to the range, where that is above 0, and 0 where it isn't (Z 15 random)
abbrev pub drawn_set : {V : Type 0} → SetOperations V → V → V
drawn_set o a =
    if holds Greater (o.lowest a) 0 then o.between 1 (o.highest a)
    else (if holds Greater (o.highest a) 0 then o.between 0 (o.highest a) else o.single 0)

-- a save that is taken is no step, so that nothing comes where a condition would hold (own)
abbrev pub unrestored : {V : Type 0} → Bool → Option (Outcome V)
unrestored true = None
unrestored false = Some (asks false untold)

module _ {V : Type 0} (o : SetOperations V) (globals : List V) (told : FrozenStory) where
  -- What may come of an operation where its condition is answered so, from the sets of what it reads; e is what is known
  -- once that was read, and what is frozen stays as it is. None comes of an edge that can't be taken, of `quit`, and of
  -- `restart`, behind which nothing is as it was.
  unfoldable pub outcome_of : Operation → List Operand → (ℕ → V) → Shape V → Bool → Option (Outcome V)
  outcome_of (Unary op) operands arg e c = once c (gives_in (o.unary op (arg 0)))
  outcome_of (Binary op) operands arg e c = once c (gives_in (o.binary op (arg 0) (arg 1)))
  outcome_of (Compare q) operands arg e c = option_map (asks c) (compared_kept o globals q c operands arg)
  outcome_of (Count op None) operands arg e c = once_known c (small (o.known (arg 0))) (λ v. assigns_in v (counted_set o globals op v e))
  outcome_of (Count op (Some q)) operands arg e c = counted_outcome o globals op q c (small (o.known (arg 0))) (arg 1) e
  outcome_of Store operands arg e c = once_known c (small (o.known (arg 0))) (λ v. assigns_in v (arg 1))
  outcome_of Load operands arg e c = once_known c (small (o.known (arg 0))) (λ v. gives_in (variable_set o globals v e))
  outcome_of Jump operands arg e c = once_known c (o.known (arg 0)) jumps
  outcome_of Verify operands arg e c = Some (asks c untold)
  outcome_of PrintChar operands arg e c = once c goes_on
  outcome_of PrintNumber operands arg e c = once c goes_on
  outcome_of Print operands arg e c = once c goes_on
  outcome_of NewLine operands arg e c = once c goes_on
  outcome_of Nop operands arg e c = once c goes_on
  outcome_of Quit operands arg e c = None
  outcome_of Return operands arg e c = once c (returns_in (arg 0))
  outcome_of PrintReturn operands arg e c = once c (returns_in (o.single 1))
  outcome_of Call operands arg e c = called_outcome o globals c (arg 0)
  outcome_of Inside operands arg e c = Some (asks c untold)
  outcome_of TestAttribute operands arg e c = Some (asks c untold)
  outcome_of (Follow link) operands arg e c = followed_outcome o globals told.story.objects c
  outcome_of SetAttribute operands arg e c = once c goes_on
  outcome_of ClearAttribute operands arg e c = once c goes_on
  outcome_of Insert operands arg e c = once c goes_on
  outcome_of Remove operands arg e c = once c goes_on
  outcome_of (Property question) operands arg e c = once c (gives_in (answers o told question (arg 0) (arg 1)))
  outcome_of PropertyLength operands arg e c = once c (gives_in (o.between 0 8))
  outcome_of SetProperty operands arg e c = once c goes_on
  outcome_of PrintObject operands arg e c = once c goes_on
  outcome_of (PrintAt addressing) operands arg e c = once c goes_on
  outcome_of ShowStatus operands arg e c = once c goes_on
  outcome_of (LoadArray width) operands arg e c = once c (gives_in (elements o told width (arg 0) (arg 1)))
  outcome_of (StoreArray width) operands arg e c = once c goes_on
  outcome_of Random operands arg e c = once c (gives_in (drawn_set o (arg 0)))
  outcome_of ReadLine operands arg e c = once c goes_on
  outcome_of Save operands arg e c = Some (asks c untold)
  outcome_of Restore operands arg e c = unrestored c
  outcome_of Restart operands arg e c = None

-- ---- what is known after

abbrev pub locals_with : {V : Type 0} → Option V → ℕ → List V → List V
locals_with None v locals = locals
locals_with (Some x) v locals = if v == 0 then locals else (if nat_lt v 16 then slice_set locals (v - 1) x else locals)

abbrev pub slots_with : {V : Type 0} → Option V → ℕ → List V → List V
slots_with None v slots = slots
slots_with (Some x) v slots = if v == 0 then x ∷ slots else slots

-- with a value of a set in a variable: it is pushed, or put in a local; a global keeps its set
abbrev pub with_result : {V : Type 0} → Option V → ℕ → Shape V → Shape V
with_result x v e = record { locals = locals_with x v e.locals; slots = slots_with x v e.slots }

abbrev pub named_with : {V : Type 0} → ℕ → V → List V → List V
named_with v x locals = if nat_lt v 16 then slice_set locals (v - 1) x else locals

-- with what a variable is given in place
abbrev pub with_assigned : {V : Type 0} → Option (ℕ × V) → Shape V → Shape V
with_assigned None e = e
with_assigned (Some p) e = record { locals = if p.0 == 0 then e.locals else named_with p.0 p.1 e.locals; slots = if p.0 == 0 then slice_set e.slots 0 p.1 else e.slots }

-- sets of globals, with that of each fact in the place of its global's
abbrev pub with_facts : {V : Type 0} → List V → List (Fact V) → List V
with_facts globals [] = globals
with_facts globals (f ∷ fs) = with_facts (slice_set globals f.global f.values) fs

-- the globals, where one has these values, if the variable is one
abbrev pub globals_with : {V : Type 0} → Option V → ℕ → List V → List V
globals_with None v globals = globals
globals_with (Some x) v globals = if nat_lt v 16 then globals else slice_set globals (v - 16) x

abbrev pub globals_named : {V : Type 0} → Option (ℕ × V) → List V → List V
globals_named None globals = globals
globals_named (Some p) globals = globals_with (Some p.1) p.0 globals

-- What is known of the globals behind an instruction, where they have these sets before it: one that is given a value in place has its
-- set, then one that takes the result, and then those that a branch says something of.
abbrev pub globals_after : {V : Type 0} → List V → ℕ → Outcome V → List V
globals_after globals target w = globals_named w.kept.second_global (globals_named w.kept.first_global (globals_with w.gives target (globals_named w.assigns globals)))

module _ {V : Type 0} (o : SetOperations V) where
  -- with a local that has these values, if there are some
  abbrev pub with_local : ℕ → Option V → Shape V → Option (Shape V)
  with_local v None e = None
  with_local v (Some a) e = Some (record { locals = slice_set e.locals (v - 1) a; slots = e.slots })

  -- with what a branch says of a local, if that leaves it a value
  abbrev pub narrowed_by : Option (ℕ × V) → Shape V → Option (Shape V)
  narrowed_by None e = Some e
  narrowed_by (Some k) e = with_local k.0 (o.meet (slice_index_or e.locals (k.0 - 1) o.any) k.1) e

  -- and of both; a local that is named twice takes both
  abbrev pub narrowed : Kept V → Shape V → Option (Shape V)
  narrowed kept e = option_and_then (narrowed_by kept.second) (narrowed_by kept.first e)

  -- a branch that is taken comes first; it may return 0 or 1 (Z 4.7.1)
  abbrev pub turned_to : Option Destination → Lead V → Lead V
  turned_to None lead = lead
  turned_to (Some (Relative d)) lead = Ahead d
  turned_to (Some ReturnFalse) lead = Returning (o.single 0)
  turned_to (Some ReturnTrue) lead = Returning (o.single 1)

  -- where an outcome leads
  abbrev pub leading : Outcome V → Option Branch → Lead V
  leading w branch = turned_to (way w.tests branch) w.leads

-- so many sets in a list
unfoldable pub sets : {V : Type 0} → (ℕ → V) → ℕ → List V
sets arg zero = []
sets arg (suc n) = arg 0 ∷ sets (λ k. arg (suc k)) n

-- ---- of an instruction, where e is known before it

module _ {V : Type 0} (o : SetOperations V) (globals : List V) (i : Instruction) (e : Shape V) where
  -- the sets of what it reads
  abbrev pub read_set : ℕ → V
  read_set k = operand_set o globals (inputs i) e k

  -- what is known once that was read
  abbrev pub mid_shape : Shape V
  mid_shape = below (pops (inputs i)) e

  -- the sets of the arguments of a call
  abbrev pub argument_sets : List V
  argument_sets = arguments (sets read_set (length (inputs i)))

  abbrev pub demands_at : Demands V
  demands_at = demands_of o (operation_of i.opcode) read_set

  abbrev pub outcome_at : FrozenStory → Bool → Option (Outcome V)
  outcome_at told c = outcome_of o globals told (operation_of i.opcode) (inputs i) read_set mid_shape c

  -- what is known after it came to this, before what a branch says of locals
  abbrev pub changed_by : Outcome V → Shape V
  changed_by w = with_result w.gives (target i) (with_assigned w.assigns mid_shape)

  -- and with that, on an edge that can be taken
  abbrev pub after : Outcome V → Option (Shape V)
  after w = narrowed o w.kept (changed_by w)
