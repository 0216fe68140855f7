-- Values of the definitions, computed over intervals.
use Rattle.std.proofs.Common.{◌≡◌, ℕ, ℤ, pos, negsuc, int_le, Bool, true, false, List, [], ◌∷◌, ◌++◌, replicate, drop, map, Option, Some, None, option_map, refl}
use Rattle.std.specs.Option.{option_and_then}
use Rattle.zpairs.specs.Frozen.{FrozenStory}
use Rattle.zcode.specs.declared.opcode.Opcode.{Opcode}
use Rattle.zcode.specs.declared.opcode.Opcode.TheVariants as opcodes
use Rattle.zcode.specs.declared.operation.Operation.{Operation}
use Rattle.zcode.specs.declared.operation.Operation.TheVariants as operations
use Rattle.zcode.specs.declared.instr.Operand.{Operand}
use Rattle.zcode.specs.declared.instr.Operand.TheVariants.{Constant, Variable}
use Rattle.zcode.specs.Instruction.{Instruction}
use Rattle.zcode.specs.Operation.{operation_of, inputs}
use Rattle.zdomain.specs.declared.interval.Interval.{Interval}
use Rattle.zdomain.specs.Interval.{in_order, interval_operations}
use Rattle.zobj.specs.declared.answers.PropertyQuestion.TheVariants.{Value, Address, Next}
use Rattle.zflow.specs.declared.parts.Asked.{Asked}
use Rattle.zflow.specs.declared.parts.Asked.TheVariants.{Answered, Filled}
use Rattle.zflow.specs.declared.parts.Pairs.{Pairs}
use Rattle.zflow.specs.declared.parts.Texts.{Texts}
use Rattle.zflow.specs.declared.parts.Access.{Access}
use Rattle.zflow.specs.declared.parts.Access.TheVariants.{Reading, Writing}
use Rattle.zflow.specs.declared.parts.Elements.{Elements}
use Rattle.zflow.specs.declared.parts.Buffers.{Buffers}
use Rattle.zword.specs.declared.addressing.Addressing.{Addressing}
use Rattle.zword.specs.declared.addressing.Addressing.TheVariants.{Byte, Packed}
use Rattle.zflow.specs.declared.parts.Demands.{Demands}
use Rattle.zflow.specs.declared.parts.Lead.{Lead}
use Rattle.zflow.specs.declared.parts.Lead.TheVariants.{Ahead, Returning, Entering}
use Rattle.zflow.specs.declared.parts.Outcome.{Outcome}
use Rattle.zflow.specs.Transfer.{Shape, variable_set, local_kept, locals_with, named_with, drawn_set, sets, argument_sets, pops, below, operand_set, demands_of, demands_at, outcome_of, outcome_at, after, leading}
use Rattle.zflow.specs.Kept.{both, shape_of}

-- ---- what is known, and what is looked at

abbrev from : (lo hi : ℤ) → int_le lo hi ≡ true → Interval
from lo hi e = record { lo = lo; hi = hi; ordered = in_order lo hi e }

abbrev Ends : Type 0
Ends = ℤ × ℤ

abbrev ends : Interval → Ends
ends a = (a.lo, a.hi)

-- from a number up to another, and one alone
abbrev span : ℕ → ℕ → Ends
span a b = (pos a, pos b)

abbrev only : ℕ → Ends
only a = (pos a, pos a)

abbrev any : Ends
any = (negsuc 32767, pos 32767)

-- globals 16 and 17: [100, 110] and [3, 3]
globals : List Interval
globals = from (pos 100) (pos 110) refl ∷ from (pos 3) (pos 3) refl ∷ []

-- locals [0, 9], [1, 1] and [0, 1]; on the stack [7, 7], and [20, 30] below
shape : Shape Interval
shape = record { locals = from (pos 0) (pos 9) refl ∷ from (pos 1) (pos 1) refl ∷ from (pos 0) (pos 1) refl ∷ []; slots = from (pos 7) (pos 7) refl ∷ from (pos 20) (pos 30) refl ∷ [] }

-- an instruction that stores in a variable, or branches where its condition holds
abbrev plain : Opcode → List Operand → Instruction
plain opcode operands = record { opcode = opcode; operands = operands; store = None; branch = None; size = 3 }

abbrev storing : Opcode → List Operand → ℕ → Instruction
storing opcode operands v = record (plain opcode operands) { store = Some v }

abbrev branching : Opcode → List Operand → ℤ → Instruction
branching opcode operands offset = record (plain opcode operands) { branch = Some (record { sense = true; offset = offset }) }

-- of a story of so many objects
abbrev with_objects : ℕ → FrozenStory
with_objects n = record { story = record { memory = []; objects = n }; ranges = [] }

abbrev outcome_on : Instruction → Bool → Option (Outcome Interval)
outcome_on i c = outcome_at interval_operations globals i shape (with_objects 200) c

abbrev after_on : Instruction → Bool → Option (Shape Interval)
after_on i c = option_and_then (after interval_operations globals i shape) (outcome_on i c)

abbrev locals_on : Instruction → Bool → Option (List Ends)
locals_on i c = option_map (λ e. map ends e.locals) (after_on i c)

abbrev slots_on : Instruction → Bool → Option (List Ends)
slots_on i c = option_map (λ e. map ends e.slots) (after_on i c)

-- how far it leads, and what it returns
abbrev distance : Lead Interval → Option ℤ
distance (Ahead d) = Some d
distance (Returning a) = None
distance (Entering a) = None

abbrev returned : Lead Interval → Option Ends
returned (Ahead d) = None
returned (Returning a) = Some (ends a)
returned (Entering a) = None

abbrev entered : Lead Interval → Option Ends
entered (Ahead d) = None
entered (Returning a) = None
entered (Entering a) = Some (ends a)

abbrev lead_on : Instruction → Bool → Option (Lead Interval)
lead_on i c = option_map (λ w. leading interval_operations w i.branch) (outcome_on i c)

abbrev distance_on : Instruction → Bool → Option ℤ
distance_on i c = option_and_then distance (lead_on i c)

abbrev returned_on : Instruction → Bool → Option Ends
returned_on i c = option_and_then returned (lead_on i c)

abbrev demands_on : Instruction → Demands Interval
demands_on i = demands_at interval_operations globals i shape

-- ---- what is read

abbrev operands_of : List Operand → ℕ → Ends
operands_of operands k = ends (operand_set interval_operations globals operands shape k)

-- a word is taken off the stack before the next operand is read; where there is none, it is 0
reads : (operands_of (Variable 0 ∷ Variable 0 ∷ []) 0 ≡ only 7) × (operands_of (Variable 0 ∷ Variable 0 ∷ []) 1 ≡ span 20 30) × (operands_of (Variable 1 ∷ Variable 0 ∷ []) 1 ≡ only 7) × (operands_of (Variable 16 ∷ Constant 5 ∷ []) 0 ≡ span 100 110) × (operands_of (Variable 16 ∷ Constant 5 ∷ []) 1 ≡ only 5) × (operands_of (Variable 1 ∷ []) 1 ≡ only 0)
unfolding shape globals
reads = (refl, refl, refl, refl, refl, refl)

-- a variable that isn't there may have any value
absent : (operands_of (Variable 4 ∷ []) 0 ≡ any) × (operands_of (Variable 18 ∷ []) 0 ≡ any) × (operands_of (Variable 0 ∷ Variable 0 ∷ Variable 0 ∷ []) 2 ≡ any)
unfolding shape globals
absent = (refl, refl, refl)

-- fifteen locals, of which the last is 9, and the two variables beside it
fifteen : Shape Interval
fifteen = record { locals = replicate 14 (from (pos 0) (pos 0) refl) ++ from (pos 9) (pos 9) refl ∷ []; slots = [] }

last_local :
    (ends (variable_set interval_operations globals 15 fifteen) ≡ only 9) × (ends (variable_set interval_operations globals 16 fifteen) ≡ span 100 110)
    × (local_kept {V = ℕ} 1 5 ≡ Some (1, 5)) × (local_kept {V = ℕ} 15 5 ≡ Some (15, 5)) × (local_kept {V = ℕ} 0 5 ≡ None) × (local_kept {V = ℕ} 16 5 ≡ None)
    × (drop 14 (locals_with {V = ℕ} (Some 5) 15 (replicate 15 0)) ≡ 5 ∷ []) × (locals_with {V = ℕ} (Some 5) 16 (replicate 16 0) ≡ replicate 16 0)
    × (drop 14 (named_with {V = ℕ} 15 5 (replicate 15 0)) ≡ 5 ∷ []) × (named_with {V = ℕ} 16 5 (replicate 16 0) ≡ replicate 16 0)
unfolding fifteen globals
last_local = (refl, refl, refl, refl, refl, refl, refl, refl, refl, refl)

taken : (pops (Variable 0 ∷ Constant 0 ∷ Variable 1 ∷ Variable 0 ∷ []) ≡ 2) × (pops (inputs (plain opcodes.Pull (Constant 1 ∷ []))) ≡ 1) × (map ends (below 1 shape).slots ≡ span 20 30 ∷ []) × ((below 3 shape).slots ≡ [])
unfolding shape
taken = (refl, refl, refl, refl)

-- ---- calls

abbrev of_call : Interval → Bool → Option (Outcome Interval)
of_call a c = outcome_of interval_operations globals (with_objects 0) operations.Call [] (λ k. a) shape c

abbrev entered_by : Interval → Option Ends
entered_by a = option_and_then (λ w. entered w.leads) (of_call a true)

abbrev given_by : Interval → Option Ends
given_by a = option_and_then (λ w. option_map ends w.gives) (of_call a false)

-- a routine where the address isn't 0, which is cut off at an end; and 0 where it is
calls : (entered_by (from (pos 0) (pos 9) refl) ≡ Some (span 1 9)) × (given_by (from (pos 0) (pos 9) refl) ≡ Some (only 0)) × (entered_by (from (pos 7) (pos 7) refl) ≡ Some (only 7)) × (given_by (from (pos 1) (pos 9) refl) ≡ None) × (given_by (from (pos 0) (pos 0) refl) ≡ Some (only 0)) × (entered_by (from (pos 0) (pos 0) refl) ≡ None) × (entered_by (from (negsuc 0) (pos 3) refl) ≡ Some (negsuc 0, pos 3))
unfolding outcome_of globals shape
calls = (refl, refl, refl, refl, refl, refl, refl)

-- what is read behind the address, at most three
abbrev supplied : List Operand → List Ends
supplied operands = map ends (argument_sets interval_operations globals (plain opcodes.Call operands) shape)

supplies : (supplied (Constant 9 ∷ []) ≡ []) × (supplied (Variable 0 ∷ Variable 0 ∷ Variable 16 ∷ Constant 5 ∷ []) ≡ span 20 30 ∷ span 100 110 ∷ only 5 ∷ [])
unfolding sets globals shape
supplies = (refl, refl)

-- ---- branches

jl : Instruction
jl = branching opcodes.Jl (Variable 1 ∷ Constant 5 ∷ []) (pos 10)

less : (locals_on jl true ≡ Some (span 0 4 ∷ only 1 ∷ span 0 1 ∷ [])) × (locals_on jl false ≡ Some (span 5 9 ∷ only 1 ∷ span 0 1 ∷ [])) × (distance_on jl true ≡ Some (pos 8)) × (distance_on jl false ≡ Some (pos 0))
unfolding operation_of outcome_of shape globals jl
less = (refl, refl, refl, refl)

-- the second operand is narrowed too; a local that is named twice takes both
seconds : (locals_on (branching opcodes.Jl (Constant 5 ∷ Variable 1 ∷ []) (pos 10)) true ≡ Some (span 6 9 ∷ only 1 ∷ span 0 1 ∷ [])) × (locals_on (branching opcodes.Jl (Variable 1 ∷ Variable 1 ∷ []) (pos 10)) true ≡ Some (span 1 8 ∷ only 1 ∷ span 0 1 ∷ []))
unfolding operation_of outcome_of shape globals
seconds = (refl, refl)

abbrev nothing : Option (Outcome Interval)
nothing = None

-- an edge that can't be taken; and one whose outcome leaves a local nothing
closed : (outcome_on (branching opcodes.Jg (Variable 1 ∷ Constant 9 ∷ []) (pos 10)) true ≡ nothing) × (outcome_on (branching opcodes.Jz (Variable 2 ∷ []) (pos 10)) true ≡ nothing) × (locals_on (branching opcodes.Jl (Variable 3 ∷ Variable 3 ∷ []) (pos 10)) true ≡ None)
unfolding operation_of outcome_of shape globals
closed = (refl, refl, refl)

je : List Operand → Instruction
je operands = branching opcodes.Je operands (pos 10)

-- of two an equal is known, of three nothing
equal : (locals_on (je (Variable 1 ∷ Constant 5 ∷ [])) true ≡ Some (only 5 ∷ only 1 ∷ span 0 1 ∷ [])) × (locals_on (je (Variable 1 ∷ Constant 9 ∷ [])) false ≡ Some (span 0 8 ∷ only 1 ∷ span 0 1 ∷ [])) × (locals_on (je (Variable 1 ∷ Constant 5 ∷ Constant 6 ∷ [])) true ≡ Some (span 0 9 ∷ only 1 ∷ span 0 1 ∷ [])) × (locals_on (je (Variable 1 ∷ Constant 9 ∷ Constant 9 ∷ [])) false ≡ Some (span 0 9 ∷ only 1 ∷ span 0 1 ∷ [])) × (locals_on (je (Variable 1 ∷ [])) true ≡ Some (span 0 9 ∷ only 1 ∷ span 0 1 ∷ [])) × (locals_on (je (Variable 3 ∷ Constant 1 ∷ [])) false ≡ Some (span 0 9 ∷ only 1 ∷ only 0 ∷ []))
unfolding operation_of outcome_of shape globals je
equal = (refl, refl, refl, refl, refl, refl)

-- a branch with the offset 1 returns 1, where it is taken
returns : (returned_on (branching opcodes.Jl (Variable 1 ∷ Constant 5 ∷ []) (pos 1)) true ≡ Some (only 1)) × (distance_on (branching opcodes.Jl (Variable 1 ∷ Constant 5 ∷ []) (pos 1)) false ≡ Some (pos 0)) × (returned_on (branching opcodes.Jl (Variable 1 ∷ Constant 5 ∷ []) (pos 0)) true ≡ Some (only 0))
unfolding operation_of outcome_of shape globals
returns = (refl, refl, refl)

-- whether a file's sum is right isn't known
verifies : (locals_on (branching opcodes.Verify [] (pos 10)) true ≡ Some (span 0 9 ∷ only 1 ∷ span 0 1 ∷ [])) × (distance_on (branching opcodes.Verify [] (pos 10)) true ≡ Some (pos 8)) × (distance_on (branching opcodes.Verify [] (pos 10)) false ≡ Some (pos 0))
unfolding operation_of outcome_of shape globals
verifies = (refl, refl, refl)

-- ---- counts

-- local 1 is counted to [1, 10], and what is asked is asked of that
inc_chk : Operand → Operand → Instruction
inc_chk named against = branching opcodes.IncChk (named ∷ against ∷ []) (pos 10)

counts : (locals_on (inc_chk (Constant 1) (Constant 5)) true ≡ Some (span 6 10 ∷ only 1 ∷ span 0 1 ∷ [])) × (locals_on (inc_chk (Constant 1) (Constant 5)) false ≡ Some (span 1 5 ∷ only 1 ∷ span 0 1 ∷ [])) × (outcome_on (inc_chk (Constant 1) (Constant 10)) true ≡ nothing)
unfolding operation_of outcome_of shape globals inc_chk
counts = (refl, refl, refl)

-- the local that names it and the one that it is asked against stay as they are
others : (locals_on (inc_chk (Variable 2) (Constant 5)) true ≡ Some (span 6 10 ∷ only 1 ∷ span 0 1 ∷ [])) × (locals_on (inc_chk (Constant 1) (Variable 3)) true ≡ Some (span 1 10 ∷ only 1 ∷ span 0 1 ∷ [])) × (locals_on (inc_chk (Constant 1) (Variable 3)) false ≡ Some (only 1 ∷ only 1 ∷ span 0 1 ∷ []))
unfolding operation_of outcome_of shape globals inc_chk
others = (refl, refl, refl)

-- of a global, and of the top of the stack, either may come, though their values are known
either : (locals_on (inc_chk (Constant 16) (Constant 111)) true ≡ Some (span 0 9 ∷ only 1 ∷ span 0 1 ∷ [])) × (locals_on (inc_chk (Constant 17) (Constant 3)) false ≡ Some (span 0 9 ∷ only 1 ∷ span 0 1 ∷ [])) × (slots_on (inc_chk (Constant 0) (Constant 8)) true ≡ Some (only 8 ∷ span 20 30 ∷ [])) × (slots_on (inc_chk (Constant 0) (Constant 7)) false ≡ Some (only 8 ∷ span 20 30 ∷ []))
unfolding operation_of outcome_of shape globals inc_chk
either = (refl, refl, refl, refl)

-- what a branch says of a local leaves the stack, and what is counted there the locals
apart : (slots_on (inc_chk (Constant 1) (Constant 5)) true ≡ Some (only 7 ∷ span 20 30 ∷ [])) × (locals_on (plain opcodes.Inc (Constant 0 ∷ [])) true ≡ Some (span 0 9 ∷ only 1 ∷ span 0 1 ∷ []))
unfolding operation_of outcome_of shape globals inc_chk
apart = (refl, refl)

-- a plain count has one edge; the top of the stack is counted in place
plainly : (locals_on (plain opcodes.Dec (Constant 1 ∷ [])) true ≡ Some ((negsuc 0, pos 8) ∷ only 1 ∷ span 0 1 ∷ [])) × (outcome_on (plain opcodes.Dec (Constant 1 ∷ [])) false ≡ nothing) × (slots_on (plain opcodes.Inc (Constant 0 ∷ [])) true ≡ Some (only 8 ∷ span 20 30 ∷ []))
unfolding operation_of outcome_of shape globals
plainly = (refl, refl, refl)

-- ---- variables that a value names

-- the top is read where it is after what the operand took, and pushed or put in a local
loads : (locals_on (storing opcodes.Load (Constant 0 ∷ []) 1) true ≡ Some (only 7 ∷ only 1 ∷ span 0 1 ∷ [])) × (slots_on (storing opcodes.Load (Constant 16 ∷ []) 0) true ≡ Some (span 100 110 ∷ only 7 ∷ span 20 30 ∷ [])) × (outcome_on (storing opcodes.Load (Variable 1 ∷ []) 1) true ≡ nothing) × (outcome_on (storing opcodes.Load (Constant 256 ∷ []) 1) true ≡ nothing)
unfolding operation_of outcome_of shape globals
loads = (refl, refl, refl, refl)

-- with 0 on top of the stack, `load` of it reads the slot below
abbrev zero_above : Shape Interval
zero_above = record shape { slots = from (pos 0) (pos 0) refl ∷ shape.slots }

loads_below : option_map (λ e. map ends e.slots) (option_and_then (after interval_operations globals (storing opcodes.Load (Variable 0 ∷ []) 0) zero_above) (outcome_at interval_operations globals (storing opcodes.Load (Variable 0 ∷ []) 0) zero_above (with_objects 0) true)) ≡ Some (only 7 ∷ only 7 ∷ span 20 30 ∷ [])
unfolding operation_of outcome_of shape globals
loads_below = refl

-- pull takes the top; a store to the stack replaces it; a global keeps its set, and so does what isn't there
stores : (locals_on (plain opcodes.Pull (Constant 1 ∷ [])) true ≡ Some (only 7 ∷ only 1 ∷ span 0 1 ∷ [])) × (slots_on (plain opcodes.Pull (Constant 1 ∷ [])) true ≡ Some (span 20 30 ∷ [])) × (slots_on (plain opcodes.Store (Constant 0 ∷ Constant 4 ∷ [])) true ≡ Some (only 4 ∷ span 20 30 ∷ [])) × (locals_on (plain opcodes.Store (Constant 16 ∷ Constant 4 ∷ [])) true ≡ Some (span 0 9 ∷ only 1 ∷ span 0 1 ∷ [])) × (locals_on (plain opcodes.Store (Constant 4 ∷ Constant 4 ∷ [])) true ≡ Some (span 0 9 ∷ only 1 ∷ span 0 1 ∷ []))
unfolding operation_of outcome_of shape globals
stores = (refl, refl, refl, refl, refl)

named : ((demands_on (plain opcodes.Store (Constant 16 ∷ Constant 4 ∷ []))).variable ≡ Some 16) × ((demands_on (plain opcodes.Store (Constant 16 ∷ Constant 4 ∷ []))).indirect ≡ true) × ((demands_on (plain opcodes.Inc (Variable 1 ∷ []))).variable ≡ None) × ((demands_on (storing opcodes.Load (Constant 256 ∷ []) 1)).variable ≡ None) × ((demands_on (storing opcodes.Load (Constant 255 ∷ []) 1)).variable ≡ Some 255) × ((demands_on jl).indirect ≡ false) × ((demands_on (plain opcodes.Dec (Constant 16 ∷ []))).variable ≡ Some 16)
unfolding operation_of demands_of shape globals jl
named = (refl, refl, refl, refl, refl, refl, refl)

-- ---- values

-- a result goes on the stack once both operands were taken off it; push has no result variable
results : (slots_on (storing opcodes.Add (Variable 0 ∷ Variable 0 ∷ []) 0) true ≡ Some (span 27 37 ∷ [])) × (locals_on (storing opcodes.Sub (Constant 10 ∷ Variable 1 ∷ []) 3) true ≡ Some (span 0 9 ∷ only 1 ∷ span 1 10 ∷ [])) × (slots_on (storing opcodes.Sub (Constant 10 ∷ Variable 1 ∷ []) 3) true ≡ Some (only 7 ∷ span 20 30 ∷ [])) × (locals_on (storing opcodes.Not (Variable 2 ∷ []) 1) true ≡ Some ((negsuc 1, negsuc 1) ∷ only 1 ∷ span 0 1 ∷ [])) × (slots_on (plain opcodes.Push (Variable 1 ∷ [])) true ≡ Some (span 0 9 ∷ only 7 ∷ span 20 30 ∷ [])) × (outcome_on (plain opcodes.Push (Variable 1 ∷ [])) false ≡ nothing)
unfolding operation_of outcome_of shape globals
results = (refl, refl, refl, refl, refl, refl)

divisors : (option_map ends (demands_on (storing opcodes.Div (Constant 10 ∷ Variable 1 ∷ []) 3)).divisor ≡ Some (span 0 9)) × (option_map ends (demands_on (storing opcodes.Mod (Constant 10 ∷ Variable 2 ∷ []) 3)).divisor ≡ Some (only 1)) × (option_map ends (demands_on (storing opcodes.Mul (Constant 10 ∷ Variable 2 ∷ []) 3)).divisor ≡ None)
unfolding operation_of demands_of shape globals
divisors = (refl, refl, refl)

-- ---- jumps

-- from the byte behind the instruction, less 2; of two values nothing comes
jump : Operand → Instruction
jump operand = plain opcodes.Jump (operand ∷ [])

jumps : (distance_on (jump (Constant 10)) true ≡ Some (pos 8)) × (distance_on (jump (Constant 0xFFFE)) true ≡ Some (negsuc 3)) × (distance_on (jump (Variable 2)) true ≡ Some (negsuc 0)) × (outcome_on (jump (Constant 10)) false ≡ nothing) × (outcome_on (jump (Variable 3)) true ≡ nothing)
unfolding operation_of outcome_of shape globals jump
jumps = (refl, refl, refl, refl, refl)

certain : ((demands_on (jump (Variable 2))).certain ≡ true) × ((demands_on (jump (Variable 3))).certain ≡ false) × ((demands_on jl).certain ≡ true)
unfolding operation_of demands_of shape globals jump jl
certain = (refl, refl, refl)

-- ---- objects

-- get_child of the first local into the second: one of the objects, and then the branch is taken, or none
child : Instruction
child = record (branching opcodes.GetChild (Variable 1 ∷ []) (pos 8)) { store = Some 2 }

follows : (locals_on child true ≡ Some (span 0 9 ∷ span 1 200 ∷ span 0 1 ∷ [])) × (distance_on child true ≡ Some (pos 6)) × (locals_on child false ≡ Some (span 0 9 ∷ only 0 ∷ span 0 1 ∷ [])) × (distance_on child false ≡ Some (pos 0))
unfolding operation_of outcome_of shape globals child
follows = (refl, refl, refl, refl)

-- it leads to none where there is none
no_objects : (option_map (λ w. option_map ends w.gives) (outcome_at interval_operations globals child shape (with_objects 1) true) ≡ Some (Some (only 1))) × (outcome_at interval_operations globals child shape (with_objects 0) true ≡ nothing) × (option_map (λ w. w.tests) (outcome_at interval_operations globals child shape (with_objects 0) false) ≡ Some (Some false))
unfolding operation_of outcome_of shape globals child
no_objects = (refl, refl, refl)

-- what is asked of an object says nothing of its number
asks_objects : (locals_on (branching opcodes.Jin (Variable 1 ∷ Constant 3 ∷ []) (pos 8)) true ≡ Some (span 0 9 ∷ only 1 ∷ span 0 1 ∷ [])) × (locals_on (branching opcodes.TestAttr (Variable 1 ∷ Constant 3 ∷ []) (pos 8)) false ≡ Some (span 0 9 ∷ only 1 ∷ span 0 1 ∷ []))
    × (distance_on (branching opcodes.Jin (Variable 1 ∷ Constant 3 ∷ []) (pos 8)) true ≡ Some (pos 6))
unfolding operation_of outcome_of shape globals
asks_objects = (refl, refl, refl)

-- objects and attributes are asked for by these operands
asked : (option_map ends (demands_on (branching opcodes.Jin (Variable 1 ∷ Variable 2 ∷ []) (pos 8))).object ≡ Some (span 0 9)) × (option_map ends (demands_on (branching opcodes.Jin (Variable 1 ∷ Variable 2 ∷ []) (pos 8))).attribute ≡ None) × (option_map ends (demands_on (branching opcodes.TestAttr (Variable 1 ∷ Variable 2 ∷ []) (pos 8))).object ≡ Some (span 0 9)) × (option_map ends (demands_on (branching opcodes.TestAttr (Variable 1 ∷ Variable 2 ∷ []) (pos 8))).attribute ≡ Some (only 1)) × (option_map ends (demands_on child).object ≡ Some (span 0 9)) × (option_map ends (demands_on (jump (Variable 2))).object ≡ None) × (option_map ends (demands_on (plain opcodes.SetAttr (Variable 1 ∷ Variable 2 ∷ []))).attribute ≡ Some (only 1))
unfolding operation_of demands_of shape globals child jump
asked = (refl, refl, refl, refl, refl, refl, refl)

-- of the two of a move the one that is moved comes first
moved_objects : (option_map ends (demands_on (plain opcodes.InsertObj (Variable 1 ∷ Variable 2 ∷ []))).object ≡ Some (span 0 9)) × (option_map ends (demands_on (plain opcodes.InsertObj (Variable 1 ∷ Variable 2 ∷ []))).under ≡ Some (only 1)) × (option_map ends (demands_on (plain opcodes.RemoveObj (Variable 2 ∷ []))).object ≡ Some (only 1)) × (option_map ends (demands_on (plain opcodes.RemoveObj (Variable 2 ∷ []))).under ≡ None) × (option_map ends (demands_on (plain opcodes.SetAttr (Variable 1 ∷ Variable 2 ∷ []))).object ≡ Some (span 0 9)) × (option_map ends (demands_on (plain opcodes.ClearAttr (Variable 1 ∷ Variable 2 ∷ []))).attribute ≡ Some (only 1))
unfolding operation_of demands_of shape globals
moved_objects = (refl, refl, refl, refl, refl, refl)

-- of a property, what is asked of each pair of an object and a number; of a length, its address alone
abbrev pair_seen : Pairs Interval → Asked × Ends × Ends
pair_seen p = (p.asked, ends p.objects, ends p.numbers)

abbrev pairs_on : Instruction → Option (Asked × Ends × Ends)
pairs_on i = option_map pair_seen (demands_on i).property

property_asked : (pairs_on (storing opcodes.GetProp (Variable 1 ∷ Variable 2 ∷ []) 0) ≡ Some (Answered Value, span 0 9, only 1)) × (pairs_on (storing opcodes.GetPropAddr (Variable 1 ∷ Variable 2 ∷ []) 0) ≡ Some (Answered Address, span 0 9, only 1)) × (pairs_on (storing opcodes.GetNextProp (Variable 1 ∷ Variable 2 ∷ []) 0) ≡ Some (Answered Next, span 0 9, only 1)) × (pairs_on (plain opcodes.PutProp (Variable 1 ∷ Variable 2 ∷ Constant 9 ∷ [])) ≡ Some (Filled, span 0 9, only 1)) × (pairs_on (storing opcodes.GetPropLen (Variable 1 ∷ []) 0) ≡ None)
unfolding operation_of demands_of shape globals
property_asked = (refl, refl, refl, refl, refl)

property_objects : (option_map ends (demands_on (plain opcodes.PutProp (Variable 1 ∷ Variable 2 ∷ Constant 9 ∷ []))).object ≡ Some (span 0 9)) × (option_map ends (demands_on (storing opcodes.GetProp (Variable 1 ∷ Variable 2 ∷ []) 0)).object ≡ Some (span 0 9)) × (option_map ends (demands_on (storing opcodes.GetPropLen (Variable 1 ∷ []) 0)).address ≡ Some (span 0 9)) × (option_map ends (demands_on (storing opcodes.GetPropLen (Variable 1 ∷ []) 0)).object ≡ None) × (option_map ends (demands_on (plain opcodes.PrintObj (Variable 1 ∷ []))).object ≡ Some (span 0 9))
unfolding operation_of demands_of shape globals
property_objects = (refl, refl, refl, refl, refl)

-- a length is at most 8, and the number of a property at most 31
lengths : (slots_on (storing opcodes.GetPropLen (Constant 9 ∷ []) 0) true ≡ Some (span 0 8 ∷ only 7 ∷ span 20 30 ∷ [])) × (slots_on (storing opcodes.GetNextProp (Constant 1 ∷ Constant 1 ∷ []) 0) true ≡ Some (span 0 31 ∷ only 7 ∷ span 20 30 ∷ [])) × (slots_on (plain opcodes.PutProp (Constant 1 ∷ Constant 1 ∷ Variable 0 ∷ [])) true ≡ Some (span 20 30 ∷ [])) × (outcome_on (plain opcodes.PrintObj (Constant 1 ∷ [])) false ≡ nothing)
unfolding operation_of outcome_of shape globals
lengths = (refl, refl, refl, refl)

-- ---- what prints or does nothing

texts : ((demands_on (plain opcodes.Print [])).has_text ≡ true) × ((demands_on (plain opcodes.NewLine [])).has_text ≡ false) × ((demands_on (plain opcodes.PrintRet [])).has_text ≡ true)
unfolding operation_of demands_of shape globals
texts = (refl, refl, refl)

abbrev text_seen : Texts Interval → Addressing × Ends
text_seen x = (x.addressing, ends x.places)

addressed : (option_map text_seen (demands_on (plain opcodes.PrintAddr (Variable 1 ∷ []))).texts ≡ Some (Byte, span 0 9)) × (option_map text_seen (demands_on (plain opcodes.PrintPaddr (Variable 1 ∷ []))).texts ≡ Some (Packed, span 0 9)) × (option_map text_seen (demands_on (plain opcodes.PrintObj (Variable 1 ∷ []))).texts ≡ None)
unfolding operation_of demands_of shape globals
addressed = (refl, refl, refl)

lines : ((demands_on (plain opcodes.ShowStatus [])).shows_status ≡ true) × ((demands_on (plain opcodes.NewLine [])).shows_status ≡ false)
unfolding operation_of demands_of shape globals
lines = (refl, refl)

abbrev stays : Option (List Ends)
stays = Some (only 7 ∷ span 20 30 ∷ [])

proceeds : (slots_on (plain opcodes.Print []) true ≡ stays) × (slots_on (plain opcodes.NewLine []) true ≡ stays) × (slots_on (plain opcodes.PrintChar (Constant 65 ∷ [])) true ≡ stays) × (slots_on (plain opcodes.PrintNum (Variable 0 ∷ [])) true ≡ Some (span 20 30 ∷ [])) × (slots_on (plain opcodes.Nop []) true ≡ stays) × (slots_on (plain opcodes.PrintAddr (Variable 0 ∷ [])) true ≡ Some (span 20 30 ∷ [])) × (outcome_on (plain opcodes.PrintPaddr (Constant 1 ∷ [])) false ≡ nothing) × (slots_on (plain opcodes.ShowStatus []) true ≡ stays) × (outcome_on (plain opcodes.ShowStatus []) false ≡ nothing) × (slots_on (plain opcodes.InsertObj (Variable 0 ∷ Constant 2 ∷ [])) true ≡ Some (span 20 30 ∷ [])) × (slots_on (plain opcodes.SetAttr (Constant 1 ∷ Constant 2 ∷ [])) true ≡ stays) × (outcome_on (plain opcodes.RemoveObj (Constant 1 ∷ [])) false ≡ nothing) × (slots_on (plain opcodes.Pop []) true ≡ Some (span 20 30 ∷ [])) × (outcome_on (plain opcodes.Nop []) false ≡ nothing)
unfolding operation_of outcome_of shape globals
proceeds = (refl, refl, refl, refl, refl, refl, refl, refl, refl, refl, refl, refl, refl, refl)

-- ---- arrays

-- the array and the index, of what is read and what is written
abbrev elements_seen : Elements Interval → Access × Ends × Ends
elements_seen x = (x.access, ends x.arrays, ends x.indices)

arrays : (option_map elements_seen (demands_on (storing opcodes.Loadb (Variable 1 ∷ Variable 2 ∷ []) 0)).elements ≡ Some (Reading, span 0 9, only 1)) × (option_map elements_seen (demands_on (plain opcodes.Storew (Variable 1 ∷ Variable 2 ∷ Constant 5 ∷ []))).elements ≡ Some (Writing, span 0 9, only 1))
unfolding operation_of demands_of shape globals
arrays = (refl, refl)

-- ---- random numbers

abbrev drawn_from : (lo hi : ℤ) → int_le lo hi ≡ true → Ends
drawn_from lo hi e = ends (drawn_set interval_operations (from lo hi e))

-- up to the greatest range; 0 comes of no range above 0, and of each other alone
drawn : (drawn_from (pos 1) (pos 6) refl ≡ span 1 6) × (drawn_from (pos 4) (pos 4) refl ≡ span 1 4) × (drawn_from (pos 0) (pos 6) refl ≡ span 0 6) × (drawn_from (negsuc 4) (pos 1) refl ≡ span 0 1) × (drawn_from (negsuc 4) (pos 0) refl ≡ only 0) × (drawn_from (negsuc 4) (negsuc 2) refl ≡ only 0) × (drawn_from (negsuc 32767) (pos 32767) refl ≡ span 0 32767) × (drawn_from (pos 32767) (pos 32767) refl ≡ span 1 32767)
drawn = (refl, refl, refl, refl, refl, refl, refl, refl)

draws : (slots_on (storing opcodes.Random (Constant 6 ∷ []) 0) true ≡ Some (span 1 6 ∷ only 7 ∷ span 20 30 ∷ [])) × (slots_on (storing opcodes.Random (Variable 1 ∷ []) 0) true ≡ Some (span 0 9 ∷ only 7 ∷ span 20 30 ∷ [])) × (locals_on (storing opcodes.Random (Variable 0 ∷ []) 2) true ≡ Some (span 0 9 ∷ span 1 7 ∷ span 0 1 ∷ [])) × (outcome_on (storing opcodes.Random (Constant 6 ∷ []) 0) false ≡ nothing)
unfolding operation_of outcome_of shape globals
draws = (refl, refl, refl, refl)

-- ---- lines of the player

abbrev buffers_seen : Buffers Interval → Ends × Ends
buffers_seen b = (ends b.texts, ends b.parses)

heard : (option_map buffers_seen (demands_on (plain opcodes.Sread (Variable 1 ∷ Variable 0 ∷ []))).buffers ≡ Some (span 0 9, only 7)) × ((demands_on (plain opcodes.Sread (Variable 1 ∷ Variable 0 ∷ []))).shows_status ≡ true) × (option_map buffers_seen (demands_on (plain opcodes.ShowStatus [])).buffers ≡ None) × ((demands_on (storing opcodes.Random (Constant 6 ∷ []) 0)).shows_status ≡ false) × (option_map buffers_seen (demands_on (storing opcodes.Random (Constant 6 ∷ []) 0)).buffers ≡ None)
unfolding operation_of demands_of shape globals
heard = (refl, refl, refl, refl, refl)

hears : (slots_on (plain opcodes.Sread (Constant 640 ∷ Variable 0 ∷ [])) true ≡ Some (span 20 30 ∷ [])) × (locals_on (plain opcodes.Sread (Constant 640 ∷ Constant 656 ∷ [])) true ≡ Some (span 0 9 ∷ only 1 ∷ span 0 1 ∷ [])) × (outcome_on (plain opcodes.Sread (Constant 640 ∷ Constant 656 ∷ [])) false ≡ nothing)
unfolding operation_of outcome_of shape globals
hears = (refl, refl, refl)

-- ---- saves

abbrev of_saves : Operation → Bool → Option (Outcome Interval)
of_saves operation c = outcome_of interval_operations globals (with_objects 0) operation [] (λ k. from (pos 0) (pos 0) refl) shape c

abbrev tested : Option (Outcome Interval) → Option (Option Bool)
tested w = option_map (λ x. x.tests) w

-- whether a save is kept isn't known; of a restore only that there is no save to go on from; nothing comes of a restart
saves : (tested (of_saves operations.Save true) ≡ Some (Some true)) × (tested (of_saves operations.Save false) ≡ Some (Some false)) × (of_saves operations.Restore true ≡ nothing) × (tested (of_saves operations.Restore false) ≡ Some (Some false)) × (of_saves operations.Restart true ≡ nothing) × (of_saves operations.Restart false ≡ nothing)
unfolding outcome_of globals shape
saves = (refl, refl, refl, refl, refl, refl)

-- 1 is returned behind a text, and what is read, one of two values too
returns_known : (returned_on (plain opcodes.PrintRet []) true ≡ Some (only 1)) × (returned_on (plain opcodes.PrintRet []) false ≡ None) × (returned_on (plain opcodes.Rfalse []) true ≡ Some (only 0)) × (returned_on (plain opcodes.Ret (Variable 3 ∷ [])) true ≡ Some (span 0 1))
unfolding operation_of outcome_of shape globals
returns_known = (refl, refl, refl, refl)

-- nothing comes of quit
ends_there : (outcome_on (plain opcodes.Quit []) true ≡ nothing) × (outcome_on (plain opcodes.Quit []) false ≡ nothing) × (outcome_on (plain opcodes.Restart []) true ≡ nothing)
unfolding operation_of outcome_of shape globals
ends_there = (refl, refl, refl)

-- ---- how the code keeps it

row : List ℕ
row = 3 ∷ 4 ∷ []

kept : ((shape_of row row).locals ≡ 3 ∷ 4 ∷ []) × ((shape_of row row).slots ≡ 4 ∷ 3 ∷ []) × (both {V = ℕ} 5 6 0 ≡ 5) × (both {V = ℕ} 5 6 1 ≡ 6)
unfolding row
kept = (refl, refl, refl, refl)
