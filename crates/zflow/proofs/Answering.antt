-- What is known, part by part, is what the definitions say of an instruction.
use Rattle.std.proofs.Common.{◌≡◌, ℕ, Bool, List, drop, Option, refl, sym, subst}
use Rattle.std.specs.Prelude.{reverse, IfSome}
use Rattle.zpairs.specs.Frozen.{FrozenStory}
use Rattle.zcode.specs.declared.opcode.Opcode.{Opcode}
use Rattle.zcode.specs.declared.instr.Operand.{Operand}
use Rattle.zcode.specs.declared.operation.Operation.{Operation}
use Rattle.zcode.specs.Instruction.{Instruction}
use Rattle.zcode.specs.Operation.{operation_of, inputs, target}
use Rattle.zdomain.specs.Domain.{SetOperations}
use Rattle.zflow.specs.declared.flow.Edge.{Edge}
use Rattle.zflow.specs.declared.parts.Demands.{Demands}
use Rattle.zflow.specs.declared.parts.Outcome.{Outcome}
use Rattle.zflow.specs.Transfer.{Shape, pops, below, operand_set, demands_of, demands_at, outcome_of, outcome_at, mid_shape, after, narrowed, with_result, with_assigned}
use Rattle.zflow.specs.Kept.{both, shape_of}
use Rattle.zflow.proofs.Operands.{demands_read, outcome_read}

module _ {V : Type 0} (o : SetOperations V) where
  pub demands_are : (globals : List V) (i : Instruction) (e : Shape V) (opcode : Opcode) (operation : Operation) (operands : List Operand) (first second : V) (d : Demands V) → opcode ≡ i.opcode → operation ≡ operation_of opcode → operands ≡ inputs i → first ≡ operand_set o globals operands e 0 → second ≡ operand_set o globals operands e 1 → d ≡ demands_of o operation (both first second) → d ≡ demands_at o globals i e
  demands_are globals i e opcode operation operands first second d same_opcode same_operation same_operands is_first is_second is =
      rw (is, is_first, is_second, same_operation, same_opcode, same_operands) (sym (demands_read o (operation_of i.opcode) (operand_set o globals (inputs i) e)))

  pub outcome_is : (globals : List V) (told : FrozenStory) (i : Instruction) (e : Shape V) (opcode : Opcode) (operation : Operation) (operands : List Operand) (first second : V) (seen_globals : List V) (popped : ℕ) (m : Shape V) (c : Bool) (w : Option (Outcome V)) → opcode ≡ i.opcode → operation ≡ operation_of opcode → operands ≡ inputs i → first ≡ operand_set o globals operands e 0 → second ≡ operand_set o globals operands e 1 → seen_globals ≡ globals → popped ≡ pops operands → m ≡ below popped e → w ≡ outcome_of o seen_globals told operation operands (both first second) m c → w ≡ outcome_at o globals i e told c
  outcome_is globals told i e opcode operation operands first second seen_globals popped m c w same_opcode same_operation same_operands is_first is_second same_globals is_popped is_mid is =
      rw (is, is_mid, is_popped, same_globals, is_first, is_second, same_operation, same_opcode, same_operands) (sym (outcome_read o globals told (operation_of i.opcode) (inputs i) (operand_set o globals (inputs i) e) (below (pops (inputs i)) e) c))

  pub mid_is : (globals : List V) (i : Instruction) (locals slots rest : List V) (operands : List Operand) (popped : ℕ) → operands ≡ inputs i → popped ≡ pops operands → reverse rest ≡ drop popped (reverse slots) → shape_of locals rest ≡ mid_shape o globals i (shape_of locals slots)
  mid_is globals i locals slots rest operands popped same_operands is_popped is_rest = rw (is_rest, is_popped, same_operands) refl

  -- what is known behind an edge, by what the operands left
  pub behind_is : (globals : List V) (i : Instruction) (e m : Shape V) (edge : Option (Edge V)) → m ≡ mid_shape o globals i e → IfSome edge (λ x. x.after ≡ narrowed o x.outcome.kept (with_result x.outcome.gives (target i) (with_assigned x.outcome.assigns m))) → IfSome edge (λ x. x.after ≡ after o globals i e x.outcome)
  behind_is globals i e m edge mid is = subst (λ (f : Shape V). IfSome edge (λ x. x.after ≡ narrowed o x.outcome.kept (with_result x.outcome.gives (target i) (with_assigned x.outcome.assigns f)))) mid is
