-- What the code answers of an instruction, by the definitions of what may come of it (own).
use Rattle.std.specs.Prelude.{◌≡◌, Bool, true, false, List, Option, option_map, IfSome}
use Rattle.zpairs.specs.Frozen.{FrozenStory}
use Rattle.zcode.specs.Instruction.{Instruction}
use Rattle.zcode.specs.Operation.{inputs}
use Rattle.zdomain.specs.Domain.{SetOperations}
use Rattle.zflow.specs.declared.flow.Edge.{Edge}
use Rattle.zflow.specs.declared.flow.Flow.{Flow}
use Rattle.zflow.specs.Transfer.{Shape, pops, demands_at, outcome_at, leading, after}

module _ {V : Type 0} (o : SetOperations V) (globals : List V) (told : FrozenStory) (i : Instruction) (e : Shape V) where
  -- the edge where the condition is answered so, if it can be taken, with what is known behind it
  pub record IsEdge (c : Bool) (edge : Option (Edge V)) : Type 0 where
    pub outcome : option_map (λ x. x.outcome) edge ≡ outcome_at o globals i e told c
    pub lead : IfSome edge (λ x. x.lead ≡ leading o x.outcome i.branch)
    pub behind : IfSome edge (λ x. x.after ≡ after o globals i e x.outcome)

  -- all that may come of an instruction
  pub record IsFlow (flow : Flow V) : Type 0 where
    pub popped : flow.popped ≡ pops (inputs i)
    pub demands : flow.demands ≡ demands_at o globals i e
    pub held : IsEdge true flow.held
    pub failed : IsEdge false flow.failed
