use Rattle.std.proofs.Common.{FitsSigned, ◌∙◌, ap, rules, w32}
use Rattle.std.proofs.lemmas.Int.{to_z-of_z}
use Rattle.zstate.specs.State.{State}
use Rattle.zstate.proofs.Piles.{resumed_is}
use Rattle.zstate.proofs.state.State.resumed.Goals as goal

pub returns : goal.returns
returns c =
    let fits : FitsSigned w32 c.save_place.result = search rules in
    resumed_is c.args.story.now c.args.save.now c.args.now.now _ _ _ _ c.frames.ensures.frames (rw (c.memory.ensures, c.memory-2.ensures) at c.in_ok-memory.ensures)
    (rw c.frames.ensures.value at c.in_ok-frames.ensures) (to_z-of_z w32 c.save_place.result fits ∙ c.save_place.ensures) (ap (λ (t : State). t.random) c.now.view_is)
