use Rattle.zpairs.proofs.Marking.{all_fixed}
use Rattle.zpairs.proofs.fixed.mark_fixed.Goals as goal

pub returns : goal.returns
returns c = all_fixed c.args.story.now c.args.closed.now c.mark_changing.new.marks c.turn_within.new.self c.memory-memory.ensures.sound c.mark_changing.ensures c.turn_within.ensures
