use Rattle.std.proofs.Common.{refl}
use Rattle.zstory.specs.LoadedStory.{globals}
use Rattle.zpairs.proofs.Marking.{all_changing, same_piece}
use Rattle.zpairs.proofs.fixed.mark_changing.Goals as goal

pub returns : goal.returns
returns c =
    all_changing c.args.story.now c.none.result c.mark.new.marks c.mark-2.new.marks c.mark_states.new.marks c.none.ensures c.mark.ensures
    (same_piece c.mark.new.marks c.mark-2.new.marks c.globals.result 480 (globals c.args.story.now) 480 c.globals.ensures.value refl c.mark-2.ensures)
    c.mark_states.ensures
