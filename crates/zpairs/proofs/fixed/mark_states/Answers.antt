use Rattle.std.proofs.Common.{◌+◌, ◌*◌, [], refl, arith}
use Rattle.zstory.specs.Objects.{object_place}
use Rattle.zpairs.specs.Fixed.{is_within}
use Rattle.zpairs.proofs.Marking.{base_small, none_more, one_more_marked, same_piece}
use Rattle.zpairs.proofs.fixed.mark_states.Goals as goal

pub overflow_add-first : goal.overflow_add-first
overflow_add-first c =
    let within = c.object_table-first.ensures.within in
    let small = base_small (record { story = c.args.story.now; ranges = [] }) c.memory-memory.ensures.sound in
    omega (arith, within, small)

pub loop-below-init : goal.loop-below-init
loop-below-init c = none_more 65536 c.args.marks.now 0 (λ p below. is_within (object_place c.args.story.now.memory (below + 1)) 7 p) refl

pub loop-below-preserved : goal.loop-below-preserved
loop-below-preserved c =
    let table = c.object_table-first.ensures.value in
    let below = c.from.ensures in
    one_more_marked 65536 c.args.marks.now c.loop-below.marks c.mark.new.marks c.loop-below.below (λ p below. is_within (object_place c.args.story.now.memory (below + 1)) 7 p) c.loop-below.invariant
    (same_piece c.loop-below.marks c.mark.new.marks (c.object_table-first.result + 62 + 9 * c.from.result) 7 (object_place c.args.story.now.memory (c.loop-below.below + 1)) 7 (omega (arith, table, below)) refl c.mark.ensures)
