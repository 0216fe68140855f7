use Rattle.std.proofs.Common.{◌+◌, ◌*◌, arith}
use Rattle.zpairs.specs.Frozen.{FrozenStory}
use Rattle.zpairs.proofs.Found.{found_readable}
use Rattle.zpairs.proofs.Regrouped.{cell_here, found_read}
use Rattle.zpairs.proofs.blocks.object_cell.Goals as goal

pub cell_of-requires : goal.cell_of-requires
cell_of-requires c =
    let number = c.from-then-below-from.ensures in
    let objects = c.objects.ensures.value in
    let count = c.from.ensures in
    let below = c.if-below-from.true in
    let told : FrozenStory = record { story = c.args.marked.story.now; ranges = c.args.marked.ranges.now } in
    found_readable c.args.marked.story.now.memory (c.args.below + 1) c.args.number _ (found_read told c.args.found.now (c.args.below + 1) c.args.number (33 * c.args.below + c.from-then-below-from.result) c.requires.there (omega arith) (omega (arith, below, count, objects)) c.requires.small (omega (arith, number)))

pub returns-then-below-from : goal.returns-then-below-from
returns-then-below-from c =
    let number = c.from-then-below-from.ensures in
    let objects = c.objects.ensures.value in
    let count = c.from.ensures in
    let below = c.if-below-from.true in
    cell_here (record { story = c.args.marked.story.now; ranges = c.args.marked.ranges.now }) c.args.found.now c.args.below c.args.number (33 * c.args.below + c.from-then-below-from.result) c.cell_of.result c.requires.there (omega (arith, below, count, objects)) c.requires.small (omega (arith, number)) c.cell_of.ensures
