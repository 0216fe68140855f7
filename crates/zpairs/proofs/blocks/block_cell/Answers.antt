use Rattle.std.proofs.Common.{◌≡◌, ◌*◌, ℕ, ap, arith}
use Rattle.zpairs.proofs.Regrouped.{no_block}
use Rattle.zpairs.proofs.blocks.block_cell.Goals as goal

pub returns-else-from-block : goal.returns-else-from-block
returns-else-from-block c =
    let length = c.from.ensures in
    let objects = c.objects.ensures.value in
    let count = c.from-2.ensures in
    let few = c.if-from-block.false in
    let same : c.from.result * c.args.block ≡ 16 * c.args.block = ap (λ (n : ℕ). n * c.args.block) length in
    no_block (record { story = c.args.marked.story.now; ranges = c.args.marked.ranges.now }) c.args.block c.args.number (omega (arith, few, count, objects, same))
