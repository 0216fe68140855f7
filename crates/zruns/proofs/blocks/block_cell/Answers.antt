use Rattle.std.proofs.Common.{◌*◌, length, refl, subst, List, ℕ, ◌≤◌}
use Rattle.zruns.proofs.Pieces.{block_behind}
use Rattle.zruns.proofs.blocks.block_cell.Goals as goal

pub returns-then-memory-block : goal.returns-then-memory-block
returns-then-memory-block c = block_behind (record { story = c.args.marked.story.now; ranges = c.args.marked.ranges.now }) c.memory-memory.ensures.sound c.memory-memory.ensures.counted c.args.width (256 * c.args.block) c.args.block refl (subst (λ (memory : List ℕ). length memory ≤ 256 * c.args.block) c.memory-memory.ensures.value c.if-memory-block.true)
