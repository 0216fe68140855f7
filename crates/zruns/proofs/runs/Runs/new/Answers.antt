use Rattle.std.proofs.Common.{subst}
use Rattle.zarray.specs.declared.width.Width.TheVariants.{Byte, Word}
use Rattle.zpairs.specs.Frozen.{FrozenStory}
use Rattle.zruns.specs.Blocks.{AreBlocks}
use Rattle.zruns.proofs.Pieces.{same_told}
use Rattle.zruns.proofs.runs.Runs.new.Goals as goal

pub invariant_of-result : goal.invariant_of-result
invariant_of-result c =
    let same = same_told c.args.properties c.marked-marked.result.story.now c.marked-marked.result.ranges.now c.marked-marked.ensures.story c.marked-marked.ensures.ranges in
    (subst (λ (told : FrozenStory). AreBlocks told Byte c.fill_blocks.new.cells) same c.fill_blocks.ensures, subst (λ (told : FrozenStory). AreBlocks told Word c.fill_blocks-2.new.cells) same c.fill_blocks-2.ensures)
