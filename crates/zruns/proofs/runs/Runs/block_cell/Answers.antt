use Rattle.std.proofs.Common.{◌∙◌, ap, subst, sym}
use Rattle.zarray.specs.declared.width.Width.{Width}
use Rattle.zarray.specs.declared.width.Width.TheVariants.{Byte, Word}
use Rattle.zpairs.specs.Frozen.{FrozenStory}
use Rattle.zruns.specs.Blocks.{AreBlocks, block_cell}
use Rattle.zruns.proofs.Pieces.{block_read}
use Rattle.zruns.proofs.runs.Runs.block_cell.Goals as goal

pub returns-in-Byte : goal.returns-in-Byte
returns-in-Byte c =
    c.cell_in.ensures
    ∙ block_read c.args.self.now Byte c.self.inside.bytes.now c.args.block (subst (λ (told : FrozenStory). AreBlocks told Byte c.self.inside.bytes.now) c.self.view_is c.self.invariant.0) c.requires
    ∙ ap (λ (width : Width). block_cell c.args.self.now width c.args.block) (sym c.in-Byte.is)

pub returns-in-Word : goal.returns-in-Word
returns-in-Word c =
    c.cell_in-in-Word.ensures
    ∙ block_read c.args.self.now Word c.self.inside.words.now c.args.block (subst (λ (told : FrozenStory). AreBlocks told Word c.self.inside.words.now) c.self.view_is c.self.invariant.1) c.requires
    ∙ ap (λ (width : Width). block_cell c.args.self.now width c.args.block) (sym c.in-Word.is)
