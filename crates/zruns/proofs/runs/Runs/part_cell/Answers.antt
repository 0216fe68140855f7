use Rattle.std.proofs.Common.{◌∙◌, ap}
use Rattle.zpairs.specs.Frozen.{FrozenStory}
use Rattle.zruns.specs.Blocks.{piece_cell}
use Rattle.zruns.proofs.runs.Runs.part_cell.Goals as goal

pub returns : goal.returns
returns c = c.piece_cell.ensures ∙ ap (λ (told : FrozenStory). piece_cell told c.args.width c.args.from c.args.size) c.marked.ensures
