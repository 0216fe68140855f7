use Rattle.std.proofs.Common.{◌∙◌, ap}
use Rattle.zpairs.specs.Cells.{passes}
use Rattle.zpairs.proofs.Regrouped.{cell_told}
use Rattle.zpairs.proofs.properties.Properties.passes.Goals as goal

pub returns : goal.returns
returns c = c.passes.ensures ∙ ap (passes c.args.test c.args.number) (cell_told c.args.self.now c.marked.result.story.now c.marked.result.ranges.now c.args.object c.args.number c.property.result.now c.marked.ensures.story c.marked.ensures.ranges c.property.ensures.found)
