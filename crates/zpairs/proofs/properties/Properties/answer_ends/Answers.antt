use Rattle.std.proofs.Common.{◌∙◌, ap}
use Rattle.zpairs.specs.Pairs.{answer_ends}
use Rattle.zpairs.proofs.Regrouped.{cell_told}
use Rattle.zpairs.proofs.properties.Properties.answer_ends.Goals as goal

pub returns : goal.returns
returns c = c.answer_ends.ensures ∙ ap (answer_ends c.args.question) (cell_told c.args.self.now c.marked.result.story.now c.marked.result.ranges.now c.args.object c.args.number c.property.result.now c.marked.ensures.story c.marked.ensures.ranges c.property.ensures.found)
