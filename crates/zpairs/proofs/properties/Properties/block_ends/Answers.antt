use Rattle.std.proofs.Common.{◌∙◌}
use Rattle.zpairs.proofs.Regrouped.{row_is_block}
use Rattle.zpairs.proofs.properties.Properties.block_ends.Goals as goal

pub returns-then-has_whole : goal.returns-then-has_whole
returns-then-has_whole g c = c.row_ends.ensures ∙ row_is_block g.V.Domain.operations g.met.V.Domain.sound c.args.self.now c.args.question c.args.objects c.args.numbers c.args.block (c.has_whole.ensures c.if-has_whole.true)
