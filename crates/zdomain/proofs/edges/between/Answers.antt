use Rattle.zdomain.proofs.Reading.{between_read}
use Rattle.zdomain.proofs.edges.between.Goals as goal

pub returns : goal.returns
returns c = between_read c.args.low c.args.high c.new.result c.requires.low c.requires.high c.ranges.low c.ranges.high c.if-high-low.false c.new.ensures.made
