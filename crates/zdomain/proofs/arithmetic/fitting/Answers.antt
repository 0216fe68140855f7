use Rattle.zdomain.proofs.Reading.{fitting_is}
use Rattle.zdomain.proofs.arithmetic.fitting.Goals as goal

pub returns-in-Some : goal.returns-in-Some
returns-in-Some c = fitting_is c.args.low c.args.high c.in-Some.interval c.new.result c.ranges.low c.ranges.high c.if-low-ltminus32768.false c.if-low-gt32767.false c.if-high-ltminus32768.false c.if-high-gt32767.false c.new.ensures.made c.in-Some.is
