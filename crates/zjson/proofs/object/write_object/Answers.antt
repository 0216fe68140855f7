use Rattle.std.proofs.Common.{arith}
use Rattle.zjson.proofs.Lines.{whole}
use Rattle.zjson.proofs.object.write_object.Goals as goal

pub returns-clause-tokens : goal.returns-clause-tokens
returns-clause-tokens c = whole _ _ _ c.loop-member.member-index c.args.members.now (omega (arith, c.loop-member-test.false)) c.loop-member.invariant.1 c.in_ok-end_object.ensures.ok
