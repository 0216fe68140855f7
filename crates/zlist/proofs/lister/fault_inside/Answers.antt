use Rattle.std.proofs.Common.{rules, arith}
use Rattle.zlist.proofs.Lowest.{none_more}
use Rattle.zlist.proofs.lister.fault_inside.Goals as goal

pub returns-in-Some-clause-some : goal.returns-in-Some-clause-some
returns-in-Some-clause-some c = (c.loop-address.address, c.in-Some.ensures.first, c.loop-address.invariant.none)

pub loop-address-preserved : goal.loop-address-preserved
loop-address-preserved c = record {
  same = search rules;
  none = none_more c.args.story.now c.loop-address.address c.loop-address.invariant.none c.in_default.ensures.first;
}

pub returns-clause-none : goal.returns-clause-none
returns-clause-none c = λ k l. c.loop-address.invariant.none k (search (rules, arith))
