use Rattle.std.proofs.Common.{refl, rules, arith}
use Rattle.zjudge.proofs.Closed.{run_more}
use Rattle.zjudge.proofs.kept.are_kept.Goals as goal

pub returns-then-not-is_kept : goal.returns-then-not-is_kept
returns-then-not-is_kept c = (λ no. absurd cc, λ all. c.if-not-is_kept.ensures.1 (all c.loop-place.place (search (rules, arith))))

pub loop-place-preserved : goal.loop-place-preserved
loop-place-preserved c = run_more c.args.story.now c.args.saved.now c.args.from c.loop-place.place c.loop-place.invariant (c.if-not-is_kept.ensures.0 refl)
