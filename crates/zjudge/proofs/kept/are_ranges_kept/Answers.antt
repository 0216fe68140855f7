use Rattle.std.proofs.Common.{refl, rules, arith}
use Rattle.std.proofs.lemmas.Option.{slice_get_read}
use Rattle.zjudge.proofs.Closed.{range_at, ranges_more}
use Rattle.zjudge.proofs.kept.are_ranges_kept.Goals as goal

pub returns-then-not-is_range_kept : goal.returns-then-not-is_range_kept
returns-then-not-is_range_kept c =
    (λ no. absurd cc, λ all. c.if-not-is_range_kept.ensures.1 (range_at c.args.story.now c.args.saved.now c.args.ranges.now c.loop-index.index (search (rules, slice_get_read, arith)) all))

pub loop-index-preserved : goal.loop-index-preserved
loop-index-preserved c =
    ranges_more c.args.story.now c.args.saved.now c.args.ranges.now c.loop-index.index c.loop-index.invariant (c.if-not-is_range_kept.ensures.0 refl) (search (rules, slice_get_read, arith))

pub returns : goal.returns
returns c = (λ t k d below. c.loop-index.invariant k (search (rules, arith, below)) d, λ all. search rules)
