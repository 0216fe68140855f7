use Rattle.std.proofs.Common.{◌+◌, ◌∙◌, refl, sym}
use Rattle.zruns.specs.Runs.{cell_at, merged_below}
use Rattle.zruns.proofs.Pieces.{one_fails, one_holds}
use Rattle.zruns.proofs.piece.each_open.Goals as goal

pub loop-more-init : goal.loop-more-init
unfolding merged_below
loop-more-init c = refl

pub returns-then-not-are_open : goal.returns-then-not-are_open
returns-then-not-are_open c = sym (one_fails (λ c. c.is_open) (λ a b. refl) c.args.size c.loop-more.more (λ k. cell_at (record { story = c.args.marked.story.now; ranges = c.args.marked.ranges.now }) c.args.width (c.args.from + k)) c.loop-more-test.true (sym c.are_open.ensures ∙ c.if-not-are_open.true))

pub loop-more-preserved : goal.loop-more-preserved
loop-more-preserved c = one_holds (λ c. c.is_open) (λ a b. refl) c.loop-more.more (λ k. cell_at (record { story = c.args.marked.story.now; ranges = c.args.marked.ranges.now }) c.args.width (c.args.from + k)) c.loop-more.invariant (sym c.are_open.ensures ∙ c.if-not-are_open.false)
