use Rattle.std.proofs.Common.{◌+◌, ◌∙◌, refl, sym, arith}
use Rattle.zruns.specs.Runs.{cell_at, merged_below}
use Rattle.zruns.proofs.Pieces.{all_static, one_fails, one_holds}
use Rattle.zruns.proofs.piece.each_fixed.Goals as goal

pub returns-then-from-static_base : goal.returns-then-from-static_base
returns-then-from-static_base c =
    let base = c.static_base.ensures.value in
    let above = c.if-from-static_base.true in
    sym (all_static (record { story = c.args.marked.story.now; ranges = c.args.marked.ranges.now }) c.memory-memory.ensures.sound c.memory-memory.ensures.counted c.args.width c.args.from c.args.size (omega (arith, base, above)))

pub loop-more-init : goal.loop-more-init
unfolding merged_below
loop-more-init c = refl

pub returns-then-not-are_fixed : goal.returns-then-not-are_fixed
returns-then-not-are_fixed c = sym (one_fails (λ c. c.fixed) (λ a b. refl) c.args.size c.loop-more.more (λ k. cell_at (record { story = c.args.marked.story.now; ranges = c.args.marked.ranges.now }) c.args.width (c.args.from + k)) c.loop-more-test.true (sym c.are_fixed.ensures ∙ c.if-not-are_fixed.true))

pub loop-more-preserved : goal.loop-more-preserved
loop-more-preserved c = one_holds (λ c. c.fixed) (λ a b. refl) c.loop-more.more (λ k. cell_at (record { story = c.args.marked.story.now; ranges = c.args.marked.ranges.now }) c.args.width (c.args.from + k)) c.loop-more.invariant (sym c.are_fixed.ensures ∙ c.if-not-are_fixed.false)
