use Rattle.std.proofs.Common.{◌∙◌}
use Rattle.zdomain.specs.Marks.{is_marked}
use Rattle.zpairs.proofs.Marking.{size_passed, last_size, no_size}
use Rattle.zpairs.proofs.closed.mark_sizes.Goals as goal

pub loop-end-preserved : goal.loop-end-preserved
loop-end-preserved c p word =
    size_passed c.args.memory.now c.loop-end.at p c.in-Some.end (is_marked c.loop-end.marks p) (is_marked c.mark.new.marks p) c.in-Some.ensures.value.0 c.in-Some.ensures.value.1 c.in-Some.ensures.inside.0 (c.mark.ensures p word)
    ∙ c.loop-end.invariant p word

pub returns-then-at-memory : goal.returns-then-at-memory
returns-then-at-memory c p word =
    last_size c.args.memory.now c.loop-end.at p (is_marked c.loop-end.marks p) (is_marked c.mark-then-at-memory.new.marks p) c.in_default.ensures.value c.if-at-memory.true (c.mark-then-at-memory.ensures p word)
    ∙ c.loop-end.invariant p word

pub returns-else-at-memory : goal.returns-else-at-memory
returns-else-at-memory c p word =
    no_size c.args.memory.now c.loop-end.at p (is_marked c.loop-end.marks p) c.in_default.ensures.value c.if-at-memory.false
    ∙ c.loop-end.invariant p word
