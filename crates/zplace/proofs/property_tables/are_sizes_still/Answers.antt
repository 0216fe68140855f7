use Rattle.std.proofs.Common.{refl}
use Rattle.zplace.specs.Bytes.{IsChanging}
use Rattle.zplace.proofs.Lists.{still_where, last_still_where}
use Rattle.zplace.proofs.property_tables.are_sizes_still.Goals as goal

pub returns-then-not-is_still : goal.returns-then-not-is_still
returns-then-not-is_still c =
    let parts = still_where (IsChanging c.args.story.now) c.args.story.now.memory c.memory.result.now c.memory.ensures.value c.loop-end.at c.in-Some.end c.in-Some.ensures.value.0 c.in-Some.ensures.value.1 c.in-Some.ensures.inside.0 in
    (λ no. absurd cc, λ all. c.if-not-is_still.ensures.1 (parts.0 (c.loop-end.invariant.0 all)).0)

pub loop-end-preserved : goal.loop-end-preserved
loop-end-preserved c =
    let parts = still_where (IsChanging c.args.story.now) c.args.story.now.memory c.memory.result.now c.memory.ensures.value c.loop-end.at c.in-Some.end c.in-Some.ensures.value.0 c.in-Some.ensures.value.1 c.in-Some.ensures.inside.0 in
    (λ all. (parts.0 (c.loop-end.invariant.0 all)).1, λ rest. c.loop-end.invariant.1 (parts.1 (c.if-not-is_still.ensures.0 refl, rest)))

pub returns : goal.returns
returns c =
    let last = last_still_where (IsChanging c.args.story.now) c.args.story.now.memory c.memory.result.now c.memory.ensures.value c.loop-end.at c.in_default.ensures.value in
    (λ yes. c.loop-end.invariant.1 (last.1 (c.is_still-2.ensures.0 yes)), λ all. c.is_still-2.ensures.1 (last.0 (c.loop-end.invariant.0 all)))
