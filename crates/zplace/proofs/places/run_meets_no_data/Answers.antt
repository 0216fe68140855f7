use Rattle.std.proofs.Common.{refl}
use Rattle.zplace.proofs.Lists.{run_where}
use Rattle.zplace.proofs.places.run_meets_no_data.Goals as goal

pub returns-then-not-is_apart : goal.returns-then-not-is_apart
returns-then-not-is_apart c =
    let parts = run_where c.args.memory.now c.args.from c.args.size c.loop-end.at c.in-Some.end c.in-Some.ensures.value.0 c.in-Some.ensures.value.1 in
    (λ no. absurd cc, λ none. c.if-not-is_apart.ensures.1 (parts.0 (c.loop-end.invariant.0 none)).0)

pub loop-end-preserved : goal.loop-end-preserved
loop-end-preserved c =
    let parts = run_where c.args.memory.now c.args.from c.args.size c.loop-end.at c.in-Some.end c.in-Some.ensures.value.0 c.in-Some.ensures.value.1 in
    (λ none. (parts.0 (c.loop-end.invariant.0 none)).1, λ rest. c.loop-end.invariant.1 (parts.1 (c.if-not-is_apart.ensures.0 refl, rest)))
