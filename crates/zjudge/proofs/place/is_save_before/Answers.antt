use Rattle.std.proofs.Common.{◌≡◌, ◌-◌, sym, ap, rules, arith}
use Rattle.std.specs.Prelude.{pos, ◌-ℤ◌, ℤ}
use Rattle.zstate.specs.State.{scope_only}
use Rattle.zstate.specs.Step.{fetch}
use Rattle.zstate.specs.Saves.{saves}
use Rattle.zjudge.proofs.Going.{listed, none_before, one_before, unlisted}
use Rattle.zjudge.proofs.place.is_save_before.Goals as goal

pub returns-in_default-clause-value : goal.returns-in_default-clause-value
returns-in_default-clause-value c = sym (none_before (scope_only c.args.listing.now) c.args.story.now.memory c.args.place (search (rules, arith)))

pub returns-then-contains-clause-value : goal.returns-then-contains-clause-value
returns-then-contains-clause-value c =
    let back : saves (fetch (scope_only c.args.listing.now) (pos c.args.place -ℤ pos 1) c.args.story.now.memory) ≡ saves (fetch (scope_only c.args.listing.now) (pos (c.args.place - 1)) c.args.story.now.memory) = ap (λ (z : ℤ). saves (fetch (scope_only c.args.listing.now) z c.args.story.now.memory)) (one_before c.args.place (search (rules, arith))) in
    let there = listed c.args.listing.now c.args.story.now.memory (c.args.place - 1) (search (rules, arith)) in
    search (rules, arith, back, there)

pub returns-else-contains-clause-value : goal.returns-else-contains-clause-value
returns-else-contains-clause-value c =
    let back : saves (fetch (scope_only c.args.listing.now) (pos c.args.place -ℤ pos 1) c.args.story.now.memory) ≡ saves (fetch (scope_only c.args.listing.now) (pos (c.args.place - 1)) c.args.story.now.memory) = ap (λ (z : ℤ). saves (fetch (scope_only c.args.listing.now) z c.args.story.now.memory)) (one_before c.args.place (search (rules, arith))) in
    let there = unlisted c.args.listing.now c.args.story.now.memory (c.args.place - 1) (search (rules, arith)) in
    search (rules, arith, back, there)
