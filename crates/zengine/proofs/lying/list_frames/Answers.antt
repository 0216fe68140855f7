use Rattle.std.proofs.Common.{◌-◌, ◌<◌, ◌≤◌, arith, length, subst, sym}
use Rattle.zengine.specs.declared.lying.Lying.{Lying}
use Rattle.zengine.specs.Lying.{AreHeads}
use Rattle.zengine.proofs.Chain.{chain_end, chain_on, head_is, heads_on}
use Rattle.zengine.proofs.lying.list_frames.Goals as goal

pub caller-lying-requires-clause-is : goal.caller-lying-requires-clause-is
caller-lying-requires-clause-is g c = head_is (g.S.Spots.spots c.args.spots.now) c.args.board.now.words.items c.loop-left.left c.loop-left.lying.base (omega (arith, c.loop-left-test.true)) c.loop-left.invariant.heads

pub loop-left-preserved : goal.loop-left-preserved
loop-left-preserved g c =
    let loop = c.loop-left in
    let spots = g.S.Spots.spots c.args.spots.now in
    let words = c.args.board.now.words.items in
    let some : 0 < loop.left = omega (arith, c.loop-left-test.true) in
    let next = heads_on spots words loop.left loop.lying.base some loop.invariant.heads in
    let step = c.caller-lying.ensures in
    record {
      all = chain_on spots words loop.left loop.lying c.caller-lying.result loop.frames.items _ _ some step c.in_ok-push.ensures.items loop.invariant.all;
      heads = subst (λ (l : Lying). AreHeads spots words (loop.left - 1) l.base) (sym step) next.2;
      head = subst (λ (l : Lying). 5 ≤ l.base) (sym step) next.0;
      within = subst (λ (l : Lying). l.base ≤ length words) (sym step) (omega (arith, next.1, loop.invariant.within));
    }

pub returns : goal.returns
returns g c = chain_end (g.S.Spots.spots c.args.spots.now) c.args.board.now.words.items c.loop-left.left c.loop-left.lying c.loop-left.frames.items _ _ (omega (arith, c.loop-left-test.false)) c.in_ok-push-2.ensures.items c.loop-left.invariant.all
