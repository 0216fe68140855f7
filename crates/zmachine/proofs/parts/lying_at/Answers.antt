use Rattle.std.proofs.Common.{◌≡◌, ◌∙◌, ◌+◌, ◌-◌, ◌<◌, ◌≤◌, ℕ, List, arith, ap, length, slice_get, subst, sym}
use Rattle.zengine.specs.declared.lying.Lying.{Lying}
use Rattle.zengine.specs.declared.board.Board.{Board}
use Rattle.zengine.specs.declared.row.Spot.{Spot}
use Rattle.zengine.specs.Lying.{AreHeads, chain_of, newest_of}
use Rattle.zmachine.proofs.Walking.{chain_first, chain_next, heads_next}
use Rattle.zmachine.proofs.parts.lying_at.Goals as goal

pub loop-left-init : goal.loop-left-init
loop-left-init g c =
    let spots = g.S.Spots.spots c.args.spots.now in
    let board : Board = c.args.board.now in
    let words : List ℕ = board.words.items in
    let depth : ℕ = c.args.depth in
    let most = c.requires.depth in
    let all : board.above - depth + depth ≡ board.above = omega (arith, most) in
    let room = board.room in
    let head = board.head in
    let newest : Lying = newest_of spots board in
    let lying = ap (λ (s : Spot). record { base = board.base; count = s.count; height = s.height }) c.spot-spot.ensures in
    record {
      most = omega arith;
      same = ap (λ (m : ℕ). slice_get (chain_of spots words m newest) depth) (sym all) ∙ ap (λ (l : Lying). slice_get (chain_of spots words (board.above - depth + depth) l) depth) (sym lying);
      heads = subst (λ (m : ℕ). AreHeads spots words m board.base) (sym all) c.requires.heads;
      head = head;
      within = omega (arith, room);
    }

pub caller-lying-requires-clause-is : goal.caller-lying-requires-clause-is
caller-lying-requires-clause-is g c =
    let loop = c.loop-left in
    let some : 0 < loop.left = omega (arith, c.loop-left-test.true) in
    (heads_next (g.S.Spots.spots c.args.spots.now) c.args.board.now.words.items _ loop.lying.base (omega (arith, some)) loop.invariant.heads).0

pub loop-left-preserved : goal.loop-left-preserved
loop-left-preserved g c =
    let loop = c.loop-left in
    let spots = g.S.Spots.spots c.args.spots.now in
    let board = c.args.board.now in
    let words = board.words.items in
    let some : 0 < loop.left = omega (arith, c.loop-left-test.true) in
    let n : ℕ = board.above - c.args.depth + loop.left in
    let next = heads_next spots words n loop.lying.base (omega (arith, some)) loop.invariant.heads in
    let fewer : n - 1 ≡ board.above - c.args.depth + (loop.left - 1) = omega (arith, some) in
    let step = c.caller-lying.ensures in
    let apart = next.0.apart in
    let within = loop.invariant.within in
    record {
      most = (let most = loop.invariant.most in omega (arith, most));
      same = loop.invariant.same ∙ chain_next spots words n loop.lying c.caller-lying.result loop.left some (omega arith) step ∙ ap (λ (m : ℕ). slice_get (chain_of spots words m c.caller-lying.result) (loop.left - 1)) fewer;
      heads = subst (λ (m : ℕ). AreHeads spots words m c.caller-lying.result.base) fewer (subst (λ (l : Lying). AreHeads spots words (n - 1) l.base) (sym step) next.1);
      head = subst (λ (l : Lying). 5 ≤ l.base) (sym step) next.0.head;
      within = subst (λ (l : Lying). l.base ≤ length words) (sym step) (omega (arith, apart, within));
    }

pub returns : goal.returns
returns g c = c.loop-left.invariant.same ∙ chain_first (g.S.Spots.spots c.args.spots.now) c.args.board.now.words.items _ c.loop-left.lying c.loop-left.left (omega (arith, c.loop-left-test.false))
