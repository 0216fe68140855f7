use Rattle.std.proofs.Common.{◌≡◌, ◌+◌, ◌-◌, ◌≤◌, length, slice_get}
use Rattle.zengine.specs.Lying.{AreHeads, chain_of, newest_of}
use Rattle.zmachine.proofs.parts.lying_at.Given as goal

abbrev pub invariant-loop-left : goal.invariant-loop-left
invariant-loop-left g l = record {
  most : l.left ≤ l.depth;
  same : slice_get (chain_of (g.S.Spots.spots l.spots) l.board.words.items l.board.above (newest_of (g.S.Spots.spots l.spots) l.board)) l.depth ≡ slice_get (chain_of (g.S.Spots.spots l.spots) l.board.words.items (l.board.above - l.depth + l.left) l.lying) l.left;
  heads : AreHeads (g.S.Spots.spots l.spots) l.board.words.items (l.board.above - l.depth + l.left) l.lying.base;
  head : 5 ≤ l.lying.base;
  within : l.lying.base ≤ length l.board.words.items;
}

abbrev pub decreases-loop-left : goal.decreases-loop-left
decreases-loop-left g l = l.left
