use Rattle.std.proofs.Common.{◌≡◌, ◌++◌, ◌≤◌, length}
use Rattle.zengine.specs.Lying.{AreHeads, chain_of, newest_of}
use Rattle.zengine.proofs.lying.list_frames.Given as goal

abbrev pub invariant-loop-left : goal.invariant-loop-left
invariant-loop-left g l = record {
  all : chain_of (g.S.Spots.spots l.spots) l.board.words.items l.board.above (newest_of (g.S.Spots.spots l.spots) l.board) ≡ l.frames.items ++ chain_of (g.S.Spots.spots l.spots) l.board.words.items l.left l.lying;
  heads : AreHeads (g.S.Spots.spots l.spots) l.board.words.items l.left l.lying.base;
  head : 5 ≤ l.lying.base;
  within : l.lying.base ≤ length l.board.words.items;
}

abbrev pub decreases-loop-left : goal.decreases-loop-left
decreases-loop-left g l = l.left
