use Rattle.std.proofs.Common.{◌≡◌, ◌++◌, length}
use Rattle.ztext.specs.Pieces.{pieces_of}
use Rattle.ztext.specs.Begun.{characters_begun, IsBegun}
use Rattle.ztext.proofs.pieces.Pieces.next_piece.Given as goal

abbrev pub invariant-loop-z : goal.invariant-loop-z
invariant-loop-z l = record {
  left : pieces_of (characters_begun l.self-inside.begun ++ l.self-inside.characters) ≡ l.fn.self;
  begun : IsBegun l.self-inside.begun;
}

abbrev pub decreases-loop-z : goal.decreases-loop-z
decreases-loop-z l = length l.self-inside.characters
