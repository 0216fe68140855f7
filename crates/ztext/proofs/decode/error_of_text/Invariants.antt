use Rattle.std.proofs.Common.{◌≡◌, length}
use Rattle.ztext.specs.Progress.{first_error, error_of, all_joined, piece_output}
use Rattle.ztext.proofs.decode.error_of_text.Given as goal

abbrev pub invariant-loop-piece : goal.invariant-loop-piece
invariant-loop-piece l = record {
  so_far : first_error l.error (error_of (all_joined (piece_output l.memory) l.pieces)) ≡ error_of (all_joined (piece_output l.memory) l.initial.pieces);
}

abbrev pub decreases-loop-piece : goal.decreases-loop-piece
decreases-loop-piece l = length l.pieces
