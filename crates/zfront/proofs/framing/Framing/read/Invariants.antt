use Rattle.std.proofs.Common.{◌≡◌, [], take, drop}
use Rattle.zfront.specs.Frames.{BeginsFrame, frame_behind, outside}
use Rattle.zfront.proofs.framing.Framing.read.Given as goal

-- what came so far was in the frame, and so is what comes
abbrev pub invariant-loop-at : goal.invariant-loop-at
invariant-loop-at l = record {
  frame : l.self ≡ frame_behind l.initial.self (take l.at l.piece);
  none : outside l.initial.self (take l.at l.piece) ≡ [];
  begins : BeginsFrame l.self (drop l.at l.piece);
}
