use Rattle.std.proofs.Common.{◌≡◌, ◌≤◌, ◌*◌, length, take}
use Rattle.zquetzal.specs.Grammar.{frames_bytes}
use Rattle.zquetzal.proofs.writing.frames_length.Given as goal

abbrev pub invariant-loop-number : goal.invariant-loop-number
invariant-loop-number g l = record {
  value : l.bytes ≡ length (frames_bytes (take l.number (g.S.SaveParts.saved l.parts).frames));
  most : l.bytes ≤ 131108 * l.number;
}
