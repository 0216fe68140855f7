use Rattle.std.proofs.Common.{◌≡◌, ◌≤◌, ◌+◌, ◌++◌, length, take, vec_len, vec_capacity}
use Rattle.zquetzal.specs.Grammar.{frames_bytes}
use Rattle.zquetzal.proofs.writing.put_frames.Given as goal

abbrev pub invariant-loop-number : goal.invariant-loop-number
invariant-loop-number g l = record {
  items : l.out.items ≡ l.fn.out.items ++ frames_bytes (take l.number (g.S.SaveParts.saved l.parts).frames);
  len : vec_len l.out ≡ vec_len l.fn.out + length (frames_bytes (take l.number (g.S.SaveParts.saved l.parts).frames));
  room : vec_capacity l.fn.out ≤ vec_capacity l.out;
}
