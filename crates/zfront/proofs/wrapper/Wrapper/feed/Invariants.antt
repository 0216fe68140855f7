use Rattle.std.proofs.Common.{◌≤◌, ◌+◌, length, take, vec_len}
use Rattle.std.specs.Vec.{vec_capacity}
use Rattle.zfront.specs.Wrapping.{FeedsTo, IsHeld}
use Rattle.zfront.proofs.wrapper.Wrapper.feed.Given as goal

-- the first bytes were taken, and there is room for what is held and the others
abbrev pub invariant-loop-byte : goal.invariant-loop-byte
invariant-loop-byte l =
    record {
      fed : FeedsTo l.initial.self l.self (take l.byte-index l.piece) l.initial.out.items l.out.items;
      held : IsHeld l.self.width l.self.column l.self.held;
      room : vec_len l.out + length l.self.held + length l.piece ≤ vec_capacity l.out + l.byte-index;
      capacity : vec_capacity l.initial.out ≤ vec_capacity l.out;
    }
