use Rattle.std.proofs.Common.{◌≡◌, ◌+◌, ◌%◌, ◌≤◌, ◌++◌, length, take, sum, vec_len, vec_capacity}
use Rattle.zstory.proofs.loading.copied.Given as goal

abbrev pub invariant-loop-byte : goal.invariant-loop-byte
invariant-loop-byte l =
    record {
      copied : l.memory.items ≡ take 64 l.part ++ take l.byte-index l.behind;
      counted : vec_len l.memory ≡ 64 + l.byte-index;
      room : length l.part ≤ vec_capacity l.memory;
      summed : l.sum ≡ sum (take l.byte-index l.behind) % 65536;
    }
