use Rattle.std.proofs.Common.{◌≡◌, ◌≤◌, ◌+◌, ◌++◌, take}
use Rattle.std.specs.Prelude.{vec_len, vec_capacity}
use Rattle.zstate.specs.Step.{initial, laid_over}
use Rattle.zstate.proofs.frames.lay.Given as goal

abbrev pub invariant-loop-number : goal.invariant-loop-number
invariant-loop-number l = record {
  so_far : l.words.items ≡ l.fn.words.items ++ take l.number (laid_over l.fn.arguments (initial l.fn.memory l.fn.routine));
  room : vec_len l.words + 15 ≤ vec_capacity l.words + l.number;
}
