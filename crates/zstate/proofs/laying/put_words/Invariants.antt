use Rattle.std.proofs.Common.{◌≡◌, ◌≤◌, ◌+◌, ◌++◌, length, take}
use Rattle.std.specs.Prelude.{vec_len, vec_capacity}
use Rattle.zquetzal.specs.Reading.{words_of}
use Rattle.zstate.proofs.laying.put_words.Given as goal

abbrev pub invariant-loop-number : goal.invariant-loop-number
invariant-loop-number l = record {
  so_far : l.words.items ≡ l.fn.words.items ++ take l.number (words_of l.fn.saved);
  room : vec_len l.words + length (words_of l.fn.saved) ≤ vec_capacity l.words + l.number;
}
