use Rattle.std.proofs.Common.{◌≡◌, ◌+◌, ◌++◌, length, take}
use Rattle.zquetzal.specs.Reading.{words_of}
use Rattle.zengine.proofs.resuming.put_words.Given as goal

abbrev pub invariant-loop-number : goal.invariant-loop-number
invariant-loop-number l = record {
  size : length l.words ≡ length l.fn.words;
  so_far : take (l.top + l.number) l.words ≡ take l.top l.fn.words ++ take l.number (words_of l.bytes);
}
