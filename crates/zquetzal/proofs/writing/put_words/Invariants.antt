use Rattle.std.proofs.Common.{◌≡◌, ◌≤◌, ◌+◌, ◌*◌, ◌++◌, take, vec_len, vec_capacity}
use Rattle.zquetzal.specs.Grammar.{words_bytes}
use Rattle.zquetzal.proofs.writing.put_words.Given as goal

abbrev pub invariant-loop-word : goal.invariant-loop-word
invariant-loop-word l = record {
  items : l.out.items ≡ l.fn.out.items ++ words_bytes (take l.word-index l.words);
  len : vec_len l.out ≡ vec_len l.fn.out + 2 * l.word-index;
  room : vec_capacity l.fn.out ≤ vec_capacity l.out;
}
