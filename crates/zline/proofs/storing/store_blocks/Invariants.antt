use Rattle.std.proofs.Common.{◌≡◌, ℕ, ◌+◌, ◌*◌, ◌-◌, ◌≤◌, length, take}
use Rattle.zdict.specs.Left.{tokens_left}
use Rattle.zdict.specs.Parts.{AreParts}
use Rattle.zline.specs.Storing.{with_blocks, words_of}
use Rattle.zline.proofs.storing.store_blocks.Given as goal

abbrev pub invariant-loop-count : goal.invariant-loop-count
invariant-loop-count l =
    record {
      few : l.count ≤ l.limit;
      size : length l.memory ≡ length l.initial.memory;
      parts : (from : ℕ) × AreParts l.text from (tokens_left l.words);
      counted : length (words_of l.story.memory l.limit l.text) ≡ l.count + length (take (l.limit - l.count) (tokens_left l.words));
      same : with_blocks l.story.memory l.place (words_of l.story.memory l.limit l.text) l.initial.memory ≡ with_blocks l.story.memory (l.place + 4 * l.count) (take (l.limit - l.count) (tokens_left l.words)) l.memory;
    }
