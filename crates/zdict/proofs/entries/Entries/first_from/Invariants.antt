use Rattle.std.proofs.Common.{ℕ, ◌-◌, ◌≤◌, ◌<◌}
use Rattle.zstory.specs.Dictionary.{encoded_text}
use Rattle.zdict.proofs.entries.Entries.first_from.Given as goal

abbrev pub invariant-loop-low : goal.invariant-loop-low
invariant-loop-low l =
    record {
      between : l.low ≤ l.high;
      within : l.high ≤ l.self.count;
      below : (entry : ℕ) → entry < l.low → encoded_text l.self.memory.now entry < l.text;
      above : (entry : ℕ) → l.high ≤ entry → entry < l.self.count → l.text ≤ encoded_text l.self.memory.now entry;
    }

abbrev pub decreases-loop-low : goal.decreases-loop-low
decreases-loop-low l = l.high - l.low
