use Rattle.std.proofs.Common.{ℕ, ◌+◌, ◌<◌, ◌≤◌}
use Rattle.zstory.specs.Dictionary.{encoded_text}
use Rattle.zstory.proofs.dictionary.Entries.are_ordered.Given as goal

abbrev pub invariant-loop-entry : goal.invariant-loop-entry
invariant-loop-entry l =
    (entry : ℕ) → entry + 1 < l.entry → encoded_text l.self.memory.now entry ≤ encoded_text l.self.memory.now (entry + 1)
