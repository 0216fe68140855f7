use Rattle.std.proofs.Common.{ℕ, ◌<◌, ◌+◌, ◌*◌}
use Rattle.zstory.specs.LoadedStory.{abbreviations}
use Rattle.zjudge.specs.Memory.{AreKept}
use Rattle.zjudge.specs.Parts.{IsLedTo}
use Rattle.zjudge.proofs.kept.are_abbreviations_kept.Given as goal

abbrev pub invariant-loop-number : goal.invariant-loop-number
invariant-loop-number l = (number : ℕ) → number < l.number → AreKept l.story l.saved (IsLedTo l.story.memory (abbreviations l.story + 2 * number))
