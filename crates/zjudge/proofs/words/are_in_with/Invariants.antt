use Rattle.std.proofs.Common.{ℕ, ◌<◌, slice_set}
use Rattle.zdomain.specs.Domain.{In}
use Rattle.zquetzal.specs.Reading.{words_of}
use Rattle.zjudge.proofs.Zips.{At}
use Rattle.zjudge.proofs.words.are_in_with.Given as goal

abbrev pub invariant-loop-index : goal.invariant-loop-index
invariant-loop-index g l = (k : ℕ) → k < l.index → (x : ℕ) → In g.V.Domain.operations l.values x → At (In g.V.Domain.operations) l.sets (slice_set (words_of l.words) l.put x) k
