use Rattle.std.proofs.Common.{ℕ, ◌<◌}
use Rattle.zdomain.specs.Domain.{In}
use Rattle.zquetzal.specs.Reading.{words_of}
use Rattle.zjudge.proofs.Zips.{At}
use Rattle.zjudge.proofs.words.are_in.Given as goal

abbrev pub invariant-loop-index : goal.invariant-loop-index
invariant-loop-index g l = (k : ℕ) → k < l.index → At (In g.V.Domain.operations) l.sets (words_of l.words) k
