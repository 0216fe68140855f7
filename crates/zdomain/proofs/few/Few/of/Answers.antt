use Rattle.zdomain.specs.FewModel.{padded_fits, padded_front}
use Rattle.zdomain.proofs.few.Few.of.Goals as goal

pub invariant_of-result : goal.invariant_of-result
invariant_of-result c = rw c.padded.ensures (padded_fits c.args.words.now c.requires)

pub returns : goal.returns
returns c = rw c.padded.ensures (padded_front c.args.words.now)
