use Rattle.zdomain.specs.FewModel.{padded_is}
use Rattle.zdomain.proofs.few.padded.Goals as goal

pub returns : goal.returns
returns c = padded_is c.copy_from_slice.new.self c.args.words.now c.requires c.copy_from_slice.ensures.after
