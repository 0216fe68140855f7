use Rattle.std.proofs.Common.{sym}
use Rattle.zunpack.proofs.Handed.{reads_back}
use Rattle.zunpack.proofs.unpacking.is_save.Goals as goal

pub returns : goal.returns
returns c = reads_back c.args.story.now c.args.text.now c.read.result c.is_ok.result c.read.ensures.exact c.read.ensures.no_cause (sym c.is_ok.ensures.value)
