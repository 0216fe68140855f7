use Rattle.std.specs.Prelude.{pos}
use Rattle.zlist.proofs.Faults.{something_stands}
use Rattle.zlist.proofs.lister.record_at.Goals as goal

pub returns-in_default-spelled_at-clause-none : goal.returns-in_default-spelled_at-clause-none
returns-in_default-spelled_at-clause-none c = something_stands c.args.story.now (pos c.args.address) c.requires.faultless c.in_default-spelled_at.ensures.none
