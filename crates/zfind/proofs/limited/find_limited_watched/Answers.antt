use Rattle.std.proofs.Common.{Some, refl}
use Rattle.zdomain.specs.Values.{values_operations}
use Rattle.zfind.proofs.Named.{named_passes}
use Rattle.zfind.proofs.limited.find_limited_watched.Goals as goal

pub returns-clause-passes : goal.returns-clause-passes
returns-clause-passes g c = rw c.with_limit.ensures (named_passes values_operations c.args.story.now c.in_ok-certificate.certificate (Some c.args.limit) c.in_ok-certificate.ensures.passes, refl)
