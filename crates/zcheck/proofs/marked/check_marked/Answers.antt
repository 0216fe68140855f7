use Rattle.zcheck.proofs.Marks.{faults_at_marks}
use Rattle.zcheck.proofs.marked.check_marked.Goals as goal

pub returns-clause-faults : goal.returns-clause-faults
returns-clause-faults g c = faults_at_marks g.V.Domain.operations g.met.V.Domain.sound g.V.Spelled.format c.args.story c.args.certificate c.well_spelled.ensures c.loaded_soundly.ensures c.in_default-examine_unmarked.ensures
