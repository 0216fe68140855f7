use Rattle.zfront.proofs.Flushing.{failed_then_finishes, failed_then_passes}
use Rattle.zfront.proofs.laws.failed_writes_lose_nothing.Goals as goal

pub returns-clause-taken : goal.returns-clause-taken
returns-clause-taken c = failed_then_passes

pub returns-clause-flushed : goal.returns-clause-flushed
returns-clause-flushed c = failed_then_finishes
