use Rattle.zobj.proofs.Tables.{story_table}
use Rattle.zobj.proofs.laws.objects_have_entries.Goals as goal

pub returns-clause-table : goal.returns-clause-table
returns-clause-table c = story_table
