use Rattle.zfront.proofs.Parting.{shown_join}
use Rattle.zfront.proofs.page_laws.shown_pieces_join.Goals as goal

pub returns : goal.returns
returns c = shown_join
