use Rattle.zfront.proofs.Tellings.{line_pieces_join}
use Rattle.zfront.proofs.told_laws.pieces_of_lines_join.Goals as goal

pub returns : goal.returns
returns c = λ old between new known first second third piece more one two none. line_pieces_join old between new known first second third piece more one two none
