use Rattle.zcode.proofs.ReadingLaws.{one_front, one_instruction}
use Rattle.zcode.proofs.laws.one_spelling.Goals as goal

pub returns-clause-instruction : goal.returns-clause-instruction
returns-clause-instruction c = one_instruction

pub returns-clause-bytes : goal.returns-clause-bytes
returns-clause-bytes c = one_front
