use Rattle.zengine.proofs.Titles.{character_may, line_may, number_may}
use Rattle.zengine.proofs.printing.may_print.Goals as goal

pub returns-in-Character : goal.returns-in-Character
returns-in-Character c = λ m t same there text. rw c.in-Character.is (character_may m t c.args.word)

pub returns-in-Number : goal.returns-in-Number
returns-in-Number c = λ m t same there text. rw c.in-Number.is (number_may m t c.args.word)

pub returns-in-Line : goal.returns-in-Line
returns-in-Line c = λ m t same there text. rw c.in-Line.is (line_may m t)
