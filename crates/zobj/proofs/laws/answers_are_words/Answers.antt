use Rattle.zobj.proofs.Answering.{answer_word, length_small, next_answer_small, of_readable}
use Rattle.zobj.proofs.laws.answers_are_words.Goals as goal

pub returns-clause-words : goal.returns-clause-words
returns-clause-words c = answer_word

pub returns-clause-numbers : goal.returns-clause-numbers
returns-clause-numbers c = next_answer_small

pub returns-clause-lengths : goal.returns-clause-lengths
returns-clause-lengths c = length_small

pub returns-clause-readable : goal.returns-clause-readable
returns-clause-readable c = of_readable
