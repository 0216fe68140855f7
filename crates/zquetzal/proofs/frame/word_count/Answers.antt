use Rattle.std.proofs.Common.{sym}
use Rattle.zquetzal.proofs.Words.{length-words_of}
use Rattle.zquetzal.proofs.frame.word_count.Goals as goal

pub returns : goal.returns
returns c = sym (length-words_of c.args.words.now)
