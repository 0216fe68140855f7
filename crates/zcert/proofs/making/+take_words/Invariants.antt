use Rattle.std.proofs.Common.{length}
use Rattle.zcert.proofs.making.+take_words.Given as goal

abbrev pub decreases-take_words : goal.decreases-take_words
decreases-take_words l = length l.bytes.now
