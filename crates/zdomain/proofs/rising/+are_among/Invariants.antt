use Rattle.std.proofs.Common.{length, ◌+◌}
use Rattle.zdomain.proofs.rising.+are_among.Given as goal

abbrev pub decreases-are_among : goal.decreases-are_among
decreases-are_among l = length l.words.now + length l.others.now
