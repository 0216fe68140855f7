use Rattle.std.proofs.Common.{length, ◌+◌}
use Rattle.zdomain.proofs.rising.+add_shared.Given as goal

abbrev pub decreases-add_shared : goal.decreases-add_shared
decreases-add_shared l = length l.words.now + length l.others.now
