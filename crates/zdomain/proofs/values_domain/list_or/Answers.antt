use Rattle.std.proofs.Common.{sym, ◌∙◌}
use Rattle.zdomain.proofs.Listing.{list_is}
use Rattle.zdomain.proofs.values_domain.list_or.Goals as goal

pub returns-then-is_scattered : goal.returns-then-is_scattered
returns-then-is_scattered c = list_is c.args.other _ c.args.words.now _ c.of.ensures (sym c.is_scattered.ensures ∙ c.if-is_scattered.true)
