use Rattle.zlist.proofs.Rising.{few_records}
use Rattle.zlist.proofs.listing.Listing.records.Goals as goal

pub returns-clause-few : goal.returns-clause-few
returns-clause-few c =
    rw c.deref.ensures.value (few_records c.self.inside.records.items c.self.invariant.order.rising c.self.invariant.order.inside)
