use Rattle.std.proofs.Common.{◌==◌}
use Rattle.std.proofs.lemmas.Bool.{ltb-true}
use Rattle.zlist.proofs.Tables.{list_any-told}
use Rattle.zlist.proofs.listing.Listing.contains.Goals as goal

pub returns-clause-value : goal.returns-clause-value
returns-clause-value c = list_any-told (λ r. r.address == c.args.address) c.args.self.now.records c.record_number.result c.record_number.ensures.told

pub returns-clause-limit : goal.returns-clause-limit
returns-clause-limit c = λ h. c.record_number.ensures.limit (ltb-true 0 c.record_number.result h)
