use Rattle.std.proofs.Common.{◌==◌}
use Rattle.std.proofs.lemmas.Bool.{ltb-true}
use Rattle.zlist.proofs.Tables.{list_any-told}
use Rattle.zlist.proofs.listing.Listing.is_routine.Goals as goal

pub returns-clause-value : goal.returns-clause-value
returns-clause-value c = list_any-told (λ a. a == c.args.address) c.args.self.now.routines c.routine_number.result c.routine_number.ensures.told

pub returns-clause-limit : goal.returns-clause-limit
returns-clause-limit c = λ h. c.routine_number.ensures.limit (ltb-true 0 c.routine_number.result h)
