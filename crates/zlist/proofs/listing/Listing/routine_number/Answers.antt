use Rattle.std.proofs.Common.{◌≡◌, ◌<◌, slice_index, subst, ℕ, rules}
use Rattle.zlist.proofs.Tables.{Tells-from_table, bound_from_table}
use Rattle.zlist.proofs.listing.Listing.routine_number.Goals as goal

pub returns-clause-told : goal.returns-clause-told
returns-clause-told c =
    let i = c.self.inside in
    let read : c.unwrap_or.result ≡ slice_index i.routine_numbers.items c.args.address = search rules in
    rw (← c.self.view_is, read) (Tells-from_table i.routines.items i.routine_numbers.items c.self.invariant.order.routines_rising c.self.invariant.routines c.args.address)

pub returns-clause-limit : goal.returns-clause-limit
returns-clause-limit c =
    let i = c.self.inside in
    let read : c.unwrap_or.result ≡ slice_index i.routine_numbers.items c.args.address = search rules in
    λ above. bound_from_table i.routines.items i.routine_numbers.items 131072 c.self.invariant.order.routines_inside c.self.invariant.routines c.args.address (subst (λ (n : ℕ). 0 < n) read above)
