use Rattle.std.proofs.Common.{◌≡◌, ◌<◌, slice_index, subst, ℕ, rules}
use Rattle.zlist.proofs.Tables.{Tells-from_records, bound_from_records}
use Rattle.zlist.proofs.listing.Listing.record_number.Goals as goal

pub returns-clause-told : goal.returns-clause-told
returns-clause-told c =
    let i = c.self.inside in
    let read : c.unwrap_or.result ≡ slice_index i.record_numbers.items c.args.address = search rules in
    rw (← c.self.view_is, read) (Tells-from_records i.records.items i.record_numbers.items c.self.invariant.order.rising c.self.invariant.records c.args.address)

pub returns-clause-limit : goal.returns-clause-limit
returns-clause-limit c =
    let i = c.self.inside in
    let read : c.unwrap_or.result ≡ slice_index i.record_numbers.items c.args.address = search rules in
    λ above. bound_from_records i.records.items i.record_numbers.items 131072 c.self.invariant.order.inside c.self.invariant.records c.args.address (subst (λ (n : ℕ). 0 < n) read above)
