use Rattle.std.proofs.Common.{nat_lt, rules}
use Rattle.std.proofs.lemmas.List.Sorted.{answers_always}
use Rattle.zlist.proofs.Orders.{records_rise_by_neighbours}
use Rattle.zlist.proofs.order.do_records_rise.Goals as goal

pub returns : goal.returns
returns c =
    records_rise_by_neighbours c.args.records.now c.is_sorted_by.result (c.is_sorted_by.ensures.cases (λ x y. nat_lt x.address y.address) (answers_always _ _ _ (λ f a r g k. search rules)))
