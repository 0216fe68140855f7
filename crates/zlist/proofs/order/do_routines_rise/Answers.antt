use Rattle.std.proofs.Common.{nat_lt, rules}
use Rattle.std.proofs.lemmas.List.Sorted.{answers_always}
use Rattle.zlist.proofs.Orders.{rises_by_neighbours}
use Rattle.zlist.proofs.order.do_routines_rise.Goals as goal

pub returns : goal.returns
returns c =
    rises_by_neighbours c.args.routines.now c.is_sorted_by.result (c.is_sorted_by.ensures.cases (λ x y. nat_lt x y) (answers_always _ _ _ (λ f a r g k. search rules)))
