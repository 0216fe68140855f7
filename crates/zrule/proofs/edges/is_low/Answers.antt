use Rattle.zrule.specs.Edges.{StaysLow}
use Rattle.zrule.proofs.Calling.{if_there}
use Rattle.zrule.proofs.edges.is_low.Goals as goal

pub returns-in-Some : goal.returns-in-Some
returns-in-Some g c = λ claims.
    let room = c.most_before.ensures claims c.in-Some.after in
    if_there c.args.edge.now.after c.in-Some.after (StaysLow g.V.Domain.operations claims c.args.target c.args.edge.now.lead) c.is_at_most.result c.in-Some.is (λ t. room.1 (c.is_at_most.ensures.0 t), λ low. c.is_at_most.ensures.1 (room.0 low))
