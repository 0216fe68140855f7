use Rattle.std.proofs.Common.{rules, arith}
use Rattle.zcheck.proofs.Apart.{frozen_where}
use Rattle.zcheck.proofs.tables.is_frozen_apart.Goals as goal

pub returns : goal.returns
returns c =
    let range = frozen_where c.args.story.now c.args.range c.from-first.result c.saturating_sub-size.result (search rules) (search (rules, arith)) (search (rules, arith)) (search (rules, arith)) in
    (λ t. range.0 (search (rules, t)), λ apart. let still = range.1 apart in search (rules, still))
