use Rattle.std.proofs.Common.{rules, arith}
use Rattle.zjudge.proofs.Closed.{kept_where}
use Rattle.zjudge.proofs.kept.is_kept.Goals as goal

pub returns-else-byte_at : goal.returns-else-byte_at
returns-else-byte_at c = kept_where c.args.story.now c.args.saved.now c.args.place c.is_changing.result c.is_changing.ensures (search (rules, arith)) (search (rules, arith)) (λ same. search (rules, same))
