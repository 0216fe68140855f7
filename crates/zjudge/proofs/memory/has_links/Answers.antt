use Rattle.std.proofs.Common.{◌+◌, ◌*◌, ◌-◌, rules, arith}
use Rattle.zjudge.proofs.Closed.{links_where}
use Rattle.zjudge.proofs.memory.has_links.Goals as goal

pub returns-then-saved-place-2 : goal.returns-then-saved-place-2
returns-then-saved-place-2 c = links_where c.args.story.now c.args.saved.now c.args.object (c.object_table.result + 62 + 9 * (c.from.result - 1) + 4) (search (rules, arith)) (search rules)

pub returns-else-saved-place-2 : goal.returns-else-saved-place-2
returns-else-saved-place-2 c = links_where c.args.story.now c.args.saved.now c.args.object (c.object_table.result + 62 + 9 * (c.from.result - 1) + 4) (search (rules, arith)) (search rules)
