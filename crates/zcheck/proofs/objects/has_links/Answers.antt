use Rattle.std.proofs.Common.{rules}
use Rattle.zcheck.proofs.Trees.{each_where}
use Rattle.zcheck.proofs.objects.has_links.Goals as goal

pub returns-then-linked-objects-2 : goal.returns-then-linked-objects-2
returns-then-linked-objects-2 c =
    each_where c.args.story.now.memory c.args.object c.args.story.now.objects (search rules)

pub returns-else-linked-objects-2 : goal.returns-else-linked-objects-2
returns-else-linked-objects-2 c =
    each_where c.args.story.now.memory c.args.object c.args.story.now.objects (search rules)
