use Rattle.std.proofs.Common.{ℕ, ◌≤◌}
use Rattle.zobj.specs.declared.tree.Link.{Link}
use Rattle.zobj.specs.Tree.{linked}
use Rattle.zcheck.proofs.objects.has_tree.Given as goal

abbrev pub invariant-loop-below : goal.invariant-loop-below
invariant-loop-below l = (link : Link) (object : ℕ) → 1 ≤ object → object ≤ l.below → linked link l.story.memory object ≤ l.story.objects
