use Rattle.std.proofs.Common.{◌≡◌, ◌<◌, ℕ, None}
use Rattle.std.specs.Prelude.{pos}
use Rattle.zlist.specs.Listed.{IsFirstAt}
use Rattle.zlist.proofs.lister.fault_inside.Given as goal

abbrev pub invariant-loop-address : goal.invariant-loop-address
invariant-loop-address l = record {
  same : l.ends ≡ l.story.memory;
  none : (k : ℕ) → k < l.address → IsFirstAt l.story (pos k) None;
}
