use Rattle.std.proofs.Common.{◌↔◌, List, subst, rules}
use Rattle.std.specs.Prelude.{IsTrue}
use Rattle.zcert.specs.declared.parts.Range.{Range}
use Rattle.zplace.specs.Bytes.{IsClosed}
use Rattle.zpairs.specs.Frozen.{frozen_by}
use Rattle.zjudge.specs.Memory.{AreKept}
use Rattle.zjudge.proofs.memory.is_memory_described.Goals as goal

pub returns-then-has_tree : goal.returns-then-has_tree
returns-then-has_tree g c =
    let kept : IsTrue c.are_closed_kept.result ↔ AreKept c.args.story.now c.args.saved.now (IsClosed c.args.story.now (frozen_by c.args.certificate.now.ranges)) = subst (λ (rs : List Range). IsTrue c.are_closed_kept.result ↔ AreKept c.args.story.now c.args.saved.now (IsClosed c.args.story.now (frozen_by rs))) c.ranges-then-has_tree.ensures.value c.are_closed_kept.ensures in
    (λ t. record { values = search rules; tree = search rules; kept = kept.0 t }, λ d. kept.1 d.kept)
