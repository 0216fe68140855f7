use Rattle.std.proofs.Common.{◌++◌, ℕ, List, length, ap, ◌∙◌}
use Rattle.std.specs.Prelude.{◌%◌, replicate}
use Rattle.zquetzal.specs.declared.limits.TheConstants.{UMEM}
use Rattle.zunpack.specs.Packing.{changed}
use Rattle.zunpack.specs.View.{told}
use Rattle.zunpack.proofs.Runs.{length-changed}
use Rattle.zunpack.proofs.Made.{plain_chunk}
use Rattle.zunpack.proofs.writing.put_plain.Goals as goal

pub returns-clause-items : goal.returns-clause-items
returns-clause-items c =
    let old = c.args.out.now.items in
    let dynamic = c.args.dynamic.now in
    let ds = told c.args.packed.now in
    let pad : List ℕ = replicate (length dynamic % 2) 0 in
    c.put_pad.ensures.items
    ∙ ap (λ (x : List ℕ). x ++ pad) (c.put_memory.ensures.items ∙ ap (λ (x : List ℕ). x ++ changed dynamic ds) c.put_head.ensures.items)
    ∙ plain_chunk old dynamic (changed dynamic ds) UMEM (length-changed dynamic ds)
