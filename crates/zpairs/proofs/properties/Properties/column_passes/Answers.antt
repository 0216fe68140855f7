use Rattle.std.proofs.Common.{ap, sym, ◌∙◌}
use Rattle.zpairs.specs.Cells.{passes}
use Rattle.zpairs.proofs.Regrouped.{block_where}
use Rattle.zpairs.proofs.properties.Properties.column_passes.Goals as goal

pub returns-then-contains : goal.returns-then-contains
returns-then-contains g c =
    let same = c.passes.ensures ∙ ap (passes c.args.test c.args.number) c.block_cell.ensures in
    let each = block_where c.args.self.now c.args.test c.args.block c.args.number c.requires.some in
    (λ passed has. each.0 (sym same ∙ passed), λ all. same ∙ each.1 (all (c.contains.ensures.0 c.if-contains.true)))
