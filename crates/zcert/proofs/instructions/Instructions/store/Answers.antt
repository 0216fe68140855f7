use Rattle.std.proofs.Common.{◌≡◌, ◌+◌, ◌++◌, ◌∷◌, [], length, ap, sym, ◌∙◌}
use Rattle.zcert.specs.Building.{instruction_of}
use Rattle.zcert.specs.Contents.{Kept}
use Rattle.zcert.proofs.Stores.{newest_count, stored_held, stored_instructions}
use Rattle.zcert.proofs.instructions.Instructions.store.Goals as goal

pub invariant_of-self : goal.invariant_of-self
invariant_of-self g c =
    let is = c.self.inside in
    let h = c.args.header in
    let came : is.came ≡ h.locals + h.height = sym (newest_count g.V.Spelled.format g.V.Spelled.keeping g.met.V.Spelled.are_kept is.start is.came is.cells.items c.self.invariant.newest) ∙ ap (λ (k : Kept g.row.V.Denot). length k.values) c.self.view_is ∙ c.requires.counted in
    rw c.push_reserved.ensures.items (stored_held g.V.Spelled.format g.V.Spelled.keeping g.met.V.Spelled.are_kept is.stored.items is.cells.items is.start is.came h c.self.invariant came)

pub returns-clause-instructions : goal.returns-clause-instructions
returns-clause-instructions g c =
    let is = c.self.inside in
    let h = c.args.header in
    let came : is.came ≡ h.locals + h.height = sym (newest_count g.V.Spelled.format g.V.Spelled.keeping g.met.V.Spelled.are_kept is.start is.came is.cells.items c.self.invariant.newest) ∙ ap (λ (k : Kept g.row.V.Denot). length k.values) c.self.view_is ∙ c.requires.counted in
    rw c.push_reserved.ensures.items (stored_instructions g.V.Spelled.format g.V.Spelled.keeping g.met.V.Spelled.are_kept is.stored.items is.cells.items is.start is.came h came ∙ ap (λ (k : Kept g.row.V.Denot). k.instructions ++ instruction_of h k.values ∷ []) c.self.view_is)
