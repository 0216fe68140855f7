use Rattle.std.proofs.Common.{rules, ◌<◌, ◌++◌, ◌+◌, ◌∷◌, [], length, arith, ap, subst, sym, ◌∙◌}
use Rattle.zcert.specs.Contents.{Kept, AreHeld}
use Rattle.zcert.proofs.Stores.{newest_few, more_held, more_values, instructions_stay}
use Rattle.zcert.proofs.instructions.Instructions.push.Goals as goal

pub overflow_add-self : goal.overflow_add-self
overflow_add-self g c =
    let is = c.self.inside in
    let few = newest_few g.V.Spelled.format g.V.Spelled.keeping g.met.V.Spelled.are_kept is.start is.came is.cells.items c.self.invariant.newest in
    let long : length is.cells.items < 9223372036854775808 = search rules in
    omega (arith, few, long)

pub invariant_of-self-2 : goal.invariant_of-self-2
invariant_of-self-2 g c =
    let is = c.self.inside in
    let kept = c.in_ok-keep.ensures.kept in
    subst (λ cells. AreHeld g.V.Spelled.format g.V.Spelled.keeping is.stored.items cells is.start (is.came + 1)) (sym kept) (more_held g.V.Spelled.format g.V.Spelled.keeping g.met.V.Spelled.are_kept is.stored.items is.cells.items is.start is.came c.args.set c.self.invariant c.has_spelling.ensures)

pub returns-clause-instructions : goal.returns-clause-instructions
returns-clause-instructions g c =
    let is = c.self.inside in
    let stay = instructions_stay g.V.Spelled.format g.V.Spelled.keeping g.met.V.Spelled.are_kept is.cells.items (g.V.Spelled.keeping.cells c.args.set) is.stored.items c.self.invariant.lie in
    rw c.in_ok-keep.ensures.kept (stay ∙ ap (λ (k : Kept g.row.V.Denot). k.instructions) c.self.view_is)

pub returns-clause-values : goal.returns-clause-values
returns-clause-values g c =
    let is = c.self.inside in
    rw c.in_ok-keep.ensures.kept (more_values g.V.Spelled.format g.V.Spelled.keeping g.met.V.Spelled.are_kept is.start is.came is.cells.items c.args.set c.self.invariant.newest c.has_spelling.ensures ∙ ap (λ (k : Kept g.row.V.Denot). k.values ++ c.args.set ∷ []) c.self.view_is)
