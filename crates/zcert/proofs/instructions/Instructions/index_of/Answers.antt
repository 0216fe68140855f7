use Rattle.std.proofs.Common.{rules, subst, sym}
use Rattle.std.specs.Result.{result_ok}
use Rattle.std.proofs.lemmas.List.Sorted.{answers_always}
use Rattle.zcert.specs.Contents.{Kept}
use Rattle.zcert.specs.Listed.{Finds}
use Rattle.zcert.specs.Spelling.{InstructionsRise}
use Rattle.zcert.specs.declared.instructions.Stored.{Stored}
use Rattle.zcert.proofs.Lookup.{searched}
use Rattle.zcert.proofs.instructions.Instructions.index_of.Goals as goal

pub returns : goal.returns
returns g c =
    let is = c.self.inside in
    let by_address = c.binary_search_by_key.ensures.position (λ (s : Stored). s.address) (answers_always _ _ _ (λ f a r g k. search rules)) in
    let rise = subst (λ (k : Kept g.row.V.Denot). InstructionsRise k.instructions) (sym c.self.view_is) c.requires in
    let found = searched g.V.Spelled.keeping is.cells.items is.stored.items c.args.address c.binary_search_by_key.result rise (rw c.as_slice.ensures.value at c.binary_search_by_key.ensures.bound) (rw c.as_slice.ensures.value at by_address) in
    rw c.ok.ensures.value (subst (λ (k : Kept g.row.V.Denot). Finds k.instructions c.args.address (result_ok c.binary_search_by_key.result)) c.self.view_is found)
