use Rattle.std.proofs.Common.{rules}
use Rattle.std.proofs.lemmas.List.Sorted.{answers_always}
use Rattle.zcert.specs.declared.parts.Routine.{Routine}
use Rattle.zcert.proofs.Lookup.{searched_routine}
use Rattle.zcert.proofs.certificate.Certificate.routine_index.Goals as goal

pub returns : goal.returns
returns g c =
    let routines = c.args.self.now.routines in
    let by_address = c.binary_search_by_key.ensures.position (λ (r : Routine _). r.address) (answers_always _ _ _ (λ f a r g k. search rules)) in
    rw c.ok.ensures.value (record {
      value = searched_routine routines c.args.address c.binary_search_by_key.result c.routines.ensures.keeps.routines_rise (rw c.routines.ensures.value at c.binary_search_by_key.ensures.bound) (rw c.routines.ensures.value at by_address);
      keeps = c.routines.ensures.keeps;
    })
