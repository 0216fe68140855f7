use Rattle.std.proofs.Common.{◌++◌, List, sym, ap, ◌∙◌}
use Rattle.zdomain.specs.declared.values.Values.{Values}
use Rattle.zcert.proofs.Fronts.{sets_found}
use Rattle.zcert.proofs.values_spelled.ValuesSpelled.sets.Goals as goal

pub returns : goal.returns
returns c =
    let held = c.requires.kept in
    c.as_slice.ensures.value
    ∙ c.make_sets.ensures held
    ∙ ap (λ (vs : List Values). vs ++ held.kept) c.clear.ensures
    ∙ sym (sets_found c.args.count c.args.kept.now held)
