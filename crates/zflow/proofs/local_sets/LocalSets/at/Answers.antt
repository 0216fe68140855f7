use Rattle.std.proofs.Common.{◌≡◌, Some, length, slice_get, refl, sym}
use Rattle.std.proofs.lemmas.Option.{slice_get_read}
use Rattle.zflow.proofs.local_sets.LocalSets.at.Goals as goal

pub returns : goal.returns
returns g c =
    let lent = c.args.self.now.lent.now in
    let told = c.in_ok-lent.ensures.lookup in
    let there : slice_get lent c.args.index ≡ Some c.in_ok-lent.lent.now = slice_get_read lent (length lent) c.args.index c.in_ok-lent.lent.now refl told.3.0 told.1 in
    sym (c.at_or.ensures _ (c.at_or-first_kept.ensures _ (c.at_or-given.ensures _ (c.at_or-assigned.ensures lent there))))
