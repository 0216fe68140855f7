use Rattle.std.proofs.Common.{◌≡◌, None, Some, length, slice_get, refl, sym}
use Rattle.std.proofs.lemmas.Bool.{ltb-false}
use Rattle.std.proofs.lemmas.Option.{slice_get_past, slice_get_read}
use Rattle.zflow.proofs.GlobalSets.{facts_keep_none}
use Rattle.zflow.proofs.global_sets.Globals.get.Goals as goal

pub returns-in_err-own : goal.returns-in_err-own
returns-in_err-own g c =
    let own = c.args.self.own.now in
    let none : slice_get own c.args.index ≡ None = slice_get_past own c.args.index (ltb-false c.args.index (length own) (sym c.in_err-own.ensures.lookup.0)) in
    rw c.from_residual.ensures (sym (facts_keep_none own c.args.self.facts.now c.args.index none))

pub returns : goal.returns
returns g c =
    let own = c.args.self.own.now in
    let told = c.in_ok-own.ensures.lookup in
    let there : slice_get own c.args.index ≡ Some c.in_ok-own.own.now = slice_get_read own (length own) c.args.index c.in_ok-own.own.now refl told.3.0 told.1 in
    sym (c.stated.ensures own there)
