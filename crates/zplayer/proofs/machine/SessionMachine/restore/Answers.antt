use Rattle.std.proofs.Common.{◌≡◌, ap, sym, ◌∙◌}
use Rattle.std.specs.Prelude.{Result, Some, Ok, Err}
use Rattle.std.specs.Result.{result_err}
use Rattle.std.proofs.lemmas.Option.{same_Some}
use Rattle.std.proofs.lemmas.Result.{IfErr-at_err}
use Rattle.zplay.specs.Session.{IsRefusedSave}
use Rattle.zplayer.proofs.machine.SessionMachine.restore.Goals as goal

same_ok : {T E : Type 0} (a b : T) → ◌≡◌ {A = Result T E} (Ok a) (Ok b) → a ≡ b
same_ok a b e = cc

is_error : {T E : Type 0} (r : Result T E) (error : E) → result_err r ≡ Some error → r ≡ Err error
is_error (Ok x) error e = absurd cc
is_error (Err x) error e = ap Err (same_Some x error e)

pub returns-clause-refused : goal.returns-clause-refused
returns-clause-refused g c = λ error e.
    let is = is_error c.restore.result error (sym c.err.ensures.value ∙ same_ok _ _ e) in
    IfErr-at_err (IsRefusedSave g.V.Domain.operations c.args.self.now c.args.save.now) is c.restore.ensures.refused
