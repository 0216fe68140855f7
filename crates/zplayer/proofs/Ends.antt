-- A run that stops with no fault ends with none.
use Rattle.std.proofs.Common.{◌≡◌, ◌≢◌, sym, ap, subst, ◌∙◌, ℕ, List, [], ◌++◌, Option, Result, Ok, Err}
use Rattle.std.proofs.lemmas.List.{append-nil}
use Rattle.std.specs.Prelude.{ℤ, Bool, IfOk, MatchResult}
use Rattle.zfault.specs.declared.fault.Fault.{Fault}
use Rattle.zfault.specs.declared.pause.Pause.TheVariants as pauses
use Rattle.zstate.specs.declared.halt.Stop.{Stop}
use Rattle.zstate.specs.declared.halt.Stop.TheVariants as stops
use Rattle.zrule.specs.Described.{IsNoFault}
use Rattle.zplayer.specs.declared.end.End.{End}
use Rattle.zplayer.specs.declared.end.End.TheVariants as ends
use Rattle.zplayer.specs.declared.end.PlayError.{PlayError}
use Rattle.zstate.specs.State.{Setting, State}
use Rattle.zstate.specs.Run.{Ending, Input, after, run}
use Rattle.zplayer.specs.Playing.{Finishes, Stage, end_of}
use Rattle.zplayer.proofs.Stages.{leads_run}
use Rattle.zscreen.specs.declared.status_lines.StatusLines.{StatusLines}

no_fault_of : (stop : Stop) → IsNoFault stop → (fault : Fault) (place : ℤ) → end_of stop ≢ ends.Fault fault place
no_fault_of (stops.Paused pauses.NeedLine) h fault place = λ e. cc
no_fault_of (stops.Paused pauses.NeedRandom) h fault place = λ e. cc
no_fault_of (stops.Paused pauses.NeedSave) h fault place = λ e. cc
no_fault_of (stops.Paused pauses.NeedRestore) h fault place = λ e. cc
no_fault_of (stops.Paused pauses.Budget) h fault place = λ e. cc
no_fault_of (stops.Paused pauses.Quit) h fault place = λ e. cc
no_fault_of (stops.Paused pauses.FrameLimit) h fault place = λ e. cc
no_fault_of (stops.Fault f p) h fault place = absurd h

-- so a play that has come to its end ends with none, where none comes of the state that it has come to
pub finished_well : (m : Setting) (Takes : State → Type 0) (asked : StatusLines) (old new : Stage) (before now : Option (List ℕ)) (end : End) (n : Setting) → n ≡ m → IsNoFault (run n [] new.left new.state).stop → Finishes m Takes asked old new before now end → (fault : Fault) (place : ℤ) → end ≢ ends.Fault fault place
finished_well m Takes asked old new before now end n same fine finished fault place = λ e.
    let whole : run m (finished.inputs ++ []) old.left old.state ≡ after finished.given (run m [] new.left new.state) = leads_run m Takes finished.inputs [] old new finished.given finished.leads in
    let stop : (run m finished.inputs old.left old.state).stop ≡ (run m [] new.left new.state).stop = ap (λ (l : List Input). (run m l old.left old.state).stop) (sym (append-nil finished.inputs)) ∙ ap (λ (x : Ending). x.stop) whole in
    no_fault_of (run m [] new.left new.state).stop (subst (λ (i : Setting). IsNoFault (run i [] new.left new.state).stop) same fine) fault place (ap end_of (sym stop) ∙ sym finished.ended ∙ e)

-- what holds of each end that there may be holds of an answer that is one
pub at_end : (Ended : End → Type 0) (Broken : PlayError → Type 0) (Said : End → Type 0) (r : Result End PlayError) → MatchResult r Ended Broken → ((end : End) → Ended end → Said end) → IfOk r Said
at_end Ended Broken Said (Ok end) ended said = said end ended
at_end Ended Broken Said (Err error) broken said = tt
