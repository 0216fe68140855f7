-- Definitions, checked by computation.
use Rattle.std.proofs.Common.{◌≡◌, None, Some, Ok, Err, refl}
use Rattle.std.specs.Prelude.{pos}
use Rattle.zfault.specs.declared.fault.Fault.TheVariants.{StackUnderflow}
use Rattle.zfault.specs.declared.pause.Need.TheVariants as needs
use Rattle.zfault.specs.declared.pause.Pause.TheVariants as pauses
use Rattle.zstate.specs.declared.halt.Halt.TheVariants as halts
use Rattle.zstate.specs.declared.halt.Stop.TheVariants as stops
use Rattle.zstate.specs.State.{State}
use Rattle.zengine.specs.declared.row.Action.TheVariants as actions
use Rattle.zmachine.specs.declared.stuck.Lack.TheVariants as lacks
use Rattle.zmachine.specs.declared.stuck.Stuck.TheVariants as stucks
use Rattle.zmachine.specs.Machine.{IsPause, IsTold, need_at}
use Rattle.zmachine.specs.Steps.{AsksTable}

needs_a_line : need_at (Err (stucks.Halt (halts.Need needs.Line))) ≡ Ok (Some needs.Line)
needs_a_line = refl

needs_nothing : need_at (Err (stucks.Halt halts.Quit)) ≡ Ok None
needs_nothing = refl

wants_only_memory : need_at (Err (stucks.Lack lacks.Room)) ≡ Ok None
wants_only_memory = refl

lacks_a_row : need_at (Err (stucks.Lack lacks.Row)) ≡ Err lacks.Row
lacks_a_row = refl

told_its_place : (s : State) → IsTold (Err (stucks.Halt (halts.Fault StackUnderflow))) s (Ok (stops.Fault StackUnderflow s.place))
told_its_place s = refl

told_to_wait : (s : State) → IsTold (Err (stucks.Halt (halts.Need needs.Random))) s (Ok (stops.Paused pauses.NeedRandom))
told_to_wait s = refl

told_its_lack : (s : State) → IsTold (Err (stucks.Lack lacks.Memory)) s (Err lacks.Memory)
told_its_lack s = refl

faults_are_no_pause : IsPause (stops.Fault StackUnderflow (pos 7)) → ⊥
faults_are_no_pause x = x

asks_where_unmade : AsksTable actions.Unmade
asks_where_unmade = tt

asks_where_jumped_to : AsksTable (actions.JumpBy 2 0)
asks_where_jumped_to = tt

asks_for_no_sum : AsksTable actions.Add → ⊥
asks_for_no_sum x = x
