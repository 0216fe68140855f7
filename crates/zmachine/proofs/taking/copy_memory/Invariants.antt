use Rattle.std.proofs.Common.{◌≡◌, ◌++◌, drop, take}
use Rattle.zstate.specs.State.{with_memory}
use Rattle.zmachine.proofs.taking.copy_memory.Given as goal

abbrev pub invariant-loop-place : goal.invariant-loop-place
invariant-loop-place l = record { so_far : l.state ≡ with_memory (take l.place l.memory ++ drop l.place l.fn.state.memory) l.fn.state }
