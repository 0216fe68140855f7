use Rattle.std.proofs.Common.{◌≡◌, ◌++◌, length, take}
use Rattle.std.specs.List.{flat_map}
use Rattle.zcert.specs.Numbers.{number}
use Rattle.zcert.specs.Numbers as numbers
use Rattle.zcert.specs.Spelling.{routine_bytes}
use Rattle.zcert.proofs.writing.put_routines.Given as goal

abbrev pub invariant-loop-routine : goal.invariant-loop-routine
invariant-loop-routine g l = l.out.items ≡ (l.fn.out.items ++ number numbers.RoutineCount (length l.routines)) ++ flat_map (routine_bytes g.V.Spelled.format) (take l.routine-index l.routines)
