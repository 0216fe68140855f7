use Rattle.std.proofs.Common.{◌≡◌, ◌-◌}
use Rattle.std.specs.List.{find}
use Rattle.zobj.specs.Moves.{ends_search, row}
use Rattle.zobj.proofs.moves.elder.Given as goal

abbrev pub invariant-loop : goal.invariant-loop
invariant-loop l = find (ends_search l.objects l.memory l.object) (row (l.objects - l.counter) l.memory l.number) ≡ find (ends_search l.objects l.memory l.object) (row l.objects l.memory l.first)
