use Rattle.std.proofs.Common.{◌≡◌, ◌+◌}
use Rattle.zstory.specs.Objects.{object_place, HasEntries}
use Rattle.zstory.proofs.Counting.{IsLimit}
use Rattle.zstory.proofs.objects.object_count.Given as goal

abbrev pub invariant-loop-object : goal.invariant-loop-object
invariant-loop-object l =
    record {
      place : l.place ≡ object_place l.memory (l.object + 1);
      limit : IsLimit l.memory l.object l.limit;
      entries : HasEntries l.memory l.object;
    }
