use Rattle.std.proofs.Common.{arith}
use Rattle.zstory.proofs.Counting.{limit_more, entries_more, count_found}
use Rattle.zstory.proofs.objects.object_count.Goals as goal

pub returns-then-end-limit : goal.returns-then-end-limit
returns-then-end-limit c =
    let loop = c.loop-object in
    count_found _ loop.object loop.object loop.limit (omega arith) loop.invariant.entries loop.invariant.limit (omega arith) (omega arith)

pub loop-object-preserved : goal.loop-object-preserved
loop-object-preserved c =
    let loop = c.loop-object in
    let limit = limit_more _ loop.object loop.limit c.min-limit.result (grind (arith)) loop.invariant.limit in
    record {
      place = omega arith;
      limit = limit;
      entries = entries_more _ loop.object c.min-limit.result loop.invariant.entries limit (omega arith);
    }
