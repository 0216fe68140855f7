use Rattle.std.proofs.Common.{◌+◌, ◌%◌, refl, arith}
use Rattle.zstory.specs.Bytes.{byte_at}
use Rattle.zplace.proofs.Lists.{list_inside, list_where}
use Rattle.zplace.specs.Tables.{ended}
use Rattle.zplace.proofs.property_tables.is_list.Goals as goal

pub returns-then-size-eq0 : goal.returns-then-size-eq0
returns-then-size-eq0 c =
    (λ yes. c.loop-at.invariant.same.1 (ended c.loop-at.bound c.loop-at.at c.loop-at-test.true c.if-size-eq0.true), λ list. refl)

pub loop-at-preserved : goal.loop-at-preserved
loop-at-preserved c =
    let size = byte_at c.args.memory.now c.loop-at.at in
    let long = c.from.ensures in
    let number = c.if-number-eq0.false in
    let same = list_where c.args.memory.now c.args.end c.loop-at.bound c.loop-at.at (size % 32) (c.loop-at.at + (2 + c.from.result)) c.if-size-eq0.false refl (omega (arith, long)) (omega (arith, number)) c.if-number-bound.false in
    record {
      same = (λ list. same.0 (c.loop-at.invariant.same.0 list), λ rest. c.loop-at.invariant.same.1 (same.1 rest));
      few = omega arith;
    }

pub returns : goal.returns
returns c =
    let outside = c.loop-at-test.false in
    (λ no. absurd cc, λ list. let inside = list_inside c.args.memory.now c.args.end c.loop-at.bound c.loop-at.at (c.loop-at.invariant.same.0 list) in absurd (omega (arith, inside, outside)))
