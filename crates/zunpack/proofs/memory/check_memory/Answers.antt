use Rattle.std.proofs.Common.{◌<◌, ◌≤◌, length, arith}
use Rattle.zunpack.specs.View.{told}
use Rattle.zunpack.proofs.Runs.{refused_length, taken_length}
use Rattle.zunpack.proofs.memory.check_memory.Goals as goal

pub returns-then-branch-dynamic-clause-err : goal.returns-then-branch-dynamic-clause-err
returns-then-branch-dynamic-clause-err c =
    let measure = c.in_ok-measured.ensures in
    let many : length c.args.dynamic.now < length (told c.args.packed.now) = omega (arith, measure.0, c.if-branch-dynamic.true) in
    refused_length c.args.dynamic.now c.args.packed.now measure.1.0 measure.1.1 many

pub returns-clause-ok : goal.returns-clause-ok
returns-clause-ok c =
    let measure = c.in_ok-measured.ensures in
    let few : length (told c.args.packed.now) ≤ length c.args.dynamic.now = omega (arith, measure.0, c.if-branch-dynamic.false) in
    taken_length c.args.dynamic.now c.args.packed.now measure.1.0 measure.1.1 few
