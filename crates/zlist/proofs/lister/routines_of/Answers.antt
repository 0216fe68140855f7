use Rattle.std.proofs.Common.{◌≤◌, ◌*◌, length, rules, arith}
use Rattle.zlist.proofs.Calls.{found_all}
use Rattle.zlist.proofs.lister.routines_of.Goals as goal

pub returns-clause-called : goal.returns-clause-called
returns-clause-called c =
    let all : length c.args.story.now.memory ≤ 2 * c.loop-packed.packed = search (rules, arith) in
    found_all c.args.story.now c.args.walk.now c.loop-packed.routines.items c.loop-packed.packed c.requires.walked c.requires.faultless all c.loop-packed.invariant
