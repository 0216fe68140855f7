use Rattle.std.proofs.Common.{sym}
use Rattle.zflow.specs.Lent.{globals_seen}
use Rattle.zflow.specs.Transfer.{globals_named, globals_with}
use Rattle.zflow.proofs.GlobalSets.{behind_keeps_none}
use Rattle.zflow.proofs.global_sets.global_behind.Goals as goal

pub returns-in_err-before : goal.returns-in_err-before
returns-in_err-before g c =
    rw c.from_residual.ensures (sym (behind_keeps_none (globals_seen c.args.globals) c.args.target c.args.outcome.now c.args.index (sym (rw c.from-index.ensures at c.in_err-before.ensures))))

pub returns : goal.returns
returns g c =
    let before = globals_seen c.args.globals in
    let outcome = c.args.outcome.now in
    let with_assigned = globals_named outcome.assigns before in
    let with_given = globals_with outcome.gives c.args.target with_assigned in
    let with_first = globals_named outcome.kept.first_global with_given in
    let assigned = rw (c.named_global-assigned.ensures before) at (c.at_or-with_assigned.ensures before (sym c.in_ok-before.ensures)) in
    let given = rw (c.given_global-given.ensures with_assigned) at (c.at_or-with_given.ensures with_assigned assigned) in
    let first = rw (c.named_global-first_kept.ensures with_given) at (c.at_or-with_first.ensures with_given given) in
    let second = rw (c.named_global-second_kept.ensures with_first) at (c.at_or.ensures with_first first) in
    sym (rw c.from-index.ensures at second)
