use Rattle.std.proofs.Common.{[], rules}
use Rattle.zplayer.specs.Devices.{seen}
use Rattle.zplayer.proofs.Stages.{answer_fits, event_supplies, none_supplies, restores_supply}
use Rattle.zplayer.proofs.player.supply.Goals as goal

pub returns-in_default-clause-supplied : goal.returns-in_default-clause-supplied
returns-in_default-clause-supplied g c = ([], g.met.S.SaveStore.itself _, λ before. search (rules, c.awaits.ensures))

pub returns-in-Restore-clause-supplied : goal.returns-in-Restore-clause-supplied
returns-in-Restore-clause-supplied g c =
    let done = c.in_ok-resume.ensures.restored in
    (done.0, done.1, λ before. restores_supply _ _ _ _ _ _ _ _ (search (rules, c.awaits.ensures, c.in-Some.is, c.in-Restore.is)) (done.2 before))

pub give-requires : goal.give-requires
give-requires g c =
    let asked = rw c.in-Some-2.is at c.in_ok-event.ensures.asked in
    let world = seen g.R.Source.remaining g.G.Words.coming g.S.SaveStore.kept g.S.SaveStore.failures in
    let old = world c.args.lines.now c.args.world.now [] in
    let new = world c.ask.new.lines c.ask.new.world [] in (
      c.in-Some.need,
      search (rules, c.awaits.ensures, c.in-Some.is),
      answer_fits (g.M.Machine.setting c.args.machine.now) (g.M.Machine.Takes c.args.machine.now) (g.M.Machine.state c.args.machine.now) old new c.in-Some.need c.in-Some-2.event (asked []),
    )

pub returns-in-Some-2-clause-supplied : goal.returns-in-Some-2-clause-supplied
returns-in-Some-2-clause-supplied g c =
    let asked = rw c.in-Some-2.is at c.in_ok-event.ensures.asked in
    ([], c.in_ok-event.ensures.follows, λ before. event_supplies _ _ _ _ _ _ _ _ (search (rules, c.awaits.ensures, c.in-Some.is)) c.give.ensures.state (asked before))

pub returns-in-None-clause-supplied : goal.returns-in-None-clause-supplied
returns-in-None-clause-supplied g c =
    let asked = rw c.in-None.is at c.in_ok-event.ensures.asked in
    let world = seen g.R.Source.remaining g.G.Words.coming g.S.SaveStore.kept g.S.SaveStore.failures in (
      [],
      c.in_ok-event.ensures.follows,
      λ before.
          let old = world c.args.lines.now c.args.world.now before in
          let new = world c.ask.new.lines c.ask.new.world before in
          none_supplies (g.M.Machine.setting c.args.machine.now) (g.M.Machine.Takes c.args.machine.now) (g.M.Machine.state c.args.machine.now) c.in-Some.need old new (search (rules, c.awaits.ensures, c.in-Some.is)) (asked before),
    )
