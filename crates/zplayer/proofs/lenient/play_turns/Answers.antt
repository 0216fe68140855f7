use Rattle.std.proofs.Common.{◌≡◌, [], ◌∷◌, ◌++◌, refl, sym, ap, rules, None, Some, Ok, ◌∙◌}
use Rattle.zref.proofs.Running.{same_setting}
use Rattle.zlenient.specs.Laws.{IsPaused}
use Rattle.zlenient.specs.Run.{Note}
use Rattle.zplayer.specs.Devices.{seen}
use Rattle.zplayer.specs.declared.lenient.Lenience.{Lenience}
use Rattle.zplayer.specs.Leniently.{Excused, Handed}
use Rattle.zplayer.specs.Lines.{unused}
use Rattle.zplayer.specs.Playing.{end_of}
use Rattle.zplayer.proofs.Stages.{fewer_to_come, handed_on, steps_to_come}
use Rattle.zplayer.proofs.Reaches.{answer_broke, answer_ended, answered, answered_to_come, fault_stands, noted_on, noted_still, starts, stood, supplied, supply_broke, turn_broke, turn_made}
use Rattle.zplayer.proofs.lenient.play_turns.Goals.{in-None, in-Some-Fault+in_ok-end-in-Some-Fault, in-Some+in_ok-supply-in-Some+then-branch, in-Some+in_ok-supply-in-Some+else-branch}
use Rattle.zplayer.proofs.lenient.play_turns.Goals as goal

pub turns-init : goal.turns-init
turns-init g c = record {
  play = record { story = refl; scope = refl };
  devices = record { reader = refl; writer = refl; store = refl; words = refl };
  so_far = ([], [], starts _ _ _ _ _ _ _ _ _ _ _ c.new-lines.ensures, refl, g.met.S.SaveStore.itself _);
  ended = search rules;
  unread = refl;
  quiet = refl;
}

pub turns-preserved : goal.turns-preserved
turns-preserved g c =
    let so_far = c.turns.invariant in
    let same = same_setting _ _ so_far.play in
    let now = same_setting _ _ c.in_ok-still.ensures.play ∙ same in
    let made = turn_made _ _ _ _ _ _ _ _ _ _ _ so_far.so_far.2 _ same _ c.is_seen-seen.ensures _ _ _ c.in_ok-still.ensures.ok in
    elim c.match-still.branch [
      | in-None w ↦ rw (w.machine-is, w.world-is, w.lenience-is, w.lines-is, w.left-is) (record {
        play = record { story = c.in_ok-still.ensures.play.story ∙ so_far.play.story; scope = c.in_ok-still.ensures.play.scope ∙ so_far.play.scope };
        devices = search rules;
        so_far = (so_far.so_far.0, so_far.so_far.1, made, so_far.so_far.3, so_far.so_far.4);
        ended = so_far.ended;
        unread = so_far.unread;
        quiet = search rules;
      })
      | in-Some-Fault+in_ok-end-in-Some-Fault w ↦
          let still = rw w.in-Some-Fault.is at c.in_ok-still.ensures.stands in
          let at_fault = rw w.in-Some-Fault.is at w.in-Some-Fault.field-0-is in
          let faults = fault_stands _ _ (same_setting _ _ c.in_ok-still.ensures.play) _ _ _ _ at_fault still.0 in
          let end_is : w.in_ok-end-in-Some-Fault.end ≡ None = search (rules, w.end-is, c.in_default.is) in
          let e = w.in_ok-end-in-Some-Fault.ensures in
          let done = rw end_is at e.answers in
          let note : Note = record { fault = w.in-Some-Fault.fault; place = c.turn.new.machine.state.place } in
          rw (w.machine-is, w.world-is, w.lenience-is, w.lines-is, w.left-is) (record {
            play = record { story = e.play.story ∙ c.in_ok-still.ensures.play.story ∙ so_far.play.story; scope = e.play.scope ∙ c.in_ok-still.ensures.play.scope ∙ so_far.play.scope };
            devices = search rules;
            so_far = (so_far.so_far.0 ++ Excused note ∷ [], so_far.so_far.1, answered _ _ _ _ _ _ _ _ _ _ _ made _ now _ faults _ _ _ done.0 done.1 done.2, noted_on so_far.so_far.0 note c.args.lenience.now.notes c.turns.lenience.notes w.answer.new.lenience.notes so_far.so_far.3 done.3, so_far.so_far.4);
            ended = so_far.ended;
            unread = so_far.unread;
            quiet = search rules;
          })
      | in-Some+in_ok-supply-in-Some+then-branch w ↦
          let e = w.in_ok-supply-in-Some.ensures in
          let had = rw w.if-branch.true at e.supplied in
          let on = supplied _ _ _ _ _ _ _ _ _ _ _ _ _ made _ now _ _ e.kept _ (had.2 so_far.so_far.1) in
          rw (w.machine-is, w.world-is, w.lenience-is, w.lines-is, w.left-is) (record {
            play = record { story = e.play.story ∙ c.in_ok-still.ensures.play.story ∙ so_far.play.story; scope = e.play.scope ∙ c.in_ok-still.ensures.play.scope ∙ so_far.play.scope };
            devices = search rules;
            so_far = (so_far.so_far.0 ++ Handed on.0 ∷ [], had.0 ++ so_far.so_far.1, on.1, noted_still so_far.so_far.0 on.0 c.args.lenience.now.notes c.turns.lenience.notes so_far.so_far.3, g.met.S.SaveStore.through _ _ _ _ _ so_far.so_far.4 had.1);
            ended = e.reads.ended;
            unread = search rules;
            quiet = search rules;
          })
      | in-Some+in_ok-supply-in-Some+else-branch w ↦ absurd (search (rules, w.end-is, c.in_default.not-Some))
    ]

pub returns-in_err-still-clause-comes : goal.returns-in_err-still-clause-comes
returns-in_err-still-clause-comes g c =
    let so_far = c.turns.invariant in
    let same = same_setting _ _ so_far.play in
    let e = c.in_err-still.ensures in (
      so_far.so_far.0,
      so_far.so_far.1,
      (
        c.turn.new.left,
        unused c.turns.lines (g.R.Source.remaining c.turns.world.reader.now),
        handed_on _ _ _ _ c.from_residual.ensures (turn_broke _ _ _ _ _ _ _ _ _ _ _ so_far.so_far.2 _ same _ c.is_seen-seen.ensures _ _ _ _ _ refl e.no_read e.finished e.wanted e.in_part),
      ),
      so_far.so_far.3,
      so_far.so_far.4,
    )

pub returns-in_err-supply-in-Some-clause-comes : goal.returns-in_err-supply-in-Some-clause-comes
returns-in_err-supply-in-Some-clause-comes g c =
    let so_far = c.turns.invariant in
    let same = same_setting _ _ so_far.play in
    let now = same_setting _ _ c.in_ok-still.ensures.play ∙ same in
    let made = turn_made _ _ _ _ _ _ _ _ _ _ _ so_far.so_far.2 _ same _ c.is_seen-seen.ensures _ _ _ c.in_ok-still.ensures.ok in
    let e = c.in_err-supply-in-Some.ensures in
    let r = so_far.so_far.1 in (
      so_far.so_far.0,
      r,
      (
        c.turn.new.left,
        unused c.turns.lines (g.R.Source.remaining c.turns.world.reader.now),
        handed_on _ _ _ _ c.from_residual-in_err-supply-in-Some.ensures (supply_broke _ _ _ _ _ _ _ _ _ _ _ _ _ made _ now _ _ e.kept _ _ _ _ refl (e.same.0, e.same.1, e.same.3 r) e.at_line e.wanted),
      ),
      so_far.so_far.3,
      g.met.S.SaveStore.through _ _ _ _ _ so_far.so_far.4 e.same.2,
    )

pub returns-in_err-end-in-Some-Fault-clause-comes : goal.returns-in_err-end-in-Some-Fault-clause-comes
returns-in_err-end-in-Some-Fault-clause-comes g c =
    let so_far = c.turns.invariant in
    let same = same_setting _ _ so_far.play in
    let now = same_setting _ _ c.in_ok-still.ensures.play ∙ same in
    let made = turn_made _ _ _ _ _ _ _ _ _ _ _ so_far.so_far.2 _ same _ c.is_seen-seen.ensures _ _ _ c.in_ok-still.ensures.ok in
    let still = rw c.in-Some-Fault.is at c.in_ok-still.ensures.stands in
    let at_fault = rw c.in-Some-Fault.is at c.in-Some-Fault.field-0-is in
    let faults = fault_stands _ _ (same_setting _ _ c.in_ok-still.ensures.play) _ _ _ _ at_fault still.0 in
    let e = c.in_err-end-in-Some-Fault.ensures in (
      so_far.so_far.0,
      so_far.so_far.1,
      (
        c.answer.new.left,
        unused c.turns.lines (g.R.Source.remaining c.turns.world.reader.now),
        handed_on _ _ _ _ c.from_residual-in_err-end-in-Some-Fault.ensures (answer_broke _ _ _ _ _ _ _ _ _ _ _ made _ now _ faults (e.wanted refl) _ _ _ _ e.only e.same.0 (ap (λ (l : Lenience). l.front) e.same.1) e.same.2),
      ),
      ap (λ (l : Lenience). l.notes) e.same.1 ∙ so_far.so_far.3,
      so_far.so_far.4,
    )

pub returns-in-Some-end-clause-comes : goal.returns-in-Some-end-clause-comes
returns-in-Some-end-clause-comes g c =
    let so_far = c.turns.invariant in
    let same = same_setting _ _ so_far.play in
    let now = same_setting _ _ c.in_ok-still.ensures.play ∙ same in
    let made = turn_made _ _ _ _ _ _ _ _ _ _ _ so_far.so_far.2 _ same _ c.is_seen-seen.ensures _ _ _ c.in_ok-still.ensures.ok in
    elim c.match-still.branch [
      | in-None w ↦ absurd (search (rules, w.end-is, c.in-Some-end.is))
      | in-Some-Fault+in_ok-end-in-Some-Fault w ↦
          let still = rw w.in-Some-Fault.is at c.in_ok-still.ensures.stands in
          let at_fault = rw w.in-Some-Fault.is at w.in-Some-Fault.field-0-is in
          let faults = fault_stands _ _ (same_setting _ _ c.in_ok-still.ensures.play) _ _ _ _ at_fault still.0 in
          let end_is : w.in_ok-end-in-Some-Fault.end ≡ Some c.in-Some-end.end = sym w.end-is ∙ c.in-Some-end.is in
          let done = rw end_is at w.in_ok-end-in-Some-Fault.ensures.answers in
          rw (w.machine-is, w.world-is, w.lenience-is, done.0, done.1) (
            so_far.so_far.0,
            so_far.so_far.1,
            (
              c.turn.new.left,
              unused c.turns.lines (g.R.Source.remaining c.turns.world.reader.now),
              answer_ended _ _ _ _ _ _ _ _ _ _ _ made _ now _ faults _ done.3,
            ),
            so_far.so_far.3,
            so_far.so_far.4,
          )
      | in-Some+in_ok-supply-in-Some+then-branch w ↦ absurd (search (rules, w.end-is, c.in-Some-end.is))
      | in-Some+in_ok-supply-in-Some+else-branch w ↦
          let paused : IsPaused w.in-Some.stop = search rules in
          let still = rw w.in-Some.is at c.in_ok-still.ensures.stands in
          let e = w.in_ok-supply-in-Some.ensures in
          let had = rw w.if-branch.false at e.supplied in
          let end_is : Some (end_of w.in-Some.stop) ≡ Some c.in-Some-end.end = search (rules, w.end-is, w.from.ensures, c.in-Some-end.is) in
          let r = had.0 ++ so_far.so_far.1 in
          let same_end : end_of w.in-Some.stop ≡ c.in-Some-end.end = cc in
          rw (w.machine-is, w.world-is, w.lenience-is, sym same_end) (
            so_far.so_far.0,
            r,
            (
              c.turn.new.left,
              unused c.turns.lines (g.R.Source.remaining c.turns.world.reader.now),
              stood _ _ _ _ _ _ _ _ _ _ _ _ _ made _ now _ _ e.kept _ _ _ _ same paused still.0 still.1 (seen g.R.Source.remaining g.G.Words.coming g.S.SaveStore.kept g.S.SaveStore.failures w.supply.new.lines w.supply.new.world r) refl refl (had.2 so_far.so_far.1),
            ),
            so_far.so_far.3,
            g.met.S.SaveStore.through _ _ _ _ _ so_far.so_far.4 had.1,
          )
    ]

pub turns-smaller : goal.turns-smaller
turns-smaller g c =
    let turn = c.in_ok-still.ensures.ok in
    elim c.match-still.branch [
      | in-None w ↦ rw (w.machine-is, w.left-is) (fewer_to_come _ _ c.turns.machine.state c.turn.new.machine.state (c.in_ok-still.ensures.fewer (ap Ok w.in-None.is)))
      | in-Some-Fault+in_ok-end-in-Some-Fault w ↦
          let end_is : w.in_ok-end-in-Some-Fault.end ≡ None = search (rules, w.end-is, c.in_default.is) in
          let answers = rw end_is at w.in_ok-end-in-Some-Fault.ensures.answers in
          rw (w.machine-is, w.left-is) (answered_to_come _ _ _ c.turns.machine.state w.answer.new.machine.state turn.steps turn.all answers.1)
      | in-Some+in_ok-supply-in-Some+then-branch w ↦
          let had = rw w.if-branch.true at w.in_ok-supply-in-Some.ensures.supplied in
          rw (w.machine-is, w.left-is) (steps_to_come _ _ _ _ _ _ _ _ _ _ turn.steps turn.given turn.all turn.goes (had.2 []))
      | in-Some+in_ok-supply-in-Some+else-branch w ↦ absurd (search (rules, w.end-is, c.in_default.not-Some))
    ]
