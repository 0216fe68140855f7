use Rattle.std.proofs.Common.{[], ◌++◌, refl, rules}
use Rattle.zplayer.specs.Devices.{seen}
use Rattle.zplayer.specs.Lines.{unused}
use Rattle.zplayer.proofs.Stages.{given_to_come, handed_on, starts, stood, supplied, supply_broke, turn_broke, turn_made}
use Rattle.zplayer.proofs.player.play_turns.Goals as goal

pub turns-init : goal.turns-init
turns-init g c = record {
  play = g.met.M.Machine.itself _;
  devices = record { reader = refl; writer = refl; store = refl; words = refl };
  so_far = ([], starts _ _ _ _ _ _ _ _ _ _ c.new-lines.ensures, g.met.S.SaveStore.itself _);
  ended = search rules;
  unread = refl;
  quiet = refl;
}

pub turns-preserved : goal.turns-preserved
turns-preserved g c =
    let so_far = c.turns.invariant in
    let same = g.met.M.Machine.same_setting _ _ so_far.play in
    record {
      play = g.met.M.Machine.through _ _ _ so_far.play c.in_ok-stop.ensures.play;
      devices = search rules;
      so_far = (so_far.so_far.0, turn_made _ _ g.M.Machine.Wants _ _ _ _ _ _ _ so_far.so_far.1 _ same _ _ _ c.in_ok-stop.ensures.ok, so_far.so_far.2);
      ended = so_far.ended;
      unread = so_far.unread;
      quiet = search rules;
    }

pub turns-preserved-else-not-branch : goal.turns-preserved-else-not-branch
turns-preserved-else-not-branch g c =
    let so_far = c.turns.invariant in
    let same = g.met.M.Machine.same_setting _ _ so_far.play in
    let turned = g.met.M.Machine.through _ _ _ so_far.play c.in_ok-stop.ensures.play in
    let now = g.met.M.Machine.same_setting _ _ turned in
    let takes = g.met.M.Machine.same_takes _ _ turned in
    let made = turn_made _ _ g.M.Machine.Wants _ _ _ _ _ _ _ so_far.so_far.1 _ same _ _ _ c.in_ok-stop.ensures.ok in
    let had = rw c.if-not-branch.false at c.in_ok-supply.ensures.supplied in
    record {
      play = g.met.M.Machine.through _ _ _ turned c.in_ok-supply.ensures.play;
      devices = search rules;
      so_far = (had.0 ++ so_far.so_far.0, supplied _ _ g.M.Machine.Wants _ _ _ _ _ _ _ _ _ made _ now _ takes _ _ c.in_ok-supply.ensures.kept _ (had.2 so_far.so_far.0), g.met.S.SaveStore.through _ _ _ _ _ so_far.so_far.2 had.1);
      ended = c.in_ok-supply.ensures.reads.ended;
      unread = search rules;
      quiet = search rules;
    }

pub returns-in_err-stop-clause-comes : goal.returns-in_err-stop-clause-comes
returns-in_err-stop-clause-comes g c =
    let so_far = c.turns.invariant in
    let same = g.met.M.Machine.same_setting _ _ so_far.play in
    let e = c.in_err-stop.ensures in (
      so_far.so_far.0,
      (
        c.turn.new.left,
        unused c.turns.lines (g.R.Source.remaining c.turns.world.reader.now),
        handed_on _ _ _ _ c.from_residual.ensures (turn_broke _ _ g.M.Machine.Wants _ _ _ _ _ _ _ so_far.so_far.1 _ same _ _ _ _ _ refl e.no_read e.finished e.wanted e.in_part),
      ),
      so_far.so_far.2,
    )

pub returns-in_err-supply-clause-comes : goal.returns-in_err-supply-clause-comes
returns-in_err-supply-clause-comes g c =
    let so_far = c.turns.invariant in
    let same = g.met.M.Machine.same_setting _ _ so_far.play in
    let turned = g.met.M.Machine.through _ _ _ so_far.play c.in_ok-stop.ensures.play in
    let now = g.met.M.Machine.same_setting _ _ turned in
    let takes = g.met.M.Machine.same_takes _ _ turned in
    let made = turn_made _ _ g.M.Machine.Wants _ _ _ _ _ _ _ so_far.so_far.1 _ same _ _ _ c.in_ok-stop.ensures.ok in
    let e = c.in_err-supply.ensures in
    let r = so_far.so_far.0 in (
      r,
      (
        c.turn.new.left,
        unused c.turns.lines (g.R.Source.remaining c.turns.world.reader.now),
        handed_on _ _ _ _ c.from_residual-in_err-supply.ensures (supply_broke _ _ g.M.Machine.Wants _ _ _ _ _ _ _ _ _ made _ now _ takes _ _ e.kept _ _ _ _ refl (e.same.0, e.same.1, e.same.3 r) e.at_line e.wanted),
      ),
      g.met.S.SaveStore.through _ _ _ _ _ so_far.so_far.2 e.same.2,
    )

pub returns-then-not-branch-clause-comes : goal.returns-then-not-branch-clause-comes
returns-then-not-branch-clause-comes g c =
    let so_far = c.turns.invariant in
    let same = g.met.M.Machine.same_setting _ _ so_far.play in
    let turned = g.met.M.Machine.through _ _ _ so_far.play c.in_ok-stop.ensures.play in
    let now = g.met.M.Machine.same_setting _ _ turned in
    let takes = g.met.M.Machine.same_takes _ _ turned in
    let made = turn_made _ _ g.M.Machine.Wants _ _ _ _ _ _ _ so_far.so_far.1 _ same _ _ _ c.in_ok-stop.ensures.ok in
    let still = rw c.in-Some.is at c.in_ok-stop.ensures.stands in
    let had = rw c.if-not-branch.true at c.in_ok-supply.ensures.supplied in
    let r = had.0 ++ so_far.so_far.0 in (
      r,
      (
        c.turn.new.left,
        unused c.turns.lines (g.R.Source.remaining c.turns.world.reader.now),
        rw c.from.ensures
            (stood _ _ g.M.Machine.Wants _ _ _ _ _ _ _ _ _ made _ now _ takes _ _ c.in_ok-supply.ensures.kept _ _ c.in-Some.stop _ same still.0 still.1 (seen g.R.Source.remaining g.G.Words.coming g.S.SaveStore.kept g.S.SaveStore.failures c.supply.new.lines c.supply.new.world r) refl refl (had.2 so_far.so_far.0)),
      ),
      g.met.S.SaveStore.through _ _ _ _ _ so_far.so_far.2 had.1,
    )

pub turns-smaller-else-not-branch : goal.turns-smaller-else-not-branch
turns-smaller-else-not-branch g c = given_to_come _ _ _ _ _ _ _ _ _ _ _ _ _ c.in_ok-stop.ensures.ok ((rw c.if-not-branch.false at c.in_ok-supply.ensures.supplied).2 [])
