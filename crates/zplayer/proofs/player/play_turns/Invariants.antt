use Rattle.std.proofs.Common.{◌≡◌, List, []}
use Rattle.zquetzal.specs.declared.error.SaveError.{SaveError}
use Rattle.zplayer.specs.Devices.{SameDevices, seen}
use Rattle.zplayer.specs.Lines.{KnowsEnd}
use Rattle.zplayer.specs.Playing.{Plays, stage}
use Rattle.zplayer.specs.World.{told, world}
use Rattle.zplayer.proofs.Stages.{to_come}
use Rattle.zplayer.proofs.player.play_turns.Given as goal

-- what was done and written so far, what is left of the budget, what the world still has, and what the store was told
abbrev pub invariant-turns : goal.invariant-turns
invariant-turns g l = record {
  play : g.M.Machine.IsSamePlay l.fn.machine l.machine;
  devices : SameDevices l.fn.world l.world;
  so_far : (refusals : List SaveError) × Plays (g.M.Machine.setting l.fn.machine) (g.M.Machine.Takes l.fn.machine) l.fn.options.status (stage l.fn.options.budget (g.M.Machine.state l.fn.machine) (world (g.R.Source.remaining l.fn.world.reader.now) (g.G.Words.coming l.fn.world.words.now) (told g.S.SaveStore.kept g.S.SaveStore.failures l.fn.world.store.now []))) (stage l.left (g.M.Machine.state l.machine) (seen g.R.Source.remaining g.G.Words.coming g.S.SaveStore.kept g.S.SaveStore.failures l.lines l.world refusals)) (g.W.Sink.contents l.fn.world.writer.now) (g.W.Sink.contents l.world.writer.now) × g.S.SaveStore.Follows l.fn.world.store.now l.world.store.now refusals;
  ended : KnowsEnd l.lines (g.R.Source.remaining l.world.reader.now);
  unread : g.R.Source.failures l.world.reader.now ≡ g.R.Source.failures l.fn.world.reader.now;
  quiet : g.W.Sink.failures l.world.writer.now ≡ g.W.Sink.failures l.fn.world.writer.now;
}

abbrev pub decreases-turns : goal.decreases-turns
decreases-turns g l = to_come l.left (g.M.Machine.state l.machine)
