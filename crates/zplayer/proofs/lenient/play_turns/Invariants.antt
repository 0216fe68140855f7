use Rattle.std.proofs.Common.{◌≡◌, List, []}
use Rattle.std.specs.Prelude.{⊤}
use Rattle.zquetzal.specs.declared.error.SaveError.{SaveError}
use Rattle.zref.specs.Machine.{SamePlay, setting}
use Rattle.zplayer.specs.Devices.{SameDevices, seen}
use Rattle.zplayer.specs.Leniently.{Happening, PlaysLeniently, notes_of, reach, with_notes}
use Rattle.zplayer.specs.Lines.{KnowsEnd}
use Rattle.zplayer.specs.World.{told, world}
use Rattle.zplayer.proofs.Stages.{to_come}
use Rattle.zplayer.proofs.lenient.play_turns.Given as goal

-- what was done, written, noted and told so far, what is left of the budget, what the world still has, and what the store was told
abbrev pub invariant-turns : goal.invariant-turns
invariant-turns g l = record {
  play : SamePlay l.fn.machine l.machine;
  devices : SameDevices l.fn.world l.world;
  so_far : (happenings : List Happening) × (refusals : List SaveError) × PlaysLeniently (setting l.fn.machine) (λ _. ⊤) l.fn.options.status happenings (reach l.fn.options.budget l.fn.machine.state (world (g.R.Source.remaining l.fn.world.reader.now) (g.G.Words.coming l.fn.world.words.now) (told g.S.SaveStore.kept g.S.SaveStore.failures l.fn.world.store.now [])) l.fn.lenience.front) (reach l.left l.machine.state (seen g.R.Source.remaining g.G.Words.coming g.S.SaveStore.kept g.S.SaveStore.failures l.lines l.world refusals) l.lenience.front) (g.W.Sink.contents l.fn.world.writer.now) (g.W.Sink.contents l.world.writer.now) × (l.lenience.notes ≡ with_notes (notes_of happenings) l.fn.lenience.notes) × g.S.SaveStore.Follows l.fn.world.store.now l.world.store.now refusals;
  ended : KnowsEnd l.lines (g.R.Source.remaining l.world.reader.now);
  unread : g.R.Source.failures l.world.reader.now ≡ g.R.Source.failures l.fn.world.reader.now;
  quiet : g.W.Sink.failures l.world.writer.now ≡ g.W.Sink.failures l.fn.world.writer.now;
}

abbrev pub decreases-turns : goal.decreases-turns
decreases-turns g l = to_come l.left l.machine.state
