use Rattle.std.proofs.Common.{Some, [], refl}
use Rattle.zplayer.specs.World.{told, world}
use Rattle.zperform.specs.Report.{problem_of_play}
use Rattle.zperform.specs.declared.outcome.Failure.TheVariants.{Memory}
use Rattle.zperform.specs.declared.outcome.Problem.TheVariants.{Failed}
use Rattle.zperform.proofs.PlayLemmas.{broken, ended, passed_on, unloaded_comes}
use Rattle.zperform.proofs.SessionLemmas.{reader_handed_on, was_no_file, writer_handed_on}
use Rattle.zperform.proofs.playing.StoryPlayable.play.Goals as goal

pub returns-in_err-machine-clause-comes : goal.returns-in_err-machine-clause-comes
returns-in_err-machine-clause-comes g c =
    let from = c.args.world.now in
    let before = g.W.Sink.contents from.writer.now in
    let begun = world (g.R.Source.remaining from.reader.now) (g.G.Words.coming from.words.now) (told g.S.SaveStore.kept g.S.SaveStore.failures from.store.now []) in (
      [],
      λ unsaved file holds. passed_on (Some file) c.args.manner begun [] before before c.from_residual.result _ c.from_residual.ensures (unloaded_comes file c.args.manner begun before (Failed Memory) holds.no_cause),
      g.met.S.SaveStore.itself _,
    )

pub returns-in_err-end-clause-comes : goal.returns-in_err-end-clause-comes
returns-in_err-end-clause-comes g c =
    let error = c.in_err-end.field-0.0 in
    let from = c.args.world.now in
    let before = g.W.Sink.contents from.writer.now in
    let now = g.W.Sink.contents c.play_checked_in.new.world.writer.now in
    let begun = world (g.R.Source.remaining from.reader.now) (g.G.Words.coming from.words.now) (told g.S.SaveStore.kept g.S.SaveStore.failures from.store.now []) in
    let state = c.play_checked_in.new.machine.state in
    let words = g.G.Words.coming c.play_checked_in.new.world.words.now in
    let came = c.in_err-end.ensures.comes in
    let store = told g.S.SaveStore.kept g.S.SaveStore.failures c.play_checked_in.new.world.store.now came.0 in (
      came.0,
      λ unsaved file holds. passed_on (Some file) c.args.manner begun came.0 before now c.from_residual-in_err-end.result (problem_of_play error) c.from_residual-in_err-end.ensures
          (broken file c.args.self.now holds c.args.manner _ c.in_ok-machine.ensures begun before now state words store unsaved came.0 refl error came.1),
      came.2,
    )

pub returns-in_err-end-clause-writer : goal.returns-in_err-end-clause-writer
returns-in_err-end-clause-writer g c = writer_handed_on c.in_err-end.field-0.0 c.from_residual-in_err-end.result c.from_residual-in_err-end.ensures _ _ _ _ c.in_err-end.ensures.writes

pub returns-in_err-end-clause-no_file : goal.returns-in_err-end-clause-no_file
returns-in_err-end-clause-no_file g c = was_no_file c.from_residual-in_err-end.result c.in_err-end.field-0.0 c.from_residual-in_err-end.ensures

pub returns-in_err-end-clause-reader : goal.returns-in_err-end-clause-reader
returns-in_err-end-clause-reader g c = reader_handed_on c.in_err-end.field-0.0 c.from_residual-in_err-end.result c.from_residual-in_err-end.ensures _ _ c.in_err-end.ensures.reads

pub returns-clause-comes : goal.returns-clause-comes
returns-clause-comes g c =
    let from = c.args.world.now in
    let begun = world (g.R.Source.remaining from.reader.now) (g.G.Words.coming from.words.now) (told g.S.SaveStore.kept g.S.SaveStore.failures from.store.now []) in
    let before = g.W.Sink.contents from.writer.now in
    let now = g.W.Sink.contents c.play_checked_in.new.world.writer.now in
    let state = c.play_checked_in.new.machine.state in
    let words = g.G.Words.coming c.play_checked_in.new.world.words.now in
    let came = c.in_ok-end.ensures.comes in
    let store = told g.S.SaveStore.kept g.S.SaveStore.failures c.play_checked_in.new.world.store.now came.0 in (
      came.0,
      λ unsaved file holds. ended file c.args.self.now holds c.args.manner _ c.in_ok-machine.ensures begun before now state words store unsaved came.0 refl c.in_ok-end.end came.1,
      came.2,
    )
