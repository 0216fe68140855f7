use Rattle.std.proofs.Common.{[], inl, refl}
use Rattle.zplayer.specs.World.{told, world}
use Rattle.zperform.specs.Accepting.{PlayEnds}
use Rattle.zperform.specs.Report.{problem_of_play}
use Rattle.zperform.proofs.SessionLemmas.{broken, handed_on, played, reader_handed_on, unopened, was_no_file, writer_handed_on}
use Rattle.zperform.proofs.playing.AcceptedPlayable.play.Goals as goal

pub returns-in_err-end-clause-comes : goal.returns-in_err-end-clause-comes
returns-in_err-end-clause-comes g c =
    let o = g.V.Domain.operations in
    let format = g.V.Spelled.format in
    let error = c.in_err-end.field-0.0 in
    let from = c.args.world.now in
    let before = g.W.Sink.contents from.writer.now in
    let now = g.W.Sink.contents c.play_story_in.new.world.writer.now in
    let begun = world (g.R.Source.remaining from.reader.now) (g.G.Words.coming from.words.now) (told g.S.SaveStore.kept g.S.SaveStore.failures from.store.now []) in
    let state = c.play_story_in.new.session.state in
    let words = g.G.Words.coming c.play_story_in.new.world.words.now in
    let came = c.in_err-end.ensures.comes in
    let store = told g.S.SaveStore.kept g.S.SaveStore.failures c.play_story_in.new.world.store.now came.0 in (
      came.0,
      λ unsaved story certificate accepted. handed_on (λ outcome. PlayEnds o format story certificate c.args.manner begun came.0 before now outcome) c.from_residual-in_err-end.result (problem_of_play error) c.from_residual-in_err-end.ensures
          (broken o format story certificate c.args.manner begun came.0 before c.args.self.now accepted _ c.in_ok-session.ensures now state words store unsaved refl error came.1),
      came.2,
    )

pub returns-in_err-end-clause-writer : goal.returns-in_err-end-clause-writer
returns-in_err-end-clause-writer g c = writer_handed_on c.in_err-end.field-0.0 c.from_residual-in_err-end.result c.from_residual-in_err-end.ensures _ _ _ _ c.in_err-end.ensures.writes

pub returns-in_err-end-clause-no_file : goal.returns-in_err-end-clause-no_file
returns-in_err-end-clause-no_file g c = was_no_file c.from_residual-in_err-end.result c.in_err-end.field-0.0 c.from_residual-in_err-end.ensures

pub returns-in_err-end-clause-reader : goal.returns-in_err-end-clause-reader
returns-in_err-end-clause-reader g c = reader_handed_on c.in_err-end.field-0.0 c.from_residual-in_err-end.result c.from_residual-in_err-end.ensures _ _ c.in_err-end.ensures.reads

pub returns-in_err-session-clause-comes : goal.returns-in_err-session-clause-comes
returns-in_err-session-clause-comes g c =
    let o = g.V.Domain.operations in
    let format = g.V.Spelled.format in
    let from = c.args.world.now in
    let before = g.W.Sink.contents from.writer.now in
    let begun = world (g.R.Source.remaining from.reader.now) (g.G.Words.coming from.words.now) (told g.S.SaveStore.kept g.S.SaveStore.failures from.store.now []) in (
      [],
      λ unsaved story certificate accepted. handed_on (λ outcome. PlayEnds o format story certificate c.args.manner begun [] before before outcome) c.from_residual.result _ c.from_residual.ensures (inl (refl, refl, unopened o format story certificate c.args.self.now accepted)),
      g.met.S.SaveStore.itself _,
    )

pub returns-clause-comes : goal.returns-clause-comes
returns-clause-comes g c =
    let o = g.V.Domain.operations in
    let format = g.V.Spelled.format in
    let known = c.in_ok-end.ensures in
    let from = c.args.world.now in
    let before = g.W.Sink.contents from.writer.now in
    let now = g.W.Sink.contents c.play_story_in.new.world.writer.now in
    let begun = world (g.R.Source.remaining from.reader.now) (g.G.Words.coming from.words.now) (told g.S.SaveStore.kept g.S.SaveStore.failures from.store.now []) in
    let state = c.play_story_in.new.session.state in
    let words = g.G.Words.coming c.play_story_in.new.world.words.now in
    let came = known.comes in
    let store = told g.S.SaveStore.kept g.S.SaveStore.failures c.play_story_in.new.world.store.now came.0 in (
      came.0,
      λ unsaved story certificate accepted. played o format story certificate c.args.manner begun came.0 before c.args.self.now accepted _ c.in_ok-session.ensures now state words store unsaved refl c.in_ok-end.end came.1 known.no_fault,
      came.2,
    )
