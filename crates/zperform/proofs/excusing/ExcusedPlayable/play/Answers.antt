use Rattle.std.proofs.Common.{[], Err, Ok, ap, refl}
use Rattle.zplayer.specs.World.{told, world}
use Rattle.zplayer.specs.declared.lenient.Lenience.{Lenience}
use Rattle.zperform.specs.Excusing.{ExcusedOut}
use Rattle.zperform.specs.Report.{problem_of_play}
use Rattle.zperform.specs.declared.outcome.Failure.TheVariants.{Memory}
use Rattle.zperform.specs.declared.outcome.Problem.TheVariants.{Failed}
use Rattle.zperform.proofs.ExcusingLemmas.{broken, ended, unopened}
use Rattle.zperform.proofs.SessionLemmas.{handed_on, reader_handed_on, was_no_file, writer_handed_on}
use Rattle.zperform.proofs.excusing.ExcusedPlayable.play.Goals as goal

pub returns-in_err-machine-clause-comes : goal.returns-in_err-machine-clause-comes
returns-in_err-machine-clause-comes g c =
    let from = c.args.world.now in
    let before = g.W.Sink.contents from.writer.now in
    let begun = world (g.R.Source.remaining from.reader.now) (g.G.Words.coming from.words.now) (told g.S.SaveStore.kept g.S.SaveStore.failures from.store.now []) in
    let none = ap (λ (l : Lenience). l.notes) c.requires.opened in (
      [],
      λ unsaved known holds. handed_on (ExcusedOut known c.args.manner.options c.args.lenience.now.notes begun [] before before) c.from_residual.result _ c.from_residual.ensures (Err (Failed Memory), refl, unopened known c.args.self.now.story.now holds c.args.manner.options _ none begun before),
      g.met.S.SaveStore.itself _,
    )

pub returns-in_err-end-clause-comes : goal.returns-in_err-end-clause-comes
returns-in_err-end-clause-comes g c =
    let error = c.in_err-end.field-0.0 in
    let from = c.args.world.now in
    let before = g.W.Sink.contents from.writer.now in
    let now = g.W.Sink.contents c.play_leniently.new.world.writer.now in
    let begun = world (g.R.Source.remaining from.reader.now) (g.G.Words.coming from.words.now) (told g.S.SaveStore.kept g.S.SaveStore.failures from.store.now []) in
    let came = c.in_err-end.ensures.comes in (
      came.1,
      λ unsaved known holds. handed_on (ExcusedOut known c.args.manner.options c.play_leniently.new.lenience.notes begun came.1 before now) c.from_residual-in_err-end.result (problem_of_play error) c.from_residual-in_err-end.ensures
          (Err (problem_of_play error), refl, broken known c.args.self.now.story.now holds c.args.manner.options _ c.in_ok-machine.ensures c.args.lenience.now c.requires.opened begun _ _ _ _ _ unsaved _ refl c.play_leniently.new.lenience came.0 came.3 error came.2),
      came.4,
    )

pub returns-in_err-end-clause-writer : goal.returns-in_err-end-clause-writer
returns-in_err-end-clause-writer g c = writer_handed_on c.in_err-end.field-0.0 c.from_residual-in_err-end.result c.from_residual-in_err-end.ensures _ _ _ _ c.in_err-end.ensures.writes

pub returns-in_err-end-clause-no_file : goal.returns-in_err-end-clause-no_file
returns-in_err-end-clause-no_file g c = was_no_file c.from_residual-in_err-end.result c.in_err-end.field-0.0 c.from_residual-in_err-end.ensures

pub returns-in_err-end-clause-reader : goal.returns-in_err-end-clause-reader
returns-in_err-end-clause-reader g c = reader_handed_on c.in_err-end.field-0.0 c.from_residual-in_err-end.result c.from_residual-in_err-end.ensures _ _ c.in_err-end.ensures.reads

pub returns-clause-comes : goal.returns-clause-comes
returns-clause-comes g c =
    let from = c.args.world.now in
    let begun = world (g.R.Source.remaining from.reader.now) (g.G.Words.coming from.words.now) (told g.S.SaveStore.kept g.S.SaveStore.failures from.store.now []) in
    let came = c.in_ok-end.ensures.comes in (
      came.1,
      λ unsaved known holds. (Ok c.in_ok-end.end, refl, ended known c.args.self.now.story.now holds c.args.manner.options _ c.in_ok-machine.ensures c.args.lenience.now c.requires.opened begun _ _ _ _ _ unsaved _ refl c.play_leniently.new.lenience came.0 came.3 c.in_ok-end.end came.2),
      came.4,
    )
