use Rattle.std.proofs.Common.{None, Some, refl, rules}
use Rattle.zplayer.specs.World.{Store}
use Rattle.zperform.specs.Performing.{given}
use Rattle.zperform.specs.Report.{outcome_of}
use Rattle.zperform.proofs.PlayLemmas.{with_store}
use Rattle.zperform.specs.TellingLaw.{said_back, said_nowhere}
use Rattle.zperform.proofs.playing.play_saving.Goals as goal

pub returns-in-Some-clause-comes : goal.returns-in-Some-clause-comes
returns-in-Some-clause-comes g c =
    let from = c.args.devices.now in
    let came = c.play_keeping.ensures.comes in
    rw c.in-Some.is (
      came.0,
      with_store (λ (s : Store). g.P.Playable.Comes c.args.playable.now c.args.asked.manner c.play_keeping.new.lenience.notes (given (g.R.Source.remaining from.reader.now) c.args.asked.seed s) came.0 (g.W.Sink.contents from.writer.now) (g.W.Sink.contents c.play_keeping.new.writer) (outcome_of c.play_keeping.result)) None c.new-store.result.failures c.new-store.ensures.fresh (came.1 (λ empty. absurd cc)),
      said_back g.E.Sink.contents g.E.Sink.failures g.E.Sink.waits c.args.asked.tell _ came.0 _ _ _ _ c.new-store.ensures.told c.new-store.ensures.errors (search rules) came.2.5,
    )

pub returns-in-None-clause-comes : goal.returns-in-None-clause-comes
returns-in-None-clause-comes g c =
    let from = c.args.devices.now in
    let came = c.play_keeping-in-None.ensures.comes in
    rw c.in-None.is (
      came.0,
      with_store (λ (s : Store). g.P.Playable.Comes c.args.playable.now c.args.asked.manner c.play_keeping-in-None.new.lenience.notes (given (g.R.Source.remaining from.reader.now) c.args.asked.seed s) came.0 (g.W.Sink.contents from.writer.now) (g.W.Sink.contents c.play_keeping-in-None.new.writer) (outcome_of c.play_keeping-in-None.result)) (Some None) c.new.result.failures c.new.ensures (came.1 (λ empty. refl)),
      said_nowhere c.args.asked.tell came.0 _,
    )
