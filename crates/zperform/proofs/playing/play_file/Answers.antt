use Rattle.std.proofs.Common.{[], refl}
use Rattle.zperform.specs.Performing.{given, store_of}
use Rattle.zperform.specs.Played.{file_of}
use Rattle.zperform.specs.declared.outcome.Outcome.TheVariants.{Stopped}
use Rattle.zperform.proofs.PlayLemmas.{of_part, passed_on, unloaded_comes}
use Rattle.zperform.proofs.playing.play_file.Goals as goal

pub returns-in_err-story-clause-comes : goal.returns-in_err-story-clause-comes
returns-in_err-story-clause-comes g c =
    let manner = c.args.asked.manner in
    let world = given (g.R.Source.remaining c.args.devices.now.reader.now) c.args.asked.seed (store_of (file_of c.args.asked)) in
    let taken = g.W.Sink.contents c.args.devices.now.writer.now in
    let problem = c.in_err-story.field-0.0 in
    let file = c.args.file.now in
    λ known part. (
      [],
      passed_on known manner world [] taken taken _ problem c.from_residual.ensures
          (of_part known file manner world [] taken taken part (Stopped problem) (unloaded_comes file manner world taken problem c.in_err-story.ensures.unloaded)),
      refl,
    )

pub returns-clause-comes : goal.returns-clause-comes
returns-clause-comes g c =
    let came = c.play_saving.ensures.comes in
    λ known part. (came.0, of_part known c.args.file.now _ _ _ _ _ part _ (came.1 c.args.file.now c.in_ok-story.ensures.loaded), came.2)
