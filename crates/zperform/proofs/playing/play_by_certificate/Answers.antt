use Rattle.std.proofs.Common.{◌∙◌, ℕ, List, [], ap, refl, rules}
use Rattle.std.specs.Prelude.{Option}
use Rattle.zperform.specs.Accepting.{PlayComesTo}
use Rattle.zperform.specs.Performing.{given, store_of}
use Rattle.zperform.specs.Played.{file_of}
use Rattle.zperform.proofs.SessionLemmas.{handed_on, unplayed}
use Rattle.zperform.proofs.playing.play_by_certificate.Goals as goal

pub returns-in_err-accepted-clause-comes : goal.returns-in_err-accepted-clause-comes
returns-in_err-accepted-clause-comes g c =
    let story = g.F.Files.known c.args.devices.now.files.now c.args.story.now in
    let certificate = g.F.Files.known c.args.devices.now.files.now c.args.certificate.now in
    let world = given (g.R.Source.remaining c.args.devices.now.reader.now) c.args.asked.seed (store_of (file_of c.args.asked)) in
    let taken = g.W.Sink.contents c.args.devices.now.writer.now in
    let problem = c.in_err-accepted.field-0.0 in
    ([], handed_on (λ outcome. PlayComesTo story certificate c.args.asked.manner world [] taken taken outcome) c.from_residual.result problem c.from_residual.ensures (unplayed story certificate c.args.asked.manner world taken problem c.in_err-accepted.ensures.refused), refl)

pub returns-clause-comes : goal.returns-clause-comes
returns-clause-comes g c = c.play_accepted.ensures.comes _ _ c.in_ok-accepted.ensures.accepted

pub returns-clause-files : goal.returns-clause-files
returns-clause-files g c = record {
  unread = search rules;
  unfailed = search rules;
  kept = search rules;
  spared = λ other another. c.play_accepted.ensures.spared other another ∙ ap (λ (known : List ℕ → Option (List ℕ)). known other) c.in_ok-accepted.ensures.files.kept;
}
