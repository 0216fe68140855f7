use Rattle.std.proofs.Common.{[], refl, rules, sym}
use Rattle.std.specs.Prelude.{option_map}
use Rattle.zperform.specs.Beside.{Unsought}
use Rattle.zperform.specs.Devices.{held}
use Rattle.zperform.proofs.ExcusingLemmas.{plays_back, says_back}
use Rattle.zperform.proofs.PerformLemmas.{as_outcome, files_as_outcome, writer_as_outcome}
use Rattle.zperform.proofs.performing.fulfil.Goals as goal

pub returns-in-Some-clause-writer : goal.returns-in-Some-clause-writer
returns-in-Some-clause-writer g c = search (rules, writer_as_outcome _ _ _ _ c.play_by_certificate.result _ _ c.outcome_of-in-Some.ensures c.play_by_certificate.ensures.writer)

pub returns-in-Some-clause-files : goal.returns-in-Some-clause-files
returns-in-Some-clause-files g c = λ one. search (rules, c.in-Some.is, files_as_outcome _ _ _ _ _ _ _ c.play_by_certificate.result _ _ c.outcome_of-in-Some.ensures refl refl c.play_by_certificate.ensures.files)

pub returns-in-Some-clause-reader : goal.returns-in-Some-clause-reader
returns-in-Some-clause-reader g c = search (rules, as_outcome c.play_by_certificate.result _ _ _ _ c.outcome_of-in-Some.ensures c.play_by_certificate.ensures.reader)

pub returns-in-Show-clause-comes : goal.returns-in-Show-clause-comes
returns-in-Show-clause-comes g c = rw c.in-Show.is (Unsought, [], c.show_files.ensures.comes, refl)

pub returns-in-Info-clause-comes : goal.returns-in-Info-clause-comes
returns-in-Info-clause-comes g c = rw c.in-Info.is (Unsought, [], c.inform.ensures.comes, refl)

pub returns-in-List-default-None-default-clause-comes : goal.returns-in-List-default-None-default-clause-comes
returns-in-List-default-None-default-clause-comes g c =
    rw c.in-List-default-None-default.is (Unsought, [], search (rules, c.in-List-default-None-default.certificate-is, c.list_file.ensures.comes), refl)

pub returns-in-List-default-Some-default-clause-comes : goal.returns-in-List-default-Some-default-clause-comes
returns-in-List-default-Some-default-clause-comes g c =
    rw c.in-List-default-Some-default.is (Unsought, [], search (rules, c.in-List-default-Some-default.certificate-is, c.list_certificate.ensures.comes), refl)

pub returns-in-Check-default-default-false-clause-comes : goal.returns-in-Check-default-default-false-clause-comes
returns-in-Check-default-default-false-clause-comes g c = rw c.in-Check-default-default-false.is (Unsought, [], search (rules, c.in-Check-default-default-false.json-is, c.check_files.ensures.comes), refl)

pub returns-in-Find-clause-could : goal.returns-in-Find-clause-could
returns-in-Find-clause-could g c = rw c.in-Find.is c.find_one.ensures.could

pub returns-in-Unpack-clause-comes : goal.returns-in-Unpack-clause-comes
returns-in-Unpack-clause-comes g c = rw c.in-Unpack.is (Unsought, [], record { ends = c.unpack_file.ensures.ends; spared = c.unpack_file.ensures.spared; silent = refl }, refl)

pub returns-in-Unpack-clause-could : goal.returns-in-Unpack-clause-could
returns-in-Unpack-clause-could g c = rw c.in-Unpack.is c.unpack_file.ensures.could

pub returns-in-Unpack-clause-blamed : goal.returns-in-Unpack-clause-blamed
returns-in-Unpack-clause-blamed g c = rw c.in-Unpack.is c.unpack_file.ensures.blamed

pub returns-in-Explain-clause-comes : goal.returns-in-Explain-clause-comes
returns-in-Explain-clause-comes g c = rw c.in-Explain.is (Unsought, [], c.explain_code.ensures.comes, refl)

pub returns-then-lenient-clause-comes : goal.returns-then-lenient-clause-comes
returns-then-lenient-clause-comes g c =
    let play = c.in-Play in
    let of = held g.F.Files.known g.F.Files.failures g.F.Files.can_fail g.F.Files.blamed in
    let came = c.play_excused.ensures.comes in
    rw play.is
    (rw c.if-lenient.true (
      came.0,
      came.1,
      plays_back play.story.now (option_map (λ c. c.now) play.certificate) came.0 (record { budget = play.budget; status = play.status }) play.seed (option_map (λ f. f.now) play.save) came.1 (of c.args.files.now) (of c.new-devices.result.files.now) (g.R.Source.remaining c.args.reader.now) (g.R.Source.remaining c.new-devices.result.reader.now) (g.W.Sink.contents c.args.writer.now) (g.W.Sink.contents c.new-devices.result.writer.now) _ (g.W.Sink.contents c.play_excused.new.devices.writer.now) _ _
          (search rules) (search rules) (search rules) (search rules) (sym c.outcome_of.ensures) came.2,
      says_back came.0 _ _ _ _ _ (search rules) (search rules) came.3,
    ))
