use Rattle.std.proofs.Common.{◌≡◌, ◌≢◌, inr, refl, rules}
use Rattle.zperform.specs.Accepting.{CheckComesTo, IsUnacceptedStory, marks_of}
use Rattle.zperform.specs.Report.{accepted_line}
use Rattle.zperform.specs.declared.outcome.Failure.TheVariants.{File, Write}
use Rattle.zperform.specs.declared.outcome.Problem.TheVariants.{Failed}
use Rattle.zperform.specs.declared.outcome.Outcome.{Outcome}
use Rattle.zperform.specs.declared.outcome.Outcome.TheVariants.{Stopped}
use Rattle.zperform.proofs.AcceptLemmas.{read_on}
use Rattle.zperform.proofs.EndLemmas.{ends_so, stops}
use Rattle.zperform.proofs.SessionLemmas.{unblamed}
use Rattle.zperform.proofs.performing.check_files.Goals as goal

pub returns-in-Err-clause-comes : goal.returns-in-Err-clause-comes
returns-in-Err-clause-comes g c = stops _ (IsUnacceptedStory _ _) _ c.in-Err.problem (unblamed _ _ c.in-Err.problem c.in-Err.ensures.refused).0 c.in-Err.ensures.refused

pub returns-in-Err-clause-writer : goal.returns-in-Err-clause-writer
returns-in-Err-clause-writer g c = record {
  blamed = ((λ e. absurd ((unblamed _ _ c.in-Err.problem c.in-Err.ensures.refused).0 (let is : c.in-Err.problem ≡ Failed Write = cc in is))), λ other. refl);
  flushed = λ other. inr refl;
}

pub returns-clause-comes : goal.returns-clause-comes
returns-clause-comes g c =
    let known = g.F.Files.known c.args.files.now in
    let line : c.as_slice.result.now ≡ accepted_line (marks_of c.in-Ok.accepted) = search rules in
    ends_so _ _ _ _ _ (λ (o : Outcome). CheckComesTo (known c.args.story.now) (known c.args.certificate.now) (g.W.Sink.contents c.args.writer.now) (g.W.Sink.contents c.write_done.new.writer) o) c.write_done.ensures.ends
    (λ written. (_, c.in-Ok.ensures.accepted, rw (← line) written)) (λ begun. (_, c.in-Ok.ensures.accepted, rw (← line) begun))

pub returns-clause-files : goal.returns-clause-files
returns-clause-files g c = read_on _ _ _ _ _ _ _ c.in-Ok.ensures.files (λ e. cc) (ends_so _ _ _ _ _ (λ (o : Outcome). o ≢ Stopped (Failed File)) c.write_done.ensures.ends (λ _ e. cc) (λ _ e. cc))
