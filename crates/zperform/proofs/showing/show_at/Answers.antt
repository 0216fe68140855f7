use Rattle.std.proofs.Common.{◌≡◌, ◌≢◌, inr, refl, rules, subst, ℕ, List}
use Rattle.zdomain.specs.Interval.{interval_operations}
use Rattle.zdomain.specs.Values.{values_operations}
use Rattle.zcert.specs.Format.{interval_format}
use Rattle.zcert.specs.Lists.{values_format}
use Rattle.zperform.specs.Showing.{HoldsShown, IsUnshownStory, ShowEnds}
use Rattle.zperform.specs.declared.outcome.Failure.TheVariants.{File, Write}
use Rattle.zperform.specs.declared.outcome.Problem.TheVariants.{Failed}
use Rattle.zperform.specs.declared.outcome.Outcome.{Outcome}
use Rattle.zperform.specs.declared.outcome.Outcome.TheVariants.{Stopped}
use Rattle.zperform.proofs.AcceptLemmas.{read_on}
use Rattle.zperform.proofs.EndLemmas.{ends_so, stops}
use Rattle.zperform.proofs.ShowLemmas.{story_unwritten}
use Rattle.zperform.proofs.showing.show_at.Goals as goal

pub returns-in-Ok-clause-comes : goal.returns-in-Ok-clause-comes
returns-in-Ok-clause-comes g c =
    let known = g.F.Files.known c.args.files.now in
    let same : c.in-Ok.text.items ≡ c.deref.result.now = search rules in
    let shown = subst (λ (text : List ℕ). HoldsShown (known c.args.story.now) (known c.args.certificate.now) c.args.address text) same c.in-Ok.ensures.shown in
    ends_so _ _ _ _ _ (λ (o : Outcome). ShowEnds (known c.args.story.now) (known c.args.certificate.now) c.args.address (g.W.Sink.contents c.args.writer.now) (g.W.Sink.contents c.write_done.new.writer) o) c.write_done.ensures.ends (λ written. (_, shown, written)) (λ begun. (_, shown, begun))

pub returns-in-Ok-clause-files : goal.returns-in-Ok-clause-files
returns-in-Ok-clause-files g c = read_on _ _ _ _ _ _ _ c.in-Ok.ensures.files (λ e. cc) (ends_so _ _ _ _ _ (λ (o : Outcome). o ≢ Stopped (Failed File)) c.write_done.ensures.ends (λ _ e. cc) (λ _ e. cc))

pub returns-in-Err-clause-comes : goal.returns-in-Err-clause-comes
returns-in-Err-clause-comes g c =
    let known = g.F.Files.known c.args.files.now in
    stops _ (IsUnshownStory (known c.args.story.now) (known c.args.certificate.now)) _ c.in-Err.problem (story_unwritten interval_operations interval_format values_operations values_format _ _ c.in-Err.problem c.in-Err.ensures.refused) c.in-Err.ensures.refused

pub returns-in-Err-clause-writer : goal.returns-in-Err-clause-writer
returns-in-Err-clause-writer g c = record {
  blamed = ((λ e. absurd (story_unwritten interval_operations interval_format values_operations values_format _ _ c.in-Err.problem c.in-Err.ensures.refused (let is : c.in-Err.problem ≡ Failed Write = cc in is))), λ other. refl);
  flushed = λ other. inr refl;
}
