use Rattle.std.proofs.Common.{rules, Option, List, ℕ}
use Rattle.zperform.specs.Accepting.{HoldsStory, IsUnaccepted}
use Rattle.zperform.specs.declared.outcome.Problem.{Problem}
use Rattle.zperform.proofs.AcceptLemmas.{handed_on, no_certificate_refuses}
use Rattle.zperform.proofs.FeedLemmas.{accepted, unaccepted, unaccepted_reads}
use Rattle.zperform.proofs.accepting.accept_story.Goals as goal

pub returns-in_err-stream-clause-refused : goal.returns-in_err-stream-clause-refused
returns-in_err-stream-clause-refused g c =
    let certificate_known = g.F.Files.known c.args.files.now c.args.certificate.now in
    handed_on (λ (problem : Problem). (known : Option (List ℕ)) → HoldsStory known c.args.story → IsUnaccepted g.V.Domain.operations g.V.Spelled.format known certificate_known problem) c.from_residual.result _ c.from_residual.ensures
    (λ known held. no_certificate_refuses _ _ known certificate_known _ held c.in_err-stream.field-0.0 c.in_err-stream.ensures.refused)

pub returns-in_err-judge-clause-files : goal.returns-in_err-judge-clause-files
returns-in_err-judge-clause-files g c = record {
  blamed = ((λ e. absurd (unaccepted_reads c.from_residual-in_err-judge.result _ c.from_residual-in_err-judge.ensures e)), search rules);
  kept = search rules;
  alike = search rules;
}

pub returns-in_err-judge-clause-refused : goal.returns-in_err-judge-clause-refused
returns-in_err-judge-clause-refused g c =
    let certificate_known = g.F.Files.known c.args.files.now c.args.certificate.now in
    handed_on (λ (problem : Problem). (known : Option (List ℕ)) → HoldsStory known c.args.story → IsUnaccepted g.V.Domain.operations g.V.Spelled.format known certificate_known problem) c.from_residual-in_err-judge.result _ c.from_residual-in_err-judge.ensures
    (λ known held. unaccepted _ _ known certificate_known _ (rw c.in_ok-stream.ensures.story held) _ c.in_err-judge.field-0.0 c.in_ok-stream.ensures.fed c.in_err-judge.ensures.refused)

pub returns-clause-accepted : goal.returns-clause-accepted
returns-clause-accepted g c =
    let certificate_known = g.F.Files.known c.args.files.now c.args.certificate.now in
    let known = c.in_ok-judge.ensures in
    λ story_known held. accepted _ _ story_known certificate_known _ (rw c.in_ok-stream.ensures.story held) _ c.in_ok-judge.field-0 c.in_ok-stream.ensures.fed known.story known.read known.judged

pub returns-clause-files : goal.returns-clause-files
returns-clause-files g c = record {
  blamed = ((λ e. absurd cc), search rules);
  kept = search rules;
  alike = search rules;
}
