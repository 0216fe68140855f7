use Rattle.std.proofs.Common.{◌≡◌, ◌≢◌, ◌∙◌, inl, ap, refl, rules, subst, Err, ℕ, List}
use Rattle.std.specs.Prelude.{Option}
use Rattle.zperform.specs.Finding.{FindEnds, HasAlone}
use Rattle.zperform.specs.declared.outcome.Failure.TheVariants.{File, Write}
use Rattle.zperform.specs.declared.outcome.Problem.TheVariants.{Failed}
use Rattle.zperform.specs.declared.outcome.Outcome.{Outcome}
use Rattle.zperform.specs.declared.outcome.Outcome.TheVariants.{Stopped}
use Rattle.zperform.proofs.EndLemmas.{ends_so, not_found}
use Rattle.zperform.proofs.finding.find_file.Goals as goal

pub returns-in-Err-clause-comes : goal.returns-in-Err-clause-comes
returns-in-Err-clause-comes g c = record {
  ends = not_found _ _ _ _ _ _ c.in-Err.problem (λ (e : c.in-Err.problem ≡ Failed Write). c.in-Err.ensures.unwritten (ap Err e)) c.in-Err.ensures.refused c.answer_of.ensures.files.kept;
  spared = λ name other. ap (λ (known : List ℕ → Option (List ℕ)). known name) c.answer_of.ensures.files.kept;
}

pub returns-then-not-put-clause-comes : goal.returns-then-not-put-clause-comes
returns-then-not-put-clause-comes g c = record {
  ends = ((inl tt, λ other. absurd (other refl)), refl);
  spared = λ name other. c.put.ensures.spared name other ∙ ap (λ (known : List ℕ → Option (List ℕ)). known name) c.answer_of.ensures.files.kept;
}

pub returns-clause-comes : goal.returns-clause-comes
returns-clause-comes g c =
    let holds = g.F.Files.known c.put.new.self in
    let bytes = c.in-Ok.answer.bytes.items in
    let same : c.deref.result.now ≡ bytes = search rules in
    let told : c.deref-2.result.now ≡ c.in-Ok.answer.text.items = search rules in
    let whole = subst (λ (bytes : List ℕ). HasAlone bytes (holds c.args.certificate.now)) same (c.put.ensures.whole (search rules)) in
    record {
      ends = ends_so _ _ _ _ _ (λ (o : Outcome). FindEnds c.args.search c.args.story.now c.args.certificate.now (g.F.Files.known c.args.files.now) holds (g.W.Sink.contents c.args.writer.now) (g.W.Sink.contents c.write_done.new.writer) o) c.write_done.ensures.ends
          (λ written. (bytes, c.in-Ok.answer.text.items, c.in-Ok.answer.marks, c.in-Ok.ensures.found, whole, rw (← told) written)) (λ begun. (bytes, c.in-Ok.answer.text.items, c.in-Ok.answer.marks, c.in-Ok.ensures.found, whole, rw (← told) begun));
      spared = λ name other. c.put.ensures.spared name other ∙ ap (λ (known : List ℕ → Option (List ℕ)). known name) c.answer_of.ensures.files.kept;
    }

pub returns-clause-files : goal.returns-clause-files
returns-clause-files g c = ((λ e. absurd (ends_so _ _ _ _ _ (λ (o : Outcome). o ≢ Stopped (Failed File)) c.write_done.ensures.ends (λ _ e. cc) (λ _ e. cc) e)), search rules)
