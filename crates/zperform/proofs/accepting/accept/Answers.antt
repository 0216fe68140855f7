use Rattle.std.proofs.Common.{inl, List, Option, ℕ, subst}
use Rattle.zdomain.specs.Interval.{interval_operations}
use Rattle.zcert.specs.Format.{interval_format}
use Rattle.zperform.specs.Accepting.{HoldsStory, IsAcceptedStory, IsUnacceptedStory}
use Rattle.zperform.specs.declared.accepting.AcceptedStory.{AcceptedStory}
use Rattle.zperform.specs.declared.outcome.Problem.{Problem}
use Rattle.zperform.proofs.AcceptLemmas.{for_reason, for_value, handed_on, no_story_refuses, read_behind}
use Rattle.zperform.proofs.accepting.accept.Goals as goal

pub returns-in_err-story-clause-refused : goal.returns-in_err-story-clause-refused
returns-in_err-story-clause-refused g c =
    let story_known = g.F.Files.known c.args.files.now c.args.story.now in
    let certificate_known = g.F.Files.known c.args.files.now c.args.certificate.now in
    handed_on (IsUnacceptedStory story_known certificate_known) c.from_residual.result _ c.from_residual.ensures
    (inl (no_story_refuses interval_operations interval_format story_known certificate_known c.in_err-story.field-0.0 c.in_err-story.ensures.refused))

pub returns-clause-accepted : goal.returns-clause-accepted
returns-clause-accepted g c =
    let story_known = g.F.Files.known c.args.files.now c.args.story.now in
    let opened = c.in_ok-story.ensures in
    let name = c.args.certificate.now in
    for_value (λ (a : AcceptedStory). (known : Option (List ℕ)) → HoldsStory known c.in_ok-story.story → IsAcceptedStory known (g.F.Files.known c.open_story.new.files name) a) (IsAcceptedStory story_known (g.F.Files.known c.args.files.now name)) c.accept_loaded.result
    (λ a p. subst (λ (known : List ℕ → Option (List ℕ)). IsAcceptedStory story_known (known name) a) opened.files.kept (p story_known opened.held)) c.accept_loaded.ensures.accepted

pub returns-clause-refused : goal.returns-clause-refused
returns-clause-refused g c =
    let story_known = g.F.Files.known c.args.files.now c.args.story.now in
    let opened = c.in_ok-story.ensures in
    let name = c.args.certificate.now in
    for_reason (λ (problem : Problem). (known : Option (List ℕ)) → HoldsStory known c.in_ok-story.story → IsUnacceptedStory known (g.F.Files.known c.open_story.new.files name) problem) (IsUnacceptedStory story_known (g.F.Files.known c.args.files.now name)) c.accept_loaded.result
    (λ problem p. subst (λ (known : List ℕ → Option (List ℕ)). IsUnacceptedStory story_known (known name) problem) opened.files.kept (p story_known opened.held)) c.accept_loaded.ensures.refused

pub returns-clause-files : goal.returns-clause-files
returns-clause-files g c =
    let opened = c.in_ok-story.ensures.files in
    read_behind _ _ _ _ _ _ opened.kept (opened.blamed.1 (λ e. cc)) opened.alike _ _ c.accept_loaded.ensures.files (λ e. e) (λ e. e)
