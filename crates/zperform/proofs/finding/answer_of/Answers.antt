use Rattle.std.proofs.Common.{inl, inr}
use Rattle.zperform.specs.Finding.{IsNotFound, IsUnfound}
use Rattle.zperform.specs.declared.outcome.Failure.TheVariants.{File, Write}
use Rattle.zperform.specs.declared.outcome.Problem.TheVariants.{Failed}
use Rattle.zperform.proofs.AcceptLemmas.{for_reason, handed_on, no_reason, read_on}
use Rattle.zperform.proofs.finding.answer_of.Goals as goal

pub returns-in_err-story-clause-refused : goal.returns-in_err-story-clause-refused
returns-in_err-story-clause-refused g c = handed_on (IsNotFound c.args.search (g.F.Files.known c.args.files.now c.args.name.now)) c.from_residual.result _ c.from_residual.ensures (inl c.in_err-story.ensures.refused)

pub returns-clause-refused : goal.returns-clause-refused
returns-clause-refused g c =
    for_reason (IsUnfound c.args.search c.in_ok-story.story) (IsNotFound c.args.search (g.F.Files.known c.args.files.now c.args.name.now)) c.answer_for-answer.result (λ problem why. inr (c.in_ok-story.story, c.in_ok-story.ensures.held, why)) c.answer_for-answer.ensures.refused

pub returns-clause-files : goal.returns-clause-files
returns-clause-files g c = read_on _ _ _ _ _ _ _ c.in_ok-story.ensures.files (λ e. cc) (no_reason (IsUnfound c.args.search c.in_ok-story.story) (Failed File) c.answer_for-answer.result (λ none. none) c.answer_for-answer.ensures.refused)

pub returns-clause-unwritten : goal.returns-clause-unwritten
returns-clause-unwritten g c = no_reason (IsUnfound c.args.search c.in_ok-story.story) (Failed Write) c.answer_for-answer.result (λ none. none) c.answer_for-answer.ensures.refused
