use Rattle.std.proofs.Common.{◌≡◌, ◌∙◌, inl, inr, List, Option, ℕ, rules, subst}
use Rattle.zdomain.specs.Interval.{interval_operations}
use Rattle.zdomain.specs.Values.{values_operations}
use Rattle.zcert.specs.Format.{interval_format}
use Rattle.zcert.specs.Lists.{values_format}
use Rattle.zperform.specs.Showing.{HoldsShownBy, IsUnshown, IsUnshownStory, interval_kind, interval_text, values_kind, values_text}
use Rattle.zperform.proofs.AcceptLemmas.{first_read, for_reason, for_value, handed_on}
use Rattle.zperform.proofs.ShowLemmas.{first_unshown}
use Rattle.zperform.proofs.showing.shown.Goals as goal

pub returns-in_err-first-clause-refused : goal.returns-in_err-first-clause-refused
returns-in_err-first-clause-refused g c =
    let story_known = g.F.Files.known c.args.files.now c.args.story.now in
    let certificate_known = g.F.Files.known c.args.files.now c.args.certificate.now in
    handed_on (IsUnshownStory story_known certificate_known) c.from_residual-in_err-first.result _ c.from_residual-in_err-first.ensures
    (inl (first_unshown interval_operations interval_format story_known certificate_known _ c.in_ok-story.ensures.held c.in_err-first.field-0.0 c.in_err-first.ensures.failed))

pub shown_by-requires-clause-first : goal.shown_by-requires-clause-first
shown_by-requires-clause-first g c =
    let same : c.in_ok-first.first.items ≡ c.deref-then-has_lists.result.now = search rules in
    first_read _ _ c.args.certificate.now _ _ c.read_file.ensures.files.kept same c.in_ok-first.ensures.read

pub shown_by-requires-else-has_lists-clause-first : goal.shown_by-requires-else-has_lists-clause-first
shown_by-requires-else-has_lists-clause-first g c =
    let same : c.in_ok-first.first.items ≡ c.deref-else-has_lists.result.now = search rules in
    first_read _ _ c.args.certificate.now _ _ c.read_file.ensures.files.kept same c.in_ok-first.ensures.read

pub returns-then-has_lists-clause-shown : goal.returns-then-has_lists-clause-shown
returns-then-has_lists-clause-shown g c =
    let story_known = g.F.Files.known c.args.files.now c.args.story.now in
    for_value _ _ c.shown_by.result
    (λ text made. inr (subst (λ (known : List ℕ → Option (List ℕ)). HoldsShownBy values_operations values_format values_kind values_text story_known (known c.args.certificate.now) c.args.address text.items) (c.read_file.ensures.files.kept ∙ c.open_story.ensures.files.kept) (made story_known c.in_ok-story.ensures.held)))
    c.shown_by.ensures.shown

pub returns-then-has_lists-clause-refused : goal.returns-then-has_lists-clause-refused
returns-then-has_lists-clause-refused g c =
    let story_known = g.F.Files.known c.args.files.now c.args.story.now in
    for_reason _ (IsUnshownStory story_known (g.F.Files.known c.args.files.now c.args.certificate.now)) c.shown_by.result
    (λ problem why. inr (subst (λ (known : List ℕ → Option (List ℕ)). IsUnshown values_operations values_format story_known (known c.args.certificate.now) problem) (c.read_file.ensures.files.kept ∙ c.open_story.ensures.files.kept) (why story_known c.in_ok-story.ensures.held)))
    c.shown_by.ensures.refused

pub returns-clause-shown : goal.returns-clause-shown
returns-clause-shown g c =
    let story_known = g.F.Files.known c.args.files.now c.args.story.now in
    for_value _ _ c.shown_by-else-has_lists.result
    (λ text made. inl (subst (λ (known : List ℕ → Option (List ℕ)). HoldsShownBy interval_operations interval_format interval_kind interval_text story_known (known c.args.certificate.now) c.args.address text.items) (c.read_file.ensures.files.kept ∙ c.open_story.ensures.files.kept) (made story_known c.in_ok-story.ensures.held)))
    c.shown_by-else-has_lists.ensures.shown

pub returns-clause-refused : goal.returns-clause-refused
returns-clause-refused g c =
    let story_known = g.F.Files.known c.args.files.now c.args.story.now in
    for_reason _ (IsUnshownStory story_known (g.F.Files.known c.args.files.now c.args.certificate.now)) c.shown_by-else-has_lists.result
    (λ problem why. inl (subst (λ (known : List ℕ → Option (List ℕ)). IsUnshown interval_operations interval_format story_known (known c.args.certificate.now) problem) (c.read_file.ensures.files.kept ∙ c.open_story.ensures.files.kept) (why story_known c.in_ok-story.ensures.held)))
    c.shown_by-else-has_lists.ensures.refused
