use Rattle.std.proofs.Common.{◌≡◌, inl, inr, List, Option, ℕ, rules, subst}
use Rattle.zdomain.specs.Interval.{interval_operations}
use Rattle.zdomain.specs.Values.{values_operations}
use Rattle.zcert.specs.Format.{interval_format}
use Rattle.zcert.specs.Lists.{values_format}
use Rattle.zperform.specs.Accepting.{HoldsStory, IsJudgedOf, IsUnaccepted, IsUnacceptedStory}
use Rattle.zperform.specs.declared.outcome.Problem.{Problem}
use Rattle.zperform.proofs.AcceptLemmas.{first_read, first_unread, handed_on, read_well}
use Rattle.zperform.proofs.accepting.accept_loaded.Goals as goal

pub returns-in_err-first-clause-refused : goal.returns-in_err-first-clause-refused
returns-in_err-first-clause-refused g c =
    let certificate_known = g.F.Files.known c.args.files.now c.args.certificate.now in
    handed_on (λ (problem : Problem). (known : Option (List ℕ)) → HoldsStory known c.args.story → IsUnacceptedStory known certificate_known problem) c.from_residual.result _ c.from_residual.ensures
    (λ known held. inl (first_unread interval_operations interval_format known certificate_known _ held c.in_err-first.field-0.0 c.in_err-first.ensures.failed))

pub accept_story-requires-clause-first : goal.accept_story-requires-clause-first
accept_story-requires-clause-first g c =
    let same : c.in_ok-first.first.items ≡ c.deref-then-has_lists.result.now = search rules in
    first_read _ _ c.args.certificate.now _ _ c.read_file.ensures.files.kept same c.in_ok-first.ensures.read

pub accept_story-requires-else-has_lists-clause-first : goal.accept_story-requires-else-has_lists-clause-first
accept_story-requires-else-has_lists-clause-first g c =
    let same : c.in_ok-first.first.items ≡ c.deref-else-has_lists.result.now = search rules in
    first_read _ _ c.args.certificate.now _ _ c.read_file.ensures.files.kept same c.in_ok-first.ensures.read

pub returns-in_err-accepted-clause-refused : goal.returns-in_err-accepted-clause-refused
returns-in_err-accepted-clause-refused g c =
    let name = c.args.certificate.now in
    let certificate_known = g.F.Files.known c.args.files.now name in
    let problem = c.in_err-accepted.field-0.0 in
    handed_on (λ (problem : Problem). (known : Option (List ℕ)) → HoldsStory known c.args.story → IsUnacceptedStory known certificate_known problem) c.from_residual-in_err-accepted.result _ c.from_residual-in_err-accepted.ensures
    (λ known held. inr (subst (λ (files : List ℕ → Option (List ℕ)). IsUnaccepted values_operations values_format known (files name) problem) c.read_file.ensures.files.kept (c.in_err-accepted.ensures.refused known held)))

pub returns-in_err-accepted-2-clause-refused : goal.returns-in_err-accepted-2-clause-refused
returns-in_err-accepted-2-clause-refused g c =
    let name = c.args.certificate.now in
    let certificate_known = g.F.Files.known c.args.files.now name in
    let problem = c.in_err-accepted-2.field-0.0 in
    handed_on (λ (problem : Problem). (known : Option (List ℕ)) → HoldsStory known c.args.story → IsUnacceptedStory known certificate_known problem) c.from_residual-in_err-accepted-2.result _ c.from_residual-in_err-accepted-2.ensures
    (λ known held. inl (subst (λ (files : List ℕ → Option (List ℕ)). IsUnaccepted interval_operations interval_format known (files name) problem) c.read_file.ensures.files.kept (c.in_err-accepted-2.ensures.refused known held)))

pub returns-then-has_lists-clause-accepted : goal.returns-then-has_lists-clause-accepted
returns-then-has_lists-clause-accepted g c =
    let name = c.args.certificate.now in
    λ known held. subst (λ (files : List ℕ → Option (List ℕ)). IsJudgedOf values_operations values_format known (files name) c.in_ok-accepted.accepted) c.read_file.ensures.files.kept (c.in_ok-accepted.ensures.accepted known held)

pub returns-clause-accepted : goal.returns-clause-accepted
returns-clause-accepted g c =
    let name = c.args.certificate.now in
    λ known held. subst (λ (files : List ℕ → Option (List ℕ)). IsJudgedOf interval_operations interval_format known (files name) c.in_ok-accepted-2.accepted) c.read_file.ensures.files.kept (c.in_ok-accepted-2.ensures.accepted known held)

pub returns-then-has_lists-clause-files : goal.returns-then-has_lists-clause-files
returns-then-has_lists-clause-files g c =
    let begun = c.in_ok-first.ensures.files in
    read_well _ _ _ _ _ _ begun.kept (begun.blamed.1 (λ e. cc)) begun.alike _ _ c.in_ok-accepted.ensures.files (λ e. cc) (λ e. cc)

pub returns-clause-files : goal.returns-clause-files
returns-clause-files g c =
    let begun = c.in_ok-first.ensures.files in
    read_well _ _ _ _ _ _ begun.kept (begun.blamed.1 (λ e. cc)) begun.alike _ _ c.in_ok-accepted-2.ensures.files (λ e. cc) (λ e. cc)
