use Rattle.std.proofs.Common.{◌≡◌, inl, inr, sym, subst}
use Rattle.zdomain.specs.Interval.{interval_operations}
use Rattle.zdomain.specs.Values.{values_operations}
use Rattle.zcert.specs.Format.{interval_format}
use Rattle.zcert.specs.Lists.{values_format}
use Rattle.zperform.specs.Accepting.{IsAcceptedStory, IsJudgedOf, IsUnacceptedStory}
use Rattle.zperform.specs.Marking.{HoldsListedByEither, IsListedBy}
use Rattle.zperform.specs.declared.outcome.Failure.TheVariants.{File, Memory}
use Rattle.zperform.specs.declared.outcome.Problem.{Problem}
use Rattle.zperform.specs.declared.outcome.Problem.TheVariants.{Failed}
use Rattle.zperform.proofs.AcceptLemmas.{for_reason, for_value, judged_bytes, no_reason, read_on}
use Rattle.zperform.proofs.listing.listing_by.Goals as goal

pub returns-in-Intervals-clause-listed : goal.returns-in-Intervals-clause-listed
returns-in-Intervals-clause-listed g c =
    let story_known = g.F.Files.known c.args.files.now c.args.story.now in
    let certificate_known = g.F.Files.known c.args.files.now c.args.certificate.now in
    let has : IsJudgedOf interval_operations interval_format story_known certificate_known c.in-Intervals.judged = subst (IsAcceptedStory story_known certificate_known) c.in-Intervals.is c.in_ok-judged.ensures.accepted in
    for_value (λ text. IsListedBy c.args.json interval_operations c.in-Intervals.judged text.items) (λ text. HoldsListedByEither c.args.json story_known certificate_known text.items) c.list_judged.result (λ text e. inl (c.in-Intervals.judged, has, e)) c.list_judged.ensures.listed

pub returns-in-Intervals-clause-refused : goal.returns-in-Intervals-clause-refused
returns-in-Intervals-clause-refused g c =
    let story_known = g.F.Files.known c.args.files.now c.args.story.now in
    let certificate_known = g.F.Files.known c.args.files.now c.args.certificate.now in
    let has : IsJudgedOf interval_operations interval_format story_known certificate_known c.in-Intervals.judged = subst (IsAcceptedStory story_known certificate_known) c.in-Intervals.is c.in_ok-judged.ensures.accepted in
    for_reason (λ (p : Problem). p ≡ Failed Memory) (IsUnacceptedStory story_known certificate_known) c.list_judged.result (λ p why. subst (IsUnacceptedStory story_known certificate_known) (sym why) (inl (judged_bytes interval_operations interval_format story_known certificate_known c.in-Intervals.judged has))) c.list_judged.ensures.wanted

pub returns-in-Lists-clause-listed : goal.returns-in-Lists-clause-listed
returns-in-Lists-clause-listed g c =
    let story_known = g.F.Files.known c.args.files.now c.args.story.now in
    let certificate_known = g.F.Files.known c.args.files.now c.args.certificate.now in
    let has : IsJudgedOf values_operations values_format story_known certificate_known c.in-Lists.judged = subst (IsAcceptedStory story_known certificate_known) c.in-Lists.is c.in_ok-judged.ensures.accepted in
    for_value (λ text. IsListedBy c.args.json values_operations c.in-Lists.judged text.items) (λ text. HoldsListedByEither c.args.json story_known certificate_known text.items) c.list_judged-in-Lists.result (λ text e. inr (c.in-Lists.judged, has, e)) c.list_judged-in-Lists.ensures.listed

pub returns-in-Lists-clause-refused : goal.returns-in-Lists-clause-refused
returns-in-Lists-clause-refused g c =
    let story_known = g.F.Files.known c.args.files.now c.args.story.now in
    let certificate_known = g.F.Files.known c.args.files.now c.args.certificate.now in
    let has : IsJudgedOf values_operations values_format story_known certificate_known c.in-Lists.judged = subst (IsAcceptedStory story_known certificate_known) c.in-Lists.is c.in_ok-judged.ensures.accepted in
    for_reason (λ (p : Problem). p ≡ Failed Memory) (IsUnacceptedStory story_known certificate_known) c.list_judged-in-Lists.result (λ p why. subst (IsUnacceptedStory story_known certificate_known) (sym why) (inl (judged_bytes values_operations values_format story_known certificate_known c.in-Lists.judged has))) c.list_judged-in-Lists.ensures.wanted

pub returns-in-Lists-clause-files : goal.returns-in-Lists-clause-files
returns-in-Lists-clause-files g c = read_on _ _ _ _ _ _ _ c.in_ok-judged.ensures.files (λ e. cc) (no_reason (λ (p : Problem). p ≡ Failed Memory) (Failed File) c.list_judged-in-Lists.result (λ e. cc) c.list_judged-in-Lists.ensures.wanted)
