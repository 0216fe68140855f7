use Rattle.std.proofs.Common.{◌≡◌, ◌≢◌, ap, rules, subst, Err, ℕ, List}
use Rattle.zperform.specs.Listing.{HoldsListed, IsNoListing, ListComesTo}
use Rattle.zperform.specs.declared.outcome.Failure.TheVariants.{File, Write}
use Rattle.zperform.specs.declared.outcome.Problem.TheVariants.{Failed}
use Rattle.zperform.specs.declared.outcome.Outcome.{Outcome}
use Rattle.zperform.specs.declared.outcome.Outcome.TheVariants.{Stopped}
use Rattle.zperform.proofs.AcceptLemmas.{read_on}
use Rattle.zperform.proofs.EndLemmas.{ends_so, stops}
use Rattle.zperform.proofs.listing.list_file.Goals as goal

pub returns-in-Ok-clause-comes : goal.returns-in-Ok-clause-comes
returns-in-Ok-clause-comes g c =
    let known = g.F.Files.known c.args.files.now c.args.story.now in
    let same : c.in-Ok.text.items ≡ c.deref.result.now = search rules in
    let listed = subst (λ (text : List ℕ). HoldsListed c.args.json known text) same c.in-Ok.ensures.listed in
    ends_so _ _ _ _ _ (λ (o : Outcome). ListComesTo c.args.json known (g.W.Sink.contents c.args.writer.now) (g.W.Sink.contents c.write_done.new.writer) o) c.write_done.ensures.ends (λ written. (_, listed, written)) (λ begun. (_, listed, begun))

pub returns-in-Ok-clause-files : goal.returns-in-Ok-clause-files
returns-in-Ok-clause-files g c = read_on _ _ _ _ _ _ _ c.in-Ok.ensures.files (λ e. cc) (ends_so _ _ _ _ _ (λ (o : Outcome). o ≢ Stopped (Failed File)) c.write_done.ensures.ends (λ _ e. cc) (λ _ e. cc))

pub returns-in-Err-clause-comes : goal.returns-in-Err-clause-comes
returns-in-Err-clause-comes g c = stops _ (IsNoListing (g.F.Files.known c.args.files.now c.args.story.now)) _ c.in-Err.problem (λ (e : c.in-Err.problem ≡ Failed Write). c.in-Err.ensures.unwritten (ap Err e)) c.in-Err.ensures.refused
