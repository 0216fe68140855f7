use Rattle.std.proofs.Common.{◌≡◌, ap, rules, subst, Err, ℕ, List}
use Rattle.zperform.specs.Informing.{HoldsInfo, InfoComesTo, IsNoInfo}
use Rattle.zperform.specs.declared.outcome.Failure.TheVariants.{Write}
use Rattle.zperform.specs.declared.outcome.Problem.TheVariants.{Failed}
use Rattle.zperform.specs.declared.outcome.Outcome.{Outcome}
use Rattle.zperform.proofs.EndLemmas.{ends_so, stops}
use Rattle.zperform.proofs.informing.inform.Goals as goal

pub returns-in-Ok-clause-comes : goal.returns-in-Ok-clause-comes
returns-in-Ok-clause-comes g c =
    let known = g.F.Files.known c.args.files.now in
    let same : c.in-Ok.text.items ≡ c.deref.result.now = search rules in
    let informed = subst (λ (text : List ℕ). HoldsInfo c.args.json c.args.story.now known text) same c.in-Ok.ensures.informed in
    ends_so _ _ _ _ _ (λ (o : Outcome). InfoComesTo c.args.json c.args.story.now known (g.W.Sink.contents c.args.writer.now) (g.W.Sink.contents c.write_done.new.writer) o) c.write_done.ensures.ends (λ written. (_, informed, written)) (λ begun. (_, informed, begun))

pub returns-in-Err-clause-comes : goal.returns-in-Err-clause-comes
returns-in-Err-clause-comes g c = stops _ (IsNoInfo (g.F.Files.known c.args.files.now c.args.story.now)) _ c.in-Err.problem (λ (e : c.in-Err.problem ≡ Failed Write). c.in-Err.ensures.unwritten (ap Err e)) c.in-Err.ensures.refused
