use Rattle.std.proofs.Common.{◌≡◌, rules}
use Rattle.std.specs.Prelude.{Ok}
use Rattle.zperform.proofs.VerdictLemmas.{facts_known_of}
use Rattle.zperform.proofs.verdict.facts_of.Goals as goal

pub returns-in-Ok-clause-are : goal.returns-in-Ok-clause-are
returns-in-Ok-clause-are g c =
    let same : c.deref.result.now ≡ c.in-Ok.file.items = search rules in
    facts_known_of _ c.in-Ok.file.items c.in-Ok.ensures.read _ c.facts_in.result (rw (← same) c.facts_in.ensures.digest) (rw (← same) c.facts_in.ensures.heading) (rw (← same) c.facts_in.ensures.undigested) (rw (← same) c.facts_in.ensures.unheaded)
