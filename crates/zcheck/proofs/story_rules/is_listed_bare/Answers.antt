use Rattle.std.proofs.Common.{◌↔◌, Option, subst}
use Rattle.std.specs.Prelude.{IsTrue, MatchOption}
use Rattle.zcheck.specs.Bare.{IsBare}
use Rattle.zcheck.proofs.story_rules.is_listed_bare.Goals as goal

pub returns-in-Some : goal.returns-in-Some
returns-in-Some g c = subst (λ (l : Option _). IsTrue c.is_bare.result ↔ MatchOption l ⊥ IsBare) c.in-Some.ensures.value c.is_bare.ensures
