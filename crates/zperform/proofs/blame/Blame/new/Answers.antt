use Rattle.std.proofs.Common.{◌∙◌, refl, rules}
use Rattle.zperform.proofs.VerdictLemmas.{front_taken}
use Rattle.zperform.proofs.blame.Blame.new.Goals as goal

pub returns-clause-of : goal.returns-clause-of
returns-clause-of c = record { name_is = c.kept.ensures ∙ c.front.ensures.front ∙ search (rules, front_taken c.args.name.now); action_is = refl }
