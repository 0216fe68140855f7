use Rattle.std.proofs.Common.{◌∙◌, ap, [], ◌∷◌, inr, refl, rules}
use Rattle.std.specs.Prelude.{Ok}
use Rattle.zplayer.proofs.saving.take_up.Goals as goal

pub returns-clause-none : goal.returns-clause-none
returns-clause-none g c = λ is. (
  c.in-Some.error ∷ [],
  g.met.S.SaveStore.through _ _ _ _ _ c.get.ensures.follows c.refused.ensures.follows,
  λ before. (
    c.refused.ensures.same.0 ∙ c.get.ensures.same,
    inr (c.refused.ensures.same.1 ∙ c.if-not-get.ensures.counts, c.deref.result.now, c.in-Some.error, search (rules, c.deref.ensures.value), c.in_ok-restore.ensures.refused c.in-Some.error (ap Ok c.in-Some.is), refl),
  ),
)
