use Rattle.std.proofs.Common.{◌∙◌, ℕ, ap, arith, rules}
use Rattle.zstate.specs.Step.{place_of}
use Rattle.zengine.specs.Body.{spot_at}
use Rattle.zengine.proofs.Kept.{lent_is}
use Rattle.zengine.proofs.saving.lent.Goals as goal

pub returns : goal.returns
returns g c = lent_is (g.S.Spots.spots c.args.spots.now) c.args.words.now c.args.lying _ (c.place_returned.ensures ∙ ap (λ (k : ℕ). place_of (spot_at (g.S.Spots.spots c.args.spots.now) k).place) c.index_of.ensures) (search (rules, arith)) (search (rules, arith)) (search (rules, arith)) (search (rules, arith))
