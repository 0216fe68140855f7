-- Frames judged one after another.
use Rattle.std.proofs.Common.{◌≡◌, ◌↔◌, ℕ, List, [], ◌∷◌, Option, Some, sym, subst, ◌∙◌}
use Rattle.std.proofs.lemmas.Option.{same_Some}
use Rattle.zdomain.specs.Domain.{SetOperations}
use Rattle.zstate.specs.State.{Frame}
use Rattle.zrule.specs.Claims.{Entry, Claims}
use Rattle.zrule.specs.Described.{Fits}
use Rattle.zrule.specs.Rules.{AreImplied}
use Rattle.zjudge.specs.Frames.{AreDescribedFrom, GoesOnAt, Waiting}

module _ {V : Type 0} (o : SetOperations V) (claims : Claims V) (below : Option (Waiting V)) (f : Frame) where
  same_entry : (place : ℕ) (e d : Entry V) → GoesOnAt o claims below f place e → GoesOnAt o claims below f place d → d ≡ e
  same_entry place e d goes others = same_Some d e (sym others.listed ∙ goes.listed)

  pub newest_where : (place : ℕ) (e : Entry V) → GoesOnAt o claims below f place e → Fits o claims e.shape f.locals f.stack ↔ AreDescribedFrom o claims below f [] place
  newest_where place e goes = (
    λ fits. (e, goes, fits),
    λ (d, others, fits). subst (λ (x : Entry V). Fits o claims x.shape f.locals f.stack) (same_entry place e d goes others) fits,
  )

  -- with one more frame above it
  pub ahead_where : (g : Frame) (above : List Frame) (place : ℕ) (e : Entry V) → GoesOnAt o claims below f g.return_place e → AreImplied o claims.globals (claims.facts g.return_place) → AreDescribedFrom o claims (Some (record { entry = e; frame = f })) g above place ↔ AreDescribedFrom o claims below f (g ∷ above) place
  ahead_where g above place e goes implied = (
    λ rest. (e, goes, implied, rest),
    λ (d, others, also, rest). subst (λ (x : Entry V). AreDescribedFrom o claims (Some (record { entry = x; frame = f })) g above place) (same_entry g.return_place e d goes others) rest,
  )
