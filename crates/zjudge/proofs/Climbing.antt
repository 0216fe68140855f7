-- Frames judged from the oldest up are frames described from the newest down.
use Rattle.std.proofs.Common.{◌≡◌, ◌↔◌, ℕ, List, [], ◌∷◌, ◌++◌, Option, Some, None, refl, sym, ap, subst, ◌∙◌}
use Rattle.std.specs.Prelude.{map, reverse}
use Rattle.std.proofs.lemmas.List.{append_assoc, reverse-append}
use Rattle.std.proofs.lemmas.Option.{same_Some}
use Rattle.zdomain.specs.Domain.{SetOperations}
use Rattle.zquetzal.specs.Saved.{Frame as SavedFrame}
use Rattle.zstate.specs.State.{Frame, State}
use Rattle.zstate.specs.Saves.{taken_frame, with_frames}
use Rattle.zrule.specs.Claims.{Entry, Claims}
use Rattle.zrule.specs.Described.{Callers, Fits, FitsWith}
use Rattle.zrule.specs.Rules.{AreImplied}
use Rattle.zjudge.specs.Frames.{AreDescribed, AreDescribedFrom, IsCalled, Waiting}

-- the newest frame and its callers, of a frame that stands above some, with others above it
abbrev pub stacked : Frame → List Frame → List Frame → Frame × List Frame
stacked f callers [] = (f, callers)
stacked f callers (g ∷ above) = stacked g (f ∷ callers) above

stacked_above : (f : SavedFrame) (callers above : List SavedFrame) (s : State) → with_frames (map taken_frame (reverse above ++ f ∷ callers)) s ≡ record s { frame = (stacked (taken_frame f) (map taken_frame callers) (map taken_frame above)).0; callers = (stacked (taken_frame f) (map taken_frame callers) (map taken_frame above)).1 }
stacked_above f callers [] s = refl
stacked_above f callers (g ∷ above) s = ap (λ (fs : List SavedFrame). with_frames (map taken_frame fs) s) (turned_more g above (f ∷ callers)) ∙ stacked_above g (f ∷ callers) above s
  where
    turned_more : (x : SavedFrame) (xs ys : List SavedFrame) → reverse (x ∷ xs) ++ ys ≡ reverse xs ++ x ∷ ys
    turned_more x xs ys = ap (λ (zs : List SavedFrame). zs ++ ys) (reverse-append (x ∷ []) xs) ∙ append_assoc (reverse xs) (x ∷ []) ys

-- the frames of a save, turned round
pub turned_round : (f : SavedFrame) (above : List SavedFrame) (s : State) → with_frames (map taken_frame (reverse (f ∷ above))) s ≡ record s { frame = (stacked (taken_frame f) [] (map taken_frame above)).0; callers = (stacked (taken_frame f) [] (map taken_frame above)).1 }
turned_round f above s = ap (λ (fs : List SavedFrame). with_frames (map taken_frame fs) s) (reverse-append (f ∷ []) above) ∙ stacked_above f [] above s

module _ {V : Type 0} (o : SetOperations V) (claims : Claims V) where
  -- what is said of a newest frame and its callers at a place
  pub record IsNewest (place : ℕ) (f : Frame) (gs : List Frame) : Type 0 where
    pub entry : Entry V
    pub listed : claims.entry place ≡ Some entry
    pub fits : Fits o claims entry.shape f.locals f.stack
    pub callers : Callers o claims entry.routine f.return_place f.result gs

  -- the frame that waits is the newest of the callers, and those are judged
  abbrev IsAbove : Option (Waiting V) → Frame → List Frame → Type 0
  IsAbove None f [] = Unit {0}
  IsAbove None f (g ∷ gs) = ⊥
  IsAbove (Some w) f [] = ⊥
  IsAbove (Some w) f (g ∷ gs) = (w.frame ≡ g) × (claims.entry f.return_place ≡ Some w.entry) × AreImplied o claims.globals (claims.facts f.return_place) × Callers o claims w.entry.routine g.return_place g.result gs

  called : (below : Option (Waiting V)) (f : Frame) (gs : List Frame) (routine : ℕ) → IsAbove below f gs → IsCalled o claims below f.result routine → Callers o claims routine f.return_place f.result gs
  called None f [] routine above is = is
  called None f (g ∷ gs) routine above is = absurd above
  called (Some w) f [] routine above is = absurd above
  called (Some w) f (g ∷ gs) routine above is = (is.0, w.entry, above.1, λ x member. subst (FitsWith o claims f.result x w.entry.shape) above.0 (is.1 x member), above.2, above.3)

  calls : (below : Option (Waiting V)) (f : Frame) (gs : List Frame) (routine : ℕ) → IsAbove below f gs → Callers o claims routine f.return_place f.result gs → IsCalled o claims below f.result routine
  calls None f [] routine above is = is
  calls None f (g ∷ gs) routine above is = absurd above
  calls (Some w) f [] routine above is = absurd above
  calls (Some w) f (g ∷ gs) routine above (some, entry, listed, fits, implied, rest) =
      let same : entry ≡ w.entry = same_Some entry w.entry (sym listed ∙ above.1) in
      (some, λ x member. subst (λ (e : Entry V). FitsWith o claims f.result x e.shape w.frame) same (subst (FitsWith o claims f.result x entry.shape) (sym above.0) (fits x member)))

  -- what is said of callers below
  below_is : (f : Frame) (gs : List Frame) (a : Frame) (above : List Frame) (place : ℕ) → IsNewest place (stacked a (f ∷ gs) above).0 (stacked a (f ∷ gs) above).1
      → (e : Entry V) × (claims.entry a.return_place ≡ Some e) × AreImplied o claims.globals (claims.facts a.return_place) × Callers o claims e.routine f.return_place f.result gs
  below_is f gs a [] place newest = let c = newest.callers in (c.1, c.2, c.4, c.5)
  below_is f gs a (b ∷ above) place newest =
      let c = (below_is a (f ∷ gs) b above place newest).3 in
      (c.1, c.2, c.4, c.5)

  climb : (below : Option (Waiting V)) (f : Frame) (gs above : List Frame) (place : ℕ) → IsAbove below f gs → AreDescribedFrom o claims below f above place ↔ IsNewest place (stacked f gs above).0 (stacked f gs above).1
  climb below f gs [] place stands = (
    λ (entry, goes, fits). record { entry = entry; listed = goes.listed; fits = fits; callers = called below f gs entry.routine stands goes.called },
    λ newest. (newest.entry, record { listed = newest.listed; called = calls below f gs newest.entry.routine stands newest.callers }, newest.fits),
  )
  climb below f gs (g ∷ above) place stands = (
    λ (entry, goes, implied, rest). (climb (Some (record { entry = entry; frame = f })) g (f ∷ gs) above place (refl, goes.listed, implied, called below f gs entry.routine stands goes.called)).0 rest,
    λ newest.
        let under = below_is f gs g above place newest in (
          under.0,
          record { listed = under.1; called = calls below f gs under.0.routine stands under.3 },
          under.2,
          (climb (Some (record { entry = under.0; frame = f })) g (f ∷ gs) above place (refl, under.1, under.2, under.3)).1 newest,
        ),
  )

  -- all frames, from the oldest up and from the newest down
  pub climbed : (f : Frame) (above : List Frame) (place : ℕ) → AreDescribed o claims (f ∷ above) place ↔ IsNewest place (stacked f [] above).0 (stacked f [] above).1
  climbed f above place = climb None f [] above place tt
