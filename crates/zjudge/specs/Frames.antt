-- When the frames of a save are described, from the oldest up (own). Each caller is judged under every value that the routine above it
-- may give.
use Rattle.std.specs.Prelude.{◌≡◌, ℕ, ◌≤◌, List, [], ◌∷◌, Option, Some, None}
use Rattle.zdomain.specs.Domain.{SetOperations, In}
use Rattle.zstate.specs.State.{Frame}
use Rattle.zrule.specs.Claims.{Entry, Claims}
use Rattle.zrule.specs.Described.{Fits, FitsWith}
use Rattle.zrule.specs.Rules.{AreImplied}

-- a frame that waits for what the routine above it gives, with what is said of the place to which that returns
pub record Waiting (V : Type 0) : Type 0 where
  pub entry : Entry V
  pub frame : Frame

module _ {V : Type 0} (o : SetOperations V) (claims : Claims V) where
  -- the oldest frame, which nothing called, is in the main code; any other may give each of its values to the frame below it
  abbrev pub IsCalled : Option (Waiting V) → ℕ → ℕ → Type 0
  IsCalled None result routine = routine ≡ 0
  IsCalled (Some below) result routine = (1 ≤ routine) × ((x : ℕ) → In o (claims.result routine) x → FitsWith o claims result x below.entry.shape below.frame)

  -- what is said of a place where a frame goes on, which may have been called
  pub record GoesOnAt (below : Option (Waiting V)) (f : Frame) (place : ℕ) (e : Entry V) : Type 0 where
    pub listed : claims.entry place ≡ Some e
    pub called : IsCalled below f.result e.routine

  -- A frame with those above it: each goes on where the one above it returns to, and the newest at a place, where it fits. What is
  -- stated of globals where one goes on that waits holds of all that they may have.
  abbrev pub AreDescribedFrom : Option (Waiting V) → Frame → List Frame → ℕ → Type 0
  AreDescribedFrom below f [] place = (e : Entry V) × GoesOnAt below f place e × Fits o claims e.shape f.locals f.stack
  AreDescribedFrom below f (g ∷ above) place = (e : Entry V) × GoesOnAt below f g.return_place e × AreImplied o claims.globals (claims.facts g.return_place) × AreDescribedFrom (Some (record { entry = e; frame = f })) g above place

  -- all frames, the oldest first
  abbrev pub AreDescribed : List Frame → ℕ → Type 0
  AreDescribed [] place = ⊥
  AreDescribed (f ∷ above) place = AreDescribedFrom None f above place
