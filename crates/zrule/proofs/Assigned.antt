-- What an effect assigns and gives: what is known of the globals and of the frame with it.
use Rattle.std.proofs.Common.{◌≡◌, ℕ, List, length, Option, Some, None, sym, subst}
use Rattle.std.specs.Prelude.{IfSome}
use Rattle.zstory.specs.LoadedStory.{LoadedStory}
use Rattle.zdomain.specs.Domain.{SetOperations, In}
use Rattle.zstate.specs.State.{State, put_in_place}
use Rattle.zstate.specs.Step.{assigned, rewritten, stored}
use Rattle.zflow.specs.Transfer.{Shape, globals_with, globals_named, with_result, with_assigned}
use Rattle.zrule.specs.Claims.{Claims, frozen_in}
use Rattle.zrule.specs.Rules.{HasDisjointTables, IsVariable, LieIn}
use Rattle.zrule.specs.Described.{DescribedMemory, IsLoadedStory}
use Rattle.zrule.proofs.Fitting.{GivenIn}
use Rattle.zrule.proofs.Framed.{FitsFrame, in_place_fits, result_fits}
use Rattle.zrule.proofs.Told.{global_small, lie_put, lie_put_in_place}

module _ {V : Type 0} (o : SetOperations V) (claims : Claims V) where
  -- what is assigned is of a variable that a frame with this shape has
  unfoldable pub AssignedIn : Shape V → Option (ℕ × V) → Option (ℕ × ℕ) → Type 0
  AssignedIn shape None None = Unit {0}
  AssignedIn shape None (Some p) = ⊥
  AssignedIn shape (Some a) None = ⊥
  AssignedIn shape (Some a) (Some p) = (p.0 ≡ a.0) × In o a.1 p.1 × IsVariable o claims shape a.0

  module _ (story : LoadedStory) where
    -- ---- what is known of globals

    pub lie_rewritten : (globals : List V) (memory : Option (List ℕ)) (u : State) → IfSome memory (λ after. DescribedMemory o claims story after × LieIn o globals story after) → LieIn o globals story u.memory → LieIn o globals story (rewritten memory u).memory
    lie_rewritten globals None u is lie = lie
    lie_rewritten globals (Some memory) u is lie = is.1

    pub lie_assigned : (loaded : IsLoadedStory story) (shape : Shape V) (given : Option (ℕ × V)) (assigns : Option (ℕ × ℕ)) (globals : List V) (u : State) → AssignedIn shape given assigns → length u.memory ≡ length story.memory → LieIn o globals story u.memory → LieIn o (globals_named given globals) story (assigned story assigns u).memory
    unfolding AssignedIn
    lie_assigned loaded shape None None globals u is long lie = lie
    lie_assigned loaded shape None (Some p) globals u is long lie = absurd is
    lie_assigned loaded shape (Some a) None globals u is long lie = absurd is
    lie_assigned loaded shape (Some a) (Some p) globals u is long lie =
        subst (λ (n : ℕ). LieIn o (globals_named (Some a) globals) story (put_in_place story n p.1 u).memory) (sym is.0) (lie_put_in_place o story loaded globals a.0 p.1 a.1 u long (global_small o claims shape a.0 is.2) is.1 lie)

    -- ---- and of the frame, whatever globals take

    pub fits_assigned : (shape : Shape V) (given : Option (ℕ × V)) (assigns : Option (ℕ × ℕ)) (e : Shape V) (u : State) → AssignedIn shape given assigns → FitsFrame o claims story e u → FitsFrame o claims story (with_assigned given e) (assigned story assigns u)
    unfolding AssignedIn
    fits_assigned shape None None e u is fits = fits
    fits_assigned shape None (Some p) e u is fits = absurd is
    fits_assigned shape (Some a) None e u is fits = absurd is
    fits_assigned shape (Some a) (Some p) e u is fits =
        subst (λ (n : ℕ). FitsFrame o claims story (with_assigned (Some a) e) (put_in_place story n p.1 u)) (sym is.0) (in_place_fits o claims story a.0 p.1 a.1 e u is.1 fits)

    module _ (loaded : IsLoadedStory story) (tables : HasDisjointTables story (frozen_in claims)) where
      pub lie_given : (shape : Shape V) (v : ℕ) → IsVariable o claims shape v → (given : Option V) (gives : Option ℕ) (globals : List V) (u : State) → GivenIn o claims story loaded tables given gives → length u.memory ≡ length story.memory → LieIn o globals story u.memory → LieIn o (globals_with given v globals) story (stored story gives v u).memory
      lie_given shape v exists None None globals u is long lie = lie
      lie_given shape v exists None (Some x) globals u is long lie = absurd is
      lie_given shape v exists (Some a) None globals u is long lie = absurd is
      lie_given shape v exists (Some a) (Some x) globals u is long lie = lie_put o story loaded globals v x a u long (global_small o claims shape v exists) is lie

      pub fits_given : (v : ℕ) (given : Option V) (gives : Option ℕ) (e : Shape V) (u : State) → GivenIn o claims story loaded tables given gives → FitsFrame o claims story e u → FitsFrame o claims story (with_result given v e) (stored story gives v u)
      fits_given v None None e u is fits = fits
      fits_given v None (Some x) e u is fits = absurd is
      fits_given v (Some a) None e u is fits = absurd is
      fits_given v (Some a) (Some x) e u is fits = result_fits o claims story v x a e u is fits
