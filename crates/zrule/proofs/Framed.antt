-- A frame of which a variable is given a value of a set, whatever a global takes.
use Rattle.std.proofs.Common.{ℕ, ◌-◌, Bool, true, false, ◌∷◌, Some, nat_lt, slice_set, if◌then◌else◌}
use Rattle.std.specs.Prelude.{◌==◌}
use Rattle.zstory.specs.LoadedStory.{LoadedStory}
use Rattle.zdomain.specs.Domain.{SetOperations, In}
use Rattle.zstate.specs.State.{State, with_stack, with_locals, with_memory, write_word, global, put, put_named, put_in_place}
use Rattle.zflow.specs.Transfer.{Shape, with_result, with_assigned, named_with}
use Rattle.zrule.specs.Claims.{Claims}
use Rattle.zrule.specs.Described.{Fits}
use Rattle.zrule.proofs.Sets.{zip_set}

module _ {V : Type 0} (o : SetOperations V) (claims : Claims V) (story : LoadedStory) where
  abbrev pub FitsFrame : Shape V → State → Type 0
  FitsFrame e u = Fits o claims e u.frame.locals u.frame.stack

  module _ (v x : ℕ) (a : V) (e : Shape V) (u : State) (member : In o a x) (fits : FitsFrame e u) where
    named_fits : FitsFrame (record { locals = named_with v a e.locals; slots = e.slots }) (put_named story v x u)
    unfolding put_named
    named_fits = by_kind (nat_lt v 16)
      where
        by_kind : (c : Bool) → FitsFrame (record { locals = if c then slice_set e.locals (v - 1) a else e.locals; slots = e.slots }) (if c then with_locals (slice_set u.frame.locals (v - 1) x) u else with_memory (write_word u.memory (global story v) x) u)
        by_kind true = record { in_locals = zip_set (In o) e.locals u.frame.locals fits.in_locals (v - 1) a x member; in_slots = fits.in_slots }
        by_kind false = record { in_locals = fits.in_locals; in_slots = fits.in_slots }

    pub in_place_fits : FitsFrame (with_assigned (Some (v, a)) e) (put_in_place story v x u)
    unfolding put_in_place
    in_place_fits = by_stack (v == 0)
      where
        by_stack : (b : Bool) → FitsFrame (record { locals = if b then e.locals else named_with v a e.locals; slots = if b then slice_set e.slots 0 a else e.slots }) (if b then with_stack (slice_set u.frame.stack 0 x) u else put_named story v x u)
        by_stack true = record { in_locals = fits.in_locals; in_slots = zip_set (In o) e.slots u.frame.stack fits.in_slots 0 a x member }
        by_stack false = named_fits

    pub result_fits : FitsFrame (with_result (Some a) v e) (put story v x u)
    unfolding put
    result_fits = by_stack (v == 0)
      where
        by_stack : (b : Bool) → FitsFrame (record { locals = if b then e.locals else named_with v a e.locals; slots = if b then a ∷ e.slots else e.slots }) (if b then with_stack (x ∷ u.frame.stack) u else put_named story v x u)
        by_stack true = record { in_locals = fits.in_locals; in_slots = (member, fits.in_slots) }
        by_stack false = named_fits
