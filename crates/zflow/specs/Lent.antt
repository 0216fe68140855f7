-- What is lent of a frame's sets, with the changes (own).
use Rattle.std.specs.Prelude.{ℕ, List, ◌∷◌, reverse, Option, Some, None, slice_set}
use Rattle.zflow.specs.declared.global_sets.Globals.{Globals}
use Rattle.zflow.specs.declared.local_sets.LocalSets.{LocalSets}
use Rattle.zflow.specs.declared.slot_sets.SlotSets.{SlotSets}
use Rattle.zflow.specs.Transfer.{with_facts}

-- with a thing in the place of another, if there is one
abbrev pub put : {V : Type 0} → Option (ℕ × V) → List V → List V
put None xs = xs
put (Some p) xs = slice_set xs p.0 p.1

-- with a thing on top, if there is one
abbrev pub on_top : {V : Type 0} → Option V → List V → List V
on_top None xs = xs
on_top (Some x) xs = x ∷ xs

-- the sets of the globals at a place
abbrev pub globals_seen : {V : Type 0} → Globals V → List V
globals_seen g = with_facts g.own.now g.facts.now

-- the sets of the locals
abbrev pub locals_seen : {V : Type 0} → LocalSets V → List V
locals_seen l = put l.second_kept (put l.first_kept (put l.given (put l.assigned l.lent.now)))

-- the sets of the slots, the top first
abbrev pub slots_seen : {V : Type 0} → SlotSets V → List V
slots_seen s = on_top s.pushed (on_top s.replaced (reverse s.lent.now))
