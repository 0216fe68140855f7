-- Lenient play: lenient steps made one after another, as a run makes steps, and what is noted of them (own).
use Rattle.std.specs.Prelude.{ℕ, zero, suc, List, [], ◌∷◌, ◌++◌, Option, Some, None, Result, Ok, Err, ℤ}
use Rattle.zfault.specs.declared.fault.Fault.{Fault}
use Rattle.zfault.specs.declared.item.Item.{Item}
use Rattle.zfault.specs.declared.pause.Pause.TheVariants as pauses
use Rattle.zstate.specs.declared.halt.Halt.{Halt}
use Rattle.zstate.specs.declared.halt.Halt.TheVariants as halts
use Rattle.zstate.specs.declared.halt.Stop.{Stop}
use Rattle.zstate.specs.declared.halt.Stop.TheVariants as stops
use Rattle.zstate.specs.State.{Setting, State}
use Rattle.zstate.specs.Step.{Done, step}
use Rattle.zstate.specs.Run.{Ending, Input, after, ends, handed, stop_of}
use Rattle.zlenient.specs.declared.front.Front.{Front}
use Rattle.zlenient.specs.Front.{front_after, seen}
use Rattle.zlenient.specs.Step.{lenient_step}

-- a fault that was answered, and its place
pub record Note : Type 0 where
  pub fault : Fault
  pub place : ℤ

-- how lenient play ends, and each fault that was answered, in order
pub record Played : Type 0 where
  pub ending : Ending
  pub notes : List Note

-- what is noted of a step that is made leniently: the fault that it is by the definition, if it is one
abbrev pub noted : Result Done Halt → ℤ → List Note
noted (Err (halts.Fault f)) place = record { fault = f; place = place } ∷ []
noted result place = []

-- play with notes and items before it
abbrev pub behind : List Note → List Item → Played → Played
behind notes items p = record { ending = after items p.ending; notes = notes ++ p.notes }

-- play that stands still
abbrev pub stands : Stop → State → Played
stands stop s = record { ending = ends stop s; notes = [] }

-- what follows a step that is made, and one that can't be
abbrev pub leniently : Result Done Halt → (Done → Played) → (Halt → Played) → Played
leniently (Ok d) made halted = made d
leniently (Err h) made halted = halted h

-- At most n steps; where one can't be made, play goes on as told, with the steps that are left. What is given out is left out where it
-- isn't seen.
unfoldable pub lenient_until : Setting → (Halt → ℕ → Front → State → Played) → ℕ → Front → State → Played
lenient_until m halted zero f s = leniently (lenient_step m s) (λ d. stands (stops.Paused pauses.Budget) s) (λ h. halted h zero f s)
lenient_until m halted (suc n) f s = leniently (lenient_step m s) (λ d. behind (noted (step m s) s.place) (seen f d.items) (lenient_until m halted n (front_after m s f) d.state)) (λ h. halted h (suc n) f s)

-- play goes on from a state, or stands where there is none
abbrev pub or_stands : Option State → (State → Played) → Played → Played
or_stands None on played = played
or_stands (Some t) on played = on t

-- at most n steps, with these inputs, each handed in where a step needs its kind
unfoldable pub lenient_run : Setting → List Input → ℕ → Front → State → Played
lenient_run m [] n f s = lenient_until m (λ h k g t. stands (stop_of h t) t) n f s
lenient_run m (input ∷ inputs) n f s = lenient_until m (λ h k g t. or_stands (handed m h input t) (λ u. lenient_run m inputs k g u) (stands (stop_of h t) t)) n f s
