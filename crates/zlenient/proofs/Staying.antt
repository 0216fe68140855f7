-- What can be done by the definition is done in lenient play.
use Rattle.std.proofs.Common.{◌≡◌, ℕ, zero, suc, Option, Some, None, List, [], ◌∷◌, Result, Ok, Err, refl, ap}
use Rattle.zfault.specs.declared.pause.Pause.TheVariants as pauses
use Rattle.zstate.specs.declared.halt.Halt.{Halt}
use Rattle.zstate.specs.declared.halt.Halt.TheVariants as halts
use Rattle.zstate.specs.declared.halt.Stop.TheVariants as stops
use Rattle.zstate.specs.State.{Setting, State}
use Rattle.zstate.specs.Step.{Done, step}
use Rattle.zstate.specs.Run.{Ending, Input, Given, Restored, after, by_step, ends, handed, or_ends, run, stop_of, until}
use Rattle.zlenient.specs.declared.front.Front.{Front}
use Rattle.zlenient.specs.Front.{front_after, opened, seen}
use Rattle.zlenient.specs.Step.{lenient_step}
use Rattle.zlenient.specs.Run.{Played, behind, lenient_run, lenient_until, leniently, noted, or_stands, stands}
use Rattle.zlenient.specs.Laws.{IsPaused}

-- ---- steps

pub step_stays : (m : Setting) (s : State) (d : Done) → step m s ≡ Ok d → lenient_step m s ≡ Ok d
step_stays m s d e = rw e refl

-- ---- what keeps a step from being made, and is no fault

abbrev pub IsCalm : Halt → Type 0
IsCalm (halts.Fault f) = ⊥
IsCalm h = Unit {0}

step_halts : (m : Setting) (s : State) (h : Halt) → IsCalm h → step m s ≡ Err h → lenient_step m s ≡ Err h
step_halts m s (halts.Fault f) calm e = absurd calm
step_halts m s (halts.Need need) calm e = rw e refl
step_halts m s halts.Quit calm e = rw e refl
step_halts m s halts.FrameLimit calm e = rw e refl

-- ---- runs

-- play as a run, of which nothing is noted
abbrev as_run : Ending → Played
as_run ending = record { ending = ending; notes = [] }

until_stays : (m : Setting) (halted : Halt → ℕ → State → Ending) (other : Halt → ℕ → Front → State → Played) → ((h : Halt) (k : ℕ) (t : State) → IsPaused (halted h k t).stop → IsCalm h × (other h k opened t ≡ as_run (halted h k t))) → (n : ℕ) (s : State) → IsPaused (until m halted n s).stop → lenient_until m other n opened s ≡ as_run (until m halted n s)
unfolding until lenient_until
until_stays m halted other same zero s paused = by (step m s) refl paused
  where
    by : (r : Result Done Halt) → step m s ≡ r → IsPaused (by_step r (λ d. ends (stops.Paused pauses.Budget) s) (λ h. halted h zero s)).stop → leniently (lenient_step m s) (λ d. stands (stops.Paused pauses.Budget) s) (λ h. other h zero opened s) ≡ as_run (by_step r (λ d. ends (stops.Paused pauses.Budget) s) (λ h. halted h zero s))
    by (Ok d) e paused = rw e refl
    by (Err h) e paused = let calm = same h zero s paused in rw (step_halts m s h calm.0 e) calm.1
until_stays m halted other same (suc n) s paused = by (λ d calm. until_stays m halted other same n d.state calm) (step m s) refl paused
  where
    by : ((d : Done) → IsPaused (until m halted n d.state).stop → lenient_until m other n opened d.state ≡ as_run (until m halted n d.state)) → (r : Result Done Halt) → step m s ≡ r → IsPaused (by_step r (λ d. after d.items (until m halted n d.state)) (λ h. halted h (suc n) s)).stop → leniently (lenient_step m s) (λ d. behind (noted (step m s) s.place) (seen opened d.items) (lenient_until m other n (front_after m s opened) d.state)) (λ h. other h (suc n) opened s) ≡ as_run (by_step r (λ d. after d.items (until m halted n d.state)) (λ h. halted h (suc n) s))
    by rest (Ok d) e paused = rw e (ap (λ (p : Played). behind [] d.items p) (rest d paused))
    by rest (Err h) e paused = let calm = same h (suc n) s paused in rw (step_halts m s h calm.0 e) calm.1

calm_stop : (h : Halt) (t : State) → IsPaused (stop_of h t) → IsCalm h
calm_stop (halts.Fault f) t paused = paused
calm_stop (halts.Need need) t paused = tt
calm_stop halts.Quit t paused = tt
calm_stop halts.FrameLimit t paused = tt

-- a fault is handed nothing
calm_handed : (m : Setting) (h : Halt) (input : Input) (t : State) (on : State → Ending) → IsPaused (or_ends (handed m h input t) on (ends (stop_of h t) t)).stop → IsCalm h
calm_handed m (halts.Fault f) (Given e) t on paused = paused
calm_handed m (halts.Fault f) (Restored bytes) t on paused = paused
calm_handed m (halts.Need need) input t on paused = tt
calm_handed m halts.Quit input t on paused = tt
calm_handed m halts.FrameLimit input t on paused = tt

pub run_stays : (m : Setting) (inputs : List Input) (n : ℕ) (s : State) → IsPaused (run m inputs n s).stop → lenient_run m inputs n opened s ≡ as_run (run m inputs n s)
unfolding run lenient_run
run_stays m [] n s paused = until_stays m (λ h k t. ends (stop_of h t) t) (λ h k f t. stands (stop_of h t) t) (λ h k t p. (calm_stop h t p, refl)) n s paused
run_stays m (input ∷ inputs) n s paused = until_stays m (λ h k t. or_ends (handed m h input t) (λ u. run m inputs k u) (ends (stop_of h t) t)) (λ h k f t. or_stands (handed m h input t) (λ u. lenient_run m inputs k f u) (stands (stop_of h t) t)) (λ h k t p. (calm_handed m h input t (λ u. run m inputs k u) p, on (λ i u calm. run_stays m inputs i u calm) h k t (handed m h input t) p)) n s paused
  where
    on : ((i : ℕ) (u : State) → IsPaused (run m inputs i u).stop → lenient_run m inputs i opened u ≡ as_run (run m inputs i u)) → (h : Halt) (k : ℕ) (t : State) (r : Option State) → IsPaused (or_ends r (λ u. run m inputs k u) (ends (stop_of h t) t)).stop → or_stands r (λ u. lenient_run m inputs k opened u) (stands (stop_of h t) t) ≡ as_run (or_ends r (λ u. run m inputs k u) (ends (stop_of h t) t))
    on rest h k t None p = refl
    on rest h k t (Some u) p = rest k u p
