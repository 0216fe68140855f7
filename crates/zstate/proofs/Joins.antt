-- Runs one after another are one run.
use Rattle.std.proofs.Common.{◌≡◌, ℕ, zero, suc, ◌+◌, List, [], ◌∷◌, ◌++◌, Option, Some, Result, Ok, Err, refl, sym, ap, ◌∙◌, append_assoc, add-zero, add-suc}
use Rattle.zfault.specs.declared.item.Item.{Item}
use Rattle.zstate.specs.declared.halt.Halt.{Halt}
use Rattle.zstate.specs.State.{State, Setting}
use Rattle.zstate.specs.Step.{Done, step}
use Rattle.zfault.specs.declared.pause.Pause.TheVariants as pauses
use Rattle.zstate.specs.declared.halt.Stop.TheVariants as stops
use Rattle.zstate.specs.Run.{Ending, by_step, after, ends, stop_of, until, Input, handed, or_ends, run, Goes}

after_after : (xs ys : List Item) (e : Ending) → after xs (after ys e) ≡ after (xs ++ ys) e
after_after xs ys e = ap (λ (l : List Item). record e { items = l }) (sym (append_assoc xs ys e.items))

-- what a run does where a step can't be made
abbrev halted : Setting → List Input → Halt → ℕ → State → Ending
halted m [] = λ h k t. ends (stop_of h t) t
halted m (input ∷ inputs) = λ h k t. or_ends (handed m h input t) (λ u. run m inputs k u) (ends (stop_of h t) t)

run_is : (m : Setting) (inputs : List Input) (n : ℕ) (s : State) → run m inputs n s ≡ until m (halted m inputs) n s
unfolding run
run_is m [] n s = refl
run_is m (input ∷ inputs) n s = refl

until_made : (m : Setting) (f : Halt → ℕ → State → Ending) (n : ℕ) (s : State) (d : Done) → step m s ≡ Ok d → until m f (suc n) s ≡ after d.items (until m f n d.state)
unfolding until
until_made m f n s d e = ap (λ (r : Result Done Halt). by_step r (λ x. after x.items (until m f n x.state)) (λ h. f h (suc n) s)) e

until_halted : (m : Setting) (f : Halt → ℕ → State → Ending) (n : ℕ) (s : State) (h : Halt) → step m s ≡ Err h → until m f n s ≡ f h n s
unfolding until
until_halted m f zero s h e = ap (λ (r : Result Done Halt). by_step r (λ x. ends (stops.Paused pauses.Budget) s) (λ h. f h zero s)) e
until_halted m f (suc n) s h e = ap (λ (r : Result Done Halt). by_step r (λ x. after x.items (until m f n x.state)) (λ h. f h (suc n) s)) e

until_goes : (m : Setting) (f : Halt → ℕ → State → Ending) (k n : ℕ) (s t : State) (items : List Item) → Goes m k s t items → until m f (n + k) s ≡ after items (until m f n t)
until_goes m f zero n s t items (same, none) = rw (add-zero, same, none) refl
until_goes m f (suc k) n s t items (d, rest, made, goes, all) =
    let first : until m f (suc (n + k)) s ≡ after d.items (until m f (n + k) d.state) = until_made m f (n + k) s d made in
    rw (add-suc, all) (first ∙ ap (after d.items) (until_goes m f k n d.state t rest goes) ∙ after_after d.items rest (until m f n t))

-- steps that were made are the first of a longer run
pub steps_join : (m : Setting) (k n : ℕ) (s t : State) (items : List Item) (inputs : List Input) → Goes m k s t items → run m inputs (n + k) s ≡ after items (run m inputs n t)
steps_join m k n s t items inputs goes =
    run_is m inputs (n + k) s ∙ until_goes m (halted m inputs) k n s t items goes ∙ ap (after items) (sym (run_is m inputs n t))

-- where a step needs the first input, the run goes on from the state after it
pub inputs_join : (m : Setting) (n : ℕ) (s t : State) (h : Halt) (input : Input) (inputs : List Input) → step m s ≡ Err h → handed m h input s ≡ Some t → run m (input ∷ inputs) n s ≡ run m inputs n t
inputs_join m n s t h input inputs stuck is =
    run_is m (input ∷ inputs) n s ∙ until_halted m (halted m (input ∷ inputs)) n s h stuck ∙ ap (λ (r : Option State). or_ends r (λ u. run m inputs n u) (ends (stop_of h s) s)) is

-- a step that can't be made stops a run without an input for it
pub stuck_stops : (m : Setting) (n : ℕ) (s : State) (h : Halt) → step m s ≡ Err h → run m [] n s ≡ ends (stop_of h s) s
stuck_stops m n s h stuck = run_is m [] n s ∙ until_halted m (halted m []) n s h stuck

-- a step that would be one too many ends the budget
pub budget_stops : (m : Setting) (s : State) (d : Done) → step m s ≡ Ok d → run m [] 0 s ≡ ends (stops.Paused pauses.Budget) s
unfolding until
budget_stops m s d able = run_is m [] 0 s ∙ ap (λ (r : Result Done Halt). by_step r (λ x. ends (stops.Paused pauses.Budget) s) (λ h. halted m [] h 0 s)) able
