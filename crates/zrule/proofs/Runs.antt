-- A run from a described state is safe.
use Rattle.std.proofs.Common.{◌≡◌, ◌≤◌, ℕ, zero, suc, Bool, true, false, List, [], ◌∷◌, length, Option, Some, None, Result, Ok, Err, if◌then◌else◌, refl, sym, ap, subst, ◌∙◌, arith}
use Rattle.zfault.specs.declared.fault.Fault.{Fault}
use Rattle.std.proofs.lemmas.Bool.{lt-ltb}
use Rattle.std.proofs.lemmas.Option.{same_Some}
use Rattle.zfault.specs.declared.event.Event.{Event}
use Rattle.zfault.specs.declared.pause.Need.TheVariants as needs
use Rattle.zquetzal.specs.declared.error.SaveError.{SaveError}
use Rattle.zstory.specs.LoadedStory.{LoadedStory}
use Rattle.zdomain.specs.Domain.{SetOperations, AreSound}
use Rattle.zstate.specs.declared.halt.Halt.{Halt}
use Rattle.zstate.specs.declared.halt.Halt.TheVariants as halts
use Rattle.zstate.specs.State.{State, Setting, opening, scope_all, give}
use Rattle.zstate.specs.Step.{Done, step}
use Rattle.zstate.specs.Saves.{restoring}
use Rattle.zstate.specs.Run.{Ending, ends, stop_of, by_step, until, Input, Given, Restored, is_answered, restored, handed, or_ends, run}
use Rattle.zrule.specs.declared.rule.Rule.TheVariants as rules
use Rattle.zrule.specs.Claims.{Claims}
use Rattle.zrule.specs.Rules.{Supports, SupportsWhere}
use Rattle.zrule.specs.Described.{AreFine, Described, IsFine, IsSafe, IsListedIn, IsListedWhere, IsHeldAt, IsNoFault, IsLoadedStory, MarksHold}
use Rattle.zrule.proofs.Given.{given_described}
use Rattle.zrule.proofs.Opening.{opening_described}
use Rattle.zrule.proofs.Steps.{step_safe}
use Rattle.zrule.proofs.Stepping.{read_within}

module _ (m : Setting) where
  -- what follows a step that is made, and one that isn't
  until_made : (f : Halt → ℕ → State → Ending) (n : ℕ) (s : State) (d : Done) → step m s ≡ Ok d → (until m f (suc n) s).state ≡ (until m f n d.state).state
  unfolding until
  until_made f n s d is = rw is refl

  until_halted : (f : Halt → ℕ → State → Ending) (n : ℕ) (s : State) (h : Halt) → step m s ≡ Err h → until m f n s ≡ f h n s
  unfolding until
  until_halted f zero s h is = rw is refl
  until_halted f (suc n) s h is = rw is refl

  until_still : (f : Halt → ℕ → State → Ending) (s : State) (d : Done) → step m s ≡ Ok d → (until m f zero s).state ≡ s
  unfolding until
  until_still f s d is = rw is refl

  -- a fault ends the run in its state
  abbrev Stays : (Halt → ℕ → State → Ending) → Type 0
  Stays f = (fault : Fault) (k : ℕ) (t : State) → (f (halts.Fault fault) k t).state ≡ t

  run_stays : (input : Input) (on : State → Ending) (fault : Fault) (t : State) → (or_ends (handed m (halts.Fault fault) input t) on (ends (stop_of (halts.Fault fault) t) t)).state ≡ t
  run_stays (Given e) on fault t = refl
  run_stays (Restored bytes) on fault t = refl

module _ {V : Type 0} (o : SetOperations V) (lawful : AreSound o) (claims : Claims V) (m : Setting) (loaded : IsLoadedStory m.story) {marked : ℕ → Bool} (supports : SupportsWhere o claims marked m.story) (listed : IsListedWhere o claims marked m.scope) where
  -- it stopped with no fault, in a described state
  record Fine (e : Ending) : Type 0 where
    no_fault : IsNoFault e.stop
    described : Described o claims m.limit m.story e.state

  -- a machine that stands still
  stands : (h : Halt) (s : State) → IsSafe o claims m.limit m.story (Err h) → Described o claims m.limit m.story s → Fine (ends (stop_of h s) s)
  stands (halts.Fault f) s safe d = absurd safe
  stands (halts.Need n) s safe d = record { no_fault = tt; described = d }
  stands halts.Quit s safe d = record { no_fault = tt; described = d }
  stands halts.FrameLimit s safe d = record { no_fault = tt; described = d }

  -- what is handed in leads to a described state, if anywhere
  given_fine : (b : Bool) (e : Event) (t u : State) → Described o claims m.limit m.story t → (if b then Some (give e t) else None) ≡ Some u → Described o claims m.limit m.story u
  given_fine true e t u d is = subst (Described o claims m.limit m.story) (same_Some (give e t) u is) (given_described o claims m.story m.limit e t d)
  given_fine false e t u d is = absurd cc

  restored_fine : (r : Result State SaveError) (u : State) → ((t : State) → r ≡ Ok t → Described o claims m.limit m.story t) → restored r ≡ Some u → Described o claims m.limit m.story u
  restored_fine (Ok t) u fine is = subst (Described o claims m.limit m.story) (same_Some t u is) (fine t refl)
  restored_fine (Err e) u fine is = absurd cc

  pub handed_fine : (h : Halt) (x : Input) (t u : State) → IsFine o claims m x → Described o claims m.limit m.story t → handed m h x t ≡ Some u → Described o claims m.limit m.story u
  handed_fine h (Given e) t u fine d is = given_fine (is_answered h e) e t u d is
  handed_fine (halts.Need needs.Restore) (Restored bytes) t u fine d is = restored_fine (restoring m bytes t) u (λ v is. fine t v d.is_state is) is
  handed_fine (halts.Need needs.Line) (Restored bytes) t u fine d is = absurd cc
  handed_fine (halts.Need needs.Random) (Restored bytes) t u fine d is = absurd cc
  handed_fine (halts.Need needs.Saved) (Restored bytes) t u fine d is = absurd cc
  handed_fine (halts.Fault f) (Restored bytes) t u fine d is = absurd cc
  handed_fine halts.Quit (Restored bytes) t u fine d is = absurd cc
  handed_fine halts.FrameLimit (Restored bytes) t u fine d is = absurd cc

  goes_on : (r : Option State) (on : State → Ending) (ending : Ending) → ((u : State) → r ≡ Some u → Fine (on u)) → Fine ending → Fine (or_ends r on ending)
  goes_on (Some u) on ending next stop = next u refl
  goes_on None on ending next stop = stop

  abbrev Safe : State → Type 0
  Safe s = IsSafe o claims m.limit m.story (step m s)

  abbrev Held : State → Type 0
  Held t = IsHeldAt o claims marked m t

  -- at a marked place by what is known there, at another by the rules
  safe_held : (s : State) → Described o claims m.limit m.story s → Held s → Safe s
  safe_held s d held = by_mark (marked d.at) refl
    where
      by_mark : (b : Bool) → marked d.at ≡ b → Safe s
      by_mark true is = held d.at d.place is
      by_mark false is = step_safe o lawful claims m s loaded supports listed d is

  safe_at : (f : Halt → ℕ → State → Ending) → Stays m f → (s : State) → Described o claims m.limit m.story s → Held (until m f zero s).state → Safe s
  safe_at f stays s d held = by (step m s) refl
    where
      by : (r : Result Done Halt) → step m s ≡ r → Safe s
      by (Ok x) is = safe_held s d (subst Held (until_still m f s x is) held)
      by (Err (halts.Fault fault)) is = safe_held s d (subst Held (ap (λ (e : Ending). e.state) (until_halted m f zero s (halts.Fault fault) is) ∙ stays fault zero s) held)
      by (Err (halts.Need need)) is = rw is tt
      by (Err halts.Quit) is = rw is tt
      by (Err halts.FrameLimit) is = rw is tt

  abbrev HeldUntil : (Halt → ℕ → State → Ending) → ℕ → State → Type 0
  HeldUntil f n s = (k : ℕ) → k ≤ n → Held (until m f k s).state

  until_held : (f : Halt → ℕ → State → Ending) → Stays m f → ((h : Halt) (k : ℕ) (t : State) → IsSafe o claims m.limit m.story (Err h) → Described o claims m.limit m.story t → ((j : ℕ) → j ≤ k → Held (f h j t).state) → Fine (f h k t)) → (n : ℕ) (s : State) → Described o claims m.limit m.story s → HeldUntil f n s → Fine (until m f n s)
  unfolding until
  until_held f stays stop zero s d held = by (step m s) refl
    where
      safe : Safe s
      safe = safe_at f stays s d (held zero (omega arith))

      by : (r : Result Done Halt) → step m s ≡ r → Fine (until m f zero s)
      by (Ok x) is = rw is (record { no_fault = tt; described = d })
      by (Err h) is = subst (Fine) (sym (until_halted m f zero s h is)) (stop h zero s (subst (IsSafe o claims m.limit m.story) is safe) d (λ j low. subst Held (ap (λ (e : Ending). e.state) (until_halted m f j s h is)) (held j low)))
  until_held f stays stop (suc n) s d held = by (λ x is. until_held f stays stop n x.state (subst (IsSafe o claims m.limit m.story) is (safe_at f stays s d (held zero (omega arith)))) (λ k low. subst Held (until_made m f k s x is) (held (suc k) (omega (arith, low))))) (step m s) refl
    where
      safe : Safe s
      safe = safe_at f stays s d (held zero (omega arith))

      by : ((x : Done) → step m s ≡ Ok x → Fine (until m f n x.state)) → (r : Result Done Halt) → step m s ≡ r → Fine (until m f (suc n) s)
      by more (Ok x) is = let rest = more x is in rw is (record { no_fault = rest.no_fault; described = rest.described })
      by more (Err h) is = subst Fine (sym (until_halted m f (suc n) s h is)) (stop h (suc n) s (subst (IsSafe o claims m.limit m.story) is safe) d (λ j low. subst Held (ap (λ (e : Ending). e.state) (until_halted m f j s h is)) (held j low)))

  run_held : (inputs : List Input) (n : ℕ) (s : State) → AreFine o claims m inputs → Described o claims m.limit m.story s → MarksHold o claims marked m inputs n s → Fine (run m inputs n s)
  unfolding run
  run_held [] n s fine d held = until_held _ (λ fault k t. refl) (λ h k t e u more. stands h t e u) n s d held
  run_held (x ∷ inputs) n s fine d held =
      until_held _ (λ fault k t. run_stays m x _ fault t)
      (λ h k t e u more. goes_on (handed m h x t) _ _
      (λ v is. run_held inputs k v fine.1 (handed_fine h x t v fine.0 u is) (λ j low. subst (λ (r : Option State). Held (or_ends r (λ w. run m inputs j w) (ends (stop_of h t) t)).state) is (more j low)))
      (stands h t e u))
      n s d held

  pub run_safe_held : (inputs : List Input) (n : ℕ) (s : State) → AreFine o claims m inputs → Described o claims m.limit m.story s → MarksHold o claims marked m inputs n s → IsNoFault (run m inputs n s).stop × Described o claims m.limit m.story (run m inputs n s).state
  run_safe_held inputs n s fine d held = let is = run_held inputs n s fine d held in (is.no_fault, is.described)

-- nothing is asked of them where nothing is marked
pub run_safe : {V : Type 0} (o : SetOperations V) (lawful : AreSound o) (claims : Claims V) (m : Setting) (loaded : IsLoadedStory m.story) (supports : Supports o claims m.story) (listed : IsListedIn o claims m.scope) (inputs : List Input) (n : ℕ) (s : State) → AreFine o claims m inputs → Described o claims m.limit m.story s → IsNoFault (run m inputs n s).stop × Described o claims m.limit m.story (run m inputs n s).state
run_safe o lawful claims m loaded supports listed inputs n s fine d = run_safe_held o lawful claims m loaded supports listed inputs n s fine d (λ k low p there is. absurd (let e : false ≡ true = is in cc))

-- so every listed place may be played in the widest scope, and every routine called
pub all_listed : {V : Type 0} (o : SetOperations V) (claims : Claims V) (story : LoadedStory) → {marked : ℕ → Bool} → SupportsWhere o claims marked story → IsListedWhere o claims marked (scope_all story)
all_listed o claims story {marked} supports = record {
  places = λ p e listed plain.
      let found = supports.each p e listed plain rules.Decodes in
      lt-ltb p (length story.memory) (read_within story.memory p found.0 found.1.decodes).1;
  routines = λ p k begins.
      let even = supports.heads.even p k begins in
      let head = supports.heads.there p k begins in
      rw (even, head) refl;
}

pub never_faults : {V : Type 0} (o : SetOperations V) (lawful : AreSound o) (claims : Claims V) (story : LoadedStory) (limit : ℕ) (inputs : List Input) (n : ℕ) → IsLoadedStory story → Supports o claims story → AreFine o claims (record { story = story; scope = scope_all story; limit = limit }) inputs → IsNoFault (run (record { story = story; scope = scope_all story; limit = limit }) inputs n (opening story)).stop
never_faults o lawful claims story limit inputs n loaded supports fine =
    let m : Setting = record { story = story; scope = scope_all story; limit = limit } in
    (run_safe o lawful claims m loaded supports (all_listed o claims story supports) inputs n (opening story) fine (opening_described o claims story limit loaded supports)).0
