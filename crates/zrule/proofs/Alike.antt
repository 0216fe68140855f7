-- A run from a described state is the same in every scope that has the listed places.
use Rattle.std.proofs.Common.{◌≡◌, ℕ, zero, suc, Bool, true, false, ◌&&◌, ◌==◌, List, [], ◌∷◌, map, Option, Some, None, Result, Ok, Err, ℤ, if◌then◌else◌, refl, sym, ap, subst, ◌∙◌}
use Rattle.std.specs.Prelude.{pos, reverse}
use Rattle.zfault.specs.declared.fault.Fault.TheVariants.{UnlistedCall}
use Rattle.zfault.specs.declared.pause.Need.TheVariants as needs
use Rattle.zquetzal.specs.declared.error.SaveError.{SaveError}
use Rattle.zquetzal.specs.Saved.{Saved}
use Rattle.zquetzal.specs.Reading.{reading}
use Rattle.zquetzal.proofs.Steps.{bind_ok}
use Rattle.zcode.specs.declared.operation.Operation.{Operation}
use Rattle.zcode.specs.declared.operation.Operation.TheVariants as operations
use Rattle.zcode.specs.Instruction.{Instruction}
use Rattle.zcode.specs.Operation.{operation_of, inputs as operands_of}
use Rattle.zdomain.specs.Domain.{SetOperations, AreSound}
use Rattle.zstate.specs.declared.halt.Halt.{Halt}
use Rattle.zstate.specs.declared.halt.Halt.TheVariants as halts
use Rattle.zstate.specs.InTurn.{◌>>=◌}
use Rattle.zstate.specs.State.{Frame, State, Scope, Setting, fault, has_head, popped}
use Rattle.zstate.specs.Step.{Done, Effect, arg, arguments, call_of, called_at, calling, effect_of, fetch, giving, step, unpacked}
use Rattle.zstate.specs.Saves.{going_on, restoring, resumed, save_place, taken_frame, with_frames}
use Rattle.zstate.specs.Run.{Ending, after, by_step, handed, Input, Given, Restored, or_ends, restored, run, until}
use Rattle.zflow.specs.Transfer.{pops}
use Rattle.zrule.specs.declared.rule.Rule.TheVariants as rules
use Rattle.zrule.specs.Claims.{Claims}
use Rattle.zrule.specs.Rules.{Supports}
use Rattle.zrule.specs.Described.{AreFine, Described, IsFine, IsListedIn, IsLoadedStory, IsSafe}
use Rattle.zrule.proofs.Elsewhere.{goes_where}
use Rattle.zrule.proofs.Runs.{handed_fine}
use Rattle.zrule.proofs.Safety.{all, fetches}
use Rattle.zrule.proofs.Stepping.{made_by, step_is}
use Rattle.zrule.proofs.Steps.{step_safe}

-- ---- an effect, in two scopes

-- it is no fault
abbrev Faultless : {A : Type 0} → Result A Halt → Type 0
Faultless (Ok x) = Unit {0}
Faultless (Err (halts.Fault f)) = ⊥
Faultless (Err (halts.Need need)) = Unit {0}
Faultless (Err halts.Quit) = Unit {0}
Faultless (Err halts.FrameLimit) = Unit {0}

-- what comes of a call: a call of nothing gives 0
abbrev called : Bool → Bool → Bool → Effect → Effect → Result Effect Halt
called nothing listed headed gives enters = if nothing then Ok gives else (if listed && headed then Ok enters else fault UnlistedCall)

-- a routine that only one of them has is a fault in the other
called_alike : (nothing here there headed : Bool) (gives enters : Effect) → Faultless (called nothing here headed gives enters) → Faultless (called nothing there headed gives enters) → called nothing there headed gives enters ≡ called nothing here headed gives enters
called_alike true here there headed gives enters x y = refl
called_alike false true true headed gives enters x y = refl
called_alike false true false headed gives enters x y = absurd y
called_alike false false there headed gives enters x y = absurd x

call_alike : (a b : Scope) (memory values : List ℕ) → Faultless (call_of a memory values) → Faultless (call_of b memory values) → call_of b memory values ≡ call_of a memory values
call_alike a b memory values =
    let p : ℕ = unpacked (arg values 0) in
    called_alike (arg values 0 == 0) (a.routines p) (b.routines p) (has_head memory p) (giving 0) (calling (called_at memory p (arguments values)))

effect_alike : (m : Setting) (wide : Scope) (k : Operation) (values : List ℕ) (s : State) → Faultless (effect_of m k values s) → Faultless (effect_of (record m { scope = wide }) k values s) → effect_of (record m { scope = wide }) k values s ≡ effect_of m k values s
unfolding effect_of
effect_alike m wide operations.Call values s here there = call_alike m.scope wide s.memory values here there
effect_alike m wide (operations.Unary op) values s here there = refl
effect_alike m wide (operations.Binary op) values s here there = refl
effect_alike m wide (operations.Compare q) values s here there = refl
effect_alike m wide (operations.Count op q) values s here there = refl
effect_alike m wide operations.Store values s here there = refl
effect_alike m wide operations.Load values s here there = refl
effect_alike m wide operations.Jump values s here there = refl
effect_alike m wide operations.Verify values s here there = refl
effect_alike m wide operations.PrintChar values s here there = refl
effect_alike m wide operations.PrintNumber values s here there = refl
effect_alike m wide operations.Print values s here there = refl
effect_alike m wide operations.NewLine values s here there = refl
effect_alike m wide operations.Nop values s here there = refl
effect_alike m wide operations.Quit values s here there = refl
effect_alike m wide operations.Return values s here there = refl
effect_alike m wide operations.PrintReturn values s here there = refl
effect_alike m wide operations.Inside values s here there = refl
effect_alike m wide operations.TestAttribute values s here there = refl
effect_alike m wide (operations.Follow link) values s here there = refl
effect_alike m wide operations.SetAttribute values s here there = refl
effect_alike m wide operations.ClearAttribute values s here there = refl
effect_alike m wide operations.Insert values s here there = refl
effect_alike m wide operations.Remove values s here there = refl
effect_alike m wide (operations.Property q) values s here there = refl
effect_alike m wide operations.PropertyLength values s here there = refl
effect_alike m wide operations.SetProperty values s here there = refl
effect_alike m wide operations.PrintObject values s here there = refl
effect_alike m wide (operations.PrintAt addressing) values s here there = refl
effect_alike m wide operations.ShowStatus values s here there = refl
effect_alike m wide (operations.LoadArray width) values s here there = refl
effect_alike m wide (operations.StoreArray width) values s here there = refl
effect_alike m wide operations.Random values s here there = refl
effect_alike m wide operations.ReadLine values s here there = refl
effect_alike m wide operations.Save values s here there = refl
effect_alike m wide operations.Restore values s here there = refl
effect_alike m wide operations.Restart values s here there = refl

-- ---- where play goes on from a save, in two scopes

place_laid : (fs : List Frame) (s : State) → (with_frames fs s).place ≡ s.place
place_laid [] s = refl
place_laid (f ∷ fs) s = refl

fetch_alike : (a b : Scope) (place : ℤ) (at : ℕ) (memory : List ℕ) → place ≡ pos at → a.instructions at ≡ true → b.instructions at ≡ true → fetch b place memory ≡ fetch a place memory
unfolding fetch
fetch_alike a b place at memory is here there = rw (is, here, there) refl

-- what one gives and the other gives too is the same in both
taken_alike : (r x : Result State SaveError) → ((t : State) → r ≡ Ok t → x ≡ Ok t) → ((t : State) → x ≡ Ok t → r ≡ Ok t) → restored x ≡ restored r
taken_alike (Ok t) x on back = ap restored (on t refl)
taken_alike (Err e) (Ok t) on back = sym (ap restored (back t refl))
taken_alike (Err e) (Err f) on back = refl

module _ {V : Type 0} (o : SetOperations V) (claims : Claims V) (m : Setting) where
  -- a described state that a save leads to stands at a place of both
  going_alike : (a b : Scope) → IsListedIn o claims a → IsListedIn o claims b → (saved : Saved) (s t : State) → Described o claims m.limit m.story t → going_on (record m { scope = a }) saved s ≡ Ok t → going_on (record m { scope = b }) saved s ≡ Ok t
  unfolding going_on
  going_alike a b in_a in_b saved s t d goes =
      let there : resumed m.story saved s ≡ t = goes_where (record m { scope = a }) saved s t goes in
      let place : save_place saved ≡ pos d.at = sym (place_laid (map taken_frame (reverse saved.frames)) _) ∙ ap (λ (u : State). u.place) there ∙ d.place in
      let same = fetch_alike a b (save_place saved) d.at (resumed m.story saved s).memory place (in_a.places d.at d.entry d.listed refl) (in_b.places d.at d.entry d.listed refl) in
      rw same goes

  restoring_alike : (a b : Scope) → IsListedIn o claims a → IsListedIn o claims b → (bytes : List ℕ) (s t : State) → Described o claims m.limit m.story t → restoring (record m { scope = a }) bytes s ≡ Ok t → restoring (record m { scope = b }) bytes s ≡ Ok t
  restoring_alike a b in_a in_b bytes s t d goes =
      let read = bind_ok (reading m.story bytes) _ t goes in
      let is = read.1 in
      rw is (going_alike a b in_a in_b read.0 s t d read.2)

-- ---- a run

module _ {V : Type 0} (o : SetOperations V) (lawful : AreSound o) (claims : Claims V) (m : Setting) (wide : Scope) (loaded : IsLoadedStory m.story) (supports : Supports o claims m.story) (listed : IsListedIn o claims m.scope) (listed_wide : IsListedIn o claims wide) where
  abbrev there : Setting
  there = record m { scope = wide }

  -- a step that is safe has an effect that is no fault
  effect_safe : (r : Result Effect Halt) (on : Effect → Result Done Halt) → IsSafe o claims m.limit m.story (r >>= on) → Faultless r
  effect_safe (Ok effect) on safe = tt
  effect_safe (Err (halts.Fault f)) on safe = safe
  effect_safe (Err (halts.Need need)) on safe = tt
  effect_safe (Err halts.Quit) on safe = tt
  effect_safe (Err halts.FrameLimit) on safe = tt

  step_alike : (s : State) → Described o claims m.limit m.story s → step there s ≡ step m s
  step_alike s d =
      let found = supports.each d.at d.entry d.listed refl rules.Decodes in
      let i : Instruction = found.0 in
      let t : State = popped (pops (operands_of i)) s in
      let read = all o lawful claims m loaded supports listed s d refl i found.1 in
      let here = step_is m s t i read.values (fetches o lawful claims m loaded supports listed s d refl i found.1) read.read in
      let beside = step_is there s t i read.values (fetches o lawful claims there loaded supports listed_wide s d refl i found.1) read.read in
      let no_fault = effect_safe _ _ (subst (IsSafe o claims m.limit m.story) here (step_safe o lawful claims m s loaded supports listed d refl)) in
      let none_beside = effect_safe _ _ (subst (IsSafe o claims m.limit m.story) beside (step_safe o lawful claims there s loaded supports listed_wide d refl)) in
      beside ∙ ap (λ (r : Result Effect Halt). r >>= made_by m s t i) (effect_alike m wide (operation_of i.opcode) read.values t no_fault none_beside) ∙ sym here

  by_step_alike : (r : Result Done Halt) (made made_there : Done → Ending) (halted halted_there : Halt → Ending) → IsSafe o claims m.limit m.story r → ((x : Done) → Described o claims m.limit m.story x.state → made_there x ≡ made x) → ((h : Halt) → halted_there h ≡ halted h) → by_step r made_there halted_there ≡ by_step r made halted
  by_step_alike (Ok x) made made_there halted halted_there safe next stop = next x safe
  by_step_alike (Err h) made made_there halted halted_there safe next stop = stop h

  until_alike : (f g : Halt → ℕ → State → Ending) → ((h : Halt) (k : ℕ) (t : State) → Described o claims m.limit m.story t → g h k t ≡ f h k t) → (n : ℕ) (s : State) → Described o claims m.limit m.story s → until there g n s ≡ until m f n s
  unfolding until
  until_alike f g stop zero s d =
      let same = step_alike s d in
      rw same (by_step_alike (step m s) _ _ _ _ (step_safe o lawful claims m s loaded supports listed d refl) (λ x e. refl) (λ h. stop h zero s d))
  until_alike f g stop (suc n) s d =
      let same = step_alike s d in
      rw same (by_step_alike (step m s) _ _ _ _ (step_safe o lawful claims m s loaded supports listed d refl) (λ x e. ap (after x.items) (until_alike f g stop n x.state e)) (λ h. stop h (suc n) s d))

  -- what is handed in leads to the same state
  handed_alike : (h : Halt) (x : Input) (t : State) → IsFine o claims m x → IsFine o claims there x → Described o claims m.limit m.story t → handed there h x t ≡ handed m h x t
  handed_alike h (Given e) t fine fine_there d = refl
  handed_alike (halts.Need needs.Restore) (Restored bytes) t fine fine_there d =
      taken_alike (restoring m bytes t) (restoring there bytes t)
      (λ u goes. restoring_alike o claims m m.scope wide listed listed_wide bytes t u (fine t u d.is_state goes) goes)
      (λ u goes. restoring_alike o claims m wide m.scope listed_wide listed bytes t u (fine_there t u d.is_state goes) goes)
  handed_alike (halts.Need needs.Line) (Restored bytes) t fine fine_there d = refl
  handed_alike (halts.Need needs.Random) (Restored bytes) t fine fine_there d = refl
  handed_alike (halts.Need needs.Saved) (Restored bytes) t fine fine_there d = refl
  handed_alike (halts.Fault f) (Restored bytes) t fine fine_there d = refl
  handed_alike halts.Quit (Restored bytes) t fine fine_there d = refl
  handed_alike halts.FrameLimit (Restored bytes) t fine fine_there d = refl

  goes_on_alike : (r : Option State) (on on_there : State → Ending) (ending : Ending) → ((u : State) → r ≡ Some u → on_there u ≡ on u) → or_ends r on_there ending ≡ or_ends r on ending
  goes_on_alike (Some u) on on_there ending next = next u refl
  goes_on_alike None on on_there ending next = refl

  pub run_alike : (inputs : List Input) (n : ℕ) (s : State) → AreFine o claims m inputs → AreFine o claims there inputs → Described o claims m.limit m.story s → run there inputs n s ≡ run m inputs n s
  unfolding run
  run_alike [] n s fine fine_there d = until_alike _ _ (λ h k t e. refl) n s d
  run_alike (x ∷ inputs) n s fine fine_there d =
      until_alike _ _ (λ h k t e.
      let same = handed_alike h x t fine.0 fine_there.0 e in
      rw same (goes_on_alike (handed m h x t) _ _ _ (λ u is. run_alike inputs k u fine.1 fine_there.1 (handed_fine o lawful claims m loaded supports listed h x t u fine.0 e is)))) n s d
