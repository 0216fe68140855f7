-- Where a fault may be excused, and what the lenient step is there.
use Rattle.std.proofs.Common.{◌≡◌, ◌∙◌, ℕ, ◌<◌, List, [], length, Bool, true, false, Result, Ok, Err, refl, sym, ap, subst}
use Rattle.std.specs.Prelude.{ℤ, pos, negsuc}
use Rattle.std.proofs.lemmas.Bool.{ltb-true, ltb-false}
use Rattle.zfault.specs.declared.fault.Fault.{Fault}
use Rattle.zfault.specs.declared.fault.Fault.TheVariants.{IllegalOpcode, UnlistedInstruction}
use Rattle.zstory.specs.LoadedStory.{LoadedStory}
use Rattle.zcode.proofs.ReadingLaws.{nothing_past}
use Rattle.zstate.specs.declared.halt.Halt.{Halt}
use Rattle.zstate.specs.declared.halt.Halt.TheVariants as halts
use Rattle.zstate.specs.State.{Scope, Setting, State}
use Rattle.zstate.specs.Step.{Done, fetch, plan, step}
use Rattle.zmachine.specs.Parts.{IsInside}
use Rattle.zlenient.specs.declared.front.Front.{Front}
use Rattle.zlenient.specs.declared.excusing.Unexcused.{Unexcused}
use Rattle.zlenient.specs.Answer.{IsExcused}
use Rattle.zlenient.specs.Customary.{is_excusable}
use Rattle.zlenient.specs.Front.{front_after, front_at}
use Rattle.zlenient.specs.Step.{instead, is_listed_at, is_within, lenient_fetch, lenient_step, plan_instead}

-- a step that is a fault
abbrev faulty : Fault → Result Done Halt
faulty f = Err (halts.Fault f)

same_fault : (f g : Fault) → faulty f ≡ faulty g → f ≡ g
same_fault f g e = cc

-- ---- what stands at a place

unfetched : (m : Setting) (s : State) (h : Halt) → fetch m.scope s.place s.memory ≡ Err h → step m s ≡ Err h
unfolding step plan
unfetched m s h e = rw e refl

unfetched_instead : (m : Setting) (f : Fault) (s : State) (h : Halt) → lenient_fetch m.scope s.place s.memory ≡ Err h → instead m f s ≡ Err h
unfolding instead plan_instead
unfetched_instead m f s h e = rw e refl

fetch_unlisted : (scope : Scope) (place : ℤ) (memory : List ℕ) → is_listed_at scope place ≡ false → fetch scope place memory ≡ Err (halts.Fault UnlistedInstruction)
unfolding fetch
fetch_unlisted scope (negsuc n) memory e = refl
fetch_unlisted scope (pos p) memory e = rw e refl

fetch_outside : (scope : Scope) (place : ℤ) (memory : List ℕ) → is_listed_at scope place ≡ true → is_within place (length memory) ≡ false → (fetch scope place memory ≡ Err (halts.Fault IllegalOpcode)) × (lenient_fetch scope place memory ≡ Err (halts.Fault IllegalOpcode))
unfolding fetch lenient_fetch
fetch_outside scope (negsuc n) memory listed out = absurd cc
fetch_outside scope (pos p) memory listed out = let past = nothing_past memory p (ltb-false p (length memory) out) in rw (listed, ← past) (refl, refl)

-- where something is customary for the fault, the place is listed
pub listed_there : (m : Setting) (s : State) (f : Fault) → step m s ≡ Err (halts.Fault f) → is_excusable f ≡ true → is_listed_at m.scope s.place ≡ true
listed_there m s f e able = by (is_listed_at m.scope s.place) refl
  where
    by : (b : Bool) → is_listed_at m.scope s.place ≡ b → is_listed_at m.scope s.place ≡ true
    by true is = is
    by false is =
        let same : f ≡ UnlistedInstruction = same_fault f UnlistedInstruction (sym e ∙ unfetched m s (halts.Fault UnlistedInstruction) (fetch_unlisted m.scope s.place s.memory is)) in
        let never : true ≡ false = sym able ∙ ap (λ (g : Fault). is_excusable g) same in
        absurd cc

-- ---- the lenient step

-- a fault for which nothing is customary stays one
pub step_unexcused : (m : Setting) (s : State) (f : Fault) → step m s ≡ Err (halts.Fault f) → is_excusable f ≡ false → lenient_step m s ≡ Err (halts.Fault f)
step_unexcused m s f e none = rw (e, none) refl

pub step_excused : (m : Setting) (s : State) (f : Fault) → step m s ≡ Err (halts.Fault f) → is_excusable f ≡ true → lenient_step m s ≡ instead m f s
step_excused m s f e able = rw (e, able) refl

pub step_outside : (m : Setting) (s : State) (f : Fault) → step m s ≡ Err (halts.Fault f) → is_within s.place (length s.memory) ≡ false → lenient_step m s ≡ Err (halts.Fault f)
step_outside m s f e out = by (is_excusable f) refl
  where
    by : (b : Bool) → is_excusable f ≡ b → lenient_step m s ≡ Err (halts.Fault f)
    by false none = step_unexcused m s f e none
    by true able =
        let fetched = fetch_outside m.scope s.place s.memory (listed_there m s f e able) out in
        let same : f ≡ IllegalOpcode = same_fault f IllegalOpcode (sym e ∙ unfetched m s (halts.Fault IllegalOpcode) fetched.0) in
        step_excused m s f e able ∙ unfetched_instead m f s (halts.Fault IllegalOpcode) fetched.1 ∙ ap (λ (g : Fault). faulty g) (sym same)

pub front_excused : (m : Setting) (s : State) (f : Fault) (front : Front) → step m s ≡ Err (halts.Fault f) → front_after m s front ≡ front_at m.story s s.place front
front_excused m s f front e = rw e refl

-- ---- a place in memory

place_inside : (place : ℤ) (n : ℕ) → is_within place n ≡ true → (p : ℕ) × (place ≡ pos p) × (p < n)
place_inside (pos p) n e = (p, refl, ltb-true p n e)
place_inside (negsuc k) n e = absurd cc

pub is_inside : (s : State) → is_within s.place (length s.memory) ≡ true → IsInside s
is_inside s e = place_inside s.place (length s.memory) e

-- ---- what came of it

-- where it was asked of a state that is the machine's
pub came_of_it : (m : Setting) (s t : State) (f : Fault) (story : LoadedStory) → step m s ≡ Err (halts.Fault f) → is_excusable f ≡ true → m.story ≡ story → t ≡ s → (r : Result (Unit {0}) Unexcused) (u : State) → ((n : Setting) → n.story ≡ story → is_listed_at n.scope t.place ≡ true → IsExcused (instead n f t) r t u) → IsExcused (lenient_step m s) r s u
came_of_it m s t f story e able own same r u done =
    let listed = subst (λ (x : State). is_listed_at m.scope x.place ≡ true) (sym same) (listed_there m s f e able) in
    subst (λ (d : Result Done Halt). IsExcused d r s u) (sym (step_excused m s f e able)) (subst (λ (x : State). IsExcused (instead m f x) r x u) same (done m own listed))

-- the step that was made
abbrev pub made_to : State → Result Done Halt
made_to t = Ok (record { state = t; items = [] })

pub front_came : (m : Setting) (s t : State) (f : Fault) (story : LoadedStory) (old new : Front) → step m s ≡ Err (halts.Fault f) → m.story ≡ story → t ≡ s → new ≡ front_at story t t.place old → new ≡ front_after m s old
front_came m s t f story old new e own same is =
    is ∙ ap (λ (x : LoadedStory). front_at x t t.place old) (sym own) ∙ ap (λ (y : State). front_at m.story y y.place old) same ∙ sym (front_excused m s f old e)
