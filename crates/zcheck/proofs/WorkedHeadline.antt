-- What is known of every run of an accepted story, said once more in other words, whatever the limit of its frames.
use Rattle.std.proofs.Common.{◌≡◌, ◌⊎◌, ℕ, true, List, [], ◌∷◌, Ok, subst}
use Rattle.std.specs.Prelude.{ℤ, pos, ◌-ℤ◌}
use Rattle.std.specs.List.{AllByRecursion}
use Rattle.zstory.specs.Bytes.{byte_at}
use Rattle.zfault.specs.declared.fault.Fault.{Fault}
use Rattle.zdomain.specs.Domain.{SetOperations}
use Rattle.zplace.specs.Bytes.{IsFixed}
use Rattle.zstate.specs.declared.halt.Stop.TheVariants as stops
use Rattle.zstate.specs.State.{Scope, Setting, State, IsState, opening, scope_all, scope_only}
use Rattle.zstate.specs.Run.{Ending, Input, Given, Restored, run}
use Rattle.zquetzal.specs.Reading.{reading}
use Rattle.zquetzal.specs.Saved.{Saved}
use Rattle.zstate.specs.Step.{fetch}
use Rattle.zstate.specs.Saves.{restoring, resumed, saves}
use Rattle.zrule.specs.Claims.{Claims, claims_of, frozen_in}
use Rattle.zrule.specs.Described.{AreFine, Described, IsNoFault}
use Rattle.zcheck.specs.Acceptance.{AcceptanceOver, AreAccepted, IsAcceptedSave, NeverFaults, NeverChanges, PlaysAlike, PlaysSafely}

module _ {V : Type 0} (o : SetOperations V) (a : AcceptanceOver V) (limit : ℕ) where
  abbrev claims : Claims V
  claims = claims_of o a.certificate

  -- where only what the certificate lists may be played, and where every place may
  abbrev listed : Scope
  listed = scope_only a.listing

  abbrev everywhere : Scope
  everywhere = scope_all a.story

  abbrev played_in : Scope → Setting
  played_in scope = record { story = a.story; scope = scope; limit = limit }

  abbrev ending : Scope → List Input → ℕ → Ending
  ending scope inputs n = run (played_in scope) inputs n (opening a.story)

  -- each event may be handed in, and a save from which play goes on in described states alone
  abbrev May : Scope → Input → Type 0
  May scope (Given event) = Unit {0}
  May scope (Restored bytes) = (s t : State) → IsState limit a.story s → restoring (played_in scope) bytes s ≡ Ok t → Described o claims limit a.story t

  fine : (scope : Scope) (inputs : List Input) → AllByRecursion (May scope) inputs → AreFine o claims (played_in scope) inputs
  fine scope [] may = tt
  fine scope (Given event ∷ inputs) may = (tt, fine scope inputs may.1)
  fine scope (Restored bytes ∷ inputs) may = (may.0, fine scope inputs may.1)

  -- no run stops at a fault, whatever is handed in and however many its steps
  none_faults :
      NeverFaults o a → (inputs : List Input) (n : ℕ) (fault : Fault) (place : ℤ)
      → (AllByRecursion (May listed) inputs → (ending listed inputs n).stop ≡ stops.Fault fault place → ⊥)
      × (AllByRecursion (May everywhere) inputs → (ending everywhere inputs n).stop ≡ stops.Fault fault place → ⊥)
  none_faults never inputs n fault place = (
    λ may e. subst IsNoFault e (never.listed limit inputs n (fine listed inputs may)),
    λ may e. subst IsNoFault e (never.everywhere limit inputs n (fine everywhere inputs may)),
  )

  -- and none changes a byte that is fixed, or that the certificate says is frozen
  none_changes :
      NeverChanges o a → (inputs : List Input) (n p : ℕ) → IsFixed a.story (frozen_in claims) p ⊎ (frozen_in claims p ≡ true)
      → (AllByRecursion (May listed) inputs → byte_at (ending listed inputs n).state.memory p ≡ byte_at a.story.memory p)
      × (AllByRecursion (May everywhere) inputs → byte_at (ending everywhere inputs n).state.memory p ≡ byte_at a.story.memory p)
  none_changes never inputs n p stays = (
    λ may. never.listed limit inputs n p (fine listed inputs may) stays,
    λ may. never.everywhere limit inputs n p (fine everywhere inputs may) stays,
  )

  -- where the saves may be handed in both ways, it ends with every place as with what the certificate lists, and gives out the same
  ends_alike : PlaysAlike o a → (inputs : List Input) (n : ℕ) → AllByRecursion (May listed) inputs → AllByRecursion (May everywhere) inputs → ending everywhere inputs n ≡ ending listed inputs n
  ends_alike alike inputs n may may_everywhere = alike limit inputs n (fine listed inputs may) (fine everywhere inputs may_everywhere)

  -- an event, or bytes that are read as a save of which a `save` is listed at the byte before its place, and whose state is described
  abbrev Good : Input → Type 0
  Good (Given event) = Unit {0}
  Good (Restored bytes) = (saved : Saved) × (s : State) × (reading a.story bytes ≡ Ok saved) × (saves (fetch listed (pos saved.place -ℤ pos 1) (resumed a.story saved s).memory) ≡ true) × Described o claims limit a.story (resumed a.story saved s)

  accepted : (inputs : List Input) → AllByRecursion Good inputs → AreAccepted o a limit inputs
  accepted [] good = tt
  accepted (Given event ∷ inputs) good = (tt, accepted inputs good.1)
  accepted (Restored bytes ∷ inputs) ((saved, s, reads, spelled, described), good) = (record { saved = saved; reads = reads; before = s; spelled = spelled; described = described }, accepted inputs good)

  -- nothing else is accepted
  good_alone : (bytes : List ℕ) → IsAcceptedSave o a limit bytes → Good (Restored bytes)
  good_alone bytes x = (x.saved, x.before, x.reads, x.spelled, x.described)

  -- over these no run stops at a fault, both are the same, and no byte changes that is fixed or frozen
  headline :
      PlaysSafely o a → (inputs : List Input) (n p : ℕ) (fault : Fault) (place : ℤ) → AllByRecursion Good inputs
      → ((ending listed inputs n).stop ≡ stops.Fault fault place → ⊥) × ((ending everywhere inputs n).stop ≡ stops.Fault fault place → ⊥) × (ending everywhere inputs n ≡ ending listed inputs n)
      × (IsFixed a.story (frozen_in claims) p ⊎ (frozen_in claims p ≡ true) → byte_at (ending listed inputs n).state.memory p ≡ byte_at a.story.memory p)
  headline safe inputs n p fault place good = (
    λ e. subst IsNoFault e ((safe limit).listed inputs n (accepted inputs good)),
    λ e. subst IsNoFault e ((safe limit).everywhere inputs n (accepted inputs good)),
    (safe limit).alike inputs n (accepted inputs good),
    λ stays. (safe limit).unchanged inputs n p (accepted inputs good) stays,
  )

  -- and play goes on from a good save in both scopes
  goes_on : PlaysSafely o a → (bytes : List ℕ) → Good (Restored bytes) → (s : State) → IsState limit a.story s → ((t : State) × (restoring (played_in listed) bytes s ≡ Ok t)) × ((t : State) × (restoring (played_in everywhere) bytes s ≡ Ok t))
  goes_on safe bytes good s is =
      let x = (accepted (Restored bytes ∷ []) (good, tt)).0 in
      let here = (safe limit).taken bytes x s is in
      let there = (safe limit).taken_everywhere bytes x s is in
      ((here.0, here.1), (there.0, there.1))
