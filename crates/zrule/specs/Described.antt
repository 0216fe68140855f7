-- When claims describe a state (own).
use Rattle.std.specs.Prelude.{◌≡◌, ℕ, ◌-◌, ◌<◌, ◌≤◌, Bool, true, false, List, [], ◌∷◌, length, Some, MatchOption, Result, Ok, Err, pos, slice_get, slice_set, ◌==◌, nat_lt}
use Rattle.std.specs.Bool.{MatchBool}
use Rattle.std.specs.List.{AllByRecursion, AllZip}
use Rattle.zstory.specs.Bytes.{byte_at}
use Rattle.zstory.specs.LoadedStory.{LoadedStory}
use Rattle.zdomain.specs.Domain.{SetOperations, In}
use Rattle.zstate.specs.declared.halt.Halt.{Halt}
use Rattle.zstate.specs.declared.halt.Halt.TheVariants as halts
use Rattle.zquetzal.specs.Grammar.{save_text}
use Rattle.zquetzal.specs.Saved.{origin_of}
use Rattle.zstate.specs.State.{Frame, State, Scope, Setting, IsCount, IsState, opening, restarted, scope_all, most_limit}
use Rattle.zstate.specs.Saves.{restoring, saved_of, saves}
use Rattle.zstate.specs.Step.{Done, fetch, step}
use Rattle.zstate.specs.Run.{Input, Given, Restored, run}
use Rattle.zstate.specs.declared.halt.Stop.{Stop}
use Rattle.zstate.specs.declared.halt.Stop.TheVariants as stops
use Rattle.zstory.specs.LoadedStory.{IsSound}
use Rattle.zstory.specs.Objects.{IsObjectCount}
use Rattle.zobj.specs.Tree.{IsTree}
use Rattle.zcert.specs.declared.parts.Fact.{Fact}
use Rattle.zflow.specs.Transfer.{Shape}
use Rattle.zrule.specs.Claims.{Entry, Claims, frozen_in}
use Rattle.zplace.specs.Bytes.{IsFixed}
use Rattle.zrule.specs.Rules.{AreImplied, HasGlobals, global_in, Supports, SupportsWhere}

module _ {V : Type 0} (o : SetOperations V) (claims : Claims V) where
  -- the locals and the stack lie in the sets stated, and are as many
  pub record Fits (e : Shape V) (locals stack : List ℕ) : Type 0 where
    pub in_locals : AllZip (In o) e.locals locals
    pub in_slots : AllZip (In o) e.slots stack

  -- the frame, with a value stored in a variable, fits; a global that takes the value has it in its set
  abbrev pub FitsWith : ℕ → ℕ → Shape V → Frame → Type 0
  FitsWith v x e g =
      MatchBool (v == 0) (Fits e g.locals (x ∷ g.stack))
      (MatchBool (nat_lt v 16) ((v ≤ length g.locals) × Fits e (slice_set g.locals (v - 1) x) g.stack)
      ((v < 256) × MatchOption (slice_get claims.globals (v - 16)) ⊥ (λ values. In o values x) × Fits e g.locals g.stack))

  -- Each caller, whatever the routine above it may give; the main code alone was called by nothing. What is stated of globals where it
  -- goes on holds of all that they may have.
  abbrev pub Callers : ℕ → ℕ → ℕ → List Frame → Type 0
  Callers routine return_place result [] = routine ≡ 0
  Callers routine return_place result (g ∷ gs) =
      (1 ≤ routine) × (e : Entry V) × (claims.entry return_place ≡ Some e)
      × ((x : ℕ) → In o (claims.result routine) x → FitsWith result x e.shape g) × AreImplied o claims.globals (claims.facts return_place) × Callers e.routine g.return_place g.result gs

  -- what is stated of globals at a place
  abbrev pub HaveFacts : LoadedStory → List ℕ → ℕ → Type 0
  HaveFacts story memory p = AllByRecursion (λ (f : Fact V). In o f.values (global_in story memory f.global)) (claims.facts p)

  -- what is said of every memory of a play
  pub record DescribedMemory (story : LoadedStory) (memory : List ℕ) : Type 0 where
    pub long : length memory ≡ length story.memory
    pub values : HasGlobals o claims story memory
    pub tree : IsTree memory story.objects
    pub fixed : (p : ℕ) → IsFixed story (frozen_in claims) p → byte_at memory p ≡ byte_at story.memory p

  -- a state with at most so many frames above the first
  pub record Described (limit : ℕ) (story : LoadedStory) (s : State) : Type 0 where
    pub is_state : IsState limit story s
    pub at : ℕ
    pub place : s.place ≡ pos at
    pub entry : Entry V
    pub listed : claims.entry at ≡ Some entry
    pub fits : Fits entry.shape s.frame.locals s.frame.stack
    pub callers : Callers entry.routine s.frame.return_place s.frame.result s.callers
    pub memory : DescribedMemory story s.memory
    pub facts : HaveFacts story s.memory at

  -- no fault, and what comes next is described
  abbrev pub IsSafe : ℕ → LoadedStory → Result Done Halt → Type 0
  IsSafe limit story (Ok d) = Described limit story d.state
  IsSafe limit story (Err (halts.Fault f)) = ⊥
  IsSafe limit story (Err (halts.Need n)) = Unit {0}
  IsSafe limit story (Err halts.Quit) = Unit {0}
  IsSafe limit story (Err halts.FrameLimit) = Unit {0}

  -- bytes of a save from which play goes on in described states alone, wherever it is asked for (own)
  abbrev pub IsFineSave : Setting → List ℕ → Type 0
  IsFineSave m bytes = (s t : State) → IsState m.limit m.story s → restoring m bytes s ≡ Ok t → Described m.limit m.story t

  -- bytes of a save from which play goes on in a state, and then in one that is described: what is accepted there (own)
  abbrev pub IsAcceptedIn : Setting → List ℕ → State → Type 0
  IsAcceptedIn m bytes s = (t : State) × (restoring m bytes s ≡ Ok t) × Described m.limit m.story t

  -- every event is fine
  abbrev pub IsFine : Setting → Input → Type 0
  IsFine m (Given e) = Unit {0}
  IsFine m (Restored bytes) = IsFineSave m bytes

  abbrev pub AreFine : Setting → List Input → Type 0
  AreFine m inputs = AllByRecursion (IsFine m) inputs

  -- every listed place may be played there that isn't marked, and every routine called
  pub record IsListedWhere (marked : ℕ → Bool) (scope : Scope) : Type 0 where
    pub places : (p : ℕ) (e : Entry V) → claims.entry p ≡ Some e → marked p ≡ false → scope.instructions p ≡ true
    pub routines : (p k : ℕ) → claims.routine_at p ≡ Some k → scope.routines p ≡ true

  -- every listed place may be played there, and every routine called
  abbrev pub IsListedIn : Scope → Type 0
  IsListedIn scope = IsListedWhere (λ p. false) scope

-- ---- the laws

-- a run that stopped with no fault
abbrev pub IsNoFault : Stop → Type 0
IsNoFault (stops.Paused pause) = Unit {0}
IsNoFault (stops.Fault fault place) = ⊥

-- a story as it is loaded
pub record IsLoadedStory (story : LoadedStory) : Type 0 where
  pub sound : IsSound story.memory
  pub counted : IsObjectCount story.memory story.objects

module _ {V : Type 0} (o : SetOperations V) (claims : Claims V) where
  -- the opening state is described, however many frames there may be
  abbrev pub OpensDescribed : Type 0
  OpensDescribed = (story : LoadedStory) (limit : ℕ) → IsLoadedStory story → Supports o claims story → Described o claims limit story (opening story)

  -- and so is the state after a restart, whatever was before it
  abbrev pub RestartsDescribed : Type 0
  RestartsDescribed = (story : LoadedStory) (limit : ℕ) (s : State) → IsLoadedStory story → Supports o claims story → IsCount s.random → Described o claims limit story (restarted story s)

  -- a step from a described state is no fault, and leads to a described state
  abbrev pub StepsSafely : Type 0
  StepsSafely = (m : Setting) (s : State) → IsLoadedStory m.story → Supports o claims m.story → IsListedIn o claims m.scope → Described o claims m.limit m.story s → IsSafe o claims m.limit m.story (step m s)

  -- a run from a described state stops with no fault, in a described state, whatever the events and the number of steps, and
  -- whatever the saves, as long as they are fine
  abbrev pub RunsSafely : Type 0
  RunsSafely = (m : Setting) (inputs : List Input) (n : ℕ) (s : State) → IsLoadedStory m.story → Supports o claims m.story → IsListedIn o claims m.scope → AreFine o claims m inputs → Described o claims m.limit m.story s → IsNoFault (run m inputs n s).stop × Described o claims m.limit m.story (run m inputs n s).state

  -- at a marked place the next step is no fault, and leads to a described state
  abbrev pub IsHeldAt : (ℕ → Bool) → Setting → State → Type 0
  IsHeldAt marked m s = (p : ℕ) → s.place ≡ pos p → marked p ≡ true → IsSafe o claims m.limit m.story (step m s)

  -- so at each marked place that a run comes to
  abbrev pub MarksHold : (ℕ → Bool) → Setting → List Input → ℕ → State → Type 0
  MarksHold marked m inputs n s = (k : ℕ) → k ≤ n → IsHeldAt marked m (run m inputs k s).state

  -- Where the claims hold but at marked places, a run from a described state stops with no fault, in a described state, as long as what it makes at
  -- those keeps it described: so where there is a fault, it is at a marked place, or behind one that led to a state that isn't described
  abbrev pub RunsSafelyWhereMarked : Type 0
  RunsSafelyWhereMarked =
      (marked : ℕ → Bool) (m : Setting) (inputs : List Input) (n : ℕ) (s : State) → IsLoadedStory m.story → SupportsWhere o claims marked m.story → IsListedWhere o claims marked m.scope
      → AreFine o claims m inputs → Described o claims m.limit m.story s → MarksHold marked m inputs n s → IsNoFault (run m inputs n s).stop × Described o claims m.limit m.story (run m inputs n s).state

  -- a story of which the claims hold never faults, where every place of it may be played, however many frames there may be
  abbrev pub NeverFaults : Type 0
  NeverFaults = (story : LoadedStory) (limit : ℕ) (inputs : List Input) (n : ℕ) → IsLoadedStory story → Supports o claims story → AreFine o claims (record { story = story; scope = scope_all story; limit = limit }) inputs → IsNoFault (run (record { story = story; scope = scope_all story; limit = limit }) inputs n (opening story)).stop

  -- a run from a described state is the same run in every scope that has the listed places, as long as the saves are fine in both
  abbrev pub PlaysAlike : Type 0
  PlaysAlike = (m : Setting) (wide : Scope) (inputs : List Input) (n : ℕ) (s : State) → IsLoadedStory m.story → Supports o claims m.story → IsListedIn o claims m.scope → IsListedIn o claims wide → AreFine o claims m inputs → AreFine o claims (record m { scope = wide }) inputs → Described o claims m.limit m.story s → run (record m { scope = wide }) inputs n s ≡ run m inputs n s

  -- a save that is accepted in one state is fine, in any scope
  abbrev pub AcceptedAreFine : Type 0
  AcceptedAreFine = (m : Setting) (scope : Scope) (bytes : List ℕ) (s : State) → IsLoadedStory m.story → Supports o claims m.story → IsAcceptedIn o claims m bytes s → IsFineSave o claims (record m { scope = scope }) bytes

  -- what is saved of a described state at a `save` is accepted in every state
  abbrev pub SavedAreAccepted : Type 0
  SavedAreAccepted =
      (m : Setting) (s now : State) → IsLoadedStory m.story → Supports o claims m.story → m.limit ≤ most_limit → Described o claims m.limit m.story s
      → saves (fetch m.scope s.place s.memory) ≡ true → IsState m.limit m.story now → IsAcceptedIn o claims m (save_text (origin_of m.story) (saved_of m.story s)) now
