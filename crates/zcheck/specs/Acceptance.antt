-- What is known of a story with a certificate that passes (own).
use Rattle.std.specs.Prelude.{◌≡◌, ◌⊎◌, ℕ, true, List, map, drop, Ok}
use Rattle.std.specs.List.{AllByRecursion, AllZip}
use Rattle.zstory.specs.Bytes.{byte_at}
use Rattle.zstory.specs.LoadedStory.{LoadedStory}
use Rattle.zcode.specs.Reading.{instruction_at}
use Rattle.zlist.specs.declared.record.Record.{Record}
use Rattle.zlist.specs.Listing.{ListedCode}
use Rattle.zcert.specs.Certificate.{Instruction, Certificate, frame_limit}
use Rattle.zdomain.specs.declared.interval.Interval.{Interval}
use Rattle.zdomain.specs.Domain.{SetOperations}
use Rattle.zquetzal.specs.Reading.{reading}
use Rattle.zquetzal.specs.Saved.{Saved}
use Rattle.zstate.specs.State.{Scope, Setting, State, IsState, opening, scope_all, scope_only}
use Rattle.zstate.specs.Step.{fetch}
use Rattle.zstate.specs.Saves.{restoring, resumed, save_place, saves}
use Rattle.zstate.specs.Run.{Ending, Input, Given, Restored, run}
use Rattle.zplace.specs.Bytes.{IsFixed}
use Rattle.zrule.specs.Claims.{Claims, claims_of, frozen_in}
use Rattle.zrule.specs.Described.{AreFine, Described, IsNoFault}

-- a story, its certificate over a type V of sets of words, and the certificate's listing
pub record AcceptanceOver (V : Type 0) : Type 0 where
  pub story : LoadedStory
  pub certificate : Certificate V
  pub listing : ListedCode

-- the certificate being one of intervals
abbrev pub Acceptance : Type 0
Acceptance = AcceptanceOver Interval

-- how many frames may stand above the first, as the certificate says
abbrev pub limit_of : {V : Type 0} → AcceptanceOver V → ℕ
limit_of a = frame_limit a.certificate

-- a record is of the listed instruction, as the story spells it
pub record IsRecordOf {V : Type 0} (story : LoadedStory) (i : Instruction V) (r : Record) : Type 0 where
  pub address : r.address ≡ i.address
  pub routine : r.routine ≡ i.routine
  pub instruction : instruction_at (drop i.address story.memory) ≡ Ok r.instruction

module _ {V : Type 0} where
  abbrev pub AreRecords : LoadedStory → Certificate V → List Record → Type 0
  AreRecords story c records = AllZip (IsRecordOf story) c.instructions records

  abbrev pub AreRoutines : Certificate V → List ℕ → Type 0
  AreRoutines c routines = routines ≡ map (λ r. r.address) c.routines

  -- the listing has just the instructions and routines of the certificate
  pub record IsListingOf (story : LoadedStory) (c : Certificate V) (listing : ListedCode) : Type 0 where
    pub records : AreRecords story c listing.records
    pub routines : AreRoutines c listing.routines

-- the story is played with so many frames above the first at most, in a scope
abbrev pub playing_in : LoadedStory → ℕ → Scope → Setting
playing_in story limit scope = record { story = story; scope = scope; limit = limit }

module _ {V : Type 0} (o : SetOperations V) (claims : Claims V) where
  -- however many frames there may be, no run of the story meets a fault in the scope, whatever the events and however many the steps, and whatever the saves
  -- from which play goes on in described states alone
  abbrev pub RunsWithoutFault : LoadedStory → Scope → Type 0
  RunsWithoutFault story scope =
      (limit : ℕ) (inputs : List Input) (n : ℕ) → AreFine o claims (playing_in story limit scope) inputs → IsNoFault (run (playing_in story limit scope) inputs n (opening story)).stop

  -- nor does it change a byte that is fixed or frozen
  abbrev pub RunsWithoutChange : LoadedStory → Scope → Type 0
  RunsWithoutChange story scope =
      (limit : ℕ) (inputs : List Input) (n p : ℕ) → AreFine o claims (playing_in story limit scope) inputs → IsFixed story (frozen_in claims) p ⊎ ((frozen_in claims) p ≡ true) → byte_at (run (playing_in story limit scope) inputs n (opening story)).state.memory p ≡ byte_at story.memory p

  -- with as many frames the story has the same runs in both scopes, as long as the saves are fine in both
  abbrev pub RunsAlike : LoadedStory → Scope → Scope → Type 0
  RunsAlike story scope wide =
      (limit : ℕ) (inputs : List Input) (n : ℕ) → AreFine o claims (playing_in story limit scope) inputs → AreFine o claims (playing_in story limit wide) inputs → run (playing_in story limit wide) inputs n (opening story) ≡ run (playing_in story limit scope) inputs n (opening story)

-- with the certificate's listing as with every place of the story
pub record NeverFaults {V : Type 0} (o : SetOperations V) (a : AcceptanceOver V) : Type 0 where
  pub listed : RunsWithoutFault o (claims_of o a.certificate) a.story (scope_only a.listing)
  pub everywhere : RunsWithoutFault o (claims_of o a.certificate) a.story (scope_all a.story)

-- with the one listing as with the other
pub record NeverChanges {V : Type 0} (o : SetOperations V) (a : AcceptanceOver V) : Type 0 where
  pub listed : RunsWithoutChange o (claims_of o a.certificate) a.story (scope_only a.listing)
  pub everywhere : RunsWithoutChange o (claims_of o a.certificate) a.story (scope_all a.story)

-- with every place of the story it is the run with the certificate's listing
abbrev pub PlaysAlike : {V : Type 0} → SetOperations V → AcceptanceOver V → Type 0
PlaysAlike o a = RunsAlike o (claims_of o a.certificate) a.story (scope_only a.listing) (scope_all a.story)

-- ---- play from events and accepted saves

-- with so many frames above the first at most, as the certificate names them, or any other number
module _ {V : Type 0} (o : SetOperations V) (a : AcceptanceOver V) (limit : ℕ) where
  -- Bytes of a save that is accepted, whoever wrote them: they are read, a `save` is listed at the byte before their place, and in the state
  -- in which play goes on from them, which is described, it is spelled there. It makes no difference before which state that is asked
  pub record IsAcceptedSave (bytes : List ℕ) : Type 0 where
    pub saved : Saved
    pub reads : reading a.story bytes ≡ Ok saved
    pub before : State
    pub spelled : saves (fetch (scope_only a.listing) (save_place saved) (resumed a.story saved before).memory) ≡ true
    pub described : Described o (claims_of o a.certificate) limit a.story (resumed a.story saved before)

  -- an event, or an accepted save
  abbrev pub IsAcceptedInput : Input → Type 0
  IsAcceptedInput (Given event) = Unit {0}
  IsAcceptedInput (Restored bytes) = IsAcceptedSave bytes

  abbrev pub AreAccepted : List Input → Type 0
  AreAccepted inputs = AllByRecursion IsAcceptedInput inputs

  -- a run from where the story opens
  abbrev pub run_in : Scope → List Input → ℕ → Ending
  run_in scope inputs n = run (playing_in a.story limit scope) inputs n (opening a.story)

  -- play goes on from the save wherever that is asked for, and in a described state
  abbrev pub IsTakenIn : Scope → List ℕ → Type 0
  IsTakenIn scope bytes = (s : State) → IsState limit a.story s → (t : State) × (restoring (playing_in a.story limit scope) bytes s ≡ Ok t) × Described o (claims_of o a.certificate) limit a.story t

  -- The headline, of the fully checked machine: whatever the events and the accepted saves, and however many the steps, no run meets a
  -- fault, with the certificate's listing as with every place; both are the same run; and no byte changes that is fixed or frozen. An accepted
  -- save is one from which play goes on, wherever it is asked for.
  pub record PlaysSafelyWithin : Type 0 where
    pub listed : (inputs : List Input) (n : ℕ) → AreAccepted inputs → IsNoFault (run_in (scope_only a.listing) inputs n).stop
    pub everywhere : (inputs : List Input) (n : ℕ) → AreAccepted inputs → IsNoFault (run_in (scope_all a.story) inputs n).stop
    pub alike : (inputs : List Input) (n : ℕ) → AreAccepted inputs → run_in (scope_all a.story) inputs n ≡ run_in (scope_only a.listing) inputs n
    pub unchanged : (inputs : List Input) (n p : ℕ) → AreAccepted inputs → IsFixed a.story (frozen_in (claims_of o a.certificate)) p ⊎ (frozen_in (claims_of o a.certificate) p ≡ true) → byte_at (run_in (scope_only a.listing) inputs n).state.memory p ≡ byte_at a.story.memory p
    pub taken : (bytes : List ℕ) → IsAcceptedSave bytes → IsTakenIn (scope_only a.listing) bytes
    pub taken_everywhere : (bytes : List ℕ) → IsAcceptedSave bytes → IsTakenIn (scope_all a.story) bytes

-- however many frames there may be: as many as the certificate names, or as many as in any play
abbrev pub PlaysSafely : {V : Type 0} → SetOperations V → AcceptanceOver V → Type 0
PlaysSafely o a = (limit : ℕ) → PlaysSafelyWithin o a limit
