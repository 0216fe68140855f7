-- What lenient play comes to (own).
use Rattle.std.specs.Prelude.{◌≡◌, ◌⊎◌, ℕ, suc, ◌+◌, ◌-◌, ◌^◌, ◌≤◌, min, Bool, true, List, [], ◌∷◌, ◌++◌, Option, Some, Result, Ok, Err, MatchResult, ℤ, if◌then◌else◌}
use Rattle.std.specs.List.{list_any}
use Rattle.std.specs.Ordering.{int_eq}
use Rattle.std.specs.Io.KnownBytes.{Appends}
use Rattle.zfault.specs.Devices.{AppendsBeginning}
use Rattle.zfault.specs.declared.fault.Fault.{Fault}
use Rattle.zfault.specs.declared.item.Item.{Item}
use Rattle.zfault.specs.declared.pause.Need.{Need}
use Rattle.zfault.specs.declared.pause.Need.TheVariants as needs
use Rattle.zstate.specs.declared.halt.Halt.{Halt}
use Rattle.zstate.specs.declared.halt.Halt.TheVariants as halts
use Rattle.zstate.specs.State.{Setting, State}
use Rattle.zstate.specs.Step.{Done, step}
use Rattle.zstate.specs.Run.{Goes, Input, awaited}
use Rattle.zlenient.specs.declared.front.Front.{Front}
use Rattle.zlenient.specs.Customary.{is_excusable}
use Rattle.zlenient.specs.Front.{front_after, seen}
use Rattle.zlenient.specs.Run.{Note, behind, lenient_run}
use Rattle.zlenient.specs.Step.{lenient_step}
use Rattle.zscreen.specs.Rendering.{render}
use Rattle.zplayer.specs.Outside.{Coming}
use Rattle.zplayer.specs.Playing.{Meets, Stage, Walks, WantsOrSaves, end_of, stage}
use Rattle.zplayer.specs.World.{Refuses, Store, World, world}
use Rattle.zplayer.specs.declared.end.End.{End}
use Rattle.zplayer.specs.declared.noting.Answered.{Answered}
use Rattle.zplayer.specs.declared.end.Options.{Options}
use Rattle.zplayer.specs.declared.end.PlayError.{PlayError}
use Rattle.zplayer.specs.declared.end.PlayError.TheVariants as errors
use Rattle.zscreen.specs.declared.status_lines.StatusLines.{StatusLines}

-- ---- what is noted

-- of the faults that were answered the first one of each place, in order, and how many these were
pub record Noted : Type 0 where
  pub firsts : List Answered
  pub count : ℕ

-- what is kept of a fault that was answered
abbrev pub answered_of : Note → Answered
answered_of note = record { fault = note.fault; place = note.place }

-- one of this place is among them
abbrev pub is_noted : ℤ → List Answered → Bool
is_noted place firsts = list_any (λ answered. int_eq answered.place place) firsts

-- only the first one of a place is kept
abbrev pub with_first : Answered → List Answered → List Answered
with_first answered firsts = if is_noted answered.place firsts then firsts else firsts ++ answered ∷ []

-- one more was answered, counted in a u64 that stays at its last value
abbrev pub with_note : Note → Noted → Noted
with_note note n = record { firsts = with_first (answered_of note) n.firsts; count = min (n.count + 1) (2 ^ 64 - 1) }

abbrev pub with_notes : List Note → Noted → Noted
with_notes [] n = n
with_notes (note ∷ notes) n = with_notes notes (with_note note n)

-- ---- how far lenient play has come

-- as play has, and with the front that its text has then
pub record Reach : Type 0 where
  pub stage : Stage
  pub front : Front

abbrev pub reach : ℕ → State → World → Front → Reach
reach left state world front = record { stage = stage left state world; front = front }

-- what comes between steps: the world answers a need, or a fault is answered
pub data Happening : Type 0 where
  Handed : Input → Happening
  Excused : Note → Happening

abbrev pub inputs_of : List Happening → List Input
inputs_of [] = []
inputs_of (Handed input ∷ rest) = input ∷ inputs_of rest
inputs_of (Excused note ∷ rest) = inputs_of rest

abbrev pub notes_of : List Happening → List Note
notes_of [] = []
notes_of (Handed input ∷ rest) = notes_of rest
notes_of (Excused note ∷ rest) = note ∷ notes_of rest

-- steps lead to a fault, in whose place is done what is customary, which is one step more
pub record Answers (m : Setting) (note : Note) (old new : Reach) (given : List Item) : Type 0 where
  pub steps : ℕ
  pub all : steps + suc new.stage.left ≡ old.stage.left
  pub there : State
  pub goes : Goes m steps old.stage.state there given
  pub place_is : note.place ≡ there.place
  pub faults : step m there ≡ Err (halts.Fault note.fault)
  pub answered : lenient_step m there ≡ Ok (record { state = new.stage.state; items = [] })
  pub front_is : new.front ≡ front_after m there old.front
  pub same_world : new.stage.world ≡ old.stage.world

-- of a machine that takes saves which lead to such states
module _ (m : Setting) (Takes : State → Type 0) where
  -- what happens leads from one reach to another; what is given out of it is what is seen
  abbrev pub LeadsLeniently : List Happening → Reach → Reach → List Item → Type 0
  LeadsLeniently [] old new given = (items : List Item) × Walks m old.stage new.stage items × (new.front ≡ old.front) × (given ≡ seen old.front items)
  LeadsLeniently (Handed input ∷ happenings) old new given =
      (at : Reach) × (first : List Item) × (rest : List Item) × Meets m Takes input old.stage at.stage first × (at.front ≡ old.front) × LeadsLeniently happenings at new rest × (given ≡ seen old.front first ++ rest)
  LeadsLeniently (Excused note ∷ happenings) old new given =
      (at : Reach) × (first : List Item) × (rest : List Item) × Answers m note old at first × LeadsLeniently happenings at new rest × (given ≡ seen old.front first ++ rest)

  -- with what happened in a play, and more inputs behind it, the lenient run is what the play gave and noted, and then the lenient run from
  -- where it has come
  abbrev pub IsLenientRunOf : Type 0
  IsLenientRunOf = (happenings : List Happening) (more : List Input) (old new : Reach) (given : List Item) → LeadsLeniently happenings old new given → lenient_run m (inputs_of happenings ++ more) old.stage.left old.front old.stage.state ≡ behind (notes_of happenings) given (lenient_run m more new.stage.left new.front new.stage.state)

  module _ (asked : StatusLines) where
    -- a play has come from one reach to another, and what it gave out was written
    pub record PlaysLeniently (happenings : List Happening) (old new : Reach) (before now : Option (List ℕ)) : Type 0 where
      pub given : List Item
      pub leads : LeadsLeniently happenings old new given
      pub written : Appends before now (render asked given)

    -- and of the steps of its last turn, of at most 1,024, a beginning of what they gave out
    pub record PlaysLenientlyInPart (happenings : List Happening) (old new : Reach) (before now : Option (List ℕ)) : Type 0 where
      pub at : Reach
      pub between : Option (List ℕ)
      pub plays : PlaysLeniently happenings old at before between
      pub items : List Item
      pub steps : ℕ
      pub few : steps ≤ 1024
      pub all : steps + new.stage.left ≡ at.stage.left
      pub goes : Goes m steps at.stage.state new.stage.state items
      pub same_front : new.front ≡ at.front
      pub same_world : new.stage.world ≡ at.stage.world
      pub written : AppendsBeginning between now (render asked (seen at.front items))

    -- A play has come to its end, which is that of the lenient run over what the world answered, with all that is noted of it. The world has
    -- no answer for what is then awaited.
    pub record FinishesLeniently (happenings : List Happening) (old new : Reach) (before now : Option (List ℕ)) (end : End) : Type 0 where
      pub given : List Item
      pub leads : LeadsLeniently happenings old new given
      pub ended : end ≡ end_of (lenient_run m (inputs_of happenings) old.stage.left old.front old.stage.state).ending.stop
      pub state_is : new.stage.state ≡ (lenient_run m (inputs_of happenings) old.stage.left old.front old.stage.state).ending.state
      pub whole : given ≡ (lenient_run m (inputs_of happenings) old.stage.left old.front old.stage.state).ending.items
      pub noted : notes_of happenings ≡ (lenient_run m (inputs_of happenings) old.stage.left old.front old.stage.state).notes
      pub written : Appends before now (render asked given)
      pub unanswered : (need : Need) → awaited m new.stage.state ≡ Some need → Refuses need new.stage.world

  module _ (wants : State → Type 0) where
    -- A play broke off, at a line that couldn't be read, at a write that failed, or where memory was refused for what comes next or for the
    -- answer to a fault.
    abbrev pub BreaksLeniently : StatusLines → List Happening → Reach → Reach → Option (List ℕ) → Option (List ℕ) → PlayError → Type 0
    BreaksLeniently asked happenings old new before now errors.Read = PlaysLeniently asked happenings old new before now × (awaited m new.stage.state ≡ Some needs.Line)
    BreaksLeniently asked happenings old new before now errors.Write = PlaysLenientlyInPart asked happenings old new before now
    BreaksLeniently asked happenings old new before now errors.OutOfMemory = PlaysLeniently asked happenings old new before now × wants new.stage.state

    -- What lenient play comes to, from a state and a front on: it leaves these, of the words to come those that weren't drawn, the store,
    -- and what happened. How far the input was read isn't said.
    abbrev pub ComesToLeniently : Options → List Happening → World → State → Front → State → Front → Option Coming → Store → Option (List ℕ) → Option (List ℕ) → Result End PlayError → Type 0
    ComesToLeniently options happenings before old f new g words store written now result =
        (left : ℕ) × (input : Option (List ℕ))
        × MatchResult result (FinishesLeniently options.status happenings (reach options.budget old before f) (reach left new (world input words store) g) written now) (BreaksLeniently options.status happenings (reach options.budget old before f) (reach left new (world input words store) g) written now)

-- ---- where memory may be refused

-- a step is a fault for which something is customary
abbrev pub IsExcusable : Result Done Halt → Type 0
IsExcusable result = (fault : Fault) × (result ≡ Err (halts.Fault fault)) × (is_excusable fault ≡ true)

-- to lenient play: where it may be to a checked machine, and for the answer to such a fault
abbrev pub WantsLeniently : Setting → State → Type 0
WantsLeniently m s = WantsOrSaves m s ⊎ IsExcusable (step m s)
