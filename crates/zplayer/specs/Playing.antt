-- What playing comes to.
use Rattle.std.specs.Prelude.{◌≡◌, ◌⊎◌, ℕ, ◌+◌, ◌≤◌, Bool, true, false, List, [], ◌∷◌, ◌++◌, Option, Some, Result, MatchResult}
use Rattle.std.specs.Io.KnownBytes.{Appends}
use Rattle.zfault.specs.Devices.{AppendsBeginning}
use Rattle.zfault.specs.declared.event.Event.TheVariants as events
use Rattle.zfault.specs.declared.item.Item.{Item}
use Rattle.zfault.specs.declared.pause.Need.{Need}
use Rattle.zfault.specs.declared.pause.Need.TheVariants as needs
use Rattle.zfault.specs.declared.pause.Pause.TheVariants as pauses
use Rattle.zstate.specs.declared.halt.Stop.{Stop}
use Rattle.zstate.specs.declared.halt.Stop.TheVariants as stops
use Rattle.zstate.specs.declared.halt.Halt.TheVariants as halts
use Rattle.zstate.specs.State.{State, Setting, give}
use Rattle.zstate.specs.Run.{Goes, GivesOut, Input, WantsMemory, after, awaited, handed, run}
use Rattle.zscreen.specs.Rendering.{render}
use Rattle.zplayer.specs.Outside.{Coming}
use Rattle.zplayer.specs.World.{Answers, HasNone, Refuses, Store, TakesUp, World, world}
use Rattle.zplayer.specs.declared.end.End.{End}
use Rattle.zplayer.specs.declared.end.End.TheVariants as ends
use Rattle.zplayer.specs.declared.end.Options.{Options}
use Rattle.zplayer.specs.declared.end.PlayError.{PlayError}
use Rattle.zplayer.specs.declared.end.PlayError.TheVariants as errors
use Rattle.zscreen.specs.declared.status_lines.StatusLines.{StatusLines}

-- how playing ends where the run stops so: a need that isn't answered is a want of input, and only a line may be wanting
abbrev pub end_of : Stop → End
end_of (stops.Paused pauses.NeedLine) = ends.NoInput
end_of (stops.Paused pauses.NeedRandom) = ends.NoInput
end_of (stops.Paused pauses.NeedSave) = ends.NoInput
end_of (stops.Paused pauses.NeedRestore) = ends.NoInput
end_of (stops.Paused pauses.Budget) = ends.Budget
end_of (stops.Paused pauses.Quit) = ends.Quit
end_of (stops.Paused pauses.FrameLimit) = ends.FrameLimit
end_of (stops.Fault fault place) = ends.Fault fault place

-- ---- steps alone

-- so much of a budget is left: the rest went into steps from one state to another, and what they gave out was written, with status
-- lines where they are asked for
pub record Writes (m : Setting) (asked : StatusLines) (budget left : ℕ) (old new : State) (before now : Option (List ℕ)) : Type 0 where
  pub steps : ℕ
  pub given : List Item
  pub all : steps + left ≡ budget
  pub goes : Goes m steps old new given
  pub written : Appends before now (render asked given)

-- of what the steps of a turn gave out, a beginning was written: at most 1,024 are made before that is tried
pub record WritesInPart (m : Setting) (asked : StatusLines) (budget left : ℕ) (old new : State) (before now : Option (List ℕ)) : Type 0 where
  pub steps : ℕ
  pub few : steps ≤ 1024
  pub given : List Item
  pub all : steps + left ≡ budget
  pub goes : Goes m steps old new given
  pub written : AppendsBeginning before now (render asked given)

-- ---- steps, and answers to needs

-- how far a play has come: the steps of its budget that are left, the state, and what the world has for it
pub record Stage : Type 0 where
  pub left : ℕ
  pub state : State
  pub world : World

abbrev pub stage : ℕ → State → World → Stage
stage left state world = record { left = left; state = state; world = world }

-- steps lead on, and give these items
pub record Walks (m : Setting) (old new : Stage) (given : List Item) : Type 0 where
  pub steps : ℕ
  pub all : steps + new.left ≡ old.left
  pub goes : Goes m steps old.state new.state given
  pub same_world : new.world ≡ old.world

-- of a machine that takes saves which lead to such states
module _ (m : Setting) (Takes : State → Type 0) where
  -- steps lead to a need at which nothing waits, which the world answers; a save that is taken is no step
  pub record Meets (input : Input) (old new : Stage) (given : List Item) : Type 0 where
    pub steps : ℕ
    pub all : steps + new.left ≡ old.left
    pub there : State
    pub goes : Goes m steps old.state there given
    pub need : Need
    pub awaits : awaited m there ≡ Some need
    pub answer : Answers m Takes there need old.world input new.world
    pub handed_in : handed m (halts.Need need) input there ≡ Some new.state

  -- with these inputs a play leads from one stage to another: each is what the world answers at the next need
  abbrev pub Leads : List Input → Stage → Stage → List Item → Type 0
  Leads [] old new given = Walks m old new given
  Leads (input ∷ inputs) old new given =
      (at : Stage) × (first : List Item) × (rest : List Item) × Meets input old at first × Leads inputs at new rest × (given ≡ first ++ rest)

  -- with the inputs of a play, and more behind them, the run is what the play gave, and then the run from where it has come
  abbrev pub IsRunOf : Type 0
  IsRunOf = (inputs more : List Input) (old new : Stage) (given : List Item) → Leads inputs old new given → run m (inputs ++ more) old.left old.state ≡ after given (run m more new.left new.state)

  module _ (asked : StatusLines) where
    -- a play has come from one stage to another, and what it gave out was written
    pub record Plays (old new : Stage) (before now : Option (List ℕ)) : Type 0 where
      pub inputs : List Input
      pub given : List Item
      pub leads : Leads inputs old new given
      pub written : Appends before now (render asked given)

    -- a play has come from one stage to another: what it gave out up to its last turn was written, and of that turn a beginning
    pub record PlaysInPart (old new : Stage) (before now : Option (List ℕ)) : Type 0 where
      pub at : Stage
      pub between : Option (List ℕ)
      pub plays : Plays old at before between
      pub turn : WritesInPart m asked at.left new.left at.state new.state between now
      pub same_world : new.world ≡ at.world

    -- A play has come to its end, which is that of the run over what the world answered: it stops so, in this state, and all that it
    -- gives out was written. The world has no answer for what it then awaits.
    pub record Finishes (old new : Stage) (before now : Option (List ℕ)) (end : End) : Type 0 where
      pub inputs : List Input
      pub given : List Item
      pub leads : Leads inputs old new given
      pub ended : end ≡ end_of (run m inputs old.left old.state).stop
      pub state_is : new.state ≡ (run m inputs old.left old.state).state
      pub whole : given ≡ (run m inputs old.left old.state).items
      pub written : Appends before now (render asked given)
      pub unanswered : (need : Need) → awaited m new.state ≡ Some need → Refuses need new.world

  -- at a stop, what the world answers is handed in, or there is no answer for what is awaited
  abbrev pub Supplies : State → World → Bool → State → World → Type 0
  Supplies old before true new after =
      (input : Input) × (need : Need) × (awaited m old ≡ Some need) × Answers m Takes old need before input after × (handed m (halts.Need need) input old ≡ Some new)
  Supplies old before false new after = ((need : Need) → awaited m old ≡ Some need → Refuses need before) × (new ≡ old) × (after.words ≡ before.words) × (after.store ≡ before.store)

  -- at a restore, play goes on from a save of the store, or the story is told that there is none for it
  abbrev pub Restores : State → Store → State → Store → Type 0
  Restores old before new after = TakesUp m Takes old before new after ⊎ (HasNone m Takes old before after × (new ≡ give events.NotRestored old))

  module _ (wants : State → Type 0) where
    -- A play broke off, at a line that couldn't be read, at a write that failed, or where memory was refused for what comes next. But for
    -- what a failed write left out, all was written.
    abbrev pub Breaks : StatusLines → Stage → Stage → Option (List ℕ) → Option (List ℕ) → PlayError → Type 0
    Breaks asked old new before now errors.Read = Plays asked old new before now × (awaited m new.state ≡ Some needs.Line)
    Breaks asked old new before now errors.Write = PlaysInPart asked old new before now
    Breaks asked old new before now errors.OutOfMemory = Plays asked old new before now × wants new.state

    -- What playing comes to, from a state on: it leaves that state, of the words to come those that weren't drawn, and the store. How
    -- far the input was read isn't said.
    abbrev pub ComesTo : Options → World → State → State → Option Coming → Store → Option (List ℕ) → Option (List ℕ) → Result End PlayError → Type 0
    ComesTo options before old new words store written now result =
        (left : ℕ) × (input : Option (List ℕ))
        × MatchResult result (Finishes options.status (stage options.budget old before) (stage left new (world input words store)) written now) (Breaks options.status (stage options.budget old before) (stage left new (world input words store)) written now)

-- ---- where memory may be refused

-- to a session: for a step that gives something out, and for the bytes of a save
abbrev pub GivesOrSaves : Setting → State → Type 0
GivesOrSaves m s = GivesOut m s ⊎ (awaited m s ≡ Some needs.Saved)

-- to a checked machine: for a step that wants it, for the bytes of a save, and for the state of one
abbrev pub WantsOrSaves : Setting → State → Type 0
WantsOrSaves m s = WantsMemory m s ⊎ ((awaited m s ≡ Some needs.Saved) ⊎ (awaited m s ≡ Some needs.Restore))
