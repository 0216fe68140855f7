-- What a player asks of the world, and what the world answers.
use Rattle.std.specs.Prelude.{◌≡◌, ◌⊎◌, ℕ, suc, Bool, true, false, List, ◌∷◌, Option, Some, None, Ok, Err, ⊤}
use Rattle.std.specs.Io.KnownBytes.{IsAtEnd}
use Rattle.zfault.specs.Devices.{RisesByOne}
use Rattle.zfault.specs.declared.event.Event.{Event}
use Rattle.zfault.specs.declared.event.Event.TheVariants as events
use Rattle.zfault.specs.declared.pause.Need.{Need}
use Rattle.zfault.specs.declared.pause.Need.TheVariants as needs
use Rattle.zquetzal.specs.Grammar.{save_text}
use Rattle.zquetzal.specs.Saved.{origin_of}
use Rattle.zquetzal.specs.declared.error.SaveError.{SaveError}
use Rattle.zquetzal.specs.declared.error.SaveError.TheVariants.{NotDescribed}
use Rattle.zstate.specs.State.{State, Setting}
use Rattle.zstate.specs.Saves.{restoring, saved_of}
use Rattle.zstate.specs.Run.{Input, Given, Restored}
use Rattle.zplayer.specs.Lines.{ReadsLine}
use Rattle.zplayer.specs.Outside.{Coming, CountsRefusal}

-- ---- random words

-- the next word is this one, and then come those behind it
abbrev pub Draws : Option Coming → ℕ → Option Coming → Type 0
Draws None word new = ⊤
Draws (Some coming) word new = (word ≡ coming 0) × (new ≡ Some (λ k. coming (suc k)))

-- ---- saves

-- what a store keeps: the last save, if there is one
abbrev pub Kept : Type 0
Kept = Option (List ℕ)

-- a store whose content is known was given a save: it keeps just that, or what it kept before where it failed
abbrev pub Puts : Option Kept → List ℕ → Bool → Option Kept → Type 0
Puts None save done new = ⊤
Puts (Some kept) save true new = new ≡ Some (Some save)
Puts (Some kept) save false new = new ≡ Some kept

-- a store gave these bytes: those that it keeps, where they are known
abbrev pub Gets : Option Kept → List ℕ → Type 0
Gets None save = ⊤
Gets (Some kept) save = kept ≡ Some save

-- what is told of a store: what it keeps, where that is known, its count of failures, and why saves were refused, as it was told, the
-- newest first
pub record Store : Type 0 where
  pub kept : Option Kept
  pub failures : ℕ
  pub refusals : List SaveError

abbrev pub told : {S : Type 0} → (S → Option Kept) → (S → ℕ) → S → List SaveError → Store
told kept failures store refusals = record { kept = kept store; failures = failures store; refusals = refusals }

-- a store was given a save, and fails just where it doesn't keep it
abbrev pub Stores : Store → List ℕ → Bool → Store → Type 0
Stores old save done new = Puts old.kept save done new.kept × CountsRefusal old.failures new.failures done × (new.refusals ≡ old.refusals)

-- play goes on from these bytes of a save, in a state that the machine takes
abbrev pub Resumes : Setting → (State → Type 0) → List ℕ → State → State → Type 0
Resumes m Takes bytes old new = (restoring m bytes old ≡ Ok new) × Takes new

-- the store has bytes from which play goes on so
abbrev pub TakesUp : Setting → (State → Type 0) → State → Store → State → Store → Type 0
TakesUp m Takes s old t new = (bytes : List ℕ) × Gets old.kept bytes × Resumes m Takes bytes s t × (new ≡ old)

-- why a machine doesn't go on from these bytes: the lowest cause for which play can't, or that it doesn't take the state that they lead to
abbrev pub IsRefused : Setting → (State → Type 0) → List ℕ → State → SaveError → Type 0
IsRefused m Takes bytes s error =
    (restoring m bytes s ≡ Err error) ⊎ ((error ≡ NotDescribed) × (t : State) × (restoring m bytes s ≡ Ok t) × (Takes t → ⊥))

-- the store has no save for the machine: it fails, or gives bytes that the machine refuses, and is told why
abbrev pub HasNone : Setting → (State → Type 0) → State → Store → Store → Type 0
HasNone m Takes s old new =
    (new.kept ≡ old.kept)
    × ((RisesByOne old.failures new.failures × (new.refusals ≡ old.refusals))
    ⊎ ((new.failures ≡ old.failures) × (bytes : List ℕ) × (error : SaveError) × Gets old.kept bytes × IsRefused m Takes bytes s error × (new.refusals ≡ error ∷ old.refusals)))

-- ---- the world

-- the bytes that are left to be read and the words to come, where they are known, and the store
pub record World : Type 0 where
  pub input : Option (List ℕ)
  pub words : Option Coming
  pub store : Store

abbrev pub world : Option (List ℕ) → Option Coming → Store → World
world input words store = record { input = input; words = words; store = store }

-- The world answers what a state needs: a line with the next of its bytes, a random word with the next of its words. To a `save` it
-- tells whether the store took what is saved of the state, and fails just where it didn't; to a `restore` it gives the bytes of the store
-- where play goes on from them, and else says that it has none (own).
abbrev pub Answers : Setting → (State → Type 0) → State → Need → World → Input → World → Type 0
Answers m Takes s needs.Line old (Given (events.Line line)) new = ReadsLine old.input line new.input × (new.words ≡ old.words) × (new.store ≡ old.store)
Answers m Takes s needs.Random old (Given (events.Random word)) new = Draws old.words word new.words × (new.input ≡ old.input) × (new.store ≡ old.store)
Answers m Takes s needs.Saved old (Given (events.Saved done)) new =
    Stores old.store (save_text (origin_of m.story) (saved_of m.story s)) done new.store × (new.input ≡ old.input) × (new.words ≡ old.words)
Answers m Takes s needs.Restore old (Restored bytes) new = Gets old.store.kept bytes × ((t : State) × Resumes m Takes bytes s t) × (new ≡ old)
Answers m Takes s needs.Restore old (Given events.NotRestored) new = HasNone m Takes s old.store new.store × (new.input ≡ old.input) × (new.words ≡ old.words)
Answers m Takes s need old input new = ⊥

-- the world has no answer: there is no byte for a line
abbrev pub Refuses : Need → World → Type 0
Refuses needs.Line old = IsAtEnd old.input
Refuses need old = ⊥

-- a need of an event is put to the world, which answers it or doesn't
abbrev pub Asks : Setting → (State → Type 0) → State → Need → World → Option Event → World → Type 0
Asks m Takes s need old None new = Refuses need old × (new.words ≡ old.words) × (new.store ≡ old.store)
Asks m Takes s need old (Some event) new = Answers m Takes s need old (Given event) new
