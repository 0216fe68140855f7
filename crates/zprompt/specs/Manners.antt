-- What playing in a manner comes to.
use Rattle.std.specs.Prelude.{◌≡◌, ℕ, List, [], MatchBool, Option, None, Result}
use Rattle.zquetzal.specs.declared.error.SaveError.{SaveError}
use Rattle.zstate.specs.State.{State, Setting}
use Rattle.zplayer.specs.declared.end.End.{End}
use Rattle.zplayer.specs.declared.end.PlayError.{PlayError}
use Rattle.zplayer.specs.declared.outside.World.{World as Devices}
use Rattle.zplayer.specs.Outside.{Coming}
use Rattle.zplayer.specs.Playing.{ComesTo as ComesPlain}
use Rattle.zplayer.specs.World.{Kept, Store, World, told, world}
use Rattle.zprompt.specs.declared.manner.Manner.{Manner}
use Rattle.zprompt.specs.Prompts.{At, ComesPrompted}

-- a play stands in this state, with what the world has for it and what was written, and no state is kept
abbrev pub standing : State → World → Option (List ℕ) → At
standing state there written = record { state = state; turns = []; input = there.input; words = there.words; store = there.store; written = written }

-- What playing in a manner comes to, from a state on: with commands it goes from prompt to prompt, and else as zplayer has it. It leaves that
-- state, of the words to come those that weren't drawn, and the store. How far the input was read isn't said.
abbrev pub ComesTo : Setting → (State → Type 0) → (State → Type 0) → Manner → World → State → State → Option Coming → Store → Option (List ℕ) → Option (List ℕ) → Result End PlayError → Type 0
ComesTo m Takes wants manner before old new words store written now result =
    MatchBool manner.commands (ComesPrompted m Takes wants manner.options (standing old before written) (standing new (world None words store) now) result)
    (ComesPlain m Takes wants manner.options before old new words store written now result)

-- What comes of a play in a world: what it comes to, by what is told of the devices before and now, with the refusals that the store was
-- told, the newest first, and what the store says of its calls.
module _ {R W S G : Type 0} (remaining : R → Option (List ℕ)) (coming : G → Option Coming) (kept : S → Option Kept) (failures : S → ℕ) (contents : W → Option (List ℕ)) (Follows : S → S → List SaveError → Type 0) where
  abbrev pub ComesOf : Setting → (State → Type 0) → (State → Type 0) → Manner → Devices R W S G → State → Devices R W S G → State → Result End PlayError → Type 0
  ComesOf m Takes wants manner old before new now result =
      (refusals : List SaveError)
      × ComesTo m Takes wants manner (world (remaining old.reader.now) (coming old.words.now) (told kept failures old.store.now [])) before now (coming new.words.now) (told kept failures new.store.now refusals) (contents old.writer.now) (contents new.writer.now) result
      × Follows old.store.now new.store.now refusals
