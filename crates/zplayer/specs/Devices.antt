-- What calls say of a world, by what is told of its devices (own).
use Rattle.std.specs.Prelude.{◌≡◌, ℕ, List, [], Option, Result}
use Rattle.zquetzal.specs.declared.error.SaveError.{SaveError}
use Rattle.zstate.specs.State.{State, Setting}
use Rattle.zplayer.specs.declared.end.End.{End}
use Rattle.zplayer.specs.declared.end.Options.{Options}
use Rattle.zplayer.specs.declared.end.PlayError.{PlayError}
use Rattle.zplayer.specs.declared.outside.World.{World as Devices}
use Rattle.zplayer.specs.Lines.{Ahead, unused}
use Rattle.zplayer.specs.Outside.{Coming}
use Rattle.zplayer.specs.Playing.{ComesTo}
use Rattle.zplayer.specs.World.{Kept, World, told, world}

-- a world has the devices that it had, whatever was done with them
pub record SameDevices {R W S G : Type 0} (old new : Devices R W S G) : Type 0 where
  pub reader : new.reader.ghost_name ≡ old.reader.ghost_name
  pub writer : new.writer.ghost_name ≡ old.writer.ghost_name
  pub store : new.store.ghost_name ≡ old.store.ghost_name
  pub words : new.words.ghost_name ≡ old.words.ghost_name

module _ {R W S G : Type 0} (remaining : R → Option (List ℕ)) (coming : G → Option Coming) (kept : S → Option Kept) (failures : S → ℕ) where
  -- what is told of a world, with the bytes that were read ahead, and with what its store was told
  abbrev pub seen : Ahead → Devices R W S G → List SaveError → World
  seen ahead devices refusals = world (unused ahead (remaining devices.reader.now)) (coming devices.words.now) (told kept failures devices.store.now refusals)

  -- What comes of a play in a world: what it comes to, by what is told of the devices before and now, with the refusals that the store was
  -- told, and what the store says of its calls.
  module _ (contents : W → Option (List ℕ)) (Follows : S → S → List SaveError → Type 0) where
    abbrev pub ComesOf : Setting → (State → Type 0) → (State → Type 0) → Options → Devices R W S G → State → Devices R W S G → State → Result End PlayError → Type 0
    ComesOf m Takes wants options old before new now result =
        (refusals : List SaveError)
        × ComesTo m Takes wants options (world (remaining old.reader.now) (coming old.words.now) (told kept failures old.store.now [])) before now (coming new.words.now) (told kept failures new.store.now refusals) (contents old.writer.now) (contents new.writer.now) result
        × Follows old.store.now new.store.now refusals
