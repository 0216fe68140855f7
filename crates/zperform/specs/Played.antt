-- What calls that play say, by what is told of the devices (own).
use Rattle.std.specs.Prelude.{◌≡◌, ℕ, List, [], Option, Some, None, Result, option_map}
use Rattle.zquetzal.specs.declared.error.SaveError.{SaveError}
use Rattle.zplayer.specs.Leniently.{Noted}
use Rattle.zplayer.specs.Outside.{Coming}
use Rattle.zplayer.specs.World.{Kept, Store, World, told, world}
use Rattle.zcheck.specs.declared.judged.Judged.{Judged}
use Rattle.zcheck.specs.declared.judged.Judged.TheVariants.{Whole, Marked}
use Rattle.zplayer.specs.declared.end.End.{End}
use Rattle.zprompt.specs.declared.manner.Manner.{Manner}
use Rattle.zplayer.specs.declared.outside.World.{World as Lent}
use Rattle.zperform.specs.Devices.{Seen}
use Rattle.zperform.specs.Performing.{given, store_of}
use Rattle.zperform.specs.Report.{outcome_of}
use Rattle.zperform.specs.Telling.{SaysEach, said_of}
use Rattle.zperform.specs.declared.outcome.Outcome.{Outcome}
use Rattle.zperform.specs.declared.outcome.Problem.{Problem}
use Rattle.zperform.specs.declared.playing.Asked.{Asked}
use Rattle.zperform.specs.declared.playing.Devices.{Devices}

-- What is said of how a play comes out: with what the world gives for it, with why saves were refused, the newest first, and with what
-- the writer took before and has taken now.
abbrev pub Account : Type 1
Account = World → List SaveError → Option (List ℕ) → Option (List ℕ) → Outcome → Type 0

-- what is said of a play of what is accepted, with marks or without
abbrev pub ComesOfEither : {A M : Type 0} → (A → Manner → Noted → Account) → (M → Manner → Noted → Account) → Judged A M → Manner → Noted → Account
ComesOfEither whole marked (Whole a) manner noted = whole a manner noted
ComesOfEither whole marked (Marked m) manner noted = marked m manner noted

-- the name of the file that the saves of a play are kept in, if it has one
abbrev pub file_of : Asked → Option (List ℕ)
file_of asked = option_map (λ name. name.now) asked.save

-- a command has the devices that it had, whatever was done with them
pub record SameDevices {F R W E : Type 0} (old new : Devices F R W E) : Type 0 where
  pub files : new.files.ghost_name ≡ old.files.ghost_name
  pub reader : new.reader.ghost_name ≡ old.reader.ghost_name
  pub writer : new.writer.ghost_name ≡ old.writer.ghost_name
  pub errors : new.errors.ghost_name ≡ old.errors.ghost_name

-- With a store a play comes out so, if the store has no save in the end where it is known that it has none at first; and of the calls
-- that it got it says what it does.
module _ {S : Type 0} (kept : S → Option Kept) (failures : S → ℕ) (Follows : S → S → List SaveError → Type 0) where
  abbrev pub ComesOutOf : (Store → List SaveError → Option (List ℕ) → Option (List ℕ) → Outcome → Type 0) → S → S → Option (List ℕ) → Option (List ℕ) → Result End Problem → Type 0
  ComesOutOf account old new before now result =
      (refusals : List SaveError)
      × ((kept old ≡ Some None → kept new ≡ Some None) → account (told kept failures old []) refusals before now (outcome_of result))
      × Follows old new refusals

-- in a world
module _ {R W S G : Type 0} (remaining : R → Option (List ℕ)) (coming : G → Option Coming) (kept : S → Option Kept) (failures : S → ℕ) (contents : W → Option (List ℕ)) (Follows : S → S → List SaveError → Type 0) where
  abbrev pub ComesOutIn : Account → Lent R W S G → Lent R W S G → Result End Problem → Type 0
  ComesOutIn account old new result =
      ComesOutOf kept failures Follows (λ store. account (world (remaining old.reader.now) (coming old.words.now) store)) old.store.now new.store.now (contents old.writer.now) (contents new.writer.now) result

-- With the devices of a command a play comes out as it was asked for, and what is to be said of the saves that were refused is said.
module _ {F R W E : Type 0} (remaining : R → Option (List ℕ)) (contents : W → Option (List ℕ)) (shown : E → Seen) where
  abbrev pub ComesOut : Account → Asked → Devices F R W E → Devices F R W E → Result End Problem → Type 0
  ComesOut account asked old new result =
      (refusals : List SaveError)
      × account (given (remaining old.reader.now) asked.seed (store_of (file_of asked))) refusals (contents old.writer.now) (contents new.writer.now) (outcome_of result)
      × SaysEach (said_of asked.tell (file_of asked) refusals) (shown old.errors.now) (shown new.errors.now)
