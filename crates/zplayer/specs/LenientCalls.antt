-- What calls of lenient play say, by what is told of their devices (own).
use Rattle.std.specs.Prelude.{◌≡◌, ◌⊎◌, ⊤, ℕ, ◌+◌, ◌≤◌, Bool, true, false, List, [], Option, Some, None, Result, Ok, Err, ℤ}
use Rattle.std.specs.Io.KnownBytes.{Appends}
use Rattle.zfault.specs.Devices.{AppendsBeginning}
use Rattle.zfault.specs.declared.fault.Fault.{Fault}
use Rattle.zfault.specs.declared.item.Item.{Item}
use Rattle.zquetzal.specs.declared.error.SaveError.{SaveError}
use Rattle.zstate.specs.declared.halt.Halt.{Halt}
use Rattle.zstate.specs.declared.halt.Halt.TheVariants as halts
use Rattle.zstate.specs.State.{Setting, State}
use Rattle.zstate.specs.Step.{Done}
use Rattle.zstate.specs.Run.{Goes, stop_of}
use Rattle.zlenient.specs.Front.{front_after}
use Rattle.zlenient.specs.Step.{lenient_step}
use Rattle.zref.specs.declared.excusing.Excuse.{Excuse}
use Rattle.zref.specs.declared.excusing.Excuse.TheVariants as excuses
use Rattle.zscreen.specs.Rendering.{render}
use Rattle.zplayer.specs.Leniently.{ComesToLeniently, Happening, WantsLeniently, notes_of, with_note, with_notes}
use Rattle.zplayer.specs.Outside.{Coming}
use Rattle.zplayer.specs.Playing.{end_of}
use Rattle.zplayer.specs.World.{Kept, told, world}
use Rattle.zplayer.specs.declared.end.End.{End}
use Rattle.zplayer.specs.declared.end.End.TheVariants as ends
use Rattle.zplayer.specs.declared.end.Options.{Options}
use Rattle.zplayer.specs.declared.end.PlayError.{PlayError}
use Rattle.zplayer.specs.declared.lenient.Lenience.{Lenience}
use Rattle.zplayer.specs.declared.outside.World.{World as Devices}
use Rattle.zscreen.specs.declared.status_lines.StatusLines.{StatusLines}

-- ---- turns

-- what is written of what a turn gives out: all, where it is seen
abbrev pub shown : Bool → List Item → List Item
shown true items = items
shown false items = []

-- as steps alone write, but that what isn't seen is left out
pub record WritesSeen (m : Setting) (asked : StatusLines) (seen : Bool) (budget left : ℕ) (old new : State) (before now : Option (List ℕ)) : Type 0 where
  pub steps : ℕ
  pub given : List Item
  pub all : steps + left ≡ budget
  pub goes : Goes m steps old new given
  pub written : Appends before now (render asked (shown seen given))

pub record WritesSeenInPart (m : Setting) (asked : StatusLines) (seen : Bool) (budget left : ℕ) (old new : State) (before now : Option (List ℕ)) : Type 0 where
  pub steps : ℕ
  pub few : steps ≤ 1024
  pub given : List Item
  pub all : steps + left ≡ budget
  pub goes : Goes m steps old new given
  pub written : AppendsBeginning before now (render asked (shown seen given))

-- ---- answers

-- how play ends after an answer, at the place of the fault, if it does
abbrev pub EndsSo : Excuse → ℤ → Option End → Type 0
EndsSo excuses.Done place end = end ≡ None
EndsSo excuses.Spent place end = end ≡ Some ends.Budget
EndsSo (excuses.Halted (halts.Fault fault)) place end = end ≡ Some (ends.Fault fault place)
EndsSo (excuses.Halted halts.Quit) place end = end ≡ Some ends.Quit
EndsSo (excuses.Halted halts.FrameLimit) place end = end ≡ Some ends.FrameLimit
EndsSo (excuses.Halted (halts.Need need)) place end = end ≡ Some ends.NoInput

-- The fault was answered, which was one of the steps that are left, and is noted; or play ends: none is left, or the lenient step can't be
-- made, and nothing changed.
abbrev pub AnswersFault : Setting → Fault → State → Lenience → ℕ → Option End → State → Lenience → ℕ → Type 0
AnswersFault m fault s before left None t now rest =
    (lenient_step m s ≡ Ok (record { state = t; items = [] }))
    × (left ≡ rest + 1)
    × (now.front ≡ front_after m s before.front)
    × (now.notes ≡ with_note (record { fault = fault; place = s.place }) before.notes)
AnswersFault m fault s before left (Some end) t now rest =
    (t ≡ s) × (now ≡ before) × (rest ≡ left)
    × ((end ≡ ends.Budget) × (left ≡ 0) × ((d : Done) × (lenient_step m s ≡ Ok d)) ⊎ ((h : Halt) × (lenient_step m s ≡ Err h) × (end ≡ end_of (stop_of h s))))

-- ---- plays

module _ {R W S G : Type 0} (remaining : R → Option (List ℕ)) (coming : G → Option Coming) (kept : S → Option Kept) (failures : S → ℕ) (contents : W → Option (List ℕ)) (Follows : S → S → List SaveError → Type 0) where
  -- what comes of lenient play in a world: what happened, what it comes to with that, and what is noted of it
  abbrev pub ComesLeniently : Setting → Options → Devices R W S G → State → Lenience → Devices R W S G → State → Lenience → Result End PlayError → Type 0
  ComesLeniently m options old s before new t now result =
      (happenings : List Happening) × (refusals : List SaveError)
      × ComesToLeniently m (λ _. ⊤) (WantsLeniently m) options happenings (world (remaining old.reader.now) (coming old.words.now) (told kept failures old.store.now [])) s before.front t now.front (coming new.words.now) (told kept failures new.store.now refusals) (contents old.writer.now) (contents new.writer.now) result
      × (now.notes ≡ with_notes (notes_of happenings) before.notes)
      × Follows old.store.now new.store.now refusals
