-- What is told of saves that a machine refused (own).
use Rattle.std.specs.Prelude.{◌≡◌, ◌++◌, ◌&&◌, ℕ, Bool, true, false, List, [], ◌∷◌, Option, codes, decimal, is_some}
use Rattle.zquetzal.specs.Refusal.{number_of as save_number}
use Rattle.zquetzal.specs.declared.error.SaveError.{SaveError}
use Rattle.zperform.specs.Devices.{Says, Seen}
use Rattle.zperform.specs.Report.{line_of}

-- what is said of a save that is refused
abbrev pub refusal_text : SaveError → List ℕ
refusal_text error = codes "save refused: Q" ++ decimal (save_number error)

-- A line was said of each refusal, as far as the sink took it, in their order, of which the list has the newest first. With none the sink
-- isn't called.
abbrev pub SaysEach : List SaveError → Seen → Seen → Type 0
SaysEach [] old new = new ≡ old
SaysEach (error ∷ before) old new = (between : Seen) × SaysEach before old between × Says between new (line_of (refusal_text error))

-- the refusals that are said: all where that is asked for, and else none
abbrev pub heard : Bool → List SaveError → List SaveError
heard tell [] = []
heard true (error ∷ before) = error ∷ before
heard false (error ∷ before) = []

-- those that a play says: it is asked for, and there is a file for saves
abbrev pub said_of : Bool → Option (List ℕ) → List SaveError → List SaveError
said_of tell save refusals = heard (is_some save && tell) refusals
