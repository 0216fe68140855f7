-- What lenient play comes to, and what is told of the faults that were answered (own).
use Rattle.std.specs.Prelude.{◌≡◌, ◌⊎◌, ⊤, ℕ, List, [], ◌∷◌, ◌++◌, true, Option, None, Some, Result, Ok, Err, codes, decimal, nat_lt, if◌then◌else◌}
use Rattle.zquetzal.specs.declared.error.SaveError.{SaveError}
use Rattle.zfault.specs.Fault.{number_of as fault_number}
use Rattle.zstory.specs.LoadedStory.{LoadedStory}
use Rattle.zstate.specs.State.{State, opening}
use Rattle.zlenient.specs.declared.front.Front.{Front}
use Rattle.zlenient.specs.Front.{opened}
use Rattle.zref.specs.Machine.{setting_of}
use Rattle.zref.specs.declared.scope.Scope.TheVariants.{All}
use Rattle.zplayer.specs.declared.end.Options.{Options}
use Rattle.zplayer.specs.declared.end.End.{End}
use Rattle.zplayer.specs.declared.end.PlayError.{PlayError}
use Rattle.zplayer.specs.declared.noting.Answered.{Answered}
use Rattle.zplayer.specs.Leniently.{ComesToLeniently, Happening, Noted, WantsLeniently, notes_of, with_notes}
use Rattle.zplayer.specs.Outside.{Coming}
use Rattle.zplayer.specs.World.{Store, World}
use Rattle.zperform.specs.Accepting.{HoldsSuch, IsNoStory, IsOfEither, IsUnacceptedStory}
use Rattle.zperform.specs.Beside.{Aside, Unsought, Absent, Used, Unused, Excused}
use Rattle.zperform.specs.Blaming.{IsUnread, IsUnreadOf}
use Rattle.zperform.specs.Contents.{HasBytes}
use Rattle.zperform.specs.Devices.{Held, Says, Seen}
use Rattle.zperform.specs.Playing.{StaysEmpty}
use Rattle.zperform.specs.Report.{outcome_of, place_text, problem_of_play}
use Rattle.zperform.specs.Telling.{SaysEach}
use Rattle.zperform.specs.Wording.{short_text}
use Rattle.zperform.specs.declared.blame.Blame.{Blame}
use Rattle.zperform.specs.declared.outcome.Failure.TheVariants.{Memory}
use Rattle.zperform.specs.declared.outcome.Problem.{Problem}
use Rattle.zperform.specs.declared.outcome.Problem.TheVariants.{Failed}
use Rattle.zperform.specs.declared.outcome.Outcome.{Outcome}

-- ---- what comes of it

-- no fault was answered
abbrev pub none_noted : Noted
none_noted = record { firsts = []; count = 0 }

-- a story was played leniently from its opening, with every place of it in scope, and came to this; the faults that were answered are noted,
-- and the saves that were refused were so for these causes, the newest first
pub record IsPlayedLeniently (story : LoadedStory) (options : Options) (noted : Noted) (given : World) (refusals : List SaveError) (before now : Option (List ℕ)) (result : Result End PlayError) : Type 0 where
  pub happenings : List Happening
  pub state : State
  pub front : Front
  pub words : Option Coming
  pub store : Store
  pub comes : ComesToLeniently (setting_of story All) (λ _. ⊤) (WantsLeniently (setting_of story All)) options happenings given (opening story) opened state front words store before now result
  pub noted_is : noted ≡ with_notes (notes_of happenings) none_noted
  pub unsaved : StaysEmpty given.store store
  pub refused : store.refusals ≡ refusals

-- What lenient play of a story's file comes to: it was played, or broke off, or there was no memory for the machine, and nothing was done.
abbrev pub ExcusedTo : Option (List ℕ) → Options → Noted → World → List SaveError → Option (List ℕ) → Option (List ℕ) → Result End Problem → Type 0
ExcusedTo known options noted given refusals before now (Ok end) = HoldsSuch known (λ story. IsPlayedLeniently story options noted given refusals before now (Ok end))
ExcusedTo known options noted given refusals before now (Err problem) =
    ((problem ≡ Failed Memory) × HasBytes known × (noted ≡ none_noted) × (refusals ≡ []) × (now ≡ before))
    ⊎ ((error : PlayError) × (problem ≡ problem_of_play error) × HoldsSuch known (λ story. IsPlayedLeniently story options noted given refusals before now (Err error)))

-- so an outcome comes of it
abbrev pub ExcusedOut : Option (List ℕ) → Options → Noted → World → List SaveError → Option (List ℕ) → Option (List ℕ) → Outcome → Type 0
ExcusedOut known options noted given refusals before now outcome = (result : Result End Problem) × (outcome ≡ outcome_of result) × ExcusedTo known options noted given refusals before now result

-- why a story isn't played: it is none, or isn't accepted with the certificate that is named
abbrev pub IsUnplayed : Held → List ℕ → Option (List ℕ) → Problem → Type 0
IsUnplayed files story None problem = IsNoStory (files.known story) problem
IsUnplayed files story (Some certificate) problem = IsUnacceptedStory (files.known story) (files.known certificate) problem

-- which file can fail where one does, and which is told of
abbrev pub CanFailOf : Held → List ℕ → Option (List ℕ) → Type 0
CanFailOf files story None = files.can_fail story ≡ true
CanFailOf files story (Some certificate) = IsOfEither files story certificate

abbrev pub IsUnreadOfThose : List ℕ → Option (List ℕ) → Option Blame → Type 0
IsUnreadOfThose story None blamed = IsUnread story blamed
IsUnreadOfThose story (Some certificate) blamed = IsUnreadOf story certificate blamed

-- what a lenient play comes to: the story is played, with a certificate or none, or it isn't, and nothing was done
abbrev pub PlaysNoted : Held → List ℕ → Option (List ℕ) → Noted → Options → World → List SaveError → Option (List ℕ) → Option (List ℕ) → Outcome → Type 0
PlaysNoted files story certificate noted options given refusals before now outcome =
    ((problem : Problem) × (outcome ≡ outcome_of (Err problem)) × IsUnplayed files story certificate problem × (noted ≡ none_noted) × (refusals ≡ []) × (now ≡ before))
    ⊎ ExcusedOut (files.known story) options noted given refusals before now outcome

-- no certificate beside the story was looked for
abbrev pub PlaysExcused : Held → List ℕ → Option (List ℕ) → Aside → Options → World → List SaveError → Option (List ℕ) → Option (List ℕ) → Outcome → Type 0
PlaysExcused files story certificate aside options given refusals before now outcome =
    (noted : Noted) × (aside ≡ Excused noted) × PlaysNoted files story certificate noted options given refusals before now outcome

-- ---- what is told

-- the beginning of the line of a fault that was answered, as `warning: F6 at 00329`
abbrev pub warning_text : Answered → List ℕ
warning_text answered = codes "warning: F" ++ decimal (fault_number answered.fault) ++ codes " at " ++ place_text answered.place

-- the line: with what the fault is; where memory for that is wanting, without
abbrev pub warning_line : Answered → List ℕ
warning_line answered = warning_text answered ++ short_text (codes "F" ++ decimal (fault_number answered.fault)) ++ 10 ∷ []

abbrev pub IsWarning : Answered → List ℕ → Type 0
IsWarning answered text = (text ≡ warning_line answered) ⊎ (text ≡ warning_text answered ++ 10 ∷ [])

-- a line for the first fault of each place, in order, as far as the sink took them
abbrev pub SaysWarnings : List Answered → Seen → Seen → Type 0
SaysWarnings [] old new = new ≡ old
SaysWarnings (answered ∷ others) old new = (text : List ℕ) × (between : Seen) × IsWarning answered text × Says old between text × SaysWarnings others between new

-- how many faults were answered, if any were
abbrev pub count_line : ℕ → List ℕ
count_line count = if nat_lt 0 count then codes "faults answered: " ++ decimal count ++ 10 ∷ [] else []

abbrev pub SaysNoted : Noted → Seen → Seen → Type 0
SaysNoted noted old new = (between : Seen) × SaysWarnings noted.firsts old between × Says between new (count_line noted.count)

-- what was noted of a play
abbrev pub noted_of : Aside → Noted
noted_of (Excused noted) = noted
noted_of Unsought = none_noted
noted_of Absent = none_noted
noted_of Used = none_noted
noted_of (Unused blame problem) = none_noted

-- each save that is refused is told of, and then the faults that were answered
abbrev pub SaysBoth : List SaveError → Noted → Seen → Seen → Type 0
SaysBoth refusals noted old new = (between : Seen) × SaysEach refusals old between × SaysNoted noted between new

abbrev pub SaysExcused : Aside → List SaveError → Seen → Seen → Type 0
SaysExcused aside refusals old new = SaysBoth refusals (noted_of aside) old new
