-- What playing a story file comes to (own).
use Rattle.std.specs.Prelude.{◌≡◌, ◌≢◌, ℕ, List, [], Option, None, Some, IfSome, Result, Ok, Err, ◌⊎◌, ⊤}
use Rattle.zquetzal.specs.declared.error.SaveError.{SaveError}
use Rattle.zstory.specs.LoadedStory.{LoadedStory}
use Rattle.zstory.specs.Loading.{IsLoaded}
use Rattle.zstory.specs.Refusal.{HasNone, IsCause, IsLowest}
use Rattle.zstory.specs.declared.load_error.LoadError.{LoadError}
use Rattle.zstory.specs.declared.load_error.LoadError.TheVariants.{OutOfMemory as NoMemoryToLoad}
use Rattle.zstate.specs.State.{State, opening}
use Rattle.zref.specs.Machine.{setting_of}
use Rattle.zref.specs.declared.scope.Scope.TheVariants.{All}
use Rattle.zplayer.specs.declared.end.End.{End}
use Rattle.zprompt.specs.declared.manner.Manner.{Manner}
use Rattle.zplayer.specs.declared.end.PlayError.{PlayError}
use Rattle.zplayer.specs.declared.end.PlayError.TheVariants as errors
use Rattle.zplayer.specs.Outside.{Coming}
use Rattle.zplayer.specs.Playing.{WantsOrSaves}
use Rattle.zprompt.specs.Manners.{ComesTo as PlayComes}
use Rattle.zplayer.specs.World.{Store, World}
use Rattle.zperform.specs.Contents.{HasBytes}
use Rattle.zperform.specs.declared.outcome.Failure.TheVariants.{File, Read, Write, Memory}
use Rattle.zperform.specs.declared.outcome.Problem.{Problem}
use Rattle.zperform.specs.declared.outcome.Problem.TheVariants.{Refused, Failed}
use Rattle.zperform.specs.declared.outcome.Outcome.{Outcome}
use Rattle.zperform.specs.declared.outcome.Outcome.TheVariants.{Played, Stopped}

-- a file holds a story, and nothing speaks against it
pub record Holds (file : List ℕ) (story : LoadedStory) : Type 0 where
  pub loaded : IsLoaded file story
  pub no_cause : HasNone (IsCause file)

-- where it is known at first that no save is kept, none is in the end: each save failed, and so did each restore
abbrev pub StaysEmpty : Store → Store → Type 0
StaysEmpty old new = old.kept ≡ Some None → new.kept ≡ Some None

-- the story that a file holds was played from its opening, with every place of it in scope, and came to this; the saves that were refused
-- were so for these causes, the newest first
pub record IsPlayed (file : List ℕ) (manner : Manner) (given : World) (refusals : List SaveError) (before now : Option (List ℕ)) (result : Result End PlayError) : Type 0 where
  pub story : LoadedStory
  pub holds : Holds file story
  pub state : State
  pub words : Option Coming
  pub store : Store
  pub comes : PlayComes (setting_of story All) (λ _. ⊤) (WantsOrSaves (setting_of story All)) manner given (opening story) state words store before now result
  pub unsaved : StaysEmpty given.store store
  pub refused : store.refusals ≡ refusals

-- a file is no story, for its cause with the lowest number; want of memory is none
pub record IsRefused (file : List ℕ) (error : LoadError) : Type 0 where
  pub lowest : IsLowest (IsCause file) error
  pub of_file : error ≢ NoMemoryToLoad

-- why a file isn't loaded: memory is wanted only for one that nothing speaks against
abbrev pub IsUnloaded : List ℕ → Problem → Type 0
IsUnloaded file (Refused error) = IsRefused file error
IsUnloaded file (Failed Memory) = HasNone (IsCause file)
IsUnloaded file problem = ⊥

-- a file with this property was read: the one of the name, where its bytes are known
abbrev pub Reads : Option (List ℕ) → (List ℕ → Type 0) → Type 0
Reads known property = (file : List ℕ) × IfSome known (λ bytes. file ≡ bytes) × property file

-- What playing a file comes to, where its bytes are known, with what the world gives for it, with why saves were refused,
-- the newest first, and with what the writer took before and has taken now. Memory is wanted only for a file that has bytes.
abbrev pub ComesTo : Option (List ℕ) → Manner → World → List SaveError → Option (List ℕ) → Option (List ℕ) → Outcome → Type 0
ComesTo known manner given refusals before now (Played end) = Reads known (λ file. IsPlayed file manner given refusals before now (Ok end))
ComesTo known manner given refusals before now (Stopped (Refused error)) = Reads known (λ file. IsRefused file error) × (now ≡ before) × (refusals ≡ [])
ComesTo known manner given refusals before now (Stopped (Failed File)) = (now ≡ before) × (refusals ≡ [])
ComesTo known manner given refusals before now (Stopped (Failed Read)) = Reads known (λ file. IsPlayed file manner given refusals before now (Err errors.Read))
ComesTo known manner given refusals before now (Stopped (Failed Write)) = Reads known (λ file. IsPlayed file manner given refusals before now (Err errors.Write))
ComesTo known manner given refusals before now (Stopped (Failed Memory)) =
    ((now ≡ before) × (refusals ≡ []) × HasBytes known) ⊎ Reads known (λ file. IsPlayed file manner given refusals before now (Err errors.OutOfMemory))
ComesTo known manner given refusals before now outcome = ⊥
