-- What is answered of a save before any of it is taken over (own).
use Rattle.std.specs.Prelude.{◌≡◌, ◌⊎◌, ℕ, Result, Ok, Err}
use Rattle.zdomain.specs.Domain.{SetOperations}
use Rattle.zlist.specs.Listing.{ListedCode}
use Rattle.zquetzal.specs.declared.error.SaveError.{SaveError}
use Rattle.zquetzal.specs.declared.error.SaveError.TheVariants as errors
use Rattle.zquetzal.specs.Saved.{Saved}
use Rattle.zstory.specs.LoadedStory.{LoadedStory}
use Rattle.zstate.specs.State.{Setting, State, scope_only}
use Rattle.zstate.specs.Saves.{going_on, resumed}
use Rattle.zrule.specs.Claims.{Claims}
use Rattle.zrule.specs.Described.{Described}

-- a story is played with a listing alone, and so many frames above the first at most
abbrev pub listed_setting : LoadedStory → ListedCode → ℕ → Setting
listed_setting story listing limit = record { story = story; scope = scope_only listing; limit = limit }

module _ {V : Type 0} (o : SetOperations V) (claims : Claims V) where
  -- Play can go on from the save, and then in a state that is described; or it can't, since no `save` is played at the place; or since
  -- there are more frames than there may be; or it can, and in a state that isn't described. No other refusal is answered.
  abbrev pub IsJudged : {X : Type 0} → Setting → Saved → State → Result X SaveError → Type 0
  IsJudged m saved s (Ok x) = (going_on m saved s ≡ Ok (resumed m.story saved s)) × Described o claims m.limit m.story (resumed m.story saved s)
  IsJudged m saved s (Err errors.Place) = going_on m saved s ≡ Err errors.Place
  IsJudged m saved s (Err errors.NotDescribed) =
      (going_on m saved s ≡ Err errors.NotDescribed) ⊎ ((going_on m saved s ≡ Ok (resumed m.story saved s)) × (Described o claims m.limit m.story (resumed m.story saved s) → ⊥))
  IsJudged m saved s (Err e) = ⊥
