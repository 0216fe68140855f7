-- A state that is lent to be saved.
use Rattle.std.specs.Prelude.{◌≡◌, ℕ, ◌<◌, ◌≤◌, length, pos}
use Rattle.zstory.specs.LoadedStory.{IsSound, LoadedStory}
use Rattle.zstate.specs.State.{IsState, State, most_limit}

-- a state, and its story
pub record LentState : Type 0 where
  pub story : LoadedStory
  pub state : State

-- a state of the story, whose place is in memory
pub record CanBeSaved (story : LoadedStory) (s : State) : Type 0 where
  pub sound : IsSound story.memory
  -- however many frames may be above the first, up to the greatest number
  pub limit : ℕ
  pub low : limit ≤ most_limit
  pub is_state : IsState limit story s
  pub at : ℕ
  pub place : s.place ≡ pos at
  pub inside : at < length s.memory
