-- Where frames lie in a board's words.
use Rattle.std.specs.Prelude.{◌≡◌, ◌⊎◌, ℕ, zero, suc, ◌+◌, ◌<◌, ◌≤◌, List, [], ◌∷◌, length, map, slice_get, pos, Some}
use Rattle.zstory.specs.LoadedStory.{LoadedStory}
use Rattle.zquetzal.specs.Saved.{IsSaved}
use Rattle.zstate.specs.State.{Frame, State}
use Rattle.zstate.specs.Saves.{saved_of}
use Rattle.zengine.specs.declared.board.Board.{Board}
use Rattle.zengine.specs.declared.lying.Lying.{Lying}
use Rattle.zengine.specs.declared.row.Spot.{Spot}
use Rattle.zengine.specs.Body.{base_below, frame_at, height_between, nowhere, return_index, spot_at, standing}
use Rattle.zengine.specs.View.{body_of}

-- the frame that lies there
abbrev pub frame_lying : List Spot → List ℕ → Lying → Frame
frame_lying spots words l = frame_at spots l.base l.count l.height words

-- where the newest frame of a board lies
abbrev pub newest_of : List Spot → Board → Lying
newest_of spots b = record { base = b.base; count = (spot_at spots b.at).count; height = (spot_at spots b.at).height }

-- where the frame lies that called it
abbrev pub below : List Spot → List ℕ → Lying → Lying
below spots words l = record {
  base = base_below l.base words;
  count = (spot_at spots (return_index l.base words)).count;
  height = height_between l.base (base_below l.base words) (spot_at spots (return_index l.base words)).count;
}

-- where it lies, and so many below it
unfoldable pub chain_of : List Spot → List ℕ → ℕ → Lying → List Lying
chain_of spots words zero l = l ∷ []
chain_of spots words (suc n) l = l ∷ chain_of spots words n (below spots words l)

-- a frame's head names a row, and below it lies another frame, which ends where the head begins
pub record IsHead (spots : List Spot) (words : List ℕ) (base : ℕ) : Type 0 where
  pub there : return_index base words < length spots
  pub head : 5 ≤ base_below base words
  pub apart : base_below base words + (spot_at spots (return_index base words)).count + 5 ≤ base
  pub low : height_between base (base_below base words) (spot_at spots (return_index base words)).count ≤ 65535

-- so have as many as have a caller
unfoldable pub AreHeads : List Spot → List ℕ → ℕ → ℕ → Type 0
AreHeads spots words zero base = Unit {0}
AreHeads spots words (suc n) base = IsHead spots words base × AreHeads spots words n (base_below base words)

-- a frame returns to the row of a place in memory, or to none
pub record Returns (spots : List Spot) (index : ℕ) : Type 0 where
  pub few : length spots ≤ nowhere
  pub place : ℕ
  pub place_is : (spot_at spots index).place ≡ pos place
  pub there : (index < length spots) ⊎ (index ≡ nowhere)

-- it lies in words, and returns to a row or to none
pub record Lies (spots : List Spot) (words : List ℕ) (l : Lying) : Type 0 where
  pub head : 5 ≤ l.base
  pub end : l.base + l.count + l.height ≤ length words
  pub back : Returns spots (return_index l.base words)

-- where all frames of a board lie, the newest first
pub record AreLying (spots : List Spot) (b : Board) (frames : List Lying) : Type 0 where
  pub are : map (frame_lying spots b.words.items) frames ≡ frame_lying spots b.words.items (newest_of spots b) ∷ (standing spots (spot_at spots b.at) (body_of b)).callers
  pub lie : (k : ℕ) (l : Lying) → slice_get frames k ≡ Some l → Lies spots b.words.items l

-- ---- a board as it is saved

-- the story, and the state in which the board stands
pub record SavedGame : Type 0 where
  pub story : LoadedStory
  pub state : State

-- a save can be written of it
pub record IsWritable (story : LoadedStory) (spots : List Spot) (b : Board) (frames : List Lying) : Type 0 where
  pub inside : b.at < length spots
  pub place : ℕ
  pub place_is : (spot_at spots b.at).place ≡ pos place
  pub lying : AreLying spots b frames
  pub whole : IsSaved story (saved_of story (standing spots (spot_at spots b.at) (body_of b)))
