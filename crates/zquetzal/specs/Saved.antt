-- What a save tells: dynamic memory, where play goes on, and the frames.
use Rattle.std.specs.Prelude.{◌≡◌, ℕ, ◌<◌, ◌≤◌, ◌^◌, List, [], ◌∷◌, length}
use Rattle.std.specs.List.{AllByRecursion}
use Rattle.zstory.specs.LoadedStory.{LoadedStory, release, serial, save_checksum, static_base}
use Rattle.zquetzal.specs.declared.origin.Origin.{Origin}
use Rattle.zquetzal.specs.declared.limits.TheConstants.{MOST_FRAMES}

-- a frame: where its return goes, the variable that takes the result, how many arguments were supplied, its locals, and its
-- stack, each with the first or the bottom word first (Q 4)
pub record Frame : Type 0 where
  pub return_place : ℕ
  pub result : ℕ
  pub supplied : ℕ
  pub locals : List ℕ
  pub stack : List ℕ

-- the frames stand with the oldest first. The place is the address of the branch data of `save` (own, Q 5)
pub record Saved : Type 0 where
  pub memory : List ℕ
  pub place : ℕ
  pub frames : List Frame

abbrev pub IsWord : ℕ → Type 0
IsWord x = x < 65536

-- (Q 4, own in the count of arguments; Z 5.2)
pub record IsFrame (f : Frame) : Type 0 where
  pub return_place : f.return_place < 2 ^ 24
  pub result : f.result < 256
  pub supplied : f.supplied ≤ 3
  pub locals : length f.locals ≤ 15
  pub local_words : AllByRecursion IsWord f.locals
  pub stack : length f.stack < 65536
  pub stack_words : AllByRecursion IsWord f.stack

-- nothing called the oldest frame, and it has no locals: all but its stack is zero (Q 4)
pub record IsFirst (f : Frame) : Type 0 where
  pub return_place : f.return_place ≡ 0
  pub result : f.result ≡ 0
  pub supplied : f.supplied ≡ 0
  pub locals : f.locals ≡ []

-- at least the first frame, and no more than so many (own)
abbrev pub AreFrames : List Frame → Type 0
AreFrames [] = ⊥
AreFrames (f ∷ fs) = IsFirst f × AllByRecursion IsFrame (f ∷ fs) × (length (f ∷ fs) ≤ MOST_FRAMES)

-- what a save of a story can tell
pub record IsSaved (story : LoadedStory) (s : Saved) : Type 0 where
  pub memory : length s.memory ≡ static_base story
  pub place : s.place < 2 ^ 24
  pub frames : AreFrames s.frames

-- what a save says of its story (Q 5), with the header's checksum or, where that is 0, the file's sum (own)
abbrev pub origin_of : LoadedStory → Origin
origin_of story = record { release = release story; serial = serial story; checksum = save_checksum story }
