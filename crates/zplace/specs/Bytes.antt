-- Which bytes of a story a play may change, and which stay as they were loaded (own). Each is a set of places.
use Rattle.std.specs.Prelude.{◌≡◌, ◌≢◌, ℕ, ◌+◌, ◌*◌, ◌<◌, ◌≤◌, ◌⊎◌, Bool, true, List, length, Some}
use Rattle.zstory.specs.Bytes.{byte_at}
use Rattle.zstory.specs.LoadedStory.{LoadedStory, globals, object_table, static_base, abbreviations}
use Rattle.zstory.specs.Objects.{object_place, property_table}
use Rattle.zobj.specs.Properties.{list_place, data_end}
use Rattle.ztext.specs.Abbreviations.{readable_word}
use Rattle.ztext.specs.Local.{read_length}

-- a place from one on, so many bytes
abbrev pub IsWithin : ℕ → ℕ → ℕ → Type 0
IsWithin from size p = (from ≤ p) × (p < from + size)

-- the two bytes of Flags 2
abbrev pub IsFlags : ℕ → Type 0
IsFlags p = IsWithin 0x10 2 p

-- ---- what instructions change without asking

-- the attributes and the tree of an object: the first seven bytes of its entry (Z 12.3.1)
pub record IsObjectState (story : LoadedStory) (p : ℕ) : Type 0 where
  pub object : ℕ
  pub first : 1 ≤ object
  pub last : object ≤ story.objects
  pub inside : IsWithin (object_place story.memory object) 7 p

-- Flags 2, the globals, and what instructions on objects change
abbrev pub IsChanging : LoadedStory → ℕ → Type 0
IsChanging story p = IsFlags p ⊎ (IsWithin (globals story) 480 p ⊎ IsObjectState story p)

-- none of so many bytes from a place on is one of them
pub record IsUnchanging (story : LoadedStory) (from size : ℕ) : Type 0 where
  pub still : (p : ℕ) → IsWithin from size p → IsChanging story p → ⊥

-- ---- what stores may not write

-- a byte of an object's entry
pub record IsObjectEntry (story : LoadedStory) (p : ℕ) : Type 0 where
  pub object : ℕ
  pub first : 1 ≤ object
  pub last : object ≤ story.objects
  pub inside : IsWithin (object_place story.memory object) 9 p

-- a size byte of the list of properties from a place on, the zero byte at its end among them; outside memory there is none
pub data IsSizePlace (memory : List ℕ) (p : ℕ) : ℕ → Type 0 where
  here : (at : ℕ) → p ≡ at → p < length memory → IsSizePlace memory p at
  behind : (at : ℕ) → byte_at memory at ≢ 0 → IsSizePlace memory p (data_end memory at) → IsSizePlace memory p at

-- what a property table is beside its data: the length of its name, the name, size bytes and its end
abbrev pub IsTableFrame : List ℕ → ℕ → ℕ → Type 0
IsTableFrame memory table p = IsWithin table (1 + 2 * byte_at memory table) p ⊎ IsSizePlace memory p (list_place memory table)

pub record IsPropertyFrame (story : LoadedStory) (p : ℕ) : Type 0 where
  pub object : ℕ
  pub first : 1 ≤ object
  pub last : object ≤ story.objects
  pub inside : IsTableFrame story.memory (property_table story.memory object) p

-- the word of the table that leads to an abbreviation, or what a reading of the text there goes over
pub record IsAbbreviation (story : LoadedStory) (p : ℕ) : Type 0 where
  pub number : ℕ
  pub last : number < 96
  pub inside : IsWithin (abbreviations story + 2 * number) 2 p ⊎ ((word : ℕ) × (readable_word story.memory (abbreviations story + 2 * number) ≡ Some word) × IsWithin (2 * word) (read_length story.memory (2 * word)) p)

-- the header without Flags 2
abbrev pub IsHeader : ℕ → Type 0
IsHeader p = (p < 64) × (IsFlags p → ⊥)

-- what the story's own tables take up, what is frozen, and all that lies outside dynamic memory
pub data IsClosed (story : LoadedStory) (is_frozen : ℕ → Bool) (p : ℕ) : Type 0 where
  header : IsHeader p → IsClosed story is_frozen p
  a_global : IsWithin (globals story) 480 p → IsClosed story is_frozen p
  a_default : IsWithin (object_table story) 62 p → IsClosed story is_frozen p
  an_entry : IsObjectEntry story p → IsClosed story is_frozen p
  a_property : IsPropertyFrame story p → IsClosed story is_frozen p
  an_abbreviation : IsAbbreviation story p → IsClosed story is_frozen p
  frozen : is_frozen p ≡ true → IsClosed story is_frozen p
  static : static_base story ≤ p → IsClosed story is_frozen p

abbrev pub IsOpen : LoadedStory → (ℕ → Bool) → ℕ → Type 0
IsOpen story is_frozen p = IsClosed story is_frozen p → ⊥

-- no play changes it
pub record IsFixed (story : LoadedStory) (is_frozen : ℕ → Bool) (p : ℕ) : Type 0 where
  pub closed : IsClosed story is_frozen p
  pub unchanging : IsChanging story p → ⊥
