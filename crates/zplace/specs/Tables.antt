-- What is asked of the property tables of a story's objects (own).
use Rattle.std.specs.Prelude.{◌≡◌, ◌≢◌, ℕ, ◌+◌, ◌*◌, ◌<◌, ◌≤◌, ◌⊎◌, Bool, false, List, Some}
use Rattle.zstory.specs.Bytes.{byte_at}
use Rattle.zstory.specs.LoadedStory.{LoadedStory, static_base}
use Rattle.zstory.specs.Objects.{property_table}
use Rattle.ztext.specs.Words.{length_at}
use Rattle.zobj.specs.Properties.{list_place, data_end, data_length, property_number}
use Rattle.zplace.specs.Bytes.{IsWithin, IsChanging, IsOpen, IsPropertyFrame}

-- A list of properties from a place on, wholly below an end: each has a number from 1 on that is below a bound, which is that
-- of the property before, and a zero byte ends it (Z 12.4, 12.4.1)
pub data IsList (memory : List ℕ) (end : ℕ) : ℕ → ℕ → Type 0 where
  ended : (bound at : ℕ) → at < end → byte_at memory at ≡ 0 → IsList memory end bound at
  longer : (bound at : ℕ) → 1 ≤ property_number (byte_at memory at) → property_number (byte_at memory at) < bound → IsList memory end (property_number (byte_at memory at)) (data_end memory at) → IsList memory end bound at

-- a byte of the data of a property in the list from a place on
pub data IsDataPlace (memory : List ℕ) (p : ℕ) : ℕ → Type 0 where
  in_data : (at : ℕ) → byte_at memory at ≢ 0 → IsWithin (at + 1) (data_length (byte_at memory at)) p → IsDataPlace memory p at
  in_rest : (at : ℕ) → byte_at memory at ≢ 0 → IsDataPlace memory p (data_end memory at) → IsDataPlace memory p at

-- a name of no words, or a text that ends with just as many words as are stated (Z 12.4)
abbrev pub HasName : List ℕ → ℕ → Type 0
HasName memory table = (byte_at memory table ≡ 0) ⊎ (length_at memory (table + 1) ≡ Some (2 * byte_at memory table))

-- a property table in dynamic memory behind the header
pub record IsPropertyTable (story : LoadedStory) (table : ℕ) : Type 0 where
  pub above : 64 ≤ table
  pub named : HasName story.memory table
  pub listed : IsList story.memory (static_base story) 32 (list_place story.memory table)

-- a byte of the data of an object's property
pub record IsPropertyData (story : LoadedStory) (p : ℕ) : Type 0 where
  pub object : ℕ
  pub first : 1 ≤ object
  pub last : object ≤ story.objects
  pub inside : IsDataPlace story.memory p (list_place story.memory (property_table story.memory object))

-- nothing is frozen
abbrev pub none_frozen : ℕ → Bool
none_frozen p = false

-- S5: each object has a property table. No instruction changes a byte of it without asking, and stores may write each byte of
-- its data that isn't frozen
pub record HasPropertyTables (story : LoadedStory) : Type 0 where
  pub tables : (object : ℕ) → 1 ≤ object → object ≤ story.objects → IsPropertyTable story (property_table story.memory object)
  pub frames_still : (p : ℕ) → IsPropertyFrame story p → IsChanging story p → ⊥
  pub data_still : (p : ℕ) → IsPropertyData story p → IsChanging story p → ⊥
  pub data_open : (p : ℕ) → IsPropertyData story p → IsOpen story none_frozen p
