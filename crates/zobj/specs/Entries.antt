-- The entries of the object table (Z 12.3.1), and what calls on objects ask of them.
use Rattle.std.specs.Prelude.{ℕ, ◌+◌, ◌*◌, ◌<◌, ◌≤◌, ◌==◌, if◌then◌else◌, List, length, slice_set}
use Rattle.zstory.specs.Bytes.{byte_at}
use Rattle.zstory.specs.Header.{object_table}
use Rattle.zstory.specs.Objects.{object_place, object_end}

-- the property defaults and the entries of so many objects stand whole in memory, behind the header (Z 12.1, own)
pub record HasTable (memory : List ℕ) (objects : ℕ) : Type 0 where
  pub few : objects ≤ 255
  pub above : 64 ≤ object_table memory
  pub within : object_table memory + 62 + 9 * objects ≤ length memory

-- the 31 words of property defaults do (Z 12.2)
pub record HasDefaults (memory : List ℕ) : Type 0 where
  pub above : 64 ≤ object_table memory
  pub within : object_table memory + 62 ≤ length memory

-- the property defaults, and the entries up to that of this object, do (own)
pub record HasEntry (memory : List ℕ) (object : ℕ) : Type 0 where
  pub first : 1 ≤ object
  pub above : 64 ≤ object_table memory
  pub within : object_end memory object ≤ length memory

-- A byte of an object's entry, counted from 0. Number 0 is no object: it has zeros (own)
abbrev pub entry_byte : List ℕ → ℕ → ℕ → ℕ
entry_byte memory object k = if object == 0 then 0 else byte_at memory (object_place memory object + k)

-- the memory with such a byte replaced. Of object 0 nothing is (own)
abbrev pub with_entry_byte : ℕ → ℕ → ℕ → List ℕ → List ℕ
with_entry_byte object k byte memory = if object == 0 then memory else slice_set memory (object_place memory object + k) byte

-- the place is that of a byte in the entries of so many objects: from one of the nine on, so many
pub record IsEntryByte (memory : List ℕ) (objects first size p : ℕ) : Type 0 where
  pub object : ℕ
  pub least : 1 ≤ object
  pub most : object ≤ objects
  pub from : object_place memory object + first ≤ p
  pub below : p < object_place memory object + first + size

-- the four bytes of attributes, and the three of parent, sibling and child (Z 12.3.1)
abbrev pub IsAttributeByte : List ℕ → ℕ → ℕ → Type 0
IsAttributeByte memory objects p = IsEntryByte memory objects 0 4 p

abbrev pub IsLinkByte : List ℕ → ℕ → ℕ → Type 0
IsLinkByte memory objects p = IsEntryByte memory objects 4 3 p
