-- The object table: 31 words of property defaults and behind them nine bytes for each object, of which the last two
-- are the address of its property table (Z 12.2, 12.3.1). How many objects there are the table doesn't say.
use Rattle.std.specs.Prelude.{ℕ, ◌+◌, ◌-◌, ◌*◌, ◌≤◌, List}
use Rattle.zstory.specs.Bytes.{word_at}
use Rattle.zstory.specs.Header.{object_table, static_base}

-- where the entry of an object begins; objects are numbered from 1
abbrev pub object_place : List ℕ → ℕ → ℕ
object_place memory object = object_table memory + 62 + 9 * (object - 1)

abbrev pub object_end : List ℕ → ℕ → ℕ
object_end memory object = object_place memory object + 9

abbrev pub property_table : List ℕ → ℕ → ℕ
property_table memory object = word_at memory (object_place memory object + 7)

-- an object's entry can be one: it lies in dynamic memory, and ends before the property tables of the objects up to
-- this one (own)
pub record IsEntry (memory : List ℕ) (object : ℕ) : Type 0 where
  pub dynamic : object_end memory object ≤ static_base memory
  pub before_tables : (other : ℕ) → 1 ≤ other → other ≤ object → object_end memory object ≤ property_table memory other

-- so is the entry of each object up to a number
abbrev pub HasEntries : List ℕ → ℕ → Type 0
HasEntries memory count = (object : ℕ) → 1 ≤ object → object ≤ count → IsEntry memory object

-- the number of objects: the greatest up to 255 with an entry for each object up to it (own)
pub record IsObjectCount (memory : List ℕ) (count : ℕ) : Type 0 where
  pub within : count ≤ 255
  pub entries : HasEntries memory count
  pub greatest : (other : ℕ) → other ≤ 255 → HasEntries memory other → other ≤ count
