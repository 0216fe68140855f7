-- Short names of objects (Z 12.4).
use Rattle.std.specs.Prelude.{ℕ, ◌+◌, ◌==◌, nat_lt, if◌then◌else◌, List, length}
use Rattle.zobj.specs.declared.name.ShortName.{ShortName}
use Rattle.zobj.specs.declared.name.ShortName.TheVariants.{Empty, At, Outside}
use Rattle.zstory.specs.Bytes.{byte_at}
use Rattle.zstory.specs.Objects.{property_table}

-- the name in a property table: none, of length 0, or the place of its text, one behind its length, wherever in memory that is.
-- Where its length or the first byte of its text isn't in memory it can't be decoded (own)
abbrev pub name_in : List ℕ → ℕ → ShortName
name_in memory table =
    if nat_lt table (length memory) then (if byte_at memory table == 0 then Empty else (if nat_lt (table + 1) (length memory) then At (table + 1) else Outside)) else Outside

-- the short name of an object; object 0 has none (own)
abbrev pub short_name : List ℕ → ℕ → ShortName
short_name memory object = if object == 0 then Empty else name_in memory (property_table memory object)
