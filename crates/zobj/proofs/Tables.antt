-- The object table stays where it is, whatever is written behind the header.
use Rattle.std.proofs.Common.{◌≡◌, ℕ, ◌+◌, ◌≤◌, ◌≢◌, Bool, true, false, List, length, refl, arith}
use Rattle.std.specs.Prelude.{slice_set, ◌==◌, if◌then◌else◌}
use Rattle.std.proofs.lemmas.List.{get_or-set_other, length-set}
use Rattle.zstory.specs.Bytes.{byte_at}
use Rattle.zstory.specs.Header.{object_table}
use Rattle.zstory.specs.LoadedStory.{IsSound}
use Rattle.zstory.specs.Objects.{object_place, IsObjectCount}
use Rattle.zstory.proofs.Counting.{entries_dynamic}
use Rattle.zobj.specs.Entries.{HasTable, HasEntry, with_entry_byte}

pub byte_elsewhere : (memory : List ℕ) (place byte p : ℕ) → p ≢ place → byte_at (slice_set memory place byte) p ≡ byte_at memory p
byte_elsewhere memory place byte p other = get_or-set_other memory place p byte 0 other

pub table_stays : (memory : List ℕ) (place byte : ℕ) → 64 ≤ place → object_table (slice_set memory place byte) ≡ object_table memory
table_stays memory place byte behind =
    let high = byte_elsewhere memory place byte 0x0A (λ e. omega (arith, e, behind)) in
    let low = byte_elsewhere memory place byte 0x0B (λ e. omega (arith, e, behind)) in
    omega (arith, high, low)

pub table_put : (memory : List ℕ) (place byte objects : ℕ) → 64 ≤ place → HasTable memory objects → HasTable (slice_set memory place byte) objects
table_put memory place byte objects behind has =
    let table = table_stays memory place byte behind in
    let size = length-set memory place byte in
    record { few = has.few; above = omega (arith, table, has.above); within = omega (arith, table, size, has.within) }

-- so after a byte of an entry is written
module _ (memory : List ℕ) (object k byte : ℕ) (above : 64 ≤ object_table memory) where
  pub table_kept : object_table (with_entry_byte object k byte memory) ≡ object_table memory
  table_kept = by (object == 0)
    where
      by : (b : Bool) → object_table (if b then memory else slice_set memory (object_place memory object + k) byte) ≡ object_table memory
      by true = refl
      by false = table_stays memory (object_place memory object + k) byte (omega (arith, above))

  pub length_kept : length (with_entry_byte object k byte memory) ≡ length memory
  length_kept = by (object == 0)
    where
      by : (b : Bool) → length (if b then memory else slice_set memory (object_place memory object + k) byte) ≡ length memory
      by true = refl
      by false = length-set memory (object_place memory object + k) byte

pub entry_kept : (memory : List ℕ) (object k byte other : ℕ) → HasEntry memory other → HasEntry (with_entry_byte object k byte memory) other
entry_kept memory object k byte other has =
    let table = table_kept memory object k byte has.above in
    let size = length_kept memory object k byte has.above in
    record { first = has.first; above = omega (arith, table, has.above); within = omega (arith, table, size, has.within) }

pub all_kept : (memory : List ℕ) (object k byte objects : ℕ) → HasTable memory objects → HasTable (with_entry_byte object k byte memory) objects
all_kept memory object k byte objects has =
    let table = table_kept memory object k byte has.above in
    let size = length_kept memory object k byte has.above in
    record { few = has.few; above = omega (arith, table, has.above); within = omega (arith, table, size, has.within) }

-- what a loaded story gives
pub story_table : (memory : List ℕ) (objects : ℕ) → IsSound memory → IsObjectCount memory objects → HasTable memory objects
story_table memory objects sound counted = record {
  few = counted.within;
  above = sound.defaults_above;
  within = omega (arith, entries_dynamic memory objects counted sound.defaults_within, sound.static_base_within);
}

pub entry_there : (memory : List ℕ) (objects object : ℕ) → HasTable memory objects → 1 ≤ object → object ≤ objects → HasEntry memory object
entry_there memory objects object has least most = record { first = least; above = has.above; within = omega (arith, has.within, least, most) }
