-- What holds of the short name of each object.
use Rattle.std.proofs.Common.{◌⊎◌, inl, inr, ℕ, ◌+◌, ◌<◌, ◌≤◌, ◌==◌, nat_lt, if◌then◌else◌, Bool, true, false, ◌≡◌, List, length, subst, arith}
use Rattle.std.proofs.lemmas.Bool.{cases_lt}
use Rattle.zstory.specs.Bytes.{byte_at, AreBytes}
use Rattle.zstory.specs.LoadedStory.{IsSound}
use Rattle.zstory.specs.Objects.{IsObjectCount, object_place, property_table}
use Rattle.zobj.specs.declared.name.ShortName.TheVariants.{Empty, At, Outside}
use Rattle.zobj.specs.Names.{name_in, short_name}
use Rattle.zobj.specs.Entries.{HasEntry}
use Rattle.zobj.proofs.Tables as tables

pub entry_there : (memory : List ℕ) (objects object : ℕ) → IsSound memory → IsObjectCount memory objects → 1 ≤ object → object ≤ objects → HasEntry memory object
entry_there memory objects object sound counted least most = tables.entry_there memory objects object (tables.story_table memory objects sound counted) least most

-- a name's text begins at a byte address, or right behind them
pub name_near : (memory : List ℕ) (object place : ℕ) → AreBytes memory → short_name memory object ≡ At place → place ≤ 65536
name_near memory object place are e = by (object == 0) e
  where
    small : property_table memory object < 65536
    small = let high = are (object_place memory object + 7) in let low = are (object_place memory object + 7 + 1) in omega (arith, high, low)

    at_name : (table : ℕ) (inside empty more : Bool) → (if inside then (if empty then Empty else (if more then At (table + 1) else Outside)) else Outside) ≡ At place → place ≡ table + 1
    at_name table true true more is = absurd cc
    at_name table true false true is = cc
    at_name table true false false is = absurd cc
    at_name table false empty more is = absurd cc

    by : (none : Bool) → (if none then Empty else name_in memory (property_table memory object)) ≡ At place → place ≤ 65536
    by true is = absurd cc
    by false is =
        let same = at_name (property_table memory object) (nat_lt (property_table memory object) (length memory)) (byte_at memory (property_table memory object) == 0) (nat_lt (property_table memory object + 1) (length memory)) is in
        let low = small in
        omega (arith, same, low)

-- of one object more
pub next_object : (P : ℕ → Type 0) (below : ℕ) → ((x : ℕ) → 1 ≤ x → x ≤ below → P x) → P (below + 1) → (x : ℕ) → 1 ≤ x → x ≤ below + 1 → P x
next_object P below each next x first last = by_order (cases_lt x (below + 1))
  where
    by_order : (x < below + 1) ⊎ (below + 1 ≤ x) → P x
    by_order (inl low) = each x first (omega (arith, low))
    by_order (inr high) = let same : below + 1 ≡ x = omega (arith, high, last) in subst P same next
