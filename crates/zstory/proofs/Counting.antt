-- Counting objects: how far the entries reach that are known, and where the count stops.
use Rattle.std.proofs.Common.{◌≡◌, ℕ, ◌+◌, ◌*◌, ◌<◌, ◌≤◌, min, inl, inr, List, subst, arith}
use Rattle.std.proofs.lemmas.Bool.{cases_lt}
use Rattle.zstory.specs.Header.{static_base, object_table}
use Rattle.zstory.specs.Objects.{object_end, property_table, IsEntry, HasEntries, IsObjectCount}

-- the lowest of the static base and the property tables of the first objects: what is at most each of them is at most
-- the limit
pub record IsLimit (memory : List ℕ) (objects limit : ℕ) : Type 0 where
  pub within : limit ≤ static_base memory
  pub below : (object : ℕ) → 1 ≤ object → object ≤ objects → limit ≤ property_table memory object
  pub greatest : (place : ℕ) → place ≤ static_base memory → ((object : ℕ) → 1 ≤ object → object ≤ objects → place ≤ property_table memory object) → place ≤ limit

pub limit_none : (memory : List ℕ) → IsLimit memory 0 (static_base memory)
limit_none memory =
    record { within = omega arith; below = λ object h k. absurd (omega arith); greatest = λ place h k. h }

-- what holds of each object up to n, and of the next, holds of each up to that one
up_to_more : (P : ℕ → Type 0) (n : ℕ) → ((k : ℕ) → 1 ≤ k → k ≤ n → P k) → P (n + 1) → (k : ℕ) → 1 ≤ k → k ≤ n + 1 → P k
up_to_more P n below here k h l =
    elim (cases_lt n k) [ inl above ↦ subst P (omega arith) here | inr within ↦ below k h within ]

pub limit_more : (memory : List ℕ) (objects limit new : ℕ) → new ≡ min limit (property_table memory (objects + 1)) → IsLimit memory objects limit → IsLimit memory (objects + 1) new
limit_more memory objects limit new least was =
    record {
      within = omega (arith, was.within);
      below = up_to_more (λ object. new ≤ property_table memory object) objects (λ object h l. omega (arith, was.below object h l)) (omega arith);
      greatest = λ place h below. omega (arith, was.greatest place h (λ object above l. below object above (omega arith)), below (objects + 1) (omega arith) (omega arith));
    }

-- an entry that ends above the limit can't be one
stops : (memory : List ℕ) (object objects limit : ℕ) → IsLimit memory objects limit → objects ≤ object → limit < object_end memory object → IsEntry memory object → ⊥
stops memory object objects limit is h above entry =
    omega (arith, is.greatest (object_end memory object) entry.dynamic (λ other l k. entry.before_tables other l (omega arith)))

pub entries_none : (memory : List ℕ) → HasEntries memory 0
entries_none memory = λ object h l. absurd (omega arith)

pub entries_more : (memory : List ℕ) (objects limit : ℕ) → HasEntries memory objects → IsLimit memory (objects + 1) limit → object_end memory (objects + 1) ≤ limit → HasEntries memory (objects + 1)
entries_more memory objects limit was is h =
    up_to_more (IsEntry memory) objects was (record { dynamic = omega (arith, is.within); before_tables = λ other l k. omega (arith, is.below other l k) })

-- the count stops before an entry that ends above the limit
pub count_found : (memory : List ℕ) (count objects limit : ℕ) → count ≤ 255 → HasEntries memory count → IsLimit memory objects limit → objects ≤ count + 1 → limit < object_end memory (count + 1) → IsObjectCount memory count
count_found memory count objects limit within entries is h above =
    record {
      within = within;
      entries = entries;
      greatest = λ other l has. elim (cases_lt count other) [ inl more ↦ absurd (stops memory (count + 1) objects limit is h above (has (count + 1) (omega arith) (omega arith))) | inr k ↦ k ];
    }

-- or at 255
pub count_full : (memory : List ℕ) → HasEntries memory 255 → IsObjectCount memory 255
count_full memory entries = record { within = omega arith; entries = entries; greatest = λ other l has. l }

-- the entries of all objects lie in dynamic memory where the property defaults before them do
pub entries_dynamic : (memory : List ℕ) (count : ℕ) → IsObjectCount memory count → object_table memory + 62 ≤ static_base memory → object_table memory + 62 + 9 * count ≤ static_base memory
entries_dynamic memory count counted defaults =
    elim (cases_lt 0 count) [ inl some ↦ omega (arith, (counted.entries count (omega arith) (omega arith)).dynamic) | inr none ↦ omega arith ]

pub one_count : (memory : List ℕ) (count other : ℕ) → IsObjectCount memory count → IsObjectCount memory other → count ≡ other
one_count memory count other is same =
    omega (arith, same.greatest count is.within is.entries, is.greatest other same.within same.entries)
