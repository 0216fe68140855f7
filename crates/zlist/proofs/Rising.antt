-- Strictly rising lists of addresses.
use Rattle.std.proofs.Common.{◌≡◌, ℕ, zero, suc, ◌+◌, ◌-◌, ◌<◌, ◌≤◌, List, length, slice_index, get_or, sym, ap, ◌∙◌, arith}
use Rattle.std.specs.List.{All}
use Rattle.std.specs.List.Sorted.{IsStrictlyIncreasing}
use Rattle.std.proofs.lemmas.List.{get_or-map, length-map}
use Rattle.std.proofs.lemmas.List.Elements.{All-map, All-from_get_or}
use Rattle.std.proofs.lemmas.List.Kept.{AllPairs-from_increasing}
use Rattle.zlist.specs.declared.record.Record.{Record}
use Rattle.zlist.specs.Listing.{addresses_of}

-- each is below all later ones
pub below_later : (xs : List ℕ) → IsStrictlyIncreasing xs → (i j : ℕ) → i < j → j < length xs → slice_index xs i < slice_index xs j
below_later xs h i j l m = AllPairs-from_increasing xs h i j 0 l m

-- each is at most the last
pub at_most_last : (xs : List ℕ) → IsStrictlyIncreasing xs → (i : ℕ) → i < length xs → slice_index xs i ≤ slice_index xs (length xs - 1)
at_most_last xs h i l = grind (arith, below_later xs h i (length xs - 1))

-- each is at least its index
pub index_le : (xs : List ℕ) → IsStrictlyIncreasing xs → (i : ℕ) → i < length xs → i ≤ slice_index xs i
index_le xs h zero l = omega arith
index_le xs h (suc i) l = omega (arith, index_le xs h i (omega arith), below_later xs h i (suc i) (omega arith) l)

-- so there are at most as many as there are numbers below the bound
pub few : (xs : List ℕ) (bound : ℕ) → IsStrictlyIncreasing xs → All (λ a. a < bound) xs → length xs ≤ bound
few xs bound h b = grind (arith, index_le xs h (length xs - 1), b (length xs - 1) 0)

-- all lie below one more than the highest
pub below_end : (xs : List ℕ) (end : ℕ) → IsStrictlyIncreasing xs → (0 < length xs → end ≡ slice_index xs (length xs - 1) + 1) → All (λ a. a < end) xs
below_end xs end rising is =
    All-from_get_or (λ a. a < end) xs 0 (λ i l. omega (arith, is (omega arith), at_most_last xs rising i l))

-- ---- the same of records in order

-- the address in the list is the record's
pub address_is : (records : List Record) (i : ℕ) (r : Record) → i < length records → r ≡ get_or records i r → slice_index (addresses_of records) i ≡ r.address
address_is records i r l e = get_or-map (λ (s : Record). s.address) records i r 0 l ∙ ap (λ (s : Record). s.address) (sym e)

-- there are no more records than places
pub few_records : (records : List Record) → IsStrictlyIncreasing (addresses_of records) → All (λ r. r.address < 131072) records → length records ≤ 131072
few_records records rising inside =
    omega (arith, length-map records (λ (s : Record). s.address), few (addresses_of records) 131072 rising (All-map (λ a. a < 131072) (λ (s : Record). s.address) records inside))

-- the last record has the last address
pub address_of_last : (records : List Record) (highest : Record) → 0 < length records → highest ≡ get_or records (length records - 1) highest → highest.address ≡ slice_index (addresses_of records) (length (addresses_of records) - 1)
address_of_last records highest some last =
    sym (ap (λ n. slice_index (addresses_of records) (n - 1)) (length-map records (λ (s : Record). s.address)) ∙ address_is records (length records - 1) highest (omega arith) last)
