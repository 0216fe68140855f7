-- What a listing is (own): instructions in order, the routines that they belong to, and what stands at an address.
use Rattle.std.specs.Prelude.{ℕ, ◌+◌, ◌<◌, ◌≤◌, ◌==◌, Bool, List, length, map, All, Option, option_map, find, position}
use Rattle.std.specs.List.{list_any}
use Rattle.std.specs.List.Sorted.{IsStrictlyIncreasing}
use Rattle.zlist.specs.declared.record.Record.{Record}

-- the listed instructions, and the addresses of the routines 1, 2 and so on
pub record ListedCode : Type 0 where
  pub records : List Record
  pub routines : List ℕ

abbrev pub addresses_of : List Record → List ℕ
addresses_of records = map (λ r. r.address) records

-- Addresses rise strictly and lie below 131,072, as those of the routines do, and each instruction belongs to the main
-- code, 0, or to a routine, of which there are few enough for a number of 16 bits.
pub record IsInOrder (listing : ListedCode) : Type 0 where
  pub rising : IsStrictlyIncreasing (addresses_of listing.records)
  pub inside : All (λ r. r.address < 131072) listing.records
  pub owned : All (λ r. r.routine ≤ length listing.routines) listing.records
  pub routines_rising : IsStrictlyIncreasing listing.routines
  pub routines_inside : All (λ a. a < 131072) listing.routines
  pub routines_numbered : length listing.routines ≤ 65535

-- ---- the instructions

-- whether an instruction is listed at the place
abbrev pub is_listed : ListedCode → ℕ → Bool
is_listed listing place = list_any (λ r. r.address == place) listing.records

-- what is listed at the place
abbrev pub record_at : ListedCode → ℕ → Option Record
record_at listing place = find (λ r. r.address == place) listing.records

-- where in the list it stands, counted from 0
abbrev pub index_of : ListedCode → ℕ → Option ℕ
index_of listing place = position (λ r. r.address == place) listing.records

-- ---- the routines

-- whether a routine is listed at the place
abbrev pub is_routine : ListedCode → ℕ → Bool
is_routine listing place = list_any (λ a. a == place) listing.routines

-- the number of the routine at the place, counted from 1
abbrev pub routine_at : ListedCode → ℕ → Option ℕ
routine_at listing place = option_map (λ k. k + 1) (position (λ a. a == place) listing.routines)
