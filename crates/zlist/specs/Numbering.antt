-- Tables that tell the number of an address in a list: what a `Listing` keeps beside its parts.
use Rattle.std.specs.Prelude.{◌≡◌, ℕ, ◌+◌, ◌-◌, ◌<◌, ◌≤◌, Bool, List, length, slice_index}
use Rattle.std.specs.List.{position_or_len}
use Rattle.zlist.specs.Listing.{ListedCode, IsInOrder, addresses_of}

-- The first `count` addresses have their numbers, counted from 1, in the table, and every other place has 0.
pub record IsNumbering (addresses : List ℕ) (count : ℕ) (table : List ℕ) : Type 0 where
  pub numbered : (k : ℕ) → k < count → slice_index table (slice_index addresses k) ≡ k + 1
  pub only : (place : ℕ) → 0 < slice_index table place → slice_index table place ≤ count
  pub own : (place : ℕ) → 0 < slice_index table place → slice_index addresses (slice_index table place - 1) ≡ place

-- what a number tells of a search: above 0 that the element at the number less 1 is the first to pass, 0 that none passes
pub record Tells {X : Type 0} (p : X → Bool) (xs : List X) (number : ℕ) : Type 0 where
  pub most : number ≤ length xs
  pub none : number ≡ 0 → position_or_len p xs ≡ length xs
  pub first : 0 < number → position_or_len p xs ≡ number - 1

-- what a `Listing` keeps: parts in order, and the table of each
pub record IsKept (listing : ListedCode) (record_numbers routine_numbers : List ℕ) : Type 0 where
  pub order : IsInOrder listing
  pub records : IsNumbering (addresses_of listing.records) (length listing.records) record_numbers
  pub routines : IsNumbering listing.routines (length listing.routines) routine_numbers
