-- How the sets of a kind are kept: each in cells, one after another.
use Rattle.std.specs.Prelude.{◌≡◌, ℕ, zero, suc, ◌+◌, ◌*◌, ◌<◌, List, [], ◌∷◌, ◌++◌, length, take, Result, Ok, Err}
use Rattle.std.specs.List.{flat_map, AllByRecursion}
use Rattle.zdomain.specs.declared.interval.Interval.{Interval}
use Rattle.zdomain.specs.declared.values.Values.{Values}
use Rattle.zcert.specs.declared.error.CertError.{CertError}
use Rattle.zcert.specs.Format.{Format, interval_format}
use Rattle.zcert.specs.Numbers.{Word, number, HasRoom}
use Rattle.zcert.specs.Lists.{values_format}

pub record Keeping (V C : Type 0) : Type 0 where
  -- the cells of a set
  pub cells : V → List C
  -- so many sets from the front of the cells
  pub sets : ℕ → List C → List V

-- the law: sets that have a spelling are found as they were kept, whatever follows, and each has a cell at least
pub record AreKept {V C : Type 0} (format : Format V) (keeping : Keeping V C) : Type 0 where
  pub again : (sets : List V) (rest : List C) → AllByRecursion format.Has sets → keeping.sets (length sets) (flat_map keeping.cells sets ++ rest) ≡ sets
  pub some : (v : V) → 0 < length (keeping.cells v)

-- just these sets are kept
pub record Keep {V C : Type 0} (format : Format V) (keeping : Keeping V C) (sets : List V) (cells : List C) : Type 0 where
  pub have : AllByRecursion format.Has sets
  pub are : cells ≡ flat_map keeping.cells sets

-- so many sets are kept, and whatever follows
pub record Holds {V C : Type 0} (format : Format V) (keeping : Keeping V C) (count : ℕ) (cells : List C) : Type 0 where
  pub kept : List V
  pub rest : List C
  pub counted : length kept ≡ count
  pub have : AllByRecursion format.Has kept
  pub are : cells ≡ flat_map keeping.cells kept ++ rest

-- intervals are kept as they are
abbrev pub intervals_kept : Keeping Interval Interval
intervals_kept = record { cells = λ i. i ∷ []; sets = take }

-- a set that was read, and then those of the bytes behind it
abbrev pub and_more : {V : Type 0} → (List ℕ → List V) → Result (V × List ℕ) CertError → List V
and_more more (Ok x) = x.0 ∷ more x.1
and_more more (Err e) = []

-- so many sets, each as it is spelled behind the one before it
abbrev pub spelled_sets : {V : Type 0} → Format V → ℕ → List ℕ → List V
spelled_sets format zero bytes = []
spelled_sets format (suc n) bytes = and_more (spelled_sets format n) (format.value_at bytes)

-- lists take as many bytes as their words ask for, so that they are kept as they are spelled
abbrev pub values_kept : Keeping Values ℕ
values_kept = record { cells = values_format.spelled; sets = spelled_sets values_format }

-- a set at the front of the bytes that it is kept in
pub record Front (bytes : List ℕ) : Type 0 where
  pub set : Values
  pub rest : List ℕ
  pub has : values_format.Has set
  pub are : bytes ≡ values_format.spelled set ++ rest

-- the bytes of an interval
pub record IsRunAt (run : Interval) (bytes : List ℕ) : Type 0 where
  pub has : interval_format.Has run
  pub are : bytes ≡ interval_format.spelled run

-- the words that bytes spell, two each
abbrev pub words_in : List ℕ → List ℕ
words_in (high ∷ low ∷ bytes) = (256 * high + low) ∷ words_in bytes
words_in _ = []

-- the bytes of words
pub record Spell (words bytes : List ℕ) : Type 0 where
  pub have : AllByRecursion (HasRoom Word) words
  pub are : bytes ≡ flat_map (number Word) words
