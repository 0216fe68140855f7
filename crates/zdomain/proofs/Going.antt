-- A word and those behind it.
use Rattle.std.proofs.Common.{ℕ, zero, suc, ◌+◌, ◌-◌, ◌%◌, ◌<◌, ◌≤◌, arith, subst}

-- what holds of a word, and of so many from the next one on, holds of all
pub from_first : (P : ℕ → Type 0) (word more : ℕ) → word < 65536 → 0 < more → P word → ((k : ℕ) → k ≤ more - 1 → P (((word + 1) % 65536 + k) % 65536)) → (k : ℕ) → k ≤ more → P ((word + k) % 65536)
from_first P word more small some first rest zero most = subst P (omega (arith, small)) first
from_first P word more small some first rest (suc k) most = subst P (omega (arith, small)) (rest k (omega (arith, most)))

-- and the other way
pub from_all : (P : ℕ → Type 0) (word more : ℕ) → word < 65536 → 0 < more → ((k : ℕ) → k ≤ more → P ((word + k) % 65536)) → (k : ℕ) → k ≤ more - 1 → P (((word + 1) % 65536 + k) % 65536)
from_all P word more small some all k most = subst P (omega (arith, small)) (all (suc k) (omega (arith, some, most)))
