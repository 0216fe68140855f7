-- What holds of each object and each number.
use Rattle.std.proofs.Common.{◌≡◌, ◌↔◌, ◌⊎◌, inl, inr, ℕ, ◌+◌, ◌<◌, ◌≤◌, subst, sym, ◌∙◌, arith}
use Rattle.std.specs.Prelude.{IsTrue}
use Rattle.std.proofs.lemmas.Bool.{cases_lt}
use Rattle.zdomain.specs.Domain.{SetOperations, In}
use Rattle.zpairs.specs.declared.cell.Test.{Test}
use Rattle.zpairs.specs.Frozen.{FrozenStory}
use Rattle.zpairs.specs.Cells.{absent_passes, cell_at, passes}
use Rattle.zpairs.specs.Pairs.{EachPair}
use Rattle.zpairs.proofs.Tests.{Meets, meets, above_passes}

-- of one more
pub one_more_below : (P : ℕ → Type 0) (below : ℕ) → ((k : ℕ) → k < below → P k) → P below → (k : ℕ) → k < below + 1 → P k
one_more_below P below each next k last = by_order (cases_lt k below)
  where
    by_order : (k < below) ⊎ (below ≤ k) → P k
    by_order (inl low) = each k low
    by_order (inr high) = let same : below ≡ k = omega (arith, high, last) in subst P same next

pub one_more : (P : ℕ → Type 0) (below : ℕ) → ((k : ℕ) → 1 ≤ k → k ≤ below → P k) → P (below + 1) → (k : ℕ) → 1 ≤ k → k ≤ below + 1 → P k
one_more P below each next k first last = by_order (cases_lt k (below + 1))
  where
    by_order : (k < below + 1) ⊎ (below + 1 ≤ k) → P k
    by_order (inl low) = each k first (omega (arith, low))
    by_order (inr high) = let same : below + 1 ≡ k = omega (arith, high, last) in subst P same next

module _ {V : Type 0} (o : SetOperations V) (told : FrozenStory) (test : Test) where
  -- each pair passes a test just where it meets what the test asks for
  pub pairs_meet : (objects numbers : V) → EachPair o told.story objects numbers (λ x n. IsTrue (passes test n (cell_at told x n))) ↔ EachPair o told.story objects numbers (Meets told test)
  pairs_meet objects numbers = (
    λ pass x n first last has asked. (meets told test x n).0 (pass x n first last has asked),
    λ meet x n first last has asked. (meets told test x n).1 (meet x n first last has asked),
  )

  -- numbers below 32 and the others
  pub all_numbers : (numbers : V) (x : ℕ) → ((n : ℕ) → n < 32 → In o numbers n → IsTrue (passes test n (cell_at told x n))) → ((n : ℕ) → 32 ≤ n → In o numbers n → IsTrue (passes test n (cell_at told x n))) → (n : ℕ) → In o numbers n → IsTrue (passes test n (cell_at told x n))
  all_numbers numbers x low high n = by_order (cases_lt n 32)
    where
      by_order : (n < 32) ⊎ (32 ≤ n) → In o numbers n → IsTrue (passes test n (cell_at told x n))
      by_order (inl below) = low n below
      by_order (inr above) = high n above

  -- with a number that no property has, a test is passed or not, whatever the object
  pub absent_there : (x n : ℕ) → 32 ≤ n → IsTrue (absent_passes test) ↔ IsTrue (passes test n (cell_at told x n))
  absent_there x n above = let same = above_passes told test x n above in (λ absent. same ∙ absent, λ passed. sym same ∙ passed)
