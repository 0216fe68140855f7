-- What holds below a number, by one more.
use Rattle.std.proofs.Common.{◌≡◌, ◌⊎◌, inl, inr, ℕ, ◌+◌, ◌<◌, ◌≤◌, arith, subst}
use Rattle.std.proofs.lemmas.Bool.{cases_lt}

pub one_more : (P : ℕ → Type 0) (n : ℕ) → ((k : ℕ) → k < n → P k) → P n → (k : ℕ) → k < n + 1 → P k
one_more P n below here k less = by_cases (cases_lt k n)
  where
    by_cases : (k < n) ⊎ (n ≤ k) → P k
    by_cases (inl l) = below k l
    by_cases (inr l) = let same : n ≡ k = omega arith in subst P same here
