-- Sentences over neighbouring entries.
use Rattle.std.proofs.Common.{◌≡◌, ℕ, ◌+◌, ◌-◌, ◌<◌, ◌≤◌, inl, inr, ap, arith}
use Rattle.std.proofs.lemmas.Bool.{cases_lt}

-- what holds of each two neighbours before n, and of n with the one before it, holds of each up to n
pub neighbours_more : (text : ℕ → ℕ) (n : ℕ) → 1 ≤ n → ((k : ℕ) → k + 1 < n → text k ≤ text (k + 1)) → text (n - 1) ≤ text n → (k : ℕ) → k + 1 < n + 1 → text k ≤ text (k + 1)
neighbours_more text n some below here k h =
    elim (cases_lt (k + 1) n) [
      | inl before ↦ below k before
      | inr last ↦ let same : k ≡ n - 1 = omega arith in let next : k + 1 ≡ n = omega arith in omega (arith, here, ap text same, ap text next)
    ]
