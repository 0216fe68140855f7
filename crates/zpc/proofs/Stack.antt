-- The stack that is taken before all else.
use Rattle.std.proofs.Common.{◌≡◌, ◌≢◌, ℕ, ◌<◌, List, ◌∙◌, refl, nat_eq, IsTrue}
use Rattle.std.proofs.Math.ListN.{get_or, replicate, set}
use Rattle.std.proofs.lemmas.List.{get_or-replicate, get_or-set_other}

-- beside what is set all is zero
pub is_zero : (n i j d : ℕ) → j ≢ i → j < n → IsTrue (nat_eq (get_or (set (replicate n 0) i 1) j d) 0)
is_zero n i j d other within = rw (get_or-set_other (replicate n 0) i j 1 d other ∙ get_or-replicate n j 0 d within) refl
