-- What stands for no entries.
use Rattle.std.proofs.Common.{◌≡◌, ℕ, List, [], ◌∷◌, codes, length, refl, arith}
use Rattle.zinfo.specs.Text.{or_none}

pub none_there : (l : List ℕ) → length l ≡ 0 → or_none l ≡ codes "none"
none_there [] e = refl
none_there (x ∷ xs) e = absurd (omega (arith, e))

pub some_there : (l : List ℕ) → (length l ≡ 0 → ⊥) → or_none l ≡ l
some_there [] e = absurd (e refl)
some_there (x ∷ xs) e = refl
