-- Which words a list has.
use Rattle.std.proofs.Common.{◌≡◌, ◌≢◌, ◌⊎◌, inl, inr, ℕ, zero, suc, Bool, true, false, ◌||◌, ◌==◌, List, [], ◌∷◌, sym, ap, ◌∙◌}
use Rattle.std.specs.Prelude.{insert}
use Rattle.std.proofs.Math.Bool.{or_comm, or_assoc}
use Rattle.std.proofs.lemmas.Bool.Decides.{eqb_tells}
use Rattle.zdomain.specs.Few.{is_among}

pub eq_swap : (a b : ℕ) → (a == b) ≡ (b == a)
eq_swap a b = by (eqb_tells a b) (eqb_tells b a)
  where
    by : ((a == b) ≡ true) × (a ≡ b) ⊎ ((a == b) ≡ false) × (a ≢ b) → ((b == a) ≡ true) × (b ≡ a) ⊎ ((b == a) ≡ false) × (b ≢ a) → (a == b) ≡ (b == a)
    by (inl p) (inl q) = p.0 ∙ sym q.0
    by (inl p) (inr q) = absurd (q.1 (sym p.1))
    by (inr p) (inl q) = absurd (p.1 (sym q.1))
    by (inr p) (inr q) = p.0 ∙ sym q.0

-- a list with one more word, wherever that is put, has it and what it had
pub among_insert : (xs : List ℕ) (i w p : ℕ) → is_among p (insert xs i w) ≡ (is_among p xs || p == w)
among_insert xs zero w p = or_comm (w == p) (is_among p xs) ∙ ap (λ (b : Bool). is_among p xs || b) (eq_swap w p)
among_insert [] (suc i) w p = or_comm (w == p) false ∙ eq_swap w p
among_insert (x ∷ xs) (suc i) w p = ap (λ (b : Bool). (x == p) || b) (among_insert xs i w p) ∙ sym (or_assoc (x == p) (is_among p xs) (p == w))
