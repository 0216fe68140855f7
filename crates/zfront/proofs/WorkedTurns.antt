-- Values of the definitions, computed.
use Rattle.std.proofs.Common.{ℕ, Bool, true, false, Some, None, [], length, Result, Ok, Err, refl, ap, arith}
use Rattle.std.specs.Prelude.{codes}
use Rattle.zfront.specs.Wrapping.{Wrapping}
use Rattle.zfront.specs.Owed.{Owed, nothing_owed}
use Rattle.zfront.specs.Turns.{Ends, EndsTurn}

owing : Owed
owing = record { decided = codes "the\n"; wrapping = record { width = 8; column = 3; held = codes " la" } }

-- what a flush leaves that isn't the end of a turn: the column is behind what was held
left : Owed
left = record { decided = codes "\n la"; wrapping = record { width = 8; column = 6; held = [] } }

outcome : Bool → Result Unit ℕ
outcome true = Ok tt
outcome false = Err 0

-- all of it is given out, and the next turn is at the beginning of a line
ended : EndsTurn (Some (codes "a")) (Some (codes "athe\n la")) owing (nothing_owed 8) × (EndsTurn (Some []) (Some (codes "the\n")) owing (nothing_owed 8) → ⊥) × (EndsTurn (Some []) (Some (codes "the\n la")) owing (nothing_owed 9) → ⊥) × (EndsTurn None None owing left → ⊥)
unfolding owing left
ended = (record { grown = refl; none = refl; wrapping = refl }, λ e. omega (arith, ap length e.grown), λ e. omega (arith, ap (λ (w : Wrapping). w.width) e.wrapping), λ e. omega (arith, ap (λ (w : Wrapping). w.column) e.wrapping))

-- at an error a beginning is, and the rest is left
ends : Ends (Some []) (Some (codes "the\n la")) owing (nothing_owed 8) (outcome true) × Ends (Some []) (Some (codes "the")) owing left (outcome false) × (Ends (Some []) (Some (codes "the")) owing left (outcome true) → ⊥)
unfolding owing left outcome
ends = (record { grown = refl; none = refl; wrapping = refl }, record { given = codes "the"; grown = refl; whole = refl; finished = refl }, λ e. omega (arith, ap length e.grown))
