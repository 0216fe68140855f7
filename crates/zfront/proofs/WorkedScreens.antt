-- Values of the definitions of screens, computed.
use Rattle.std.proofs.Common.{◌≡◌, ℕ, Bool, true, false, Some, None, [], length, Result, Ok, Err, refl, ap, arith}
use Rattle.std.specs.Prelude.{codes}
use Rattle.zfront.specs.Owed.{Owed, nothing_owed}
use Rattle.zfront.specs.Screens.{EndsHere, GivesSomeHere, PassesHere, begins_with, known_bytes, waits_here}

owing : Owed
owing = record { decided = codes "the\n"; wrapping = record { width = 8; column = 3; held = codes " la" } }

outcome : Bool → Result Unit ℕ
outcome true = Ok tt
outcome false = Err 0

-- with no width, or at width 0, nothing is wrapped
begins : (begins_with None ≡ None) × (begins_with (Some 0) ≡ None) × (begins_with (Some 1) ≡ Some (nothing_owed 1)) × (begins_with (Some 80) ≡ Some (nothing_owed 80))
begins = (refl, refl, refl, refl)

-- bytes are known where nothing is wrapped; and what is owed waits
known : (known_bytes None (Some (codes "a")) ≡ Some (codes "a")) × (known_bytes (Some (nothing_owed 8)) (Some (codes "a")) ≡ None)
known = (refl, refl)

waits : (waits_here None true ≡ true) × (waits_here None false ≡ false) × (waits_here (Some (nothing_owed 8)) false ≡ false) × (waits_here (Some owing) false ≡ true)
unfolding owing
waits = (refl, refl, refl, refl)

-- a piece that isn't wrapped is below as it is; a screen that wraps goes on wrapping
passes : PassesHere (Some []) (Some (codes "a")) None None (codes "a") × (PassesHere (Some []) (Some []) None None (codes "a") → ⊥) × (PassesHere None None None (Some (nothing_owed 8)) [] → ⊥) × (PassesHere None None (Some (nothing_owed 8)) None [] → ⊥)
passes = (refl, λ p. omega (arith, ap length p), λ p. p, λ p. p)

-- where none was taken, nothing is below but what was decided
gives : GivesSomeHere (Some []) (Some []) None None × (GivesSomeHere (Some []) (Some (codes "a")) None None → ⊥) × GivesSomeHere (Some []) (Some (codes "t")) (Some owing) (Some (record owing { decided = codes "he\n" }))
unfolding owing
gives = (refl, λ g. omega (arith, ap length g), record { given = codes "t"; grown = refl; whole = refl; kept = refl })

-- a turn ends where it was wrapped
ends : EndsHere (Some (codes "a")) (Some (codes "a")) None None (outcome true) × (EndsHere (Some []) (Some (codes "a")) None None (outcome false) → ⊥) × EndsHere (Some []) (Some (codes "the\n la")) (Some owing) (Some (nothing_owed 8)) (outcome true)
unfolding owing outcome
ends = (refl, λ e. omega (arith, ap length e), record { grown = refl; none = refl; wrapping = refl })
