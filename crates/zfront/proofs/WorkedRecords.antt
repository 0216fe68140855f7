-- Values of the definitions, computed.
use Rattle.std.proofs.Common.{◌≡◌, ℕ, zero, suc, ◌^◌, ◌-◌, Bool, true, false, Some, None, [], ◌∷◌, length, Result, Ok, Err, refl, ap, arith}
use Rattle.std.specs.Prelude.{take}
use Rattle.std.specs.Io.KnownBytes.{Appends}
use Rattle.zfront.specs.Records.{Records, RecordsBytes}
use Rattle.zfront.specs.Sources.{both_failures, both_left}

-- ---- a record

outcome : Bool → Result ℕ ℕ
outcome true = Ok 2
outcome false = Err 0

-- a record that stays whole gets each byte; one that breaks gets a beginning; one that is broken gets none
recorded : RecordsBytes (Some (1 ∷ [])) (Some (1 ∷ 2 ∷ 3 ∷ [])) true true (2 ∷ 3 ∷ []) × RecordsBytes (Some (1 ∷ [])) (Some (1 ∷ 2 ∷ [])) true false (2 ∷ 3 ∷ []) × RecordsBytes (Some (1 ∷ [])) (Some (1 ∷ [])) false false (2 ∷ [])
recorded = (refl, record { taken = 1; grown = refl }, (refl, refl))

unrecorded : (RecordsBytes (Some []) (Some (2 ∷ [])) true true (2 ∷ 3 ∷ []) → ⊥) × (RecordsBytes (Some []) (Some (3 ∷ [])) true false (2 ∷ []) → ⊥) × (RecordsBytes (Some []) (Some (2 ∷ [])) false false (2 ∷ []) → ⊥) × (RecordsBytes (Some []) (Some []) false true [] → ⊥)
unrecorded = (λ r. omega (arith, ap length r), λ r. other r.taken r.grown, λ r. omega (arith, ap length r.1), λ r. absurd cc)
  where
    other : (taken : ℕ) → Appends (Some []) (Some (3 ∷ [])) (take taken (2 ∷ [])) → ⊥
    other zero e = omega (arith, ap length e)
    other (suc n) e = absurd cc

-- of what a buffer holds so many bytes as were read, and at an error none
reads : Records (Some []) (Some (2 ∷ 3 ∷ [])) true true (outcome true) (2 ∷ 3 ∷ 4 ∷ []) × Records (Some []) (Some []) true true (outcome false) (2 ∷ []) × (Records (Some []) (Some (2 ∷ [])) true true (outcome false) (2 ∷ []) → ⊥) × (Records (Some []) (Some []) true false (outcome false) [] → ⊥)
unfolding outcome
reads = (refl, (refl, refl), λ r. omega (arith, ap length r.1), λ r. absurd cc)

-- ---- one source behind another

left : (both_left false (Some (1 ∷ 2 ∷ [])) (Some (3 ∷ [])) ≡ Some (1 ∷ 2 ∷ 3 ∷ [])) × (both_left true (Some (1 ∷ [])) (Some (3 ∷ [])) ≡ Some (3 ∷ [])) × (both_left false None (Some (3 ∷ [])) ≡ None) × (both_left false (Some (1 ∷ [])) None ≡ None) × (both_left true None (Some (3 ∷ [])) ≡ Some (3 ∷ []))
left = (refl, refl, refl, refl, refl)

failed : (both_failures 2 3 ≡ 5) × (both_failures 0 0 ≡ 0) × (both_failures (2 ^ 64 - 1) 1 ≡ 2 ^ 64 - 1) × (both_failures (2 ^ 64 - 3) 1 ≡ 2 ^ 64 - 2)
failed = (refl, refl, refl, refl)
