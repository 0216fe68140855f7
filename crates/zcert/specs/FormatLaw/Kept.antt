-- A proof of the law that sets are found as they were kept.
use Rattle.std.proofs.Common.{◌≡◌, ℕ, List, [], ◌∷◌, ◌++◌, length, take, refl, ap, ◌∙◌, append_assoc, arith}
use Rattle.std.specs.List.{flat_map, AllByRecursion}
use Rattle.zdomain.specs.declared.interval.Interval.{Interval}
use Rattle.zcert.specs.Format.{Format, interval_format}
use Rattle.zcert.specs.FormatLaw.{IsFormat}
use Rattle.zcert.specs.FormatLaw.Sets.{values_is_format}
use Rattle.zcert.specs.Keeping.{AreKept, intervals_kept, and_more, spelled_sets, values_kept}
use Rattle.zcert.specs.Lists.{values_format}

intervals_again : (is : List Interval) (rest : List Interval) → take (length is) (flat_map intervals_kept.cells is ++ rest) ≡ is
intervals_again [] rest = refl
intervals_again (i ∷ is) rest = ap (λ (js : List Interval). i ∷ js) (intervals_again is rest)

pub intervals_are_kept : AreKept interval_format intervals_kept
intervals_are_kept = record { again = λ is rest have. intervals_again is rest; some = λ i. omega arith }

-- of any kind
spelled_again : {V : Type 0} (format : Format V) → IsFormat format → (sets : List V) (rest : List ℕ) → AllByRecursion format.Has sets → spelled_sets format (length sets) (flat_map format.spelled sets ++ rest) ≡ sets
spelled_again format law [] rest have = refl
spelled_again {V} format law (v ∷ vs) rest have =
    let behind = flat_map format.spelled vs ++ rest in
    ap (λ (bytes : List ℕ). and_more (spelled_sets format (length vs)) (format.value_at bytes)) (append_assoc (format.spelled v) (flat_map format.spelled vs) rest)
    ∙ rw (law.again v behind have.0) (ap (λ (ws : List V). v ∷ ws) (spelled_again format law vs rest have.1))

pub values_are_kept : AreKept values_format values_kept
values_are_kept = record { again = spelled_again values_format values_is_format; some = values_is_format.long }
