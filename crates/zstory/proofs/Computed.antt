-- Bytes, by computation.
use Rattle.std.proofs.Common.{◌≡◌, ℕ, zero, suc, ◌<◌, Bool, true, false, List, [], ◌∷◌, nat_lt, refl, arith}
use Rattle.std.specs.Prelude.{◌&&◌}
use Rattle.std.specs.List.{list_all}
use Rattle.std.proofs.lemmas.Bool.{ltb-true}
use Rattle.zstory.specs.Bytes.{AreBytes}

both_are : (a b : Bool) → (a && b) ≡ true → (a ≡ true) × (b ≡ true)
both_are true b e = (refl, e)
both_are false b e = absurd cc

bytes_more : (b : ℕ) (memory : List ℕ) → b < 256 → AreBytes memory → AreBytes (b ∷ memory)
bytes_more b memory small are zero = small
bytes_more b memory small are (suc p) = are p

pub bytes_tested : (memory : List ℕ) → list_all (λ b. nat_lt b 256) memory ≡ true → AreBytes memory
bytes_tested [] e p = omega arith
bytes_tested (b ∷ memory) e p =
    let parts = both_are (nat_lt b 256) (list_all (λ x. nat_lt x 256) memory) e in
    bytes_more b memory (ltb-true b 256 parts.0) (bytes_tested memory parts.1) p
