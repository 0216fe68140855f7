-- Values of what the words ask of the program itself, computed.
use Rattle.std.proofs.Common.{◌≡◌, false, true, [], ◌∷◌, codes, refl}
use Rattle.zpc.specs.Words.{is_manual}

manual :
    (is_manual (codes "help" ∷ codes "man" ∷ []) ≡ true) × (is_manual [] ≡ false) × (is_manual (codes "help" ∷ []) ≡ false) × (is_manual (codes "man" ∷ codes "help" ∷ []) ≡ false)
    × (is_manual (codes "help" ∷ codes "man" ∷ codes "man" ∷ []) ≡ false) × (is_manual (codes "help" ∷ codes "mans" ∷ []) ≡ false)
manual = (refl, refl, refl, refl, refl, refl)
