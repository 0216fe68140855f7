-- Members one behind another.
use Rattle.std.proofs.Common.{◌≡◌, List, [], ◌∷◌, ap, ◌∙◌}
use Rattle.zjson.specs.Objects.{Pair}

pub then : {p q : Pair} {ps qs : List Pair} → p ≡ q → ps ≡ qs → p ∷ ps ≡ q ∷ qs
then {p} {q} {ps} {qs} same others = ap (λ (x : Pair). x ∷ ps) same ∙ ap (λ (xs : List Pair). q ∷ xs) others

pub last : {p q : Pair} → p ≡ q → p ∷ [] ≡ q ∷ []
last same = ap (λ (x : Pair). x ∷ []) same
