-- Names and the names beside them.
use Rattle.std.proofs.Common.{◌≡◌, ℕ, List, ◌∷◌}
use Rattle.std.proofs.lemmas.List.{append_cancel_right}
use Rattle.zbatch.specs.Naming.{name_beside, stem}

pub by_stem : (first second ending : List ℕ) → name_beside first ending ≡ name_beside second ending → stem first ≡ stem second
by_stem first second ending same = append_cancel_right (stem first) (stem second) (46 ∷ ending) same
