-- How words are gathered: as long as they are few, each of them is marked, and no other.
use Rattle.std.specs.Prelude.{◌≡◌, ◌≤◌, ℕ, Bool, true, false, List}
use Rattle.zdomain.specs.Few.{is_among, turned}
use Rattle.zdomain.specs.Marks.{is_marked}

abbrev pub AreMarked : Bool → List ℕ → List ℕ → Type 0
AreMarked are_many marks words = are_many ≡ false → (p : ℕ) → is_marked marks p ≡ is_among p words

-- each word that is marked lies between the ends
abbrev pub LieBetween : ℕ → ℕ → List ℕ → Type 0
LieBetween least greatest marks = (p : ℕ) → is_marked marks p ≡ true → (least ≤ turned p) × (turned p ≤ greatest)
