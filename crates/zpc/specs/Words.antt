-- What the words after the program's name ask of the program itself (own).
use Rattle.std.specs.Prelude.{ℕ, Bool, false, ◌&&◌, List, [], ◌∷◌, codes}
use Rattle.std.specs.Str.{bytes_eq}

-- with a word behind the first, if there is one
abbrev pub behind_first : List ℕ → List (List ℕ) → List (List ℕ)
behind_first word [] = []
behind_first word (first ∷ rest) = first ∷ word ∷ rest

-- the manual page: `help man`, and nothing else
abbrev pub is_manual : List (List ℕ) → Bool
is_manual (first ∷ second ∷ []) = bytes_eq first (codes "help") && bytes_eq second (codes "man")
is_manual words = false
