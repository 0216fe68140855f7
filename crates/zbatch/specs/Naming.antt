-- The name of a file beside a story's (own).
use Rattle.std.specs.Prelude.{ℕ, ◌-◌, Bool, ◌||◌, if◌then◌else◌, List, ◌∷◌, ◌++◌, length, take, drop, codes}
use Rattle.std.specs.Str.{bytes_eq}

-- whether the last three bytes of a name are those of a story's ending
abbrev pub is_story_name : List ℕ → Bool
is_story_name name = bytes_eq (drop (length name - 3) name) (codes ".z3") || bytes_eq (drop (length name - 3) name) (codes ".Z3")

-- a name without that ending
abbrev pub stem : List ℕ → List ℕ
stem name = if is_story_name name then take (length name - 3) name else name

-- with a dot and another ending
abbrev pub name_beside : List ℕ → List ℕ → List ℕ
name_beside story ending = stem story ++ 46 ∷ ending
