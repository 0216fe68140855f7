-- Two rising lists, gone over side by side. Nothing to believe: what each answers is proved to be what it stands for.
use Rattle.std.specs.Prelude.{ℕ, ◌+◌, ◌-◌, ◌%◌, Bool, true, false, ◌==◌, nat_lt, if◌then◌else◌, List, [], ◌∷◌}
use Rattle.zdomain.specs.Few.{turned}

-- each word of the first is in the second
unfoldable pub are_among : List ℕ → List ℕ → Bool
are_among [] ys = true
are_among (x ∷ xs) [] = false
are_among (x ∷ xs) (y ∷ ys) = if x == y then are_among xs ys else (if nat_lt (turned y) (turned x) then are_among (x ∷ xs) ys else false)

-- those of the first that are in the second
unfoldable pub shared : List ℕ → List ℕ → List ℕ
shared [] ys = []
shared (x ∷ xs) [] = []
shared (x ∷ xs) (y ∷ ys) = if x == y then x ∷ shared xs ys else (if nat_lt (turned y) (turned x) then shared (x ∷ xs) ys else shared xs (y ∷ ys))

-- a list has a word and so many behind it
unfoldable pub has_row : List ℕ → ℕ → ℕ → Bool
has_row [] word more = false
has_row (x ∷ xs) word more = if nat_lt (turned x) (turned word) then has_row xs word more else (if x == word then (if more == 0 then true else has_row xs ((word + 1) % 65536) (more - 1)) else false)
