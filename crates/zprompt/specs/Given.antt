-- A line as a story's player is given it.
use Rattle.std.specs.Prelude.{ℕ, List, [], ◌∷◌}

-- the bytes of which a line is read: its own, and of an empty one its end
abbrev pub given_of : List ℕ → List ℕ
given_of [] = 10 ∷ []
given_of (byte ∷ line) = byte ∷ line
