-- One thing after another, each of which gives something or fails.
use Rattle.std.specs.Prelude.{List, [], ◌∷◌, Result, Ok, Err}

-- what follows where nothing failed
infixl 10 ◌>>=◌
abbrev pub ◌>>=◌ : {A B E : Type 0} → Result A E → (A → Result B E) → Result B E
(Ok x) >>= f = f x
(Err e) >>= f = Err e

-- each in turn, from the state that the one before left, with what they give
unfoldable pub in_turn : {A B S E : Type 0} → (A → S → Result (B × S) E) → List A → S → Result (List B × S) E
in_turn f [] s = Ok ([], s)
in_turn f (x ∷ xs) s = do
  y ← f x s
  ys ← in_turn f xs y.1
  Ok (y.0 ∷ ys.0, ys.1)
