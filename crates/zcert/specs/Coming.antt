-- A list of which some words have come, and others haven't.
use Rattle.std.specs.Prelude.{◌≡◌, ℕ, ◌+◌, ◌<◌, ◌≤◌, Bool, true, ◌&&◌, List, [], ◌∷◌, ◌++◌, length, nat_le, nat_lt}
use Rattle.std.specs.List.{flat_map}
use Rattle.zdomain.specs.Few.{turned}
use Rattle.zcert.specs.Numbers.{Kind, WordCount, Word, number}

-- the bytes that have come
abbrev pub list_bytes : ℕ → List ℕ → List ℕ
list_bytes count words = number Kind 1 ++ number WordCount count ++ flat_map (number Word) words

-- each is a word above the one before it, the first of them at `floor` or above
unfoldable pub are_from : ℕ → List ℕ → Bool
are_from floor [] = true
are_from floor (x ∷ xs) = nat_lt x 65536 && (nat_le floor (turned x) && are_from (turned x + 1) xs)

-- where the word behind them may stand
unfoldable pub floor_behind : ℕ → List ℕ → ℕ
floor_behind floor [] = floor
floor_behind floor (x ∷ xs) = floor_behind (turned x + 1) xs

-- of so many words some have come, and the next is to stand at `floor` or above
pub record IsComing (count floor : ℕ) (words : List ℕ) : Type 0 where
  pub some : 2 ≤ count
  pub few : count ≤ 64
  pub more : length words < count
  pub rise : are_from 0 words ≡ true
  pub behind : floor ≡ floor_behind 0 words
