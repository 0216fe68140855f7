-- A few words, in the order of their signed readings, and how they are gathered (own).
use Rattle.std.specs.Prelude.{ℕ, zero, suc, ◌+◌, ◌-◌, ◌%◌, Bool, true, ◌&&◌, ◌==◌, nat_lt, nat_le, if◌then◌else◌, min, max, List, [], ◌∷◌, length, Option, Some, None, T, insert}
use Rattle.std.specs.List.{list_any}

-- where a word stands in the order of signed readings, which begins with 32768 and ends with 32767
abbrev pub turned : ℕ → ℕ
turned word = (word + 32768) % 65536

-- a list has the word
abbrev pub is_among : ℕ → List ℕ → Bool
is_among word words = list_any (λ w. w == word) words

-- so many words from one on, in that order
unfoldable pub words_from : ℕ → ℕ → List ℕ
words_from word zero = []
words_from word (suc n) = word ∷ words_from ((word + 1) % 65536) n

-- how many words of a list stand before one, in the order of signed readings
unfoldable pub place_in : ℕ → List ℕ → ℕ
place_in word [] = 0
place_in word (x ∷ xs) = if nat_lt (turned word) (turned x) then 0 else suc (place_in word xs)

-- the words of a list and one that isn't there, as long as there are at most 64
abbrev pub put : ℕ → List ℕ → Option (List ℕ)
put word words = if nat_lt (length words) 64 then Some (insert words (place_in word words) word) else None

-- Words that were gathered: the places of the least and of the greatest, and the words themselves, where there are at most 64
pub record Gathering : Type 0 where
  pub least : ℕ
  pub greatest : ℕ
  pub few : Option (List ℕ)

abbrev pub none_gathered : Gathering
none_gathered = record { least = 65535; greatest = 0; few = Some [] }

-- words and one more, as long as there are at most 64
abbrev pub added : ℕ → Option (List ℕ) → Option (List ℕ)
added word None = None
added word (Some words) = if is_among word words then Some words else put word words

abbrev pub with_word : ℕ → Gathering → Gathering
with_word word g = record { least = min g.least (turned word); greatest = max g.greatest (turned word); few = added word g.few }

-- all words of a list
unfoldable pub with_words : List ℕ → Gathering → Gathering
with_words [] g = g
with_words (x ∷ xs) g = with_words xs (with_word x g)

-- the words of a list, gathered
abbrev pub gathered : List ℕ → Gathering
gathered words = with_words words none_gathered

-- each word rises above the one before it
unfoldable pub rises_behind : ℕ → List ℕ → Bool
rises_behind x [] = true
rises_behind x (y ∷ ys) = nat_lt (turned x) (turned y) && rises_behind y ys

abbrev pub rises : List ℕ → Bool
rises [] = true
rises (x ∷ xs) = rises_behind x xs

unfoldable pub last_behind : ℕ → List ℕ → ℕ
last_behind x [] = x
last_behind x (y ∷ ys) = last_behind y ys

abbrev pub first_of : List ℕ → ℕ
first_of [] = 0
first_of (x ∷ xs) = x

abbrev pub last_of : List ℕ → ℕ
last_of [] = 0
last_of (x ∷ xs) = last_behind x xs

-- a list that is no interval: 2 to 64 words that rise, of which some between the first and the last are left out
unfoldable pub is_scattered : List ℕ → Bool
is_scattered words = nat_le 2 (length words) && (nat_le (length words) 64 && (rises words && nat_le (length words) (turned (last_of words) - turned (first_of words))))

pub record IsScattered (words : List ℕ) : Type 0 where
  pub is : T (is_scattered words)
