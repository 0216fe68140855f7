-- Text as a terminal shows it: words are wrapped at its width (own). A byte is a character, and takes a column.
use Rattle.std.specs.Prelude.{◌≡◌, ℕ, suc, ◌+◌, ◌≤◌, Bool, ◌&&◌, ◌||◌, ◌==◌, if◌then◌else◌, List, [], ◌∷◌, ◌++◌, length, nat_lt}

-- a space (32) and an end of line (10) end a word
abbrev pub ends_word : ℕ → Bool
ends_word byte = (byte == 32) || (byte == 10)

-- how long the word at the front is
abbrev pub word_length : List ℕ → ℕ
word_length [] = 0
word_length (byte ∷ rest) = if ends_word byte then 0 else suc (word_length rest)

-- it and a word of this length, at this column, would go past the width; nothing goes past a width of 0
abbrev pub goes_past : ℕ → ℕ → ℕ → Bool
goes_past width column word = nat_lt 0 width && nat_lt width (column + 1 + word)

-- what a byte at this column is shown as: a space becomes an end of line where it and the word behind it would go past the width
abbrev pub shown : ℕ → ℕ → ℕ → List ℕ → ℕ
shown width column byte rest = if (byte == 32) && goes_past width column (word_length rest) then 10 else byte

-- the column behind a byte that is shown
abbrev pub column_behind : ℕ → ℕ → ℕ
column_behind column byte = if byte == 10 then 0 else column + 1

-- what a text is shown as, from this column on
abbrev pub wrapped : ℕ → ℕ → List ℕ → List ℕ
wrapped width column [] = []
wrapped width column (byte ∷ rest) = shown width column byte rest ∷ wrapped width (column_behind column (shown width column byte rest)) rest

-- a text that is being wrapped: the width, the column behind what was given out, and what is held, since what follows decides on it. Of
-- columns at the width and behind it no more is known than that the line is full
pub record Wrapping : Type 0 where
  pub width : ℕ
  pub column : ℕ
  pub held : List ℕ

-- what is held is nothing, or a space and the word behind it, which fit so far
abbrev pub IsHeld : ℕ → ℕ → List ℕ → Type 0
IsHeld width column [] = Unit {0}
IsHeld width column (byte ∷ word) = (byte ≡ 32) × (word_length word ≡ length word) × (column + 1 + length word ≤ width)

-- what is still to be given out of it, once this text follows
abbrev pub coming : Wrapping → List ℕ → List ℕ
coming wrapping text = wrapped wrapping.width wrapping.column (wrapping.held ++ text)

-- Of a piece this was given out. With what is held now it is the wrapping of what was held and of the piece, and whatever follows, it was
-- right: what still comes once that follows is the same as if it had come with the piece.
pub record Feeds (old new : Wrapping) (piece given : List ℕ) : Type 0 where
  pub width : new.width ≡ old.width
  pub whole : coming old piece ≡ given ++ new.held
  pub later : (text : List ℕ) → coming old (piece ++ text) ≡ given ++ coming new text

-- what was held is given out
abbrev pub settled : Wrapping → Wrapping
settled wrapping = record { width = wrapping.width; column = wrapping.column + length wrapping.held; held = [] }

-- to these bytes the wrapping of a piece was appended, but for what is held
pub record FeedsTo (old new : Wrapping) (piece before after : List ℕ) : Type 0 where
  pub given : List ℕ
  pub grown : after ≡ before ++ given
  pub feeds : Feeds old new piece given

-- what is known of every text that is being wrapped: the line isn't more than full, what is held is as it has to be, and there is room for as
-- many bytes as can be held
pub record IsWrapping (width column : ℕ) (held : List ℕ) (room : ℕ) : Type 0 where
  pub line : column ≤ width
  pub fits : IsHeld width column held
  pub kept : width ≤ room
