-- What was given out, kept as text with status lines in it.
use Rattle.std.specs.Prelude.{ℕ, ◌≡◌, ◌≤◌, ◌+◌, ◌-◌, ◌⊎◌, List, [], ◌∷◌, ◌++◌, drop, length, map, min, take}
use Rattle.zfault.specs.declared.item.Item.{Item}
use Rattle.zfault.specs.declared.item.Item.TheVariants.{Status, Text}
use Rattle.zfault.specs.declared.items.Mark.{Mark}

-- what was given out and is held, for how many more bytes of text there is room, and how much of all may be held
pub record GivenOut : Type 0 where
  pub items : List Item
  pub room : ℕ
  pub most : ℕ

-- the items of a text and of the status lines in it, the newest first: the text before the newest line with the older ones, then that
-- line, then the text behind it
abbrev pub items_of : List ℕ → List Mark → List Item
items_of text [] = map Text text
items_of text (mark ∷ older) = items_of (take mark.place text) older ++ Status mark.status ∷ map Text (drop mark.place text)

-- status lines, the newest first, stand in a text of this length, none before an older one
abbrev pub StandWithin : ℕ → List Mark → Type 0
StandWithin end [] = Unit
StandWithin end (mark ∷ older) = (mark.place ≤ end) × StandWithin mark.place older

-- the bytes of text among items
abbrev pub text_of : List Item → List ℕ
text_of [] = []
text_of (Text byte ∷ items) = byte ∷ text_of items
text_of (Status status ∷ items) = text_of items

-- what items count: a byte of text one, and a status line 64 and the bytes of its name (own)
abbrev pub size : List Item → ℕ
size [] = 0
size (Text byte ∷ items) = 1 + size items
size (Status status ∷ items) = 64 + length status.name + size items

-- what status lines count
abbrev pub size_of_lines : List Mark → ℕ
size_of_lines [] = 0
size_of_lines (mark ∷ older) = 64 + length mark.status.name + size_of_lines older

-- for how many more bytes of text there is room: where nothing is held for those that memory has room for, and else for no more than the
-- bound leaves
abbrev pub room_beside : List Item → ℕ → ℕ → ℕ
room_beside [] memory most = memory
room_beside (item ∷ items) memory most = min memory (most - size (item ∷ items))

-- the bound stays, and nothing came that passes it, but where nothing was held: then what came is all that is held
abbrev pub IsBounded : GivenOut → GivenOut → Type 0
IsBounded old new = (new.most ≡ old.most) × ((new.items ≡ old.items) ⊎ ((old.items ≡ []) ⊎ (size new.items ≤ new.most)))
