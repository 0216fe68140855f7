-- What a line at the top of a screen shows (own).
use Rattle.std.specs.Prelude.{◌≡◌, ℕ, ◌-◌, Bool, true, false, if◌then◌else◌, nat_lt, List, [], ◌∷◌, ◌++◌, codes, length, map, replicate, take, Option, ◌⊎◌}
use Rattle.std.specs.Io.KnownBytes.{Appends}
use Rattle.zfault.specs.Devices.{AppendsBeginning}

-- a byte as it is shown there: a space (32) for one that is no character from 32 to 126
abbrev pub printable : ℕ → ℕ
printable byte = if nat_lt byte 32 then 32 else if nat_lt 126 byte then 32 else byte

-- as much of the right side as goes between a space at each end; and as much of the name as goes before it and a space
abbrev pub right_shown : List ℕ → ℕ → List ℕ
right_shown right width = take (width - 2) (map printable right)

abbrev pub name_shown : List ℕ → List ℕ → ℕ → List ℕ
name_shown name right width = take (width - 3 - length (right_shown right width)) (map printable name)

-- with the spaces between them
abbrev pub apart : List ℕ → ℕ → List ℕ → List ℕ
apart name gap right = name ++ (replicate gap 32 ++ right)

abbrev pub both_shown : List ℕ → List ℕ → ℕ → List ℕ
both_shown name right width = apart (name_shown name right width) (width - 2 - length (name_shown name right width) - length (right_shown right width)) (right_shown right width)

-- the line, of 2 columns or more
abbrev pub heading_line : List ℕ → List ℕ → ℕ → List ℕ
heading_line name right width = (32 ∷ []) ++ (both_shown name right width ++ (32 ∷ []))

-- What is written before it: keep the cursor's place, scroll from line 2 on, go to the beginning of line 1, reverse video. And behind it: no
-- reverse video, go back to that place.
abbrev pub line_begun : List ℕ
line_begun = codes "\u{1b}7\u{1b}[2r\u{1b}[1;1H\u{1b}[7m"

abbrev pub line_ended : List ℕ
line_ended = codes "\u{1b}[0m\u{1b}8"

abbrev pub drawing : List ℕ → List ℕ → ℕ → List ℕ
drawing name right width = line_begun ++ (heading_line name right width ++ line_ended)

-- What is written before all else: clear the screen, scroll from line 2 on, go there. And at the end: the whole screen scrolls, go to its bottom.
abbrev pub opening : List ℕ
opening = codes "\u{1b}[H\u{1b}[2J\u{1b}[2r\u{1b}[2;1H"

abbrev pub closing : List ℕ
closing = codes "\u{1b}[r\u{1b}[999;1H\n"

-- how wide a screen is on which a line at the top is drawn, and whether it was opened
pub record Top : Type 0 where
  pub width : ℕ
  pub opened : Bool

-- what is still to be written before all else, and what at the end
abbrev pub opening_of : Top → List ℕ
opening_of top = if top.opened then [] else opening

abbrev pub closing_of : Top → List ℕ
closing_of top = if top.opened then closing else []

-- the same screen, opened or not
abbrev pub opened_so : Top → Bool → Top
opened_so top opened = record { width = top.width; opened = opened }

-- A line is drawn, whatever it says; or there is none to be drawn.
pub record IsDrawing (width : ℕ) (bytes : List ℕ) : Type 0 where
  pub name : List ℕ
  pub right : List ℕ
  pub line : bytes ≡ drawing name right width

abbrev pub MayDraw : ℕ → List ℕ → Type 0
MayDraw width bytes = (bytes ≡ []) ⊎ IsDrawing width bytes

-- it was opened, or stays as it was
abbrev pub MayOpen : Top → Top → Type 0
MayOpen before after = (after ≡ before) ⊎ (after ≡ opened_so before true)

-- Bytes were written to a screen that was opened first.
pub record Tops (old new : Option (List ℕ)) (before after : Top) (bytes : List ℕ) : Type 0 where
  pub grown : Appends old new (opening_of before ++ bytes)
  pub opened : after ≡ opened_so before true

-- It was opened, or that broke off.
pub record TopsNone (old new : Option (List ℕ)) (before after : Top) : Type 0 where
  pub begun : AppendsBeginning old new (opening_of before)
  pub opened : MayOpen before after

-- A line was drawn, if there was one.
pub record Draws (old new : Option (List ℕ)) (width : ℕ) : Type 0 where
  pub drawn : List ℕ
  pub may : MayDraw width drawn
  pub grown : Appends old new drawn

-- That broke off.
pub record DrawsShort (old new : Option (List ℕ)) (width : ℕ) : Type 0 where
  pub drawn : List ℕ
  pub may : MayDraw width drawn
  pub begun : AppendsBeginning old new drawn

-- A flush draws the line, on a screen that was opened first.
pub record FlushesTop (old new : Option (List ℕ)) (before after : Top) : Type 0 where
  pub drawn : List ℕ
  pub may : MayDraw before.width drawn
  pub grown : Appends old new (opening_of before ++ drawn)
  pub opened : after ≡ opened_so before true

-- A flush failed within that, or behind it.
pub record FlushesTopShort (old new : Option (List ℕ)) (before after : Top) : Type 0 where
  pub drawn : List ℕ
  pub may : MayDraw before.width drawn
  pub begun : AppendsBeginning old new (opening_of before ++ drawn)
  pub opened : MayOpen before after

-- It is closed, if it was opened.
pub record Closes (old new : Option (List ℕ)) (before after : Top) : Type 0 where
  pub grown : Appends old new (closing_of before)
  pub closed : after ≡ opened_so before false

-- That failed within what is written for it, or behind that.
pub record ClosesShort (old new : Option (List ℕ)) (before after : Top) : Type 0 where
  pub begun : AppendsBeginning old new (closing_of before)
  pub closed : (after ≡ before) ⊎ (after ≡ opened_so before false)
