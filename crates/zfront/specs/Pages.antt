-- A text that stops behind each page (own).
use Rattle.std.specs.Prelude.{◌≡◌, ℕ, zero, suc, ◌+◌, ◌-◌, ◌<◌, ◌≤◌, ◌==◌, Bool, true, false, if◌then◌else◌, nat_lt, List, [], ◌∷◌, ◌++◌, All, codes, count_by, Option, Result, MatchResult, ◌⊎◌}
use Rattle.std.specs.List.{concat}
use Rattle.std.specs.Io.KnownBytes.{Appends}

-- how many ends of lines (10) fill a page, how many of one were shown since it began, and whether the text stops behind a full one
pub record Paging : Type 0 where
  pub lines : ℕ
  pub shown : ℕ
  pub stops : Bool

-- what is written where it stops, and what takes that away once the key for it moved the cursor a line down: up a line, to its beginning, erase it
abbrev pub more : List ℕ
more = codes "[more]"

abbrev pub erased : List ℕ
erased = 27 ∷ 91 ∷ 65 ∷ 13 ∷ 27 ∷ 91 ∷ 75 ∷ []

-- the ends of lines among some bytes
abbrev pub ends_in : List ℕ → ℕ
ends_in bytes = count_by (λ byte. byte == 10) bytes

-- the lines that were shown of the page on which the next byte is: none behind a full page
abbrev pub on_page : ℕ → ℕ → ℕ
on_page lines shown = if nat_lt shown lines then shown else 0

-- what comes before that byte: a stop behind a full page
abbrev pub stop_at : ℕ → ℕ → List ℕ
stop_at lines shown = if nat_lt shown lines then [] else more ++ erased

-- how many lines were shown behind a byte, and behind a text
abbrev pub shown_with : ℕ → ℕ → ℕ → ℕ
shown_with lines shown byte = on_page lines shown + (if byte == 10 then 1 else 0)

abbrev pub shown_behind : ℕ → ℕ → List ℕ → ℕ
shown_behind lines shown [] = shown
shown_behind lines shown (byte ∷ rest) = shown_behind lines (shown_with lines shown byte) rest

-- a text with its stops
abbrev pub paged : ℕ → ℕ → List ℕ → List ℕ
paged lines shown [] = []
paged lines shown (byte ∷ rest) = stop_at lines shown ++ byte ∷ paged lines (shown_with lines shown byte) rest

-- the front of a text up to and with so many ends of lines
abbrev pub page_front : ℕ → List ℕ → List ℕ
page_front room [] = []
page_front zero (byte ∷ rest) = []
page_front (suc room) (byte ∷ rest) = byte ∷ page_front (if byte == 10 then room else suc room) rest

-- what comes of a text, and what comes before its first byte, if it stops at all
abbrev pub paged_here : Paging → List ℕ → List ℕ
paged_here page text = if page.stops then paged page.lines page.shown text else text

abbrev pub stop_here : Paging → List ℕ
stop_here page = if page.stops then stop_at page.lines page.shown else []

-- no line was shown
abbrev pub from_first : Paging → Paging
from_first page = record { lines = page.lines; shown = 0; stops = page.stops }

-- a page of a screen with so many rows, the last of which is that of the stop
abbrev pub first_page : ℕ → Paging
first_page rows = record { lines = rows - 1; shown = 0; stops = true }

-- it stops as before; or no more, for behind a full page no key came
abbrev pub StopsOrEnds : Paging → Paging → Type 0
StopsOrEnds before after = (after.stops ≡ before.stops) ⊎ ((before.lines ≤ before.shown) × (after.stops ≡ false))

-- A stop was made, where one was due, and the page has room for a line.
pub record TurnsPage (old new : Option (List ℕ)) (before after : Paging) : Type 0 where
  pub grown : Appends old new (stop_here before)
  pub lines : after.lines ≡ before.lines
  pub shown : after.shown ≡ on_page before.lines before.shown
  pub stops : StopsOrEnds before after

-- A piece was taken, with its stops.
pub record ShowsPiece (old new : Option (List ℕ)) (before after : Paging) (piece : List ℕ) : Type 0 where
  pub grown : Appends old new (paged_here before piece)
  pub lines : after.lines ≡ before.lines
  pub shown : after.shown ≡ shown_behind before.lines before.shown piece
  pub stops : StopsOrEnds before after

-- A stop wasn't made to its end, and will be made anew.
pub record StopsShort (old new : Option (List ℕ)) (before after : Paging) : Type 0 where
  pub given : List ℕ
  pub left : List ℕ
  pub whole : stop_here before ≡ given ++ left
  pub grown : Appends old new given
  pub same : after ≡ before

-- no piece was taken: a stop wasn't made to its end, or nothing was shown behind it
abbrev pub ShowsNone : Option (List ℕ) → Option (List ℕ) → Paging → Paging → Type 0
ShowsNone old new before after = StopsShort old new before after ⊎ TurnsPage old new before after

-- a flush begins a page
abbrev pub BeginsPage : {E : Type 0} → Paging → Paging → Result Unit E → Type 0
BeginsPage before after outcome = MatchResult outcome (λ _. after ≡ from_first before) (λ _. after ≡ before)

-- what is known of it: a page has a line or more, and no more were shown than it has
abbrev pub IsPaging : ℕ → ℕ → Type 0
IsPaging lines shown = (0 < lines) × (shown ≤ lines)

-- A text is parted, each part with no more ends of lines than a page has; and what comes of it is the first part, and behind it each other one
-- behind a stop.
abbrev pub behind_stops : List (List ℕ) → List ℕ
behind_stops [] = []
behind_stops (part ∷ parts) = more ++ erased ++ part ++ behind_stops parts

pub record IsPaged (lines : ℕ) (text result : List ℕ) : Type 0 where
  pub first : List ℕ
  pub others : List (List ℕ)
  pub whole : text ≡ first ++ concat others
  pub stopped : result ≡ first ++ behind_stops others
  pub short : ends_in first ≤ lines
  pub others_short : All (λ part. ends_in part ≤ lines) others
