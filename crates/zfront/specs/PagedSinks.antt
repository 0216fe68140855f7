-- What a contract sees of a `Pages` and of a `Paged`.
use Rattle.std.specs.Prelude.{ℕ, Bool, if◌then◌else◌, nat_lt, List, Option, None, Some, Result}
use mathlib.Core.Option as maybe
use Rattle.std.specs.Io.KnownBytes.{Appends, Keeps}
use Rattle.std.specs.Borrow.{GName}
use Rattle.zfront.specs.declared.pages.Pages.{Pages}
use Rattle.zfront.specs.declared.paged.Paged.{Paged}
use Rattle.zfront.specs.declared.paged.Paged.TheVariants.{Plain, Stopping}
use Rattle.zfront.specs.Pages.{Paging, ShowsNone, ShowsPiece, BeginsPage, first_page}

-- the sink below
abbrev pub pages_below : {W S : Type 0} → Pages W S → W
pages_below pages = pages.below.now

-- which reference to it that is, and which one to the keys
abbrev pub pages_name : {W S : Type 0} → Pages W S → GName
pages_name pages = pages.below.ghost_name

abbrev pub keys_name : {W S : Type 0} → Pages W S → GName
keys_name pages = pages.keys.ghost_name

-- how much of a page was shown
abbrev pub page_of : {W S : Type 0} → Pages W S → Paging
page_of pages = pages.page

-- whether bytes were taken that no flush has handed on
abbrev pub pages_wait : {W S : Type 0} → Pages W S → Bool
pages_wait pages = pages.waits

-- the sink below a `Paged`
abbrev pub below_of : {W S : Type 0} → Paged W S → W
below_of (Plain below) = below.now
below_of (Stopping pages) = pages_below pages

-- which reference to it that is, and which one to the keys, if they are read
abbrev pub below_name : {W S : Type 0} → Paged W S → GName
below_name (Plain below) = below.ghost_name
below_name (Stopping pages) = pages_name pages

abbrev pub keys_here : {W S : Type 0} → Paged W S → maybe.Option GName
keys_here (Plain below) = maybe.none
keys_here (Stopping pages) = maybe.some (keys_name pages)

-- how much of a page was shown, if it has any
abbrev pub page_here : {W S : Type 0} → Paged W S → Option Paging
page_here (Plain below) = None
page_here (Stopping pages) = Some (page_of pages)

-- with keys and 3 rows or more it has pages
abbrev pub begins_with : {S : Type 0} → Option S → ℕ → Option Paging
begins_with None rows = None
begins_with (Some keys) rows = if nat_lt rows 3 then None else Some (first_page rows)

-- the known bytes of a sink with no pages are those of the sink below
abbrev pub known_bytes : Option Paging → Option (List ℕ) → Option (List ℕ)
known_bytes None below = below
known_bytes (Some page) below = None

-- whether bytes wait, below or here
abbrev pub waits_of : {W S : Type 0} → (W → Bool) → Paged W S → Bool
waits_of waits (Plain below) = waits below.now
waits_of waits (Stopping pages) = pages_wait pages

-- a piece was taken, and the sink below grew by it, with its stops if there are pages
abbrev pub ShowsHere : Option (List ℕ) → Option (List ℕ) → Option Paging → Option Paging → List ℕ → Type 0
ShowsHere old new None None piece = Appends old new piece
ShowsHere old new (Some before) (Some after) piece = ShowsPiece old new before after piece
ShowsHere _ _ _ _ _ = ⊥

-- no piece was taken, and the sink below stays as it was, or grew by a beginning of a stop
abbrev pub ShowsNoneHere : Option (List ℕ) → Option (List ℕ) → Option Paging → Option Paging → Type 0
ShowsNoneHere old new None None = Keeps old new
ShowsNoneHere old new (Some before) (Some after) = ShowsNone old new before after
ShowsNoneHere _ _ _ _ = ⊥

-- a flush begins a page, if there are any
abbrev pub BeginsHere : {E : Type 0} → Option Paging → Option Paging → Result Unit E → Type 0
BeginsHere None None outcome = Unit {0}
BeginsHere (Some before) (Some after) outcome = BeginsPage before after outcome
BeginsHere _ _ _ = ⊥
