-- What a contract sees of a `TopLine` and of a `Headed`.
use Rattle.std.specs.Prelude.{ℕ, Bool, false, if◌then◌else◌, nat_lt, List, Option, None, Some}
use Rattle.std.specs.Io.KnownBytes.{Appends, Keeps}
use Rattle.std.specs.Borrow.{GName}
use Rattle.zfront.specs.declared.top_line.TopLine.{TopLine}
use Rattle.zfront.specs.declared.headed.Headed.{Headed}
use Rattle.zfront.specs.declared.headed.Headed.TheVariants.{Plain, Drawn}
use Rattle.zfront.specs.Headings.{Closes, ClosesShort, FlushesTop, FlushesTopShort, Top, Tops, TopsNone}

-- the sink below
abbrev pub top_below : {W : Type 0} → TopLine W → W
top_below top = top.below.now

-- which reference to it that is
abbrev pub top_name : {W : Type 0} → TopLine W → GName
top_name top = top.below.ghost_name

-- its screen
abbrev pub top_of : {W : Type 0} → TopLine W → Top
top_of top = record { width = top.width; opened = top.opened }

-- whether bytes were taken that no flush has handed on
abbrev pub top_waits : {W : Type 0} → TopLine W → Bool
top_waits top = top.waits

-- the sink below a `Headed`
abbrev pub below_of : {W : Type 0} → Headed W → W
below_of (Plain below) = below.now
below_of (Drawn top) = top_below top

-- which reference to it that is
abbrev pub below_name : {W : Type 0} → Headed W → GName
below_name (Plain below) = below.ghost_name
below_name (Drawn top) = top_name top

-- its screen, if a line is drawn
abbrev pub top_here : {W : Type 0} → Headed W → Option Top
top_here (Plain below) = None
top_here (Drawn top) = Some (top_of top)

-- a line is drawn on 2 columns or more
abbrev pub begins_with : Option ℕ → Option Top
begins_with None = None
begins_with (Some width) = if nat_lt width 2 then None else Some (record { width = width; opened = false })

-- the known bytes of a sink that draws none are those of the sink below
abbrev pub known_bytes : Option Top → Option (List ℕ) → Option (List ℕ)
known_bytes None below = below
known_bytes (Some top) below = None

-- whether bytes wait, below or here
abbrev pub waits_of : {W : Type 0} → (W → Bool) → Headed W → Bool
waits_of waits (Plain below) = waits below.now
waits_of waits (Drawn top) = top_waits top

-- a piece was taken, and the sink below grew by it
abbrev pub TopsHere : Option (List ℕ) → Option (List ℕ) → Option Top → Option Top → List ℕ → Type 0
TopsHere old new None None piece = Appends old new piece
TopsHere old new (Some before) (Some after) piece = Tops old new before after piece
TopsHere _ _ _ _ _ = ⊥

-- no piece was taken
abbrev pub TopsNoneHere : Option (List ℕ) → Option (List ℕ) → Option Top → Option Top → Type 0
TopsNoneHere old new None None = Keeps old new
TopsNoneHere old new (Some before) (Some after) = TopsNone old new before after
TopsNoneHere _ _ _ _ = ⊥

-- a line was drawn, if one is
abbrev pub FlushesHere : Option (List ℕ) → Option (List ℕ) → Option Top → Option Top → Type 0
FlushesHere old new None None = Keeps old new
FlushesHere old new (Some before) (Some after) = FlushesTop old new before after
FlushesHere _ _ _ _ = ⊥

-- that broke off
abbrev pub FlushesShortHere : Option (List ℕ) → Option (List ℕ) → Option Top → Option Top → Type 0
FlushesShortHere old new None None = Keeps old new
FlushesShortHere old new (Some before) (Some after) = FlushesTopShort old new before after
FlushesShortHere _ _ _ _ = ⊥

-- the screen is closed, if it was opened
abbrev pub ClosesHere : Option (List ℕ) → Option (List ℕ) → Option Top → Option Top → Type 0
ClosesHere old new None None = Keeps old new
ClosesHere old new (Some before) (Some after) = Closes old new before after
ClosesHere _ _ _ _ = ⊥

-- that broke off
abbrev pub ClosesShortHere : Option (List ℕ) → Option (List ℕ) → Option Top → Option Top → Type 0
ClosesShortHere old new None None = Keeps old new
ClosesShortHere old new (Some before) (Some after) = ClosesShort old new before after
ClosesShortHere _ _ _ _ = ⊥
