-- What a contract sees of devices that heed a cursor (own).
use Rattle.std.specs.Prelude.{ℕ, Bool, List, ◌∷◌, Option, ◌⊎◌}
use Rattle.std.specs.Io.KnownBytes.{Appends}
use Rattle.zfront.specs.declared.shown.Shown.{Shown}
use Rattle.zfront.specs.declared.shown.Typed.{Typed}
use Rattle.zfront.specs.declared.aside.Aside.{Aside}

-- the devices below
abbrev pub shown_below : {W : Type 0} → Shown W → W
shown_below shown = shown.below.now

abbrev pub typed_from : {S : Type 0} → Typed S → S
typed_from typed = typed.source.now

abbrev pub aside_below : {W : Type 0} → Aside W → W
aside_below aside = aside.below.now

-- whether bytes were taken that no flush has handed on
abbrev pub waits_aside : {W : Type 0} → Aside W → Bool
waits_aside aside = aside.waits

-- these bytes came, or an end of line (10) and then these
abbrev pub MayBegin : Option (List ℕ) → Option (List ℕ) → List ℕ → Type 0
MayBegin old new bytes = Appends old new bytes ⊎ Appends old new (10 ∷ bytes)
