-- What functions answer, by the definitions.
use Rattle.std.specs.Prelude.{◌≡◌, ℤ, pos, ◌≤ℤ◌, Result, Ok, Err}
use Rattle.zstate.specs.declared.halt.Halt.{Halt}

-- what a function returned, seen by a view, is what the definition gives
abbrev pub Gives : {X Y : Type 0} → (X → Y) → Result X Halt → Result Y Halt → Type 0
Gives view (Ok x) value = value ≡ Ok (view x)
Gives view (Err h) value = value ≡ Err h

-- a place from which no instruction or offset leads out of the numbers of a place
abbrev pub IsNear : ℤ → Type 0
IsNear p = (pos 0 ≤ℤ p) × (p ≤ℤ pos 1000000)
