-- A listed instruction as the first of a story is to be (own).
use Rattle.std.specs.Prelude.{◌≡◌, []}
use Rattle.zcert.specs.Certificate.{Instruction}

-- it is in the main code, with no local and an empty stack
abbrev pub IsBare : {V : Type 0} → Instruction V → Type 0
IsBare i = (i.routine ≡ 0) × (i.locals ≡ []) × (i.slots ≡ [])
