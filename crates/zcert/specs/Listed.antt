-- What a certificate says at an address.
use Rattle.std.specs.Prelude.{◌≡◌, ℕ, suc, ◌<◌, List, [], ◌∷◌, length, slice_get, Option, Some, None, option_map, MatchOption, ◌==◌, if◌then◌else◌}
use Rattle.zcert.specs.declared.parts.Instruction.{Instruction as Borrowed}
use Rattle.zcert.specs.declared.parts.Routine.{Routine}
use Rattle.zcert.specs.Certificate.{Instruction}

-- the instruction that is listed at an address, if one is
abbrev pub listed_at : {V : Type 0} → List (Instruction V) → ℕ → Option (Instruction V)
listed_at [] address = None
listed_at (i ∷ is) address = if i.address == address then Some i else listed_at is address

-- the index of the routine at an address, if there is one
abbrev pub routine_at : {V : Type 0} → List (Routine V) → ℕ → Option ℕ
routine_at [] address = None
routine_at (r ∷ rs) address = if r.address == address then Some 0 else option_map (λ k. suc k) (routine_at rs address)

-- the answer is the index of the instruction that is listed there
abbrev pub Finds : {V : Type 0} → List (Instruction V) → ℕ → Option ℕ → Type 0
Finds is address answer = MatchOption answer (listed_at is address ≡ None) (λ k. (k < length is) × (listed_at is address ≡ slice_get is k))

-- an instruction that is lent, as what it says
abbrev pub seen : {V : Type 0} → Borrowed V → Instruction V
seen i = record { address = i.address; routine = i.routine; is_marked = i.is_marked; locals = i.locals.now; slots = i.slots.now }
