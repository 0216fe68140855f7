-- Marks: where a certificate may mark its instructions, bit 7 of the byte of a height marks one (own).
use Rattle.std.specs.Prelude.{◌≡◌, ℕ, ◌+◌, ◌-◌, Bool, true, false, ◌&&◌, List, length, nat_le, ⊤}
use Rattle.std.specs.List.{filter}
use Rattle.zcert.specs.declared.limits.TheConstants.{MARK}
use Rattle.zcert.specs.Certificate.{Instruction}

-- the byte of a height, without the mark and with it
abbrev pub height_byte : Bool → ℕ → ℕ
height_byte false height = height
height_byte true height = height + MARK

-- whether such a byte has the mark
abbrev pub is_mark : Bool → ℕ → Bool
is_mark marking byte = marking && nat_le MARK byte

-- what is left of it without a mark
abbrev pub without : Bool → ℕ → ℕ
without false byte = byte
without true byte = byte - MARK

-- the height that it says
abbrev pub height_in : Bool → ℕ → ℕ
height_in marking byte = without (is_mark marking byte) byte

-- an instruction of a certificate that may mark, or an unmarked one
abbrev pub IsMarkable : {V : Type 0} → Bool → Instruction V → Type 0
IsMarkable true i = ⊤
IsMarkable false i = i.is_marked ≡ false

-- how many are marked
abbrev pub marks : {V : Type 0} → List (Instruction V) → ℕ
marks is = length (filter (λ i. i.is_marked) is)
