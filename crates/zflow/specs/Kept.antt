-- How the code keeps what is known of a frame, and the sets of what is read (own).
use Rattle.std.specs.Prelude.{ℕ, zero, suc, List, reverse}
use Rattle.zflow.specs.Transfer.{Shape}

-- the shape of locals and of slots of which the top is the last
abbrev pub shape_of : {V : Type 0} → List V → List V → Shape V
shape_of locals slots = record { locals = locals; slots = reverse slots }

-- the sets of the first two operands: no operation reads more
abbrev pub both : {V : Type 0} → V → V → ℕ → V
both a b zero = a
both a b (suc k) = b
