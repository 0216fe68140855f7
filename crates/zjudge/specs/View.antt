-- What the code's values say.
use Rattle.std.specs.Prelude.{false, ℕ, List, [], Option, Some, None, slice_get}
use Rattle.zcert.specs.Certificate.{Instruction}
use Rattle.zquetzal.specs.View.{seen_frame}
use Rattle.zstate.specs.Saves.{taken_frame}
use Rattle.zrule.specs.Claims.{Entry, entry_of}
use Rattle.zjudge.specs.declared.frames.Caller.{Caller}
use Rattle.zjudge.specs.Frames.{Waiting}

-- an instruction, if there is one, and else nothing
abbrev pub instruction_or : {V : Type 0} → Option (Instruction V) → Instruction V
instruction_or (Some i) = i
instruction_or None = record { address = 0; routine = 0; is_marked = false; locals = []; slots = [] }

-- what is listed at an index
abbrev pub entry_at : {V : Type 0} → List (Instruction V) → ℕ → Entry V
entry_at instructions index = entry_of (instruction_or (slice_get instructions index))

-- a frame that waits, with what is listed where it goes on
abbrev pub waiting_of : {V : Type 0} → List (Instruction V) → Caller → Waiting V
waiting_of instructions c = record { entry = entry_at instructions c.index; frame = taken_frame (seen_frame c.frame) }
