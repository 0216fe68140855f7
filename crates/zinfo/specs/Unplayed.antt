-- Where code leads if the opcodes that aren't played are passed over, and at how many addresses each of them is met so (own).
use Rattle.std.specs.Prelude.{◌≡◌, ℕ, ◌+◌, ℤ, pos, Bool, IsTrue, List, length, Option, Some, Ok, Err, option_map, option_and_then, ◌⊎◌, ◌↔◌, sum_by}
use Rattle.std.specs.Result.{result_ok}
use Rattle.std.specs.List.{Contains}
use Rattle.std.specs.List.Sorted.{IsStrictlyIncreasing}
use Rattle.zstory.specs.Bytes.{byte_at}
use Rattle.zstory.specs.LoadedStory.{LoadedStory, first_instruction}
use Rattle.zcode.specs.declared.error.DecodeError.TheVariants.{NotInProfile}
use Rattle.zcode.specs.declared.opcode.Excluded.{Excluded}
use Rattle.zcode.specs.declared.opcode.Excluded.TheVariants.{SplitWindow, SetWindow, OutputStream, InputStream, SoundEffect}
use Rattle.zcode.specs.declared.types.OperandType.{OperandType}
use Rattle.zcode.specs.declared.types.OperandType.TheVariants as types
use Rattle.zcode.specs.Instruction.{Instruction}
use Rattle.zcode.specs.Spelling.{types_of}
use Rattle.zlist.specs.Listed.{aside_place, begins, callee, next_place, spelled}
use Rattle.zinfo.specs.declared.facts.Unplayed.{Unplayed}

-- ---- what is passed over

-- an opcode stands at the address that isn't played: split_window, set_window, output_stream, input_stream or sound_effect (Z 14)
abbrev pub IsUnplayedAt : List ℕ → ℕ → Excluded → Type 0
IsUnplayedAt memory a opcode = spelled memory (pos a) ≡ Err (NotInProfile opcode)

-- how many bytes an operand takes (Z 4.2)
abbrev pub bytes_of : OperandType → ℕ
bytes_of types.Large = 2
bytes_of types.Small = 1
bytes_of types.Variable = 1

-- The address behind it: it has a byte of its own, a type byte, and the operands that this names; it stores nothing and has no branch (Z
-- 4.3.3, 4.4.3, 14). Where memory ends within it that lies behind memory, where nothing stands.
abbrev pub behind_unplayed : List ℕ → ℕ → ℕ
behind_unplayed memory a = a + 2 + sum_by bytes_of (types_of (byte_at memory (a + 1)))

-- ---- where code leads

-- where the routine begins that an instruction calls by a constant
abbrev pub entered : List ℕ → Instruction → Option ℤ
entered memory i = option_and_then (λ a. option_map (λ first. pos first) (result_ok (begins memory a))) (callee i.opcode i.operands)

-- an instruction leads behind itself and aside, where play may go on there, and to the routine that it calls by a constant
abbrev pub InstructionLeads : List ℕ → ℤ → Instruction → ℤ → Type 0
InstructionLeads memory p i q = (next_place p i ≡ Some q) ⊎ ((aside_place p i ≡ Some q) ⊎ (entered memory i ≡ Some q))

-- what stands at a place leads to another: an instruction, or an opcode that is passed over
abbrev pub Leads : List ℕ → ℤ → ℤ → Type 0
Leads memory p q = ((i : Instruction) × (spelled memory p ≡ Ok i) × InstructionLeads memory p i q) ⊎ ((a : ℕ) × (opcode : Excluded) × (p ≡ pos a) × IsUnplayedAt memory a opcode × (q ≡ pos (behind_unplayed memory a)))

-- a set of places that holds each place to which one of it leads
abbrev pub IsClosed : List ℕ → (ℤ → Bool) → Type 0
IsClosed memory set = (p q : ℤ) → IsTrue (set p) → Leads memory p q → IsTrue (set q)

-- the place is in the least closed set that holds the first instruction
abbrev pub IsReached : LoadedStory → ℤ → Type 0
IsReached story p = (set : ℤ → Bool) → IsClosed story.memory set → IsTrue (set (pos (first_instruction story))) → IsTrue (set p)

-- ---- how many there are

-- the opcode stands at an address that is reached
abbrev pub IsMet : LoadedStory → Excluded → ℕ → Type 0
IsMet story opcode a = IsReached story (pos a) × IsUnplayedAt story.memory a opcode

-- so many are the addresses at which the opcode is met
pub record IsCountOf (story : LoadedStory) (opcode : Excluded) (count : ℕ) : Type 0 where
  pub places : List ℕ
  pub rising : IsStrictlyIncreasing places
  pub met : (a : ℕ) → Contains places a ↔ IsMet story opcode a
  pub many : count ≡ length places

-- the count of an opcode
abbrev pub count_of : Unplayed → Excluded → ℕ
count_of counts SplitWindow = counts.split_window
count_of counts SetWindow = counts.set_window
count_of counts OutputStream = counts.output_stream
count_of counts InputStream = counts.input_stream
count_of counts SoundEffect = counts.sound_effect

-- each count is the one of its opcode
abbrev pub AreCountsOf : LoadedStory → Unplayed → Type 0
AreCountsOf story counts = (opcode : Excluded) → IsCountOf story opcode (count_of counts opcode)
