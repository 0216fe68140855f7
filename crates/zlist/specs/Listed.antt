-- What a story lists (own): the places that its code leads to by jumps, both ways of branches and constant calls, whatever values it
-- computes, and whose code each is. A routine that only a variable names isn't among them, and what no play reaches may be.
use Rattle.std.specs.Prelude.{◌≡◌, ℕ, zero, suc, ◌+◌, ◌*◌, ◌≤◌, ℤ, pos, negsuc, ◌+ℤ◌, ◌-ℤ◌, ◌<ℤ◌, Bool, true, false, IsTrue, List, ◌∷◌, [], length, drop, All, Option, Some, None, option_map, Result, Ok, Err, if◌then◌else◌, nat_lt, slice_index, ◌⊎◌, ◌↔◌, ◌≢◌}
use Rattle.std.specs.Int.{w16, cast_signed}
use Rattle.zstory.specs.Bytes.{byte_at}
use Rattle.zstory.specs.LoadedStory.{LoadedStory, first_instruction}
use Rattle.zcode.specs.declared.error.DecodeError.{DecodeError}
use Rattle.zcode.specs.declared.error.DecodeError.TheVariants.{Truncated, Operands}
use Rattle.zcode.specs.declared.instr.Branch.{Branch}
use Rattle.zcode.specs.declared.instr.Destination.{Destination}
use Rattle.zcode.specs.declared.instr.Destination.TheVariants.{Relative}
use Rattle.zcode.specs.declared.instr.Operand.{Operand}
use Rattle.zcode.specs.declared.instr.Operand.TheVariants.{Constant, Variable}
use Rattle.zcode.specs.declared.opcode.Opcode.{Opcode}
use Rattle.zcode.specs.declared.opcode.Opcode.TheVariants as opcodes
use Rattle.zcode.specs.Instruction.{Instruction, destination}
use Rattle.zcode.specs.Reading.{instruction_at}
use Rattle.zlist.specs.declared.list_error.ListError.{ListError}
use Rattle.zlist.specs.declared.list_error.ListError.TheVariants.{Decode, TwoRoutines, ComputedJump, OutOfMemory}
use Rattle.zlist.specs.declared.owner.Owner.{Owner}
use Rattle.zlist.specs.declared.owner.Owner.TheVariants.{Main, Routine}
use Rattle.zlist.specs.declared.record.Record.{Record}
use Rattle.zlist.specs.Listing.{ListedCode, is_listed, is_routine}

-- ---- one instruction

-- what stands at a place, or why nothing does
abbrev pub spelled : List ℕ → ℤ → Result Instruction DecodeError
spelled memory (pos p) = instruction_at (drop p memory)
spelled memory (negsuc _) = Err Truncated

-- whether play never goes on behind an instruction: it returns, leads elsewhere, begins anew or ends (Z 15)
abbrev pub ends : Opcode → Bool
ends opcodes.Ret = true
ends opcodes.Rtrue = true
ends opcodes.Rfalse = true
ends opcodes.PrintRet = true
ends opcodes.RetPopped = true
ends opcodes.Jump = true
ends opcodes.Restart = true
ends opcodes.Quit = true
ends _ = false

-- Whether a condition can come out so, as far as the opcode tells: play goes on behind `restore` only where it failed, since else
-- it goes on where the state was saved (Z 15).
abbrev pub may_answer : Opcode → Bool → Bool
may_answer opcodes.Restore true = false
may_answer _ _ = true

-- how far behind an instruction a branch leads that is taken, where it doesn't return (Z 4.7)
abbrev pub branched : Destination → Option ℤ
branched (Relative distance) = Some distance
branched _ = None

-- whether play may go on behind an instruction
abbrev pub goes_on : Opcode → Option Branch → Bool
goes_on opcode None = if ends opcode then false else true
goes_on opcode (Some branch) = may_answer opcode (if branch.sense then false else true)

-- how far behind itself an instruction may lead elsewhere: by a branch, or a jump by a constant (Z 4.7, 15)
abbrev pub aside : Opcode → List Operand → Option Branch → Option ℤ
aside opcodes.Jump (Constant word ∷ []) _ = Some (cast_signed w16 word -ℤ pos 2)
aside opcode _ (Some branch) = if may_answer opcode branch.sense then branched (destination branch.offset) else None
aside _ _ None = None

-- the place behind an instruction
abbrev pub behind : ℤ → Instruction → ℤ
behind p i = p +ℤ pos i.size

-- that place, if play may go on there
abbrev pub next_place : ℤ → Instruction → Option ℤ
next_place p i = if goes_on i.opcode i.branch then Some (behind p i) else None

-- the place to which it may lead elsewhere
abbrev pub aside_place : ℤ → Instruction → Option ℤ
aside_place p i = option_map (λ d. behind p i +ℤ d) (aside i.opcode i.operands i.branch)

abbrev pub calls : Opcode → Bool
calls opcodes.Call = true
calls _ = false

-- the address of the routine that a first operand names, if it is a constant; 0 names none (Z 1.2.3, 6.4.3)
abbrev pub routine_named : List Operand → Option ℕ
routine_named (Constant zero ∷ _) = None
routine_named (Constant (suc packed) ∷ _) = Some (2 * suc packed)
routine_named (Variable _ ∷ _) = None
routine_named [] = None

-- the address of the routine that an instruction calls by a constant
abbrev pub callee : Opcode → List Operand → Option ℕ
callee opcode operands = if calls opcode then routine_named operands else None

-- Where a routine's code begins, behind the count of its locals, at most 15, and their initial words; or what is wrong with its
-- head (Z 5.2).
abbrev pub begins : List ℕ → ℕ → Result ℕ DecodeError
begins memory a = if nat_lt a (length memory) then (if nat_lt 15 (byte_at memory a) then Err Operands else (if nat_lt (length memory) (a + 1 + 2 * byte_at memory a) then Err Truncated else Ok (a + 1 + 2 * byte_at memory a))) else Err Truncated

-- it jumps as far as a variable says
abbrev pub JumpsByVariable : Instruction → Type 0
JumpsByVariable i = (i.opcode ≡ opcodes.Jump) × (v : ℕ) × (i.operands ≡ Variable v ∷ [])

-- ---- the code as a whole

-- a set of places that holds each place to which an instruction of it leads
pub record IsClosed (memory : List ℕ) (set : ℤ → Bool) : Type 0 where
  pub next : (p q : ℤ) (i : Instruction) → IsTrue (set p) → spelled memory p ≡ Ok i → next_place p i ≡ Some q → IsTrue (set q)
  pub aside : (p q : ℤ) (i : Instruction) → IsTrue (set p) → spelled memory p ≡ Ok i → aside_place p i ≡ Some q → IsTrue (set q)

-- and each that begins a routine which an instruction of it calls
abbrev pub HoldsCallees : List ℕ → (ℤ → Bool) → Type 0
HoldsCallees memory set = (p : ℤ) (i : Instruction) (a q : ℕ) → IsTrue (set p) → spelled memory p ≡ Ok i → callee i.opcode i.operands ≡ Some a → begins memory a ≡ Ok q → IsTrue (set (pos q))

-- the instructions of a place lead to another one: it is in the least closed set that holds the first
abbrev pub LeadsTo : List ℕ → ℤ → ℤ → Type 0
LeadsTo memory from to = (set : ℤ → Bool) → IsClosed memory set → IsTrue (set from) → IsTrue (set to)

module _ (story : LoadedStory) where
  -- the place is in the least closed set that holds the first instruction and where each called routine begins
  abbrev pub IsListed : ℤ → Type 0
  IsListed p = (set : ℤ → Bool) → IsClosed story.memory set → HoldsCallees story.memory set → IsTrue (set (pos (first_instruction story))) → IsTrue (set p)

  -- a listed instruction calls the routine at the address
  abbrev pub IsCalled : ℕ → Type 0
  IsCalled a = (p : ℤ) × (i : Instruction) × IsListed p × (spelled story.memory p ≡ Ok i) × (callee i.opcode i.operands ≡ Some a)

  -- where the code of the story, or of a called routine, begins
  abbrev pub Begins : Owner → ℕ → Type 0
  Begins Main q = q ≡ first_instruction story
  Begins (Routine a) q = IsCalled a × (begins story.memory a ≡ Ok q)

  -- the place belongs to the main code, or to a called routine: that leads to it from where it begins
  abbrev pub Belongs : Owner → ℤ → Type 0
  Belongs owner p = (q : ℕ) × Begins owner q × LeadsTo story.memory (pos q) p

  -- ---- what can be at fault

  -- nothing stands at a listed place
  abbrev pub IsUnspelled : ℤ → DecodeError → Type 0
  IsUnspelled p cause = IsListed p × (spelled story.memory p ≡ Err cause)

  -- the head of a called routine isn't there
  abbrev pub IsHeadless : ℕ → DecodeError → Type 0
  IsHeadless a cause = IsCalled a × (begins story.memory a ≡ Err cause)

  -- the place belongs to two routines, or to one and to the main code
  abbrev pub IsShared : ℤ → Type 0
  IsShared p = (one other : Owner) × (one ≢ other) × Belongs one p × Belongs other p

  -- a listed instruction jumps as far as a variable says
  abbrev pub IsComputed : ℤ → Type 0
  IsComputed p = IsListed p × (i : Instruction) × (spelled story.memory p ≡ Ok i) × JumpsByVariable i

  -- Where nothing stands at a called address that is listed too, it is the instruction that is at fault.
  abbrev pub IsFault : ListError → Type 0
  IsFault (Decode p cause) = IsUnspelled p cause ⊎ ((a : ℕ) × (p ≡ pos a) × IsHeadless a cause × ((other : DecodeError) → IsUnspelled p other → ⊥))
  IsFault (TwoRoutines a) = IsShared (pos a)
  IsFault (ComputedJump a) = IsComputed (pos a)
  IsFault OutOfMemory = ⊥

-- ---- what a lister answers

-- where a fault is found
abbrev pub place_of : ListError → ℤ
place_of (Decode p _) = p
place_of (TwoRoutines a) = pos a
place_of (ComputedJump a) = pos a
place_of OutOfMemory = pos 0

-- the order of the faults of one place
abbrev pub number_of : ListError → ℕ
number_of (Decode _ _) = 1
number_of (TwoRoutines _) = 2
number_of (ComputedJump _) = 3
number_of OutOfMemory = 4

-- no fault stands lower, nor before it at its place
abbrev pub ComesFirst : ListError → ListError → Type 0
ComesFirst one other = (place_of one <ℤ place_of other) ⊎ ((place_of one ≡ place_of other) × (number_of one ≤ number_of other))

-- what is at fault at a place: of several the first
abbrev pub IsFirstAt : LoadedStory → ℤ → Option ListError → Type 0
IsFirstAt story p None = (error : ListError) → IsFault story error → place_of error ≡ p → ⊥
IsFirstAt story p (Some error) = IsFault story error × (place_of error ≡ p) × ((other : ListError) → IsFault story other → place_of other ≡ p → number_of error ≤ number_of other)

pub record IsLowestFault (story : LoadedStory) (error : ListError) : Type 0 where
  pub fault : IsFault story error
  pub lowest : (other : ListError) → IsFault story other → ComesFirst error other

-- whose code a number of a listing is
abbrev pub owner_of : List ℕ → ℕ → Owner
owner_of routines zero = Main
owner_of routines (suc k) = Routine (slice_index routines k)

-- the instruction of a record stands at its address, and belongs to the routine of its number
pub record IsListedAs (story : LoadedStory) (routines : List ℕ) (r : Record) : Type 0 where
  pub spelled : spelled story.memory (pos r.address) ≡ Ok r.instruction
  pub belongs : Belongs story (owner_of routines r.routine) (pos r.address)

-- a listing of all that a story lists, where nothing is at fault
pub record Lists (story : LoadedStory) (listing : ListedCode) : Type 0 where
  pub faultless : (error : ListError) → IsFault story error → ⊥
  pub all : (p : ℤ) → IsListed story p → (a : ℕ) × (p ≡ pos a) × IsTrue (is_listed listing a)
  pub each : All (IsListedAs story listing.routines) listing.records
  pub routines : (a : ℕ) → IsTrue (is_routine listing a) ↔ IsCalled story a
