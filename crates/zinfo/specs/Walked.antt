-- How far code was followed to opcodes that aren't played (own).
use Rattle.std.specs.Prelude.{◌≡◌, ℕ, ◌+◌, ◌<◌, ◌≤◌, ◌==◌, ℤ, pos, negsuc, Bool, true, false, IsTrue, All, List, [], ◌∷◌, ◌++◌, length, Result, Err, IfOk, if◌then◌else◌, slice_index_or, sum_by}
use Rattle.std.specs.List.{Contains}
use Rattle.std.specs.List.Sorted.{IsStrictlyIncreasing}
use Rattle.zstory.specs.LoadedStory.{LoadedStory, first_instruction}
use Rattle.zcode.specs.declared.error.DecodeError.{DecodeError}
use Rattle.zcode.specs.declared.error.DecodeError.TheVariants.{Truncated}
use Rattle.zcode.specs.declared.opcode.Excluded.{Excluded}
use Rattle.zcode.specs.Instruction.{Instruction}
use Rattle.zlist.specs.Labels.{IsInside}
use Rattle.zlist.specs.Listed.{spelled}
use Rattle.zinfo.specs.Unplayed.{IsMet, IsReached, Leads}

-- ---- what stands at each address

pub record IsStanding (memory : List ℕ) (a : ℕ) (found : Result Instruction DecodeError) : Type 0 where
  pub value : found ≡ spelled memory (pos a)
  pub inside : IfOk found (IsInside (pos a))

-- what stands at each of the first addresses
abbrev pub AreStanding : List ℕ → List (Result Instruction DecodeError) → Type 0
AreStanding memory table = (a : ℕ) → a < length table → IsStanding memory a (slice_index_or table a (Err Truncated))

-- how many bytes an operand takes together with those behind it, by its two bits of a type byte (Z 4.2, 4.4.3)
abbrev pub with_behind : ℕ → ℕ → ℕ
with_behind bits behind = if bits == 0 then 2 + behind else if bits == 3 then 0 else 1 + behind

-- ---- a walk

-- what a walk has found so far: whether each address of memory is reached, and which are to be followed
pub record Found : Type 0 where
  pub reached : List Bool
  pub waiting : List ℕ

-- whether a place was found, or lies outside memory, where nothing stands
abbrev pub has : Found → ℤ → Bool
has found (pos a) = slice_index_or found.reached a true
has found (negsuc _) = true

abbrev pub left : Bool → ℕ
left reached = if reached then 0 else 1

-- how much there may still be to do
abbrev pub work : Found → ℕ
work found = sum_by left found.reached + length found.waiting

-- all that was found is so
pub record IsSound (story : LoadedStory) (found : Found) : Type 0 where
  pub size : length found.reached ≡ length story.memory
  pub reached : (a : ℕ) → a < length story.memory → IsTrue (has found (pos a)) → IsReached story (pos a)
  pub waiting : (a : ℕ) → Contains found.waiting a → IsReached story (pos a)

-- where a place leads was found
abbrev pub IsFollowed : List ℕ → Found → ℤ → Type 0
IsFollowed memory found p = (q : ℤ) → Leads memory p q → IsTrue (has found q)

-- each address that was found was followed, but those that wait
abbrev pub IsComplete : List ℕ → Found → Type 0
IsComplete memory found = (a : ℕ) → a < length memory → IsTrue (has found (pos a)) → (Contains found.waiting a → ⊥) → IsFollowed memory found (pos a)

-- More is found, and what is new waits; and there is no more to do than before.
pub record Grows (old new : Found) : Type 0 where
  pub still : (p : ℤ) → IsTrue (has old p) → IsTrue (has new p)
  pub known : (a : ℕ) → IsTrue (has new (pos a)) → (Contains new.waiting a → ⊥) → IsTrue (has old (pos a))
  pub waiting : (a : ℕ) → Contains old.waiting a → Contains new.waiting a
  pub work : work new ≤ work old

-- and an address waits before all others
abbrev pub with_waiting : Found → ℕ → Found
with_waiting found a = record { reached = found.reached; waiting = found.waiting ++ a ∷ [] }

-- a walk that found nothing yet, in so many bytes
pub record IsBlank (size : ℕ) (found : Found) : Type 0 where
  pub size_is : length found.reached ≡ size
  pub none : (a : ℕ) → a < size → has found (pos a) ≡ false
  pub waiting : found.waiting ≡ []

-- a walk on its way from the first instruction
pub record IsOnWay (story : LoadedStory) (found : Found) : Type 0 where
  pub sound : IsSound story found
  pub begun : IsTrue (has found (pos (first_instruction story)))
  pub complete : IsComplete story.memory found

-- a walk that is at its end
pub record IsWalked (story : LoadedStory) (found : Found) : Type 0 where
  pub way : IsOnWay story found
  pub done : found.waiting ≡ []

-- ---- a count

-- so many are the addresses below an end at which the opcode is met
pub record IsCountTo (story : LoadedStory) (opcode : Excluded) (end count : ℕ) : Type 0 where
  pub places : List ℕ
  pub rising : IsStrictlyIncreasing places
  pub below : All (λ a. a < end) places
  pub all : (a : ℕ) → a < end → IsMet story opcode a → Contains places a
  pub only : (a : ℕ) → Contains places a → IsMet story opcode a
  pub many : count ≡ length places
  pub few : count ≤ end
