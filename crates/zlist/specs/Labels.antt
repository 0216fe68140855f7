-- Whose code places are found to be, and how far that was followed (own).
use Rattle.std.specs.Prelude.{◌≡◌, ℕ, suc, All, ◌+◌, ◌*◌, ◌<◌, ◌≤◌, ◌==◌, ℤ, pos, negsuc, ◌≤ℤ◌, ◌<ℤ◌, int_le, Bool, true, false, IsTrue, List, [], ◌∷◌, ◌++◌, length, Option, Some, None, IfSome, Ok, if◌then◌else◌, slice_index, slice_index_or, ◌≢◌, ◌⊎◌, sum_by}
use Rattle.std.specs.Result.{result_ok}
use Rattle.std.specs.List.{Contains, list_any}
use Rattle.std.specs.List.Sorted.{IsStrictlyIncreasing}
use Rattle.zstory.specs.LoadedStory.{LoadedStory, first_instruction}
use Rattle.zcode.specs.declared.error.DecodeError.TheVariants.{Truncated}
use Rattle.zcode.specs.Instruction.{Instruction}
use Rattle.zlist.specs.declared.record.Record.{Record}
use Rattle.zlist.specs.Listing.{addresses_of}
use Rattle.zlist.specs.declared.owner.Owner.{Owner}
use Rattle.zlist.specs.declared.owner.Owner.TheVariants.{Main, Routine}
use Rattle.zlist.specs.declared.owner.Label.{Label}
use Rattle.zlist.specs.declared.owner.Label.TheVariants.{Nobody, One, Several}
use Rattle.zlist.specs.Listed.{Belongs, IsCalled, IsListed, IsUnspelled, aside_place, begins, behind, callee, next_place, spelled}

-- ---- labels

abbrev pub same : Owner → Owner → Bool
same Main Main = true
same (Routine a) (Routine b) = a == b
same _ _ = false

-- whose code places are of which each of two labels tells
abbrev pub joined : Label → Label → Label
joined Nobody label = label
joined (One x) Nobody = One x
joined Several Nobody = Several
joined (One x) (One y) = if same x y then One x else Several
joined _ _ = Several

-- whether the code may be that owner's
abbrev pub has : Label → Owner → Bool
has Nobody _ = false
has (One x) y = same x y
has Several _ = true

-- a label tells of all that another tells of
abbrev pub Covers : Label → Label → Type 0
Covers one other = (x : Owner) → IsTrue (has other x) → IsTrue (has one x)

-- how much a label may still tell
abbrev pub left : Label → ℕ
left Nobody = 2
left (One _) = 1
left Several = 0

-- what a label says of a place is so
abbrev pub IsSo : LoadedStory → Label → ℤ → Type 0
IsSo story Nobody p = Unit {0}
IsSo story (One x) p = Belongs story x p
IsSo story Several p = (x y : Owner) × (x ≢ y) × Belongs story x p × Belongs story y p

-- ---- places

-- the instruction lies in a memory of at most 131,072 bytes
pub record IsInside (p : ℤ) (i : Instruction) : Type 0 where
  pub above : pos 0 ≤ℤ p
  pub below : behind p i ≤ℤ pos 131072

-- what stands at an address, if an instruction does
pub record IsStanding (memory : List ℕ) (a : ℕ) (i : Option Instruction) : Type 0 where
  pub value : i ≡ result_ok (spelled memory (pos a))
  pub inside : IfSome i (IsInside (pos a))

-- what stands at each of the first addresses
abbrev pub AreStanding : List ℕ → List (Option Instruction) → Type 0
AreStanding memory table = (a : ℕ) → a < length table → IsStanding memory a (slice_index_or table a None)

-- no more than 16 bits away
pub record IsNear (distance : ℤ) : Type 0 where
  pub above : negsuc 32769 ≤ℤ distance
  pub below : distance <ℤ pos 32768

-- the lower of a place and of the lowest so far, if there is one
abbrev pub lowered : Option ℤ → ℤ → Option ℤ
lowered None p = Some p
lowered (Some lowest) p = if int_le lowest p then Some lowest else Some p

-- the lower of two, if there is one
abbrev pub lower_of : Option ℤ → Option ℤ → Option ℤ
lower_of lowest None = lowest
lower_of lowest (Some p) = lowered lowest p

-- whether a place is at least the lowest one
abbrev pub reaches : Option ℤ → ℤ → Bool
reaches None p = false
reaches (Some lowest) p = int_le lowest p

-- ---- a walk

-- What a walk has found so far: whose code each address of memory is, which of them are called, and which are to be followed. Of the
-- places outside memory, where nothing stands, the lowest tell enough: of those below memory to which code leads, of those behind
-- it, and of those behind it that are called.
pub record Found : Type 0 where
  pub labels : List Label
  pub called : List Bool
  pub waiting : List ℕ
  pub below : Option ℤ
  pub beyond : Option ℤ
  pub absent : Option ℤ

abbrev pub label_at : Found → ℕ → Label
label_at found a = slice_index_or found.labels a Nobody

abbrev pub is_called : Found → ℕ → Bool
is_called found a = slice_index_or found.called a false

-- whether a place outside memory lies on its side no lower than the lowest that was found
abbrev pub is_noted : Found → ℤ → Bool
is_noted found (pos a) = reaches found.beyond (pos a)
is_noted found (negsuc n) = reaches found.below (negsuc n)

-- the call is known, or that of a lower place behind memory
abbrev pub IsKnown : Found → ℕ → Type 0
IsKnown found a = IsTrue (is_called found a) ⊎ IsTrue (reaches found.absent (pos a))

-- how much there may still be to do
abbrev pub work : Found → ℕ
work found = 2 * sum_by left found.labels + length found.waiting

-- the address has at least this label, or the place lies outside memory and is noted
abbrev pub Has : Found → Label → ℤ → Type 0
Has found label p = ((a : ℕ) × (p ≡ pos a) × Covers (label_at found a) label) ⊎ IsTrue (is_noted found p)

-- code leads to the place, and nothing stands there
abbrev pub IsLost : LoadedStory → ℤ → Type 0
IsLost story p = IsUnspelled story p Truncated

-- all that was found is so
pub record IsSound (story : LoadedStory) (found : Found) : Type 0 where
  pub size : length found.labels ≡ length story.memory
  pub flags : length found.called ≡ length story.memory
  pub labels : (a : ℕ) → IsSo story (label_at found a) (pos a)
  pub called : (a : ℕ) → IsTrue (is_called found a) → IsCalled story a
  pub waiting : (a : ℕ) → Contains found.waiting a → label_at found a ≢ Nobody
  pub below : IfSome found.below (λ p. (p <ℤ pos 0) × IsLost story p)
  pub beyond : IfSome found.beyond (λ p. (pos (length story.memory) ≤ℤ p) × IsLost story p)
  pub absent : IfSome found.absent (λ p. (a : ℕ) × (p ≡ pos a) × (length story.memory ≤ a) × IsCalled story a)

-- what is called is known, and where it begins
pub record IsEntered (memory : List ℕ) (found : Found) (a : ℕ) : Type 0 where
  pub called : IsKnown found a
  pub begun : (q : ℕ) → begins memory a ≡ Ok q → Has found (One (Routine a)) (pos q)

-- where an instruction leads has this label, and what it calls is entered
pub record IsFollowed (memory : List ℕ) (found : Found) (label : Label) (p : ℤ) (i : Instruction) : Type 0 where
  pub next : IfSome (next_place p i) (Has found label)
  pub aside : IfSome (aside_place p i) (Has found label)
  pub calls : IfSome (callee i.opcode i.operands) (IsEntered memory found)

-- each address with a label was followed, but those that wait
abbrev pub IsComplete : List ℕ → Found → Type 0
IsComplete memory found = (a : ℕ) (i : Instruction) → (Contains found.waiting a → ⊥) → label_at found a ≢ Nobody → spelled memory (pos a) ≡ Ok i → IsFollowed memory found (label_at found a) (pos a) i

-- Labels tell of more, and where one does its address waits; and there is no more to do than before.
pub record Grows (old new : Found) : Type 0 where
  pub covers : (a : ℕ) → Covers (label_at new a) (label_at old a)
  pub changed : (a : ℕ) → (Contains new.waiting a → ⊥) → label_at new a ≡ label_at old a
  pub waiting : (a : ℕ) → Contains old.waiting a → Contains new.waiting a
  pub known : (a : ℕ) → IsKnown old a → IsKnown new a
  pub noted : (p : ℤ) → IsTrue (is_noted old p) → IsTrue (is_noted new p)
  pub work : work new ≤ work old

-- and an address waits before all others
abbrev pub with_waiting : Found → ℕ → Found
with_waiting found a = record { labels = found.labels; called = found.called; waiting = found.waiting ++ a ∷ []; below = found.below; beyond = found.beyond; absent = found.absent }

-- a walk on its way from the first instruction
pub record IsOnWay (story : LoadedStory) (found : Found) : Type 0 where
  pub sound : IsSound story found
  pub begun : Has found (One Main) (pos (first_instruction story))
  pub complete : IsComplete story.memory found

-- a walk that is at its end
pub record IsWalked (story : LoadedStory) (found : Found) : Type 0 where
  pub way : IsOnWay story found
  pub done : found.waiting ≡ []

-- the routines that are called, of those with a packed address below a number (Z 1.2.3)
pub record AreFound (story : LoadedStory) (found : Found) (packed : ℕ) (xs : List ℕ) : Type 0 where
  pub rising : IsStrictlyIncreasing xs
  pub below : All (λ a. a < 2 * packed) xs
  pub few : length xs < packed
  pub has : (m : ℕ) → suc m < packed → IsTrue (is_called found (2 * suc m)) → Contains xs (2 * suc m)
  pub only : (a : ℕ) → Contains xs a → IsCalled story a

-- the number of an owner, by a table of the routines' numbers
abbrev pub number_in : List ℕ → Owner → ℕ
number_in numbers Main = 0
number_in numbers (Routine a) = slice_index numbers a

-- the record is of a listed instruction, with the number of its owner
pub record IsNumbered (story : LoadedStory) (numbers : List ℕ) (r : Record) : Type 0 where
  pub spelled : spelled story.memory (pos r.address) ≡ Ok r.instruction
  pub owner : Owner
  pub number : r.routine ≡ number_in numbers owner
  pub belongs : Belongs story owner (pos r.address)

-- the records of all that is listed below an address
pub record AreListed (story : LoadedStory) (numbers : List ℕ) (end : ℕ) (records : List Record) : Type 0 where
  pub rising : IsStrictlyIncreasing (addresses_of records)
  pub below : All (λ r. r.address < end) records
  pub each : All (IsNumbered story numbers) records
  pub all : (a : ℕ) → a < end → IsListed story (pos a) → IsTrue (list_any (λ r. r.address == a) records)
