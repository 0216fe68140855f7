-- A certificate: what it says of a story, over a type V of sets of words (own).
use Rattle.std.specs.Prelude.{ℕ, zero, suc, Bool, List, Option, Some, None, slice_get}
use Rattle.zstory.specs.declared.identity.Identity.{Identity}
use Rattle.zcert.specs.declared.edition.Edition.{Edition}
use Rattle.zcert.specs.declared.parts.Fact.{Fact}
use Rattle.zcert.specs.declared.parts.Range.{Range}
use Rattle.zcert.specs.declared.parts.Routine.{Routine}
use Rattle.zcert.specs.declared.limits.TheConstants.{USUAL_FRAMES}
use Rattle.zcert.specs.Editions.{edition_by}

-- what is said of a listed instruction: its routine, numbered from 1, with 0 for the main code, whether it is marked, so that its
-- rules aren't asked and it is tested in play, and the values that the locals and the slots of the stack, the bottom first, may have
-- before it
pub record Instruction (V : Type 0) : Type 0 where
  pub address : ℕ
  pub routine : ℕ
  pub is_marked : Bool
  pub locals : List V
  pub slots : List V

pub record Certificate (V : Type 0) : Type 0 where
  -- the story that it speaks of
  pub identity : Identity
  -- how many frames may stand above the first, where it names a limit
  pub limit : Option ℕ
  -- whether it may mark instructions
  pub marking : Bool
  -- whether it may state facts on globals
  pub stating : Bool
  -- the bytes that stay as they are
  pub ranges : List Range
  -- the values of each global, from variable 16 on
  pub globals : List V
  pub routines : List (Routine V)
  pub instructions : List (Instruction V)
  -- what it states of globals at places, besides
  pub facts : List (Fact V)

abbrev pub locals_there : {V : Type 0} → Option (Routine V) → ℕ
locals_there None = 0
locals_there (Some r) = r.locals

-- how many locals a routine has; the main code has none
abbrev pub locals_of : {V : Type 0} → List (Routine V) → ℕ → ℕ
locals_of routines zero = 0
locals_of routines (suc r) = locals_there (slice_get routines r)

-- what it has beside what all certificates have
abbrev pub edition_of : {V : Type 0} → Certificate V → Edition
edition_of c = edition_by c.limit c.marking c.stating

-- a limit that is named, or the usual one
abbrev pub limit_or_usual : Option ℕ → ℕ
limit_or_usual None = USUAL_FRAMES
limit_or_usual (Some n) = n

-- how many frames may stand above the first in a play with the certificate
abbrev pub frame_limit : {V : Type 0} → Certificate V → ℕ
frame_limit c = limit_or_usual c.limit
