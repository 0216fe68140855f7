-- What a certificate says of a story, as the rules see it: over a type V of sets of words (own).
use Rattle.std.specs.Prelude.{ℕ, zero, suc, Bool, List, reverse, Option, Some, None, option_map, slice_get}
use Rattle.zdomain.specs.Domain.{SetOperations}
use Rattle.zcert.specs.declared.parts.Fact.{Fact}
use Rattle.zcert.specs.declared.parts.Routine.{Routine}
use Rattle.zcert.specs.Facts.{facts_at}
use Rattle.zcert.specs.Certificate.{Instruction as Listed, Certificate}
use Rattle.zcert.specs.Listed.{listed_at, routine_at}
use Rattle.zflow.specs.Transfer.{Shape, with_facts}
use Rattle.zcert.specs.declared.parts.Range.{Range}
use Rattle.zstory.specs.LoadedStory.{LoadedStory}
use Rattle.zpairs.specs.Frozen.{FrozenStory, frozen_by}

-- what is said of a listed place: its routine, numbered from 1, with 0 for the main code, and the newest frame before it
pub record Entry (V : Type 0) : Type 0 where
  pub routine : ℕ
  pub shape : Shape V

pub record Claims (V : Type 0) : Type 0 where
  -- the ranges of places that stay as they are, beside those that nothing could change
  pub ranges : List Range
  -- the values that each global may have, from variable 16 on
  pub globals : List V
  -- what is said of a place, where it is listed
  pub entry : ℕ → Option (Entry V)
  -- what is stated of globals at a place besides
  pub facts : ℕ → List (Fact V)
  -- the values that a routine may give, by its number
  pub result : ℕ → V
  -- the index of the routine that begins at a place, if one does; its number is one more
  pub routine_at : ℕ → Option ℕ

-- a place that is said to stay as it is
abbrev pub frozen_in : {V : Type 0} → Claims V → ℕ → Bool
frozen_in claims = frozen_by claims.ranges

-- a story, with those places
abbrev pub told_of : {V : Type 0} → Claims V → LoadedStory → FrozenStory
told_of claims story = record { story = story; ranges = claims.ranges }

-- the values that each global may have at a place
abbrev pub globals_at : {V : Type 0} → Claims V → ℕ → List V
globals_at claims p = with_facts claims.globals (claims.facts p)

-- ---- the claims of a certificate

-- what is said of a listed instruction; a certificate has the bottom slot first
abbrev pub entry_of : {V : Type 0} → Listed V → Entry V
entry_of i = record { routine = i.routine; shape = record { locals = i.locals; slots = reverse i.slots } }

abbrev pub result_or : {V : Type 0} → V → Option (Routine V) → V
result_or unknown None = unknown
result_or unknown (Some r) = r.result

-- what the routine of a number may give: the main code, and a routine that isn't there, any word
abbrev pub result_of : {V : Type 0} → V → List (Routine V) → ℕ → V
result_of unknown routines zero = unknown
result_of unknown routines (suc r) = result_or unknown (slice_get routines r)

abbrev pub claims_of : {V : Type 0} → SetOperations V → Certificate V → Claims V
claims_of o c = record {
  ranges = c.ranges;
  globals = c.globals;
  entry = λ p. option_map entry_of (listed_at c.instructions p);
  facts = facts_at c.facts;
  result = result_of o.any c.routines;
  routine_at = routine_at c.routines;
}
