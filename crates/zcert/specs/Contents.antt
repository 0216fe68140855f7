-- How the code keeps instructions: the sets of all of them stand in one list of cells, each instruction's by where they begin.
use Rattle.std.specs.Prelude.{◌≡◌, ℕ, ◌+◌, ◌≤◌, Bool, List, length, take, drop}
use Rattle.std.specs.List.{AllByRecursion}
use Rattle.zcert.specs.declared.instructions.Stored.{Stored}
use Rattle.zcert.specs.Certificate.{Instruction}
use Rattle.zcert.specs.Format.{Format}
use Rattle.zcert.specs.Keeping.{Keeping, Keep, Holds}

-- what clauses see of it: the instructions that are whole, the sets of the newest so far, and for how many more there is room
pub record Kept (V : Type 0) : Type 0 where
  pub instructions : List (Instruction V)
  pub values : List V
  pub room : ℕ

-- whether what is stored is marked
abbrev pub has_mark : Stored → Bool
has_mark s = s.is_marked

module _ {V C : Type 0} (keeping : Keeping V C) where
  -- the sets of one instruction
  abbrev pub values_of : List C → Stored → List V
  values_of cells s = keeping.sets (s.locals + s.height) (drop s.start cells)

  -- an instruction, with its sets
  abbrev pub stored_instruction : List C → Stored → Instruction V
  stored_instruction cells s = record { address = s.address; routine = s.routine; is_marked = s.is_marked; locals = take s.locals (values_of cells s); slots = drop s.locals (values_of cells s) }

module _ {V C : Type 0} (format : Format V) (keeping : Keeping V C) where
  -- its sets are kept from where they begin
  pub record LiesIn (cells : List C) (s : Stored) : Type 0 where
    pub begun : s.start ≤ length cells
    pub holds : Holds format keeping (s.locals + s.height) (drop s.start cells)

  abbrev pub AllLieIn : List C → List Stored → Type 0
  AllLieIn cells stored = AllByRecursion (LiesIn cells) stored

  -- so many sets of the newest instruction have come, and nothing stands behind them
  pub record AreNewest (start came : ℕ) (cells : List C) : Type 0 where
    pub begun : start ≤ length cells
    pub sets : List V
    pub counted : length sets ≡ came
    pub keep : Keep format keeping sets (drop start cells)

  -- all that is kept
  pub record AreHeld (stored : List Stored) (cells : List C) (start came : ℕ) : Type 0 where
    pub lie : AllLieIn cells stored
    pub newest : AreNewest start came cells
