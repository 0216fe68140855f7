-- No operation reads more than two operands.
use Rattle.std.proofs.Common.{◌≡◌, ℕ, Bool, List, Some, None, refl}
use Rattle.zpairs.specs.Frozen.{FrozenStory}
use Rattle.zcode.specs.declared.instr.Operand.{Operand}
use Rattle.zcode.specs.declared.operation.Operation.{Operation}
use Rattle.zcode.specs.declared.operation.Operation.TheVariants.{Unary, Binary, Compare, Count, Store, Load, Jump, Verify, PrintChar, PrintNumber, Print, NewLine, Nop, Quit, Return, PrintReturn, Call, Inside, TestAttribute, Follow, SetAttribute, ClearAttribute, Insert, Remove, Property, PropertyLength, SetProperty, PrintObject, PrintAt, ShowStatus, LoadArray, StoreArray, Random, ReadLine, Save, Restore, Restart}
use Rattle.zdomain.specs.Domain.{SetOperations}
use Rattle.zflow.specs.Transfer.{Shape, demands_of, outcome_of}
use Rattle.zflow.specs.Kept.{both}

module _ {V : Type 0} (o : SetOperations V) where
  pub demands_read : (operation : Operation) (arg : ℕ → V) → demands_of o operation arg ≡ demands_of o operation (both (arg 0) (arg 1))
  unfolding demands_of
  demands_read (Unary op) arg = refl
  demands_read (Binary op) arg = refl
  demands_read (Compare q) arg = refl
  demands_read (Count op question) arg = refl
  demands_read Store arg = refl
  demands_read Load arg = refl
  demands_read Jump arg = refl
  demands_read Verify arg = refl
  demands_read PrintChar arg = refl
  demands_read PrintNumber arg = refl
  demands_read Print arg = refl
  demands_read NewLine arg = refl
  demands_read Nop arg = refl
  demands_read Quit arg = refl
  demands_read Return arg = refl
  demands_read PrintReturn arg = refl
  demands_read Call arg = refl
  demands_read Inside arg = refl
  demands_read TestAttribute arg = refl
  demands_read (Follow link) arg = refl
  demands_read SetAttribute arg = refl
  demands_read ClearAttribute arg = refl
  demands_read Insert arg = refl
  demands_read Remove arg = refl
  demands_read (Property question) arg = refl
  demands_read PropertyLength arg = refl
  demands_read SetProperty arg = refl
  demands_read PrintObject arg = refl
  demands_read (PrintAt addressing) arg = refl
  demands_read ShowStatus arg = refl
  demands_read (LoadArray width) arg = refl
  demands_read (StoreArray width) arg = refl
  demands_read Random arg = refl
  demands_read ReadLine arg = refl
  demands_read Save arg = refl
  demands_read Restore arg = refl
  demands_read Restart arg = refl

  pub outcome_read : (globals : List V) (told : FrozenStory) (operation : Operation) (operands : List Operand) (arg : ℕ → V) (e : Shape V) (c : Bool) → outcome_of o globals told operation operands arg e c ≡ outcome_of o globals told operation operands (both (arg 0) (arg 1)) e c
  unfolding outcome_of
  outcome_read globals told (Unary op) operands arg e c = refl
  outcome_read globals told (Binary op) operands arg e c = refl
  outcome_read globals told (Compare q) operands arg e c = refl
  outcome_read globals told (Count op None) operands arg e c = refl
  outcome_read globals told (Count op (Some q)) operands arg e c = refl
  outcome_read globals told Store operands arg e c = refl
  outcome_read globals told Load operands arg e c = refl
  outcome_read globals told Jump operands arg e c = refl
  outcome_read globals told Verify operands arg e c = refl
  outcome_read globals told PrintChar operands arg e c = refl
  outcome_read globals told PrintNumber operands arg e c = refl
  outcome_read globals told Print operands arg e c = refl
  outcome_read globals told NewLine operands arg e c = refl
  outcome_read globals told Nop operands arg e c = refl
  outcome_read globals told Quit operands arg e c = refl
  outcome_read globals told Return operands arg e c = refl
  outcome_read globals told PrintReturn operands arg e c = refl
  outcome_read globals told Call operands arg e c = refl
  outcome_read globals told Inside operands arg e c = refl
  outcome_read globals told TestAttribute operands arg e c = refl
  outcome_read globals told (Follow link) operands arg e c = refl
  outcome_read globals told SetAttribute operands arg e c = refl
  outcome_read globals told ClearAttribute operands arg e c = refl
  outcome_read globals told Insert operands arg e c = refl
  outcome_read globals told Remove operands arg e c = refl
  outcome_read globals told (Property question) operands arg e c = refl
  outcome_read globals told PropertyLength operands arg e c = refl
  outcome_read globals told SetProperty operands arg e c = refl
  outcome_read globals told PrintObject operands arg e c = refl
  outcome_read globals told (PrintAt addressing) operands arg e c = refl
  outcome_read globals told ShowStatus operands arg e c = refl
  outcome_read globals told (LoadArray width) operands arg e c = refl
  outcome_read globals told (StoreArray width) operands arg e c = refl
  outcome_read globals told Random operands arg e c = refl
  outcome_read globals told ReadLine operands arg e c = refl
  outcome_read globals told Save operands arg e c = refl
  outcome_read globals told Restore operands arg e c = refl
  outcome_read globals told Restart operands arg e c = refl
