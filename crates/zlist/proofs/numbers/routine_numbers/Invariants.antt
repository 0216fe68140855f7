use Rattle.std.proofs.Common.{◌≡◌, ◌<◌, All, vec_len}
use Rattle.zlist.specs.Numbering.{IsNumbering}
use Rattle.zlist.proofs.numbers.routine_numbers.Given as goal

-- the routines so far have their numbers, in a table that is long enough for each
abbrev pub invariant-loop-index : goal.invariant-loop-index
invariant-loop-index l = (IsNumbering l.routines l.index l.table.items) × (vec_len l.table ≡ l.end) × All (λ a. a < l.end) l.routines
