use Rattle.std.proofs.Common.{◌≡◌, ◌++◌, take}
use Rattle.zperform.specs.Numbered.{numbered}
use Rattle.zperform.specs.Showing.{routine_line}
use Rattle.zperform.proofs.claims.add_routines.Given as goal

-- the lines so far are those of the first routines
abbrev pub invariant-loop-index : goal.invariant-loop-index
invariant-loop-index g l = l.text.items ≡ l.fn.text.items ++ numbered (routine_line g.V.Told.set_text) 1 (take l.index l.routines)
