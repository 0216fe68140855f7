use Rattle.std.proofs.Common.{◌≡◌, ◌++◌, take}
use Rattle.zperform.specs.Numbered.{numbered}
use Rattle.zperform.specs.Showing.{set_line}
use Rattle.zperform.proofs.claims.add_sets.Given as goal

-- the lines so far are those of the first sets
abbrev pub invariant-loop-index : goal.invariant-loop-index
invariant-loop-index g l = l.text.items ≡ l.fn.text.items ++ numbered (set_line g.V.Told.set_text l.name) l.first (take l.index l.sets)
