use Rattle.std.proofs.Common.{◌≡◌, ◌++◌, take}
use Rattle.std.specs.Prelude.{flat_map}
use Rattle.zexplain.specs.Short.{heading}
use Rattle.zexplain.proofs.short.push_headings.Given as goal

-- the first entries have their headings
abbrev pub invariant-loop-entry : goal.invariant-loop-entry
invariant-loop-entry l = l.text.items ≡ l.fn.text.items ++ flat_map (λ e. heading e.1.now) (take l.entry-index l.entries)
