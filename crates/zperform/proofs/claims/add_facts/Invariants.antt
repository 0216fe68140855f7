use Rattle.std.proofs.Common.{◌≡◌, ◌++◌, take}
use Rattle.std.specs.Prelude.{flat_map}
use Rattle.zperform.specs.Showing.{fact_line}
use Rattle.zperform.proofs.claims.add_facts.Given as goal

-- the lines so far are those of the first facts
abbrev pub invariant-loop-fact : goal.invariant-loop-fact
invariant-loop-fact g l = l.text.items ≡ l.fn.text.items ++ flat_map (fact_line g.V.Told.set_text) (take l.fact-index l.facts)
