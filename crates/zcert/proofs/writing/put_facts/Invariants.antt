use Rattle.std.proofs.Common.{◌≡◌, ◌++◌, length, take}
use Rattle.std.specs.List.{flat_map}
use Rattle.zcert.specs.Numbers.{number}
use Rattle.zcert.specs.Numbers as numbers
use Rattle.zcert.specs.Spelling.{fact_bytes}
use Rattle.zcert.proofs.writing.put_facts.Given as goal

abbrev pub invariant-loop-fact : goal.invariant-loop-fact
invariant-loop-fact g l = l.out.items ≡ (l.fn.out.items ++ number numbers.FactCount (length l.facts)) ++ flat_map (fact_bytes g.V.Spelled.format) (take l.fact-index l.facts)
