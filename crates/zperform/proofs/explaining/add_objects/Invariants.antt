use Rattle.std.proofs.Common.{◌≡◌, ◌++◌, take}
use Rattle.std.specs.Prelude.{flat_map}
use Rattle.zjson.specs.Answers.{explained_line}
use Rattle.zperform.proofs.explaining.add_objects.Given as goal

-- the objects of the first codes were added
abbrev pub invariant-loop-entry : goal.invariant-loop-entry
invariant-loop-entry l = l.text.items ≡ l.fn.text.items ++ flat_map (λ e. explained_line e.0.now e.1.now) (take l.entry-index l.entries)
