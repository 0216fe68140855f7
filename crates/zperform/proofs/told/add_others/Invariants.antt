use Rattle.std.proofs.Common.{◌≡◌, ◌++◌, take}
use Rattle.std.specs.Prelude.{flat_map}
use Rattle.zperform.specs.Showing.{other_text}
use Rattle.zperform.proofs.told.add_others.Given as goal

-- the first words were added
abbrev pub invariant-loop-word : goal.invariant-loop-word
invariant-loop-word l = l.text.items ≡ l.fn.text.items ++ flat_map other_text (take l.word-index l.words)
