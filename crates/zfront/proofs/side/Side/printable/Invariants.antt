use Rattle.std.proofs.Common.{◌≡◌, take}
use Rattle.std.specs.Prelude.{map}
use Rattle.zfront.specs.Headings.{printable}
use Rattle.zfront.proofs.side.Side.printable.Given as goal

abbrev pub invariant-loop-byte : goal.invariant-loop-byte
invariant-loop-byte l = l.shown ≡ map printable (take l.byte-index l.byte-items)
