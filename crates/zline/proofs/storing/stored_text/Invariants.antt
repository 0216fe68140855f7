use Rattle.std.proofs.Common.{◌≡◌, map, take}
use Rattle.zline.specs.Storing.{stored_byte}
use Rattle.zline.proofs.storing.stored_text.Given as goal

abbrev pub invariant-loop-byte : goal.invariant-loop-byte
invariant-loop-byte l = l.text.items ≡ map stored_byte (take l.byte-index l.byte-items)
