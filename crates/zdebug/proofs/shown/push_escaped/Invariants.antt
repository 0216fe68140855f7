use Rattle.std.proofs.Common.{◌≡◌, ◌++◌, take}
use Rattle.std.specs.Prelude.{string_bytes}
use Rattle.zdebug.specs.Shown.{escaped, shown}
use Rattle.zdebug.proofs.shown.push_escaped.Given as goal

-- the first bytes are shown and escaped behind what was there
abbrev pub invariant-loop-byte : goal.invariant-loop-byte
invariant-loop-byte l = string_bytes l.text ≡ string_bytes l.fn.text ++ escaped (shown (take l.byte-index l.bytes))
