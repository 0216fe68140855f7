use Rattle.std.proofs.Common.{◌≡◌, ◌++◌, take}
use Rattle.std.specs.Prelude.{string_bytes}
use Rattle.zdebug.specs.Shown.{shown}
use Rattle.zdebug.proofs.shown.push_shown.Given as goal

-- the first bytes are shown behind what was there
abbrev pub invariant-loop-byte : goal.invariant-loop-byte
invariant-loop-byte l = string_bytes l.text ≡ string_bytes l.fn.text ++ shown (take l.byte-index l.bytes)
