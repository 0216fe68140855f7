use Rattle.std.proofs.Common.{◌≡◌, take}
use Rattle.std.specs.Prelude.{string_bytes}
use Rattle.zinfo.specs.Shown.{shown}
use Rattle.zinfo.proofs.shown.shown_text.Given as goal

-- the first bytes are shown
abbrev pub invariant-loop-byte : goal.invariant-loop-byte
invariant-loop-byte l = string_bytes l.text ≡ shown (take l.byte-index l.bytes)
