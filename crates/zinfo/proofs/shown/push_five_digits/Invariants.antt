use Rattle.std.proofs.Common.{◌≡◌, ◌++◌, take}
use Rattle.std.specs.Prelude.{string_bytes}
use Rattle.zinfo.proofs.shown.push_five_digits.Given as goal

-- the first digits are added
abbrev pub invariant-loop-digit : goal.invariant-loop-digit
invariant-loop-digit l = string_bytes l.text ≡ string_bytes l.fn.text ++ take l.digit-index l.digit-items
