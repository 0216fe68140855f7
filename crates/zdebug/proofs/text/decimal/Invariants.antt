use Rattle.std.proofs.Common.{◌≡◌, drop}
use Rattle.zdebug.specs.Words.{goes_on}
use Rattle.zdebug.proofs.text.decimal.Given as goal

-- the digits that are left go on behind those that were read
abbrev pub invariant-loop-byte : goal.invariant-loop-byte
invariant-loop-byte l = goes_on 0 l.digits ≡ goes_on l.number (drop l.byte-index l.digits)
