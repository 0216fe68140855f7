use Rattle.std.proofs.Common.{◌≡◌, drop}
use Rattle.zfront.specs.Sourced.{goes_on}
use Rattle.zfront.proofs.digits.number.Given as goal

-- the digits that are left go on behind those that were read
abbrev pub invariant-loop-byte : goal.invariant-loop-byte
invariant-loop-byte l = goes_on l.base 0 l.digits ≡ goes_on l.base l.number (drop l.byte-index l.digits)
