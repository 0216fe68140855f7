-- Jumps and branches lead a short way.
use Rattle.std.proofs.Common.{◌≡◌, zero, suc, ℤ, pos, negsuc, ◌≤ℤ◌, ◌-ℤ◌, FitsSigned, arith}
use Rattle.std.proofs.lemmas.Int.{ints}
use Rattle.std.specs.Int.{w16}
use Rattle.zcode.specs.declared.instr.Destination.TheVariants.{Relative}
use Rattle.zcode.specs.Instruction.{destination}

pub short_way : (offset d : ℤ) → FitsSigned w16 offset → Relative d ≡ destination offset → (negsuc 100000 ≤ℤ d) × (d ≤ℤ pos 100000)
short_way (pos zero) d fits e = absurd cc
short_way (pos (suc zero)) d fits e = absurd cc
short_way (pos (suc (suc n))) d fits e = let f : d ≡ pos (suc (suc n)) -ℤ pos 2 = cc in let g = fits.sfits in (omega (arith, ints), omega (arith, ints))
short_way (negsuc n) d fits e = let f : d ≡ negsuc n -ℤ pos 2 = cc in let g = fits.sfits in (omega (arith, ints), omega (arith, ints))

pub ruleset short = (short_way)
