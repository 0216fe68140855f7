use Rattle.std.proofs.Common.{◌∙◌, ◌/◌, ◌^◌, ◌==◌, ℕ, ap, arith}
use Rattle.std.specs.Prelude.{bit_and}
use Rattle.zdomain.proofs.Bits.{both_set}
use Rattle.zdomain.proofs.marks.are_both_set.Goals as goal

pub returns : goal.returns
returns c =
    let value = c.from_le_bytes.ensures in
    ap (λ (n : ℕ). bit_and (n / 2 ^ c.args.bit) 3 == 3) (omega (arith, value))
    ∙ both_set c.args.first c.args.second c.args.bit c.ranges.first.fits c.requires
