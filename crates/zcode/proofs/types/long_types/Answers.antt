use Rattle.std.proofs.Common.{◌≡◌, ◌/◌, ◌%◌, bit_and, arith}
use Rattle.std.proofs.lemmas.Nat.{and_mask}
use Rattle.zcode.proofs.TypeBytes.{long_byte}
use Rattle.zcode.proofs.types.long_types.Goals as goal

pub returns : goal.returns
returns c =
    let high : bit_and (c.args.first / 64) 1 ≡ c.args.first / 64 % 2 = and_mask (c.args.first / 64) 1 in
    let low : bit_and (c.args.first / 32) 1 ≡ c.args.first / 32 % 2 = and_mask (c.args.first / 32) 1 in
    rw (high, low) (long_byte (c.args.first / 64 % 2) (c.args.first / 32 % 2) (omega arith) (omega arith))
