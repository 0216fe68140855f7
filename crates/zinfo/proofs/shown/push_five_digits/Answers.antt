use Rattle.std.proofs.Common.{arith}
use Rattle.std.specs.Prelude.{string_bytes}
use Rattle.zinfo.proofs.Ascii.{one_more}
use Rattle.zinfo.proofs.shown.push_five_digits.Goals as goal

pub loop-digit-preserved : goal.loop-digit-preserved
loop-digit-preserved c =
    one_more c.five_digits-digits.result (string_bytes c.args.text.now) (string_bytes c.loop-digit.text) (string_bytes c.push.new.self) c.loop-digit.digit-index c.from.result c.args.address _
    c.requires c.five_digits-digits.ensures (omega (arith, c.loop-digit-test.true)) c.from.ensures c.loop-digit.invariant c.in_ok-push.ensures.bytes
