use Rattle.std.proofs.Common.{◌≡◌, length, arith}
use Rattle.zlist.proofs.Marking.{blank_is}
use Rattle.zlist.proofs.walk.Walk.new.Goals as goal

pub returns : goal.returns
returns c = λ story whole.
    let size : length c.in_ok-vec.field-0.items ≡ c.args.size = omega (arith, c.in_ok-vec.ensures.len, c.in_ok-vec.field-0.ok.0) in
    let flags : length c.in_ok-vec-2.field-0.items ≡ c.args.size = omega (arith, c.in_ok-vec-2.ensures.len, c.in_ok-vec-2.field-0.ok.0) in
    blank_is c.in_ok-vec.field-0.items c.in_ok-vec-2.field-0.items c.new.result.items c.args.size story size flags c.in_ok-vec.ensures.items c.in_ok-vec-2.ensures.items c.new.ensures.items whole
