use Rattle.std.proofs.Common.{◌≡◌, ◌+◌, ◌-◌, rules, arith}
use Rattle.zcert.specs.Listed.{seen}
use Rattle.zquetzal.specs.View.{seen_frame}
use Rattle.zrule.specs.Claims.{claims_of}
use Rattle.zjudge.proofs.Fitted.{with_same}
use Rattle.zjudge.proofs.frames.fits_with.Goals as goal

pub returns-then-variable-eq0-clause-value : goal.returns-then-variable-eq0-clause-value
returns-then-variable-eq0-clause-value g c =
    let o = g.V.Domain.operations in
    let certificate = c.args.certificate.now in
    with_same o (claims_of o certificate) (seen c.args.listed.now) (seen_frame c.args.frame) c.args.values c.fits_pushed.result 0 c.args.variable c.if-variable-eq0.true (c.fits_pushed.ensures.value certificate)

pub returns-then-variable-lt-FIRST_GLOBAL-clause-value : goal.returns-then-variable-lt-FIRST_GLOBAL-clause-value
returns-then-variable-lt-FIRST_GLOBAL-clause-value g c =
    let o = g.V.Domain.operations in
    let certificate = c.args.certificate.now in
    let one_more : c.args.variable ≡ c.from.result - 1 + 1 = search (rules, arith) in
    with_same o (claims_of o certificate) (seen c.args.listed.now) (seen_frame c.args.frame) c.args.values c.fits_stored.result (c.from.result - 1 + 1) c.args.variable one_more (c.fits_stored.ensures.value certificate)
