use Rattle.std.proofs.Common.{◌≡◌, Some, refl, rules, arith}
use Rattle.std.specs.Prelude.{slice_get}
use Rattle.std.proofs.lemmas.Option.{slice_get_read}
use Rattle.zcert.specs.Listed.{seen}
use Rattle.zquetzal.specs.View.{seen_frame}
use Rattle.zrule.specs.Claims.{claims_of}
use Rattle.zjudge.proofs.Fitted.{global_where}
use Rattle.zjudge.proofs.frames.fits_beside.Goals as goal

pub returns-then-is_within-clause-value : goal.returns-then-is_within-clause-value
returns-then-is_within-clause-value g c =
    let claims = claims_of g.V.Domain.operations c.args.certificate.now in
    let at : slice_get c.args.certificate.now.globals c.args.global ≡ Some c.index-globals-global.result = search (rules, slice_get_read, arith) in
    let taken = global_where g.V.Domain.operations claims (seen c.args.listed.now) (seen_frame c.args.frame) c.args.values c.has_word.ensures c.args.global c.index-globals-global.result c.requires at in
    let fits = c.fits.ensures.value c.args.certificate.now in
    (λ t. taken.0 (c.if-is_within.ensures.0 refl, fits.0 t), λ all. fits.1 (taken.1 all).1)

pub returns-else-is_within-clause-value : goal.returns-else-is_within-clause-value
returns-else-is_within-clause-value g c =
    let claims = claims_of g.V.Domain.operations c.args.certificate.now in
    let at : slice_get c.args.certificate.now.globals c.args.global ≡ Some c.index-globals-global.result = search (rules, slice_get_read, arith) in
    let taken = global_where g.V.Domain.operations claims (seen c.args.listed.now) (seen_frame c.args.frame) c.args.values c.has_word.ensures c.args.global c.index-globals-global.result c.requires at in
    (λ t. absurd (let no = c.if-is_within.false in cc), λ all. c.is_within.ensures.1 (taken.1 all).0)
