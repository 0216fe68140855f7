use Rattle.std.proofs.Common.{refl}
use Rattle.zcert.specs.Listed.{seen}
use Rattle.zquetzal.specs.View.{seen_frame}
use Rattle.zrule.specs.Claims.{claims_of}
use Rattle.zjudge.proofs.Fitted.{fits_where}
use Rattle.zjudge.proofs.frames.fits.Goals as goal

pub returns-then-are_in-clause-value : goal.returns-then-are_in-clause-value
returns-then-are_in-clause-value g c certificate =
    let both = fits_where g.V.Domain.operations (claims_of g.V.Domain.operations certificate) (seen c.args.listed.now) (seen_frame c.args.frame) in
    (λ t. both.0 (c.if-are_in.ensures.value.0 refl, c.are_in-then-are_in.ensures.value.0 t), λ fits. c.are_in-then-are_in.ensures.value.1 (both.1 fits).1)
