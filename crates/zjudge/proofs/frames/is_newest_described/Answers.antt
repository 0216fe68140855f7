use Rattle.std.proofs.Common.{◌≡◌, Some, ap}
use Rattle.std.specs.Prelude.{Option, option_map}
use Rattle.zcert.specs.Certificate.{Instruction}
use Rattle.zcert.specs.Listed.{seen}
use Rattle.zquetzal.specs.View.{seen_frame}
use Rattle.zstate.specs.Saves.{taken_frame}
use Rattle.zrule.specs.Claims.{claims_of, entry_of}
use Rattle.zjudge.specs.Frames.{GoesOnAt}
use Rattle.zjudge.specs.View.{entry_at, instruction_or, waiting_of}
use Rattle.zjudge.proofs.Rising.{newest_where}
use Rattle.zjudge.proofs.frames.is_newest_described.Goals as goal

pub returns-in-Some-clause-value : goal.returns-in-Some-clause-value
returns-in-Some-clause-value g c =
    let o = g.V.Domain.operations in
    let certificate = c.args.certificate.now in
    let claims = claims_of o certificate in
    let below = option_map (waiting_of certificate.instructions) c.args.below in
    let frame = taken_frame (seen_frame c.args.frame) in
    let same : entry_at certificate.instructions c.in-Some.index ≡ entry_of (seen c.instruction.result) = ap (λ (i : Option (Instruction g.row.V.Denot)). entry_of (instruction_or i)) c.instruction.ensures.value in
    let goes : GoesOnAt o claims below frame c.args.place (entry_of (seen c.instruction.result)) = rw same at c.in-Some.ensures.some in
    let newest = newest_where o claims below frame c.args.place (entry_of (seen c.instruction.result)) goes in
    let fits = c.fits.ensures.value certificate in
    (λ t. newest.0 (fits.0 t), λ all. fits.1 (newest.1 all))
