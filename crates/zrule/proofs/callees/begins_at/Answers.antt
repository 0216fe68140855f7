use Rattle.std.proofs.Common.{◌≡◌, ◌+◌, ◌*◌, Some, arith, ap, sym}
use Rattle.std.specs.Prelude.{option_map}
use Rattle.zcert.specs.Listed.{seen}
use Rattle.zrule.specs.Blocks.{sets_of}
use Rattle.zrule.specs.Claims.{claims_of, entry_of}
use Rattle.zrule.proofs.Calling.{begins_by}
use Rattle.zrule.proofs.callees.begins_at.Goals as goal

pub returns-then-not-opens : goal.returns-then-not-opens
returns-then-not-opens g c =
    let claims = claims_of g.V.Domain.operations c.args.certificate.now in
    let arguments = sets_of c.args.arguments in
    let first = entry_of (seen c.in-Some-instruction_at.first) in
    let code = c.args.place + 1 + 2 * c.from.result in
    let listed : claims.entry code ≡ Some first = ap (option_map entry_of) (sym c.in-Some-instruction_at.ensures.value) in
    let told = begins_by g.V.Domain.operations claims c.args.story.now arguments c.args.place c.in-Some.index first c.memory-memory.result.now c.byte_at-count.result code c.memory-memory.ensures.value c.byte_at-count.ensures (let e = c.from.ensures in omega (arith, e)) (sym c.in-Some.ensures.value) listed in
    (λ t. absurd cc, λ b. absurd (let open_first = c.opens.ensures.1 (told.0 b).0 in let no = c.if-not-opens.true in cc))

pub returns-then-starts : goal.returns-then-starts
returns-then-starts g c =
    let claims = claims_of g.V.Domain.operations c.args.certificate.now in
    let arguments = sets_of c.args.arguments in
    let first = entry_of (seen c.in-Some-instruction_at.first) in
    let code = c.args.place + 1 + 2 * c.from.result in
    let listed : claims.entry code ≡ Some first = ap (option_map entry_of) (sym c.in-Some-instruction_at.ensures.value) in
    let told = begins_by g.V.Domain.operations claims c.args.story.now arguments c.args.place c.in-Some.index first c.memory-memory.result.now c.byte_at-count.result code c.memory-memory.ensures.value c.byte_at-count.ensures (let e = c.from.ensures in omega (arith, e)) (sym c.in-Some.ensures.value) listed in
    (λ t. told.1 (c.opens.ensures.0 c.if-not-opens.false, (c.starts.ensures claims).0 c.if-starts.true, c.hold_anyway.ensures.0 t), λ b. c.hold_anyway.ensures.1 (told.0 b).2)

pub returns-else-starts : goal.returns-else-starts
returns-else-starts g c =
    let claims = claims_of g.V.Domain.operations c.args.certificate.now in
    let arguments = sets_of c.args.arguments in
    let first = entry_of (seen c.in-Some-instruction_at.first) in
    let code = c.args.place + 1 + 2 * c.from.result in
    let listed : claims.entry code ≡ Some first = ap (option_map entry_of) (sym c.in-Some-instruction_at.ensures.value) in
    let told = begins_by g.V.Domain.operations claims c.args.story.now arguments c.args.place c.in-Some.index first c.memory-memory.result.now c.byte_at-count.result code c.memory-memory.ensures.value c.byte_at-count.ensures (let e = c.from.ensures in omega (arith, e)) (sym c.in-Some.ensures.value) listed in
    (λ t. absurd cc, λ b. absurd (let begun = (c.starts.ensures claims).1 (told.0 b).1 in let no = c.if-starts.false in cc))
