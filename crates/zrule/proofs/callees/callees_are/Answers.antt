use Rattle.std.proofs.Common.{ℕ, subst}
use Rattle.zstate.specs.Step.{unpacked}
use Rattle.zrule.specs.Blocks.{IsAsWanted}
use Rattle.zrule.specs.Claims.{claims_of}
use Rattle.zrule.proofs.Calling.{Told, told_next}
use Rattle.zrule.proofs.callees.callees_are.Goals as goal

pub loop-callee-preserved : goal.loop-callee-preserved
loop-callee-preserved g c =
    let o = g.V.Domain.operations in
    let asked = λ (x : ℕ). IsAsWanted g.V.Domain.operations (claims_of g.V.Domain.operations c.args.site.certificate.now) c.args.site.story.now c.args.wanted (unpacked x) in
    let kept = c.in-Some-wanted_to.ensures.kept in
    told_next o c.args.set asked c.in-Some.word c.in-Some-wanted_to.last c.next_above-callee-in-Some.result (subst (λ n. Told g.V.Domain.operations c.args.set (λ (x : ℕ). IsAsWanted g.V.Domain.operations (claims_of g.V.Domain.operations c.args.site.certificate.now) c.args.site.story.now c.args.wanted (unpacked x)) n) c.in-Some.is c.loop-callee.invariant) kept.0 kept.1 c.next_above-callee-in-Some.ensures
