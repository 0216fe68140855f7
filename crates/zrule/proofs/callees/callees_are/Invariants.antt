use Rattle.std.proofs.Common.{ℕ}
use Rattle.zstate.specs.Step.{unpacked}
use Rattle.zrule.specs.Blocks.{IsAsWanted}
use Rattle.zrule.specs.Claims.{claims_of}
use Rattle.zrule.proofs.Calling.{Told, words_left}
use Rattle.zrule.proofs.callees.callees_are.Given as goal

abbrev pub invariant-loop-callee : goal.invariant-loop-callee
invariant-loop-callee g l = Told g.V.Domain.operations l.set (λ (x : ℕ). IsAsWanted g.V.Domain.operations (claims_of g.V.Domain.operations l.site.certificate.now) l.site.story.now l.wanted (unpacked x)) l.callee

abbrev pub decreases-loop-callee : goal.decreases-loop-callee
decreases-loop-callee g l = words_left l.callee
