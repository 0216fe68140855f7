use Rattle.std.proofs.Common.{take}
use Rattle.std.specs.List.{AllByRecursion}
use Rattle.zcert.specs.Listed.{seen}
use Rattle.zrule.specs.Claims.{claims_of, entry_of}
use Rattle.zrule.specs.Rules.{Keeps}
use Rattle.zrule.proofs.Order.{asked}
use Rattle.zrule.proofs.judging.first_broken.Given as goal

abbrev pub invariant-loop-rule : goal.invariant-loop-rule
invariant-loop-rule g l =
    AllByRecursion (Keeps g.V.Domain.operations (claims_of g.V.Domain.operations l.fn.site.certificate.now) l.fn.site.story.now l.fn.site.listed.now.address (entry_of (seen l.fn.site.listed.now))) (take l.rule-index asked)
