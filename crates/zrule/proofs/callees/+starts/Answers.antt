use Rattle.std.proofs.Common.{drop, refl}
use Rattle.zrule.specs.Blocks.{sets_of}
use Rattle.zrule.proofs.Calling.{starts_none, starts_short, starts_next}
use Rattle.zrule.proofs.callees.+starts.Goals as goal

pub returns-in_default : goal.returns-in_default
returns-in_default g t c = λ claims.
    let arguments = sets_of c.args.arguments in
    starts_none g.V.Domain.operations claims arguments c.args.memory.now c.args.at c.args.count c.args.locals.now c.in_default.len_below

pub returns-then-count-eq0 : goal.returns-then-count-eq0
returns-then-count-eq0 g t c = λ claims.
    let arguments = sets_of c.args.arguments in
    (λ h. absurd cc, λ s. absurd (starts_short g.V.Domain.operations claims arguments c.args.memory.now c.args.at c.args.count c.args.locals.now c.in-len1-up.len_at_least c.if-count-eq0.true s))

pub returns-then-has_first : goal.returns-then-has_first
returns-then-has_first g t c = λ claims.
    let arguments = sets_of c.args.arguments in
    let next = starts_next g.V.Domain.operations claims arguments (sets_of c.rest.result) c.args.memory.now c.args.at c.args.count c.args.locals.now c.local-item.result c.rest.ensures c.in-len1-up.len_at_least c.local-item.is c.if-count-eq0.false in
    (λ h. next.1 (c.has_first.ensures.0 c.if-has_first.true, (c.starts.ensures claims).0 h), λ s. (c.starts.ensures claims).1 (next.0 s).1)

pub returns-else-has_first : goal.returns-else-has_first
returns-else-has_first g t c = λ claims.
    let arguments = sets_of c.args.arguments in
    let next = starts_next g.V.Domain.operations claims arguments (drop 1 arguments) c.args.memory.now c.args.at c.args.count c.args.locals.now c.local-item.result refl c.in-len1-up.len_at_least c.local-item.is c.if-count-eq0.false in
    (λ h. absurd (let no = c.if-has_first.false in cc), λ s. c.has_first.ensures.1 (next.0 s).0)
