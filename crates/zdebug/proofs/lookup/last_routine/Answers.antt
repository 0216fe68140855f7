use Rattle.std.proofs.Common.{◌∙◌, sym, rules}
use Rattle.zdebug.proofs.Lasts.{last_is}
use Rattle.zdebug.proofs.lookup.last_routine.Goals as goal

pub returns-in-Some-clause-value : goal.returns-in-Some-clause-value
returns-in-Some-clause-value c =
    let found = rw (c.new.ensures.start, c.new.ensures.end) at c.range.ensures.between (search rules) in
    last_is _ c.next_back.new.self _ (sym found ∙ c.in-Some.ensures.steps)
