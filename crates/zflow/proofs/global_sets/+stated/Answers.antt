use Rattle.std.proofs.Common.{Some}
use Rattle.zflow.specs.Lent.{put}
use Rattle.zflow.proofs.GlobalSets.{first_fact, no_facts}
use Rattle.zflow.proofs.global_sets.+stated.Goals as goal

pub returns-in-empty : goal.returns-in-empty
returns-in-empty g t c = λ globals there. rw (no_facts c.args.facts.now globals c.in-empty.len_below) there

pub returns-in-len1-up : goal.returns-in-len1-up
returns-in-len1-up g t c = λ globals there.
    let fact = c.fact-item.result in
    let next = first_fact c.args.facts.now fact globals c.in-len1-up.len_at_least c.fact-item.is in
    rw next (c.stated.ensures (put (Some (fact.global, fact.values)) globals) (c.told_or.ensures globals there))
