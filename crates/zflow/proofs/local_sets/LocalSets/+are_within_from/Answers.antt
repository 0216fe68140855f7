use Rattle.std.proofs.Common.{refl, sym}
use Rattle.zdomain.specs.Domain.{Within}
use Rattle.zflow.specs.Lent.{locals_seen, put}
use Rattle.zflow.proofs.Changes.{zip_ended, zip_from}
use Rattle.zflow.proofs.local_sets.LocalSets.+are_within_from.Goals as goal

pub returns-in-None-empty : goal.returns-in-None-empty
returns-in-None-empty g t c =
    let ended = zip_ended (Within g.V.Domain.operations) (put c.args.change.now (locals_seen c.args.self.now)) c.args.index c.args.to.now (sym (rw c.in-None-empty.is-0 at c.at_with.ensures)) c.in-None-empty.len_below in
    (λ _. ended, λ _. refl)

pub returns-then-is_within : goal.returns-then-is_within
returns-then-is_within g t c =
    let more = zip_from (Within g.V.Domain.operations) (put c.args.change.now (locals_seen c.args.self.now)) c.args.index c.in-Some-len1-up.inner.now c.args.to.now c.outer-item.result (sym (rw c.in-Some-len1-up.is-0 at c.at_with.ensures)) c.in-Some-len1-up.len_at_least c.outer-item.is in
    (λ h. more.1 (c.is_within.ensures.0 c.if-is_within.true, c.are_within_from.ensures.0 h), λ h. c.are_within_from.ensures.1 (more.0 h).1)

pub returns-else-is_within : goal.returns-else-is_within
returns-else-is_within g t c =
    let more = zip_from (Within g.V.Domain.operations) (put c.args.change.now (locals_seen c.args.self.now)) c.args.index c.in-Some-len1-up.inner.now c.args.to.now c.outer-item.result (sym (rw c.in-Some-len1-up.is-0 at c.at_with.ensures)) c.in-Some-len1-up.len_at_least c.outer-item.is in
    (λ h. absurd cc, λ h. c.is_within.ensures.1 (more.0 h).0)
