use Rattle.std.proofs.Common.{rules, ◌≡◌, ℕ, ◌≤◌, ◌∙◌, ap, subst}
use Rattle.zstate.specs.State.{opening}
use Rattle.zlink.specs.Laid.{setting_of}
use Rattle.zcheck.specs.Acceptance.{limit_of}
use Rattle.zplay.specs.Session as session
use Rattle.zplay.proofs.Playing.{able_first, in_play_first, same_rest}
use Rattle.zplay.proofs.session.Session.start.Goals as goal

pub new-requires-2-clause-able : goal.new-requires-2-clause-able
new-requires-2-clause-able g c =
    let a = c.args.accepted.now in
    let limit : c.from-limit.result ≡ limit_of a = c.from-limit.ensures ∙ (rw c.certificate.ensures.value at c.frame_limit.ensures.value) in
    let same : setting_of c.in_ok-rows.rows ≡ session.setting_of a = rw (c.story-story.ensures.value, c.listing.ensures.value, limit) at c.in_ok-rows.ensures in
    λ e. able_first g.V.Domain.operations g.met.V.Domain.sound g.V.Spelled.format a _ c.story-story.result.now c.known_of.ensures (c.each_step_is_safe.ensures.opening _) same c.story-story.ensures.value

pub invariant_of-result : goal.invariant_of-result
invariant_of-result g c =
    let a = c.args.accepted.now in
    let limit : c.from-limit.result ≡ limit_of a = c.from-limit.ensures ∙ (rw c.certificate.ensures.value at c.frame_limit.ensures.value) in
    let same : setting_of c.in_ok-rows.rows ≡ session.setting_of a = rw (c.story-story.ensures.value, c.listing.ensures.value, limit) at c.in_ok-rows.ensures in
    let rest = same_rest c.in_ok-machine.machine c.reserve.new.self c.reserve.new.self.words c.reserve.ensures.rows in
    let state : c.reserve.new.self.state ≡ opening a.story = rest.1 ∙ c.in_ok-machine.ensures.opens ∙ ap opening c.story-story.ensures.value in
    let words : c.words_for.result ≡ session.words_kept (limit_of a) = c.words_for.ensures ∙ ap (λ (n : ℕ). session.words_kept n) limit in
    let many : c.words_for.result ≤ c.reserve.new.self.words = search rules in
    let kept : session.words_kept (limit_of a) ≤ c.reserve.new.self.words = subst (λ (n : ℕ). n ≤ c.reserve.new.self.words) words many in
    in_play_first g.V.Domain.operations g.met.V.Domain.sound g.V.Spelled.format a _ _ _ c.known_of.ensures c.each_gives.ensures (c.each_step_is_safe.ensures.opening _) (ap setting_of rest.0 ∙ c.in_ok-machine.ensures.play ∙ same) kept state
