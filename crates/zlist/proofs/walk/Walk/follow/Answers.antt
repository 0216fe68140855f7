use Rattle.std.proofs.Common.{◌≡◌, rules, subst, sym, Option}
use Rattle.std.specs.Prelude.{ℤ, ℕ, IfSome}
use Rattle.zlist.specs.Labels.{Has, IsEntered, IsSo}
use Rattle.zlist.specs.Listed.{IsCalled, aside_place, next_place}
use Rattle.zlist.proofs.Marking.{followed, grows_on}
use Rattle.zlist.proofs.Reaching.{so_aside, so_callee, so_next}
use Rattle.zlist.proofs.walk.Walk.follow.Goals as goal

pub returns-clause-grows : goal.returns-clause-grows
returns-clause-grows c = grows_on _ _ _ c.in_ok-lead.ensures.grows (grows_on _ _ _ c.in_ok-lead-2.ensures.grows c.in_ok-enter.ensures.grows)

pub returns-clause-followed : goal.returns-clause-followed
returns-clause-followed c =
    let to_next : c.next_place.result ≡ next_place c.args.at c.args.instruction.now = search rules in
    let to_aside : c.aside_place.result ≡ aside_place c.args.at c.args.instruction.now = search rules in
    let next = subst (λ (o : Option ℤ). IfSome o (Has c.lead.new.self c.args.label)) to_next c.in_ok-lead.ensures.has in
    let aside = subst (λ (o : Option ℤ). IfSome o (Has c.lead-2.new.self c.args.label)) to_aside c.in_ok-lead-2.ensures.has in
    let calls = subst (λ (o : Option ℕ). IfSome o (IsEntered c.args.memory.now c.enter.new.self)) c.callee.ensures.value c.in_ok-enter.ensures.entered in
    followed c.args.memory.now c.lead.new.self c.lead-2.new.self c.enter.new.self c.args.label c.args.at c.args.instruction.now next c.in_ok-lead-2.ensures.grows aside c.in_ok-enter.ensures.grows calls

pub returns-clause-sound : goal.returns-clause-sound
returns-clause-sound c = λ story same some here so sound.
    let i = c.args.instruction.now in
    let to_next : c.next_place.result ≡ next_place c.args.at i = search rules in
    let to_aside : c.aside_place.result ≡ aside_place c.args.at i = search rules in
    let next = subst (λ (o : Option ℤ). IfSome o (IsSo story c.args.label)) (sym to_next) (so_next story c.args.memory.now c.args.label c.args.at i same here so) in
    let aside = subst (λ (o : Option ℤ). IfSome o (IsSo story c.args.label)) (sym to_aside) (so_aside story c.args.memory.now c.args.label c.args.at i same here so) in
    let calls = subst (λ (o : Option ℕ). IfSome o (IsCalled story)) (sym c.callee.ensures.value) (so_callee story c.args.memory.now c.args.label c.args.at i same some here so) in
    c.in_ok-enter.ensures.sound story same calls (c.in_ok-lead-2.ensures.sound story some aside (c.in_ok-lead.ensures.sound story some next sound))
