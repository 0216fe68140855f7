use Rattle.std.proofs.Common.{◌≡◌, rules, subst, sym, Option}
use Rattle.std.specs.Prelude.{ℤ, IfSome}
use Rattle.zlist.specs.Listed.{aside_place, next_place}
use Rattle.zinfo.specs.Unplayed.{IsReached, entered}
use Rattle.zinfo.proofs.Followed.{grows_on, reached_aside, reached_entered, reached_next}
use Rattle.zinfo.proofs.walk.Walk.follow.Goals as goal

pub returns-clause-grows : goal.returns-clause-grows
returns-clause-grows c = grows_on _ _ _ c.in_ok-lead.ensures.grows (grows_on _ _ _ c.in_ok-lead-2.ensures.grows c.in_ok-lead-3.ensures.grows)

pub returns-clause-sound : goal.returns-clause-sound
returns-clause-sound c = λ story same here it sound.
    let i = c.args.instruction.now in
    let to_next : c.next_place.result ≡ next_place c.args.at i = search rules in
    let to_aside : c.aside_place.result ≡ aside_place c.args.at i = search rules in
    let to_entered : c.entered.result ≡ entered c.args.memory.now i = search rules in
    let next = subst (λ (o : Option ℤ). IfSome o (IsReached story)) (sym to_next) (reached_next story c.args.memory.now c.args.at i same here it) in
    let aside = subst (λ (o : Option ℤ). IfSome o (IsReached story)) (sym to_aside) (reached_aside story c.args.memory.now c.args.at i same here it) in
    let begun = subst (λ (o : Option ℤ). IfSome o (IsReached story)) (sym to_entered) (reached_entered story c.args.memory.now c.args.at i same here it) in
    c.in_ok-lead-3.ensures.sound story begun (c.in_ok-lead-2.ensures.sound story aside (c.in_ok-lead.ensures.sound story next sound))
