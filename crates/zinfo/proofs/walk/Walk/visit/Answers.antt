use Rattle.std.proofs.Common.{◌≡◌, rules, subst, sym}
use Rattle.std.specs.Prelude.{ℤ, pos}
use Rattle.zinfo.specs.Unplayed.{IsReached, IsUnplayedAt, behind_unplayed}
use Rattle.zinfo.proofs.Followed.{reached_behind}
use Rattle.zinfo.proofs.walk.Walk.visit.Goals as goal

pub returns-in-Err-NotInProfile-clause-sound : goal.returns-in-Err-NotInProfile-clause-sound
returns-in-Err-NotInProfile-clause-sound c = λ story same it sound.
    let memory = c.memory-memory.result.now in
    let whole : c.memory-memory.result.now ≡ story.memory = search (rules, same) in
    let here : IsUnplayedAt c.memory-memory.result.now c.args.address c.in-Err-NotInProfile.field-0-0 = search rules in
    let behind : c.behind_unplayed.result ≡ pos (behind_unplayed c.memory-memory.result.now c.args.address) = search rules in
    let it_too : IsReached story c.behind_unplayed.result = subst (λ (p : ℤ). IsReached story p) (sym behind) (reached_behind story memory c.args.address c.in-Err-NotInProfile.field-0-0 whole here it) in
    c.mark.ensures.sound story (search (rules, it_too)) sound
