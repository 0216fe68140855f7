use Rattle.std.proofs.Common.{◌≡◌, rules, subst, sym, Bool, IsTrue}
use Rattle.std.specs.Prelude.{◌↔◌, pos}
use Rattle.zinfo.specs.Unplayed.{IsMet, IsUnplayedAt}
use Rattle.zinfo.specs.Walked.{has}
use Rattle.zinfo.proofs.Counted.{met_by}
use Rattle.zinfo.proofs.counting.is_met.Goals as goal

pub returns-then-eq : goal.returns-then-eq
returns-then-eq c =
    let here : IsUnplayedAt c.args.story.now.memory c.args.address c.args.opcode = search rules in
    let known : c.has.result ≡ has c.args.walk.now (pos c.args.address) = search rules in
    subst (λ (b : Bool). IsTrue b ↔ IsMet c.args.story.now c.args.opcode c.args.address) (sym known)
    (met_by c.args.story.now c.args.walk.now c.args.opcode c.args.address c.requires.walked c.requires.inside here)
