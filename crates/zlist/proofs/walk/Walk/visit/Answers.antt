use Rattle.std.proofs.Common.{◌≡◌, rules, subst, sym}
use Rattle.std.specs.Prelude.{Ok, ◌≢◌, pos}
use Rattle.zlist.specs.declared.owner.Label.{Label}
use Rattle.zlist.specs.declared.owner.Label.TheVariants.{Nobody}
use Rattle.zlist.specs.Labels.{IsSo, label_at}
use Rattle.zlist.specs.Listed.{spelled}
use Rattle.zlist.proofs.walk.Walk.visit.Goals as goal

pub returns-clause-sound : goal.returns-clause-sound
returns-clause-sound c = λ story same some sound.
    let label : c.label_at-label.result ≡ label_at c.args.self.now c.args.address = search rules in
    let here : spelled c.memory.result.now (pos c.args.address) ≡ Ok c.in-Some.instruction = search rules in
    let memory : c.memory.result.now ≡ story.memory = search (rules, same) in
    let so : IsSo story c.label_at-label.result (pos c.args.address) = subst (λ (m : Label). IsSo story m (pos c.args.address)) (sym label) (sound.labels c.args.address) in
    c.in_ok-follow.ensures.sound story memory (subst (λ (m : Label). m ≢ Nobody) (sym label) some) (search (rules, here)) (search (rules, so)) sound
