use Rattle.std.proofs.Common.{◌≡◌, rules, subst, sym}
use Rattle.std.specs.Prelude.{pos, ◌≤ℤ◌, ℤ, Option, length}
use Rattle.zlist.specs.Labels.{Found, IsSound, lowered}
use Rattle.zlist.proofs.Marking.{sound_beyond}
use Rattle.zlist.proofs.walk.Walk.note_beyond.Goals as goal

pub returns-clause-sound : goal.returns-clause-sound
returns-clause-sound c = λ story it sound.
    let i = c.self.inside in
    let old : Found = record { labels = i.labels.items; called = i.called.items; waiting = i.waiting.items; below = i.below; beyond = i.beyond; absent = i.absent } in
    let high : pos (length i.labels.items) ≤ℤ c.args.at = subst (λ (f : Found). pos (length f.labels) ≤ℤ c.args.at) (sym c.self.view_is) c.requires in
    let before : IsSound story old = subst (λ (f : Found). IsSound story f) (sym c.self.view_is) sound in
    let lowest : c.lowered-self-inside.result ≡ lowered i.beyond c.args.at = search rules in
    subst (λ (o : Option ℤ). IsSound story (record { labels = i.labels.items; called = i.called.items; waiting = i.waiting.items; below = i.below; beyond = o; absent = i.absent })) (sym lowest) (sound_beyond i.labels.items i.called.items i.waiting.items i.below i.beyond i.absent c.args.at story high it before)
