use Rattle.std.proofs.Common.{◌≡◌, ◌∙◌, ap, Bool, refl, rules, subst, sym}
use Rattle.std.specs.Borrow.{Bor}
use Rattle.zbatch.specs.declared.tally.Tally.{Tally}
use Rattle.zperform.specs.Devices.{held, seen}
use Rattle.zperform.specs.Each.{Steps}
use Rattle.zperform.proofs.EachLemmas.{flushed_back, gone}
use Rattle.zperform.proofs.each.go_through.Goals as goal

pub returns-clause-told : goal.returns-clause-told
returns-clause-told g c =
    let runs = c.work_through.ensures.runs in
    let files = held g.F.Files.known g.F.Files.failures g.F.Files.can_fail g.F.Files.blamed in
    let writer = seen g.W.Sink.contents g.W.Sink.failures g.W.Sink.waits in
    let all =
    gone _ _ runs.0 _ runs.1 (g.T.Telling.Tells c.args.telling.now) c.args.json
    (λ from s. (s.telling ≡ c.args.telling) × (s.json ≡ c.args.json) × (s.files.ghost_name ≡ from.files.ghost_name) × (s.writer.ghost_name ≡ from.writer.ghost_name))
    (λ s. files s.files.now) (λ s. writer s.writer.now)
    (λ s n e t of did. (
      (did.0 ∙ of.0, did.1 ∙ of.1, did.2 ∙ of.2, did.3 ∙ of.3),
      subst (λ (json : Bool). Steps (g.T.Telling.Tells c.args.telling.now) json (files s.files.now) (files t.files.now) (writer s.writer.now) (writer t.writer.now) n e) of.1
          (subst (λ (telling : Bor _). Steps (g.T.Telling.Tells telling.now) s.json (files s.files.now) (files t.files.now) (writer s.writer.now) (writer t.writer.now) n e) of.0 did.4),
    ))
    (refl, refl, refl, refl)
    in
    (runs.0, search (rules, all.0.2, all.0.3, all.1), runs.2)

pub returns-clause-blamed : goal.returns-clause-blamed
returns-clause-blamed g c =
    let runs = c.work_through.ensures.runs in
    let files = held g.F.Files.known g.F.Files.failures g.F.Files.can_fail g.F.Files.blamed in
    let writer = seen g.W.Sink.contents g.W.Sink.failures g.W.Sink.waits in
    let all =
    gone _ _ runs.0 _ runs.1 (g.T.Telling.Tells c.args.telling.now) c.args.json
    (λ from s. (s.telling ≡ c.args.telling) × (s.json ≡ c.args.json) × (s.files.ghost_name ≡ from.files.ghost_name) × (s.writer.ghost_name ≡ from.writer.ghost_name))
    (λ s. files s.files.now) (λ s. writer s.writer.now)
    (λ s n e t of did. (
      (did.0 ∙ of.0, did.1 ∙ of.1, did.2 ∙ of.2, did.3 ∙ of.3),
      subst (λ (json : Bool). Steps (g.T.Telling.Tells c.args.telling.now) json (files s.files.now) (files t.files.now) (writer s.writer.now) (writer t.writer.now) n e) of.1
          (subst (λ (telling : Bor _). Steps (g.T.Telling.Tells telling.now) s.json (files s.files.now) (files t.files.now) (writer s.writer.now) (writer t.writer.now) n e) of.0 did.4),
    ))
    (refl, refl, refl, refl)
    in
    λ lost. let blamed = all.2 (sym (ap (λ (t : Tally). t.unwritten) runs.2) ∙ lost) in search (rules, all.0.3, blamed)

pub returns-clause-free : goal.returns-clause-free
returns-clause-free g c =
    let runs = c.work_through.ensures.runs in
    let files = held g.F.Files.known g.F.Files.failures g.F.Files.can_fail g.F.Files.blamed in
    let writer = seen g.W.Sink.contents g.W.Sink.failures g.W.Sink.waits in
    let all =
    gone _ _ runs.0 _ runs.1 (g.T.Telling.Tells c.args.telling.now) c.args.json
    (λ from s. (s.telling ≡ c.args.telling) × (s.json ≡ c.args.json) × (s.files.ghost_name ≡ from.files.ghost_name) × (s.writer.ghost_name ≡ from.writer.ghost_name))
    (λ s. files s.files.now) (λ s. writer s.writer.now)
    (λ s n e t of did. (
      (did.0 ∙ of.0, did.1 ∙ of.1, did.2 ∙ of.2, did.3 ∙ of.3),
      subst (λ (json : Bool). Steps (g.T.Telling.Tells c.args.telling.now) json (files s.files.now) (files t.files.now) (writer s.writer.now) (writer t.writer.now) n e) of.1
          (subst (λ (telling : Bor _). Steps (g.T.Telling.Tells telling.now) s.json (files s.files.now) (files t.files.now) (writer s.writer.now) (writer t.writer.now) n e) of.0 did.4),
    ))
    (refl, refl, refl, refl)
    in
    λ well.
    let free = all.3 (sym (ap (λ (t : Tally). t.unwritten) runs.2) ∙ well) in
    (search (rules, all.0.3, free.0), flushed_back g.W.Sink.waits (λ s. s.writer.now) _ _ c.args.writer.now _ (search (rules, all.0.3)) refl free.1)
