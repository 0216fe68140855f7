use Rattle.std.proofs.Common.{◌≡◌, ℕ, ◌↔◌, ◌-◌, List, true, refl, sym, subst, ◌∙◌}
use Rattle.std.specs.Prelude.{IsTrue, map}
use Rattle.zquetzal.specs.Saved.{Frame as SavedFrame}
use Rattle.zstate.specs.Saves.{taken_frame}
use Rattle.zrule.specs.Claims.{claims_of}
use Rattle.zrule.specs.Described.{HaveFacts}
use Rattle.zjudge.specs.Frames.{AreDescribed}
use Rattle.zjudge.specs.Memory.{IsDescribedMemory}
use Rattle.zjudge.proofs.Fitted.{no_and_yes}
use Rattle.zjudge.proofs.judging.is_described.Goals as goal
use Rattle.zjudge.proofs.judging.is_described.Goals.{then-is_memory_described, else-is_memory_described}

pub returns-then-are_frames_described-clause-value : goal.returns-then-are_frames_described-clause-value
returns-then-are_frames_described-clause-value g c =
    let o = g.V.Domain.operations in
    let claims = claims_of o c.args.certificate.now in
    let story = c.args.story.now in
    let view = c.args.view.now in
    let place = c.place-at.ensures.value in
    let both : IsDescribedMemory o claims story view.memory × AreDescribed o claims (map taken_frame view.frames) (view.place - 1) = elim c.if-is_memory_described.branch [
      | then-is_memory_described w ↦ (
        subst (IsDescribedMemory o claims story) c.memory.ensures (c.is_memory_described.ensures.0 w.if-is_memory_described.true),
        subst (λ (p : ℕ). AreDescribed o claims (map taken_frame view.frames) (p - 1)) place (subst (λ (fs : List SavedFrame). AreDescribed o claims (map taken_frame fs) (c.place-at.result - 1)) w.frames.ensures.value (w.are_frames_described.ensures.value.0 (sym w.value-is ∙ c.if-are_frames_described.true))),
      )
      | else-is_memory_described w ↦ absurd (no_and_yes c.is_memory_described.result w.if-is_memory_described.false (sym w.value-is ∙ c.if-are_frames_described.true))
    ] in
    let facts : IsTrue c.have_facts.result ↔ HaveFacts o claims story view.memory (view.place - 1) = subst (λ (p : ℕ). IsTrue c.have_facts.result ↔ HaveFacts o claims story view.memory (p - 1)) place (subst (λ (m : List ℕ). IsTrue c.have_facts.result ↔ HaveFacts o claims story m (c.place-at.result - 1)) c.memory-then-are_frames_described.ensures c.have_facts.ensures) in
    (λ t. (both.0, both.1, facts.0 t), λ all. facts.1 all.2)

pub returns-else-are_frames_described-clause-value : goal.returns-else-are_frames_described-clause-value
returns-else-are_frames_described-clause-value g c =
    let o = g.V.Domain.operations in
    let claims = claims_of o c.args.certificate.now in
    let story = c.args.story.now in
    let view = c.args.view.now in
    let place = c.place-at.ensures.value in
    let memory : IsTrue c.is_memory_described.result ↔ IsDescribedMemory o claims story view.memory = subst (λ (m : List ℕ). IsTrue c.is_memory_described.result ↔ IsDescribedMemory o claims story m) c.memory.ensures c.is_memory_described.ensures in
    let back : IsDescribedMemory o claims story view.memory → AreDescribed o claims (map taken_frame view.frames) (view.place - 1) → c.if-is_memory_described.value ≡ true = λ is frames. elim c.if-is_memory_described.branch [
      | then-is_memory_described w ↦
          w.value-is ∙ w.are_frames_described.ensures.value.1 (subst (λ (fs : List SavedFrame). AreDescribed o claims (map taken_frame fs) (c.place-at.result - 1)) (sym w.frames.ensures.value) (subst (λ (p : ℕ). AreDescribed o claims (map taken_frame view.frames) (p - 1)) (sym place) frames))
      | else-is_memory_described w ↦ absurd (no_and_yes c.is_memory_described.result w.if-is_memory_described.false (memory.1 is))
    ] in
    (λ t. absurd (no_and_yes c.if-is_memory_described.value c.if-are_frames_described.false t), λ all. back all.0 all.1)
