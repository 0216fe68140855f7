use Rattle.std.proofs.Common.{refl, ◌∙◌}
use Rattle.zjudge.proofs.Closed.{frame_read}
use Rattle.zjudge.proofs.kept.is_frame_kept.Goals as goal

pub returns-then-are_kept : goal.returns-then-are_kept
returns-then-are_kept c =
    let parts = frame_read c.args.story.now c.args.saved.now c.memory-memory.result.now c.args.table c.from-words.result c.list_place.result c.memory-memory.ensures.value (c.from-words.ensures ∙ c.name_words.ensures) c.list_place.ensures in
    (λ yes. parts.1 (c.if-are_kept.ensures.0 refl, c.are_sizes_kept.ensures.0 yes), λ all. c.are_sizes_kept.ensures.1 (parts.0 all).1)

pub returns-else-are_kept : goal.returns-else-are_kept
returns-else-are_kept c =
    let parts = frame_read c.args.story.now c.args.saved.now c.memory-memory.result.now c.args.table c.from-words.result _ c.memory-memory.ensures.value (c.from-words.ensures ∙ c.name_words.ensures) refl in
    (λ yes. absurd (let e = c.if-are_kept.false in cc), λ all. c.are_kept.ensures.1 (parts.0 all).0)
