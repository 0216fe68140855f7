use Rattle.std.proofs.Common.{refl, ◌∙◌}
use Rattle.zplace.specs.Bytes.{IsChanging}
use Rattle.zplace.proofs.Each.{frame_read}
use Rattle.zplace.proofs.property_tables.is_frame_still.Goals as goal

pub returns-then-is_unchanging : goal.returns-then-is_unchanging
returns-then-is_unchanging c =
    let parts = frame_read c.args.story.now (IsChanging c.args.story.now) c.memory-memory.result.now c.args.table c.from-words.result c.list_place.result c.memory-memory.ensures.value (c.from-words.ensures ∙ c.name_words.ensures) c.list_place.ensures in
    (λ yes. parts.1 ((c.if-is_unchanging.ensures.0 refl).still, c.are_sizes_still.ensures.0 yes), λ all. c.are_sizes_still.ensures.1 (parts.0 all).1)

pub returns-else-is_unchanging : goal.returns-else-is_unchanging
returns-else-is_unchanging c =
    let parts = frame_read c.args.story.now (IsChanging c.args.story.now) c.memory-memory.result.now c.args.table c.from-words.result _ c.memory-memory.ensures.value (c.from-words.ensures ∙ c.name_words.ensures) refl in
    (λ yes. absurd (let e = c.if-is_unchanging.false in cc), λ all. c.is_unchanging.ensures.1 (record { still = (parts.0 all).0 }))
