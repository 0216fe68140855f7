use Rattle.std.proofs.Common.{refl, ◌∙◌}
use Rattle.zplace.specs.Tables.{IsPropertyData}
use Rattle.zplace.proofs.Each.{frame_read}
use Rattle.zplace.proofs.property_tables.frame_leaves_data.Goals as goal

pub returns-then-leaves_data : goal.returns-then-leaves_data
returns-then-leaves_data c =
    let parts = frame_read c.args.story.now (IsPropertyData c.args.story.now) c.memory-memory.result.now c.args.table c.from-words.result c.list_place.result c.memory-memory.ensures.value (c.from-words.ensures ∙ c.name_words.ensures) c.list_place.ensures in
    (λ yes. parts.1 ((c.if-leaves_data.ensures.0 refl), c.leaves_data-then-leaves_data.ensures.0 yes), λ all. c.leaves_data-then-leaves_data.ensures.1 (parts.0 all).1)

pub returns-else-leaves_data : goal.returns-else-leaves_data
returns-else-leaves_data c =
    let parts = frame_read c.args.story.now (IsPropertyData c.args.story.now) c.memory-memory.result.now c.args.table c.from-words.result _ c.memory-memory.ensures.value (c.from-words.ensures ∙ c.name_words.ensures) refl in
    (λ yes. absurd (let e = c.if-leaves_data.false in cc), λ all. c.leaves_data.ensures.1 ((parts.0 all).0))
