use Rattle.std.proofs.Common.{refl}
use Rattle.zplace.proofs.Each.{has_where}
use Rattle.zplace.proofs.property_tables.has_property_tables.Goals as goal

pub returns-then-are_frames_still : goal.returns-then-are_frames_still
returns-then-are_frames_still c =
    let parts = has_where c.args.story.now (c.if-not-are_tables.ensures.0 refl) in
    (λ yes. parts.0 (c.if-are_frames_still.ensures.0 refl, c.are_data_apart.ensures.0 yes), λ has. c.are_data_apart.ensures.1 (parts.1 has).1)
