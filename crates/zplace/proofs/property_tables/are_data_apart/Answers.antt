use Rattle.std.proofs.Common.{refl}
use Rattle.zplace.proofs.property_tables.are_data_apart.Goals as goal

pub returns-then-abbreviations_leave_data : goal.returns-then-abbreviations_leave_data
returns-then-abbreviations_leave_data c =
    let tables = c.if-not-tables_leave_data.ensures.0 refl in (
      λ yes. record { of_globals = tables.0; of_objects = tables.1; of_abbreviations = c.if-abbreviations_leave_data.ensures.0 refl; of_frames = c.frames_leave_data.ensures.0 yes },
      λ apart. c.frames_leave_data.ensures.1 apart.of_frames,
    )
