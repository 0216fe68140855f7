use Rattle.zfront.proofs.LineLaws.{frame_inside}
use Rattle.zfront.proofs.heading_laws.frames_are_taken_out.Goals as goal

pub returns-clause-whole : goal.returns-clause-whole
returns-clause-whole c = frame_inside
