use Rattle.std.proofs.Common.{rules}
use Rattle.zstory.proofs.Loads.{one_story}
use Rattle.zstory.proofs.story.Story.load.Goals as goal

pub returns-clause-only : goal.returns-clause-only
returns-clause-only c =
    let story = c.in_ok-of_part in
    λ other. one_story c.args.file.now story.field-0 other (record { memory = search rules; objects = story.ensures.objects })
