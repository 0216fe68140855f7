use Rattle.zrule.proofs.Unchanged.{text_kept}
use Rattle.zrule.proofs.judging.texts_are_fixed.Goals as goal

pub returns : goal.returns
returns c = λ is_frozen p i there. text_kept c.args.story.now c.memory-memory.ensures.sound c.memory-memory.ensures.counted is_frozen c.text_ends_instruction.ensures p i there
