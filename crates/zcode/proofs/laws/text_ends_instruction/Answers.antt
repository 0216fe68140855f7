use Rattle.zcode.proofs.Inline.{inline_length}
use Rattle.zcode.proofs.laws.text_ends_instruction.Goals as goal

pub returns : goal.returns
returns c = inline_length c.text_is_at_front.ensures
