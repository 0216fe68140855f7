use Rattle.ztext.proofs.Texts.{front_text-cut}
use Rattle.ztext.proofs.laws.text_is_at_front.Goals as goal

pub returns : goal.returns
returns c = front_text-cut
