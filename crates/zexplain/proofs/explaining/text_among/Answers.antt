use Rattle.std.proofs.Common.{◌∙◌}
use Rattle.zexplain.proofs.Among.{among_pairs}
use Rattle.zexplain.specs.Texts.{with_capital}
use Rattle.zexplain.proofs.explaining.text_among.Goals as goal

pub returns : goal.returns
returns c = c.first_text.ensures ∙ among_pairs (λ entry. (entry.0.now, entry.1.now)) (with_capital c.args.code.now) c.args.entries.now
