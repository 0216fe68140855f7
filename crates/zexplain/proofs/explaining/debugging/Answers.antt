use Rattle.zexplain.proofs.explaining.debugging.Goals as goal

pub returns : goal.returns
returns c = c.text_among.ensures
