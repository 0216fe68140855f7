use Rattle.zexplain.proofs.explaining.reading.Goals as goal

pub returns : goal.returns
returns c = c.text_among.ensures
