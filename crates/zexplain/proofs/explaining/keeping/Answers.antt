use Rattle.zexplain.proofs.explaining.keeping.Goals as goal

pub returns : goal.returns
returns c = c.text_among.ensures
