use Rattle.zexplain.proofs.explaining.loading.Goals as goal

pub returns : goal.returns
returns c = c.text_among.ensures
