use Rattle.zcode.proofs.reading.decode.Goals as goal

pub returns-clause-only : goal.returns-clause-only
returns-clause-only c = rw c.new.ensures at c.decode_by.ensures.only
