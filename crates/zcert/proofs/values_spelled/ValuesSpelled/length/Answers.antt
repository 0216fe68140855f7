use Rattle.std.proofs.Common.{arith}
use Rattle.zcert.proofs.Words.{words_length}
use Rattle.zcert.proofs.values_spelled.ValuesSpelled.length.Goals as goal

pub returns-in-List : goal.returns-in-List
returns-in-List c = rw (c.in-List.is, ← c.as_slice.ensures.words) (omega (arith, words_length c.as_slice.result.now))
