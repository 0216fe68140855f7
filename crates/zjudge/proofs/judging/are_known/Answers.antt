use Rattle.std.proofs.Common.{subst}
use Rattle.zstory.specs.Bytes.{AreBytes}
use Rattle.zjudge.proofs.Facts.{are_globals, globals_at_place}
use Rattle.zjudge.proofs.judging.are_known.Goals as goal

pub returns-clause-bytes : goal.returns-clause-bytes
returns-clause-bytes g c = subst AreBytes c.memory.ensures c.are_bytes.ensures

pub returns-clause-facts : goal.returns-clause-facts
returns-clause-facts g c = λ p. globals_at_place p _ (are_globals g.V.Spelled.format _ c.facts-facts.ensures.keeps.facts)
