use Rattle.std.proofs.Common.{length}
use Rattle.zunpack.specs.View.{HasChunks, seen_found}
use Rattle.zunpack.proofs.Cutting.{SoFar}
use Rattle.zunpack.proofs.chunk.survey.Given as goal

abbrev pub invariant-loop-rest : goal.invariant-loop-rest
invariant-loop-rest l = record {
  left : HasChunks l.rest;
  so_far : SoFar l.body l.rest l.id (seen_found l.found);
}

abbrev pub decreases-loop-rest : goal.decreases-loop-rest
decreases-loop-rest l = length l.rest
