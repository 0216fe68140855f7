use Rattle.std.proofs.Common.{◌≡◌}
use Rattle.zplayer.specs.Lines.{KnowsEnd, unused}
use Rattle.zplayer.proofs.ReadLemmas.{SoFar}
use Rattle.zplayer.proofs.lines.Lines.next_line.Given as goal

-- the bytes of the line so far
abbrev pub invariant-bytes : goal.invariant-bytes
invariant-bytes g l = record {
  so_far : SoFar (unused l.fn.self (g.R.Source.remaining l.fn.reader)) (unused l.self (g.R.Source.remaining l.reader)) l.kept.items l.turns;
  ended : KnowsEnd l.self (g.R.Source.remaining l.reader);
  quiet : g.R.Source.failures l.reader ≡ g.R.Source.failures l.fn.reader;
}

abbrev pub decreases-bytes : goal.decreases-bytes
decreases-bytes g l = l.turns
