use Rattle.std.proofs.Common.{◌+◌, ◌*◌, ◌<◌, ℕ}
use Rattle.std.specs.Prelude.{IsTrue}
use Rattle.zdomain.specs.Marks.{is_marked}
use Rattle.zword.specs.Addressing.{place_of}
use Rattle.zruns.proofs.texts.is_marked_block.Given as goal

abbrev pub invariant-loop-place : goal.invariant-loop-place
invariant-loop-place l = (k : ℕ) → k < l.place → IsTrue (is_marked l.marks (place_of l.addressing (256 * l.block + k)))
