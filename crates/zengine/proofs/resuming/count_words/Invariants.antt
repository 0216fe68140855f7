use Rattle.std.proofs.Common.{◌≡◌, ◌+◌, ◌≤◌, length}
use Rattle.std.specs.List.{AllByRecursion}
use Rattle.zquetzal.specs.Saved.{IsFrame}
use Rattle.zquetzal.specs.View.{frames_left}
use Rattle.zengine.specs.Resuming.{length_laid}
use Rattle.zengine.proofs.resuming.count_words.Given as goal

abbrev pub invariant-loop-frame : goal.invariant-loop-frame
invariant-loop-frame l = record {
  fit : AllByRecursion IsFrame (frames_left l.rest);
  most : length_laid (frames_left l.fn.rest) ≤ 268578835;
  so_far : l.words + length_laid (frames_left l.rest) ≡ length_laid (frames_left l.fn.rest);
}

abbrev pub decreases-loop-frame : goal.decreases-loop-frame
decreases-loop-frame l = length (frames_left l.rest)
