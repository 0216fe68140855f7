use Rattle.std.proofs.Common.{◌≡◌, ◌+◌, ◌≤◌, ◌++◌, length, take, drop}
use Rattle.std.specs.List.{AllByRecursion}
use Rattle.zquetzal.specs.Saved.{IsFrame}
use Rattle.zquetzal.specs.View.{frames_left}
use Rattle.zengine.specs.Resuming.{base_laid, laid_frames, length_laid}
use Rattle.zengine.proofs.resuming.lay_frames.Given as goal

abbrev pub invariant-loop-frame : goal.invariant-loop-frame
invariant-loop-frame l = record {
  fit : AllByRecursion IsFrame (frames_left l.rest);
  low : l.below ≤ 65550;
  least : l.fn.base ≤ l.base;
  backs : l.number + length (frames_left l.rest) ≡ length l.backs;
  size : length l.words ≡ length l.fn.words;
  ends : l.base + l.below + length_laid (frames_left l.rest) ≡ l.fn.base + l.fn.below + length_laid (frames_left l.fn.rest);
  newest : base_laid l.base l.below (frames_left l.rest) ≡ base_laid l.fn.base l.fn.below (frames_left l.fn.rest);
  laid : take (l.base + l.below) l.words ++ laid_frames l.below (frames_left l.rest) (drop l.number l.backs) ≡ take (l.fn.base + l.fn.below) l.fn.words ++ laid_frames l.fn.below (frames_left l.fn.rest) l.backs;
}

abbrev pub decreases-loop-frame : goal.decreases-loop-frame
decreases-loop-frame l = length (frames_left l.rest)
