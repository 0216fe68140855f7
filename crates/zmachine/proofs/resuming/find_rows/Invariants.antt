use Rattle.std.proofs.Common.{◌≡◌, ◌+◌, ◌≤◌, length}
use Rattle.std.specs.List.{AllByRecursion}
use Rattle.zquetzal.specs.Saved.{IsFrame}
use Rattle.zquetzal.specs.View.{frames_left}
use Rattle.zmachine.specs.Rows.{Less}
use Rattle.zmachine.proofs.Backs.{Found}
use Rattle.zmachine.proofs.resuming.find_rows.Given as goal

abbrev pub invariant-loop-frame : goal.invariant-loop-frame
invariant-loop-frame g l = record {
  setting : (g.R.Rows.game l.rows).setting ≡ (g.R.Rows.game l.fn.rows).setting;
  fit : AllByRecursion IsFrame (frames_left l.rest);
  low : l.below.count ≤ 15;
  less : Less (g.R.Rows.lacks l.fn.rows) (g.R.Rows.lacks l.rows);
  found : Found l.story (g.R.Rows.game l.fn.rows).setting.limit l.number (g.R.Rows.game l.rows) (g.R.Rows.all l.rows) l.initial.below.count l.initial.below.height (frames_left l.initial.rest) l.below.count l.below.height (frames_left l.rest) l.backs;
  number : l.number ≡ length l.backs;
  count : length l.backs + length (frames_left l.rest) + 1 ≡ length l.save.frames;
}

abbrev pub decreases-loop-frame : goal.decreases-loop-frame
decreases-loop-frame g l = length (frames_left l.rest)
