use Rattle.std.proofs.Common.{◌≡◌}
use Rattle.std.specs.Prelude.{map}
use Rattle.std.specs.List.{AllByRecursion}
use Rattle.zquetzal.specs.Saved.{IsFrame}
use Rattle.zquetzal.specs.View.{frames_left}
use Rattle.zstate.specs.Packed.{piled}
use Rattle.zstate.specs.Saves.{taken_frame}
use Rattle.zstate.proofs.frames.Frames.pile_frames.Given as goal

abbrev pub invariant-loop-frame : goal.invariant-loop-frame
invariant-loop-frame l = record {
  so_far : piled (map taken_frame (frames_left l.left)) l.self ≡ piled (map taken_frame (frames_left l.fn.saved)) l.fn.self;
  frames : AllByRecursion IsFrame (frames_left l.left);
}
