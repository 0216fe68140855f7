use Rattle.std.proofs.Common.{◌↔◌, ◌<◌, ◌≤◌, ◌∷◌, length}
use Rattle.std.specs.Prelude.{IfSome, map, option_map}
use Rattle.std.specs.List.{AllByRecursion}
use Rattle.zquetzal.specs.Reading.{words_of}
use Rattle.zquetzal.specs.View.{frames_left, seen_frame}
use Rattle.zstate.specs.Saves.{taken_frame}
use Rattle.zrule.specs.Claims.{claims_of}
use Rattle.zjudge.specs.Frames.{AreDescribed, AreDescribedFrom}
use Rattle.zjudge.specs.View.{waiting_of}
use Rattle.zjudge.proofs.frames.are_frames_described.Given as goal

abbrev pub invariant-loop-next : goal.invariant-loop-next
invariant-loop-next g l =
    (AreDescribed g.V.Domain.operations (claims_of g.V.Domain.operations l.certificate) (map taken_frame (frames_left l.frames)) l.place ↔ AreDescribedFrom g.V.Domain.operations (claims_of g.V.Domain.operations l.certificate) (option_map (waiting_of l.certificate.instructions) l.below) (taken_frame (seen_frame l.frame)) (map taken_frame (frames_left l.above)) l.place)
    × IfSome l.below (λ c. c.index < length l.certificate.instructions)
    × (IfSome l.below (λ c. length (words_of c.frame.stack.now) ≤ 64) → AllByRecursion (λ f. length f.stack ≤ 64) (seen_frame l.frame ∷ frames_left l.above) → AllByRecursion (λ f. length f.stack ≤ 64) (frames_left l.frames))

abbrev pub decreases-loop-next : goal.decreases-loop-next
decreases-loop-next g l = length (frames_left l.above)
