use Rattle.std.proofs.Common.{arith}
use Rattle.zquetzal.specs.View.{frames_left}
use Rattle.zengine.proofs.Laying.{few_words}
use Rattle.zengine.proofs.resuming.count_words.Goals as goal

pub loop-frame-init : goal.loop-frame-init
loop-frame-init c = let most = few_words (frames_left c.args.rest) c.requires.fit in let few = c.requires.few in record { fit = c.requires.fit; most = omega (arith, most, few); so_far = omega arith }
