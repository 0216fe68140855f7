use Rattle.std.proofs.Common.{arith}
use Rattle.zquetzal.specs.View.{given_frame}
use Rattle.zquetzal.proofs.Saves.{length-frame_bytes}
use Rattle.zquetzal.proofs.writing.put_frame.Goals as goal

pub put_words-requires : goal.put_words-requires
put_words-requires c = let e = length-frame_bytes (given_frame c.args.frame) in omega (arith, e)

pub put_words-requires-2 : goal.put_words-requires-2
put_words-requires-2 c = let e = length-frame_bytes (given_frame c.args.frame) in omega (arith, e)
