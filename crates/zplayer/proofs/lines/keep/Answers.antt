use Rattle.std.proofs.Common.{◌∙◌, arith}
use Rattle.zplayer.proofs.ReadLemmas.{kept_full, kept_more}
use Rattle.zplayer.proofs.lines.keep.Goals as goal

pub returns-then-is_full : goal.returns-then-is_full
returns-then-is_full c = kept_full 255 c.args.kept.now.items _ (grind (arith, c.if-is_full.true, c.is_full.ensures.value))

pub returns : goal.returns
returns c = c.push.ensures.items ∙ kept_more 255 c.args.byte c.args.kept.now.items (grind (arith, c.if-is_full.false, c.is_full.ensures.value, c.is_full.ensures.fits))
