use Rattle.std.proofs.Common.{sym, ◌∙◌, arith}
use Rattle.ztext.proofs.Plainness.{word_more}
use Rattle.ztext.proofs.plain.is_plain.Goals as goal

pub loop-rest-preserved : goal.loop-rest-preserved
loop-rest-preserved c = record {
  left = word_more c.args.words.now c.loop-rest.rest.now c.loop-rest.begun c.in-Some.next c.from_be_bytes.result c.in-len2-up.len_at_least (omega (arith, c.from_be_bytes.ensures)) (sym c.in-Some.is ∙ c.after_word.ensures) c.loop-rest.invariant.left;
}
