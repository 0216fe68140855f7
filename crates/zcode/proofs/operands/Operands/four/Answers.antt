use Rattle.std.proofs.Common.{◌+◌, ◌*◌, refl}
use Rattle.zcode.proofs.Kept.{four_kept}
use Rattle.zcode.proofs.operands.Operands.four.Goals as goal

pub invariant_of-result : goal.invariant_of-result
invariant_of-result c =
    let k = four_kept (64 * c.bits_of.result + 16 * c.bits_of-2.result + 4 * c.bits_of-3.result + c.bits_of-4.result) c.word_of.result c.word_of-2.result c.word_of-3.result c.word_of-4.result c.args.a c.args.b c.args.c c.args.d (rw (c.bits_of.ensures.value, c.bits_of-2.ensures.value, c.bits_of-3.ensures.value, c.bits_of-4.ensures.value) refl) c.word_of.ensures.value c.word_of-2.ensures.value c.word_of-3.ensures.value c.word_of-4.ensures.value c.word_of.ensures.byte c.word_of-2.ensures.byte c.word_of-3.ensures.byte c.word_of-4.ensures.byte in
    rw k.view (k.words_are, k.byte_is)

pub returns : goal.returns
returns c = (four_kept (64 * c.bits_of.result + 16 * c.bits_of-2.result + 4 * c.bits_of-3.result + c.bits_of-4.result) c.word_of.result c.word_of-2.result c.word_of-3.result c.word_of-4.result c.args.a c.args.b c.args.c c.args.d (rw (c.bits_of.ensures.value, c.bits_of-2.ensures.value, c.bits_of-3.ensures.value, c.bits_of-4.ensures.value) refl) c.word_of.ensures.value c.word_of-2.ensures.value c.word_of-3.ensures.value c.word_of-4.ensures.value c.word_of.ensures.byte c.word_of-2.ensures.byte c.word_of-3.ensures.byte c.word_of-4.ensures.byte).view
