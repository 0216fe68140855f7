use Rattle.std.proofs.Common.{◌+◌, ◌*◌, refl}
use Rattle.zcode.proofs.Kept.{two_kept}
use Rattle.zcode.proofs.operands.Operands.two.Goals as goal

pub invariant_of-result : goal.invariant_of-result
invariant_of-result c =
    let k = two_kept (64 * c.bits_of.result + 16 * c.bits_of-2.result + 15) c.word_of.result c.word_of-2.result c.args.a c.args.b (rw (c.bits_of.ensures.value, c.bits_of-2.ensures.value) refl) c.word_of.ensures.value c.word_of-2.ensures.value c.word_of.ensures.byte c.word_of-2.ensures.byte in
    rw k.view (k.words_are, k.byte_is)
