use Rattle.std.proofs.Common.{◌/◌, ◌<◌, ℕ, ap, subst, rules, arith}
use Rattle.zword.specs.declared.addressing.Addressing.TheVariants.{Byte, Packed}
use Rattle.zpairs.specs.Frozen.{FrozenStory}
use Rattle.zruns.specs.Texts.{AreTextMarks}
use Rattle.zruns.proofs.Beginnings.{names_texts}
use Rattle.zruns.proofs.texts.Texts.names_texts.Goals as goal

pub returns-in-Byte : goal.returns-in-Byte
returns-in-Byte c =
    let low : c.args.word < 65536 = search (rules, arith) in
    names_texts c.args.self.now c.self.inside.marks.now c.args.addressing Byte c.self.inside.bytes.now c.args.word _ (subst (λ (told : FrozenStory). AreTextMarks told c.self.inside.marks.now) c.self.view_is c.self.invariant.0) c.self.invariant.1 c.in-Byte.is (ap (λ (n : ℕ). n / 256) c.from-block.ensures) low

pub returns-in-Packed : goal.returns-in-Packed
returns-in-Packed c =
    let low : c.args.word < 65536 = search (rules, arith) in
    names_texts c.args.self.now c.self.inside.marks.now c.args.addressing Packed c.self.inside.packed.now c.args.word _ (subst (λ (told : FrozenStory). AreTextMarks told c.self.inside.marks.now) c.self.view_is c.self.invariant.0) c.self.invariant.2 c.in-Packed.is (ap (λ (n : ℕ). n / 256) c.from-block.ensures) low
