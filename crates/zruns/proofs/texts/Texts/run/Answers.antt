use Rattle.std.proofs.Common.{◌≡◌, ◌+◌, ◌*◌, ◌/◌, ℕ, subst, arith}
use Rattle.zpairs.specs.Frozen.{frozen_by}
use Rattle.zword.specs.Addressing.{place_of}
use Rattle.zruns.specs.Texts.{HasFixedText}
use Rattle.zruns.proofs.texts.Texts.run.Goals as goal

-- the block begins with the word
pub returns-then-names_texts-clause-each : goal.returns-then-names_texts-clause-each
returns-then-names_texts-clause-each c k near =
    let first = c.if-from-eq0.true in
    let is = c.from.ensures in
    let same : 256 * (c.args.word / 256) ≡ c.args.word = omega (arith, first, is) in
    subst (λ (word : ℕ). HasFixedText c.args.self.now.story (frozen_by c.args.self.now.ranges) (place_of c.args.addressing (word + k))) same (c.names_texts.ensures.0 c.if-names_texts.true k near)
