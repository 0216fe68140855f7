use Rattle.std.proofs.Common.{◌≡◌, ◌+◌, Some, None, arith}
use Rattle.std.proofs.lemmas.Grind.{common_steps}
use Rattle.ztext.specs.Words.{length_at}
use Rattle.ztext.proofs.Texts.{after_text-some, after_text-no_text}
use Rattle.ztext.proofs.length.text_length.Goals as goal

pub returns-then-high-ge-END-clause-after : goal.returns-then-high-ge-END-clause-after
returns-then-high-ge-END-clause-after c =
    let found : length_at c.args.memory.now c.args.at ≡ Some (c.loop-rest.size + 2) = grind (arith, common_steps) in
    after_text-some c.args.memory.now c.args.at _ found

pub returns-clause-after : goal.returns-clause-after
returns-clause-after c =
    let none : length_at c.args.memory.now c.args.at ≡ None = grind (arith, common_steps) in
    after_text-no_text c.args.memory.now c.args.at none
