use Rattle.std.proofs.lemmas.Bool.{false≢true}
use Rattle.std.proofs.Common.{◌∙◌, refl, sym}
use Rattle.ztext.proofs.Parts.{error_of-plain_use, error_of-nested_use}
use Rattle.ztext.proofs.decode.error_of_use.Goals as goal

pub returns-then-is_plain : goal.returns-then-is_plain
returns-then-is_plain c = error_of-plain_use c.args.memory.now c.args.number _ _ c.in-Some.ensures refl (c.is_plain.ensures.0 c.if-is_plain.true)

pub returns-else-is_plain : goal.returns-else-is_plain
returns-else-is_plain c =
    error_of-nested_use c.args.memory.now c.args.number _ _ c.in-Some.ensures refl (λ none. false≢true (sym c.if-is_plain.false ∙ c.is_plain.ensures.1 none))
