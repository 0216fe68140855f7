use Rattle.std.proofs.Common.{◌≡◌, rules, ◌∙◌, sym}
use Rattle.ztext.specs.Words.{length_at}
use Rattle.ztext.proofs.KnownEnds.{after_by_length}
use Rattle.ztext.proofs.ends.TextEnds.text_length.Goals as goal

pub returns-then-tells-clause-after : goal.returns-then-tells-clause-after
returns-then-tells-clause-after c =
    let found : c.size.result ≡ length_at c.args.self.now c.args.at = c.size.ensures ∙ sym (c.known-known.ensures.told c.args.at (search rules)) in
    after_by_length c.args.self.now c.args.at c.size.result found
