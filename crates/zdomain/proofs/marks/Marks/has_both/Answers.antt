use Rattle.std.proofs.Common.{◌≡◌, ◌%◌, ◌∙◌, ap, subst, ℕ, List}
use Rattle.std.specs.Prelude.{◌&&◌, ◌==◌, ◌+◌}
use Rattle.std.proofs.lemmas.Bool.{cases_lt}
use Rattle.zdomain.specs.Marks.{is_marked}
use Rattle.zdomain.proofs.Bits.{both_marked}
use Rattle.zdomain.proofs.marks.Marks.has_both.Goals as goal

pub returns : goal.returns
returns g c =
    subst (λ (marks : List ℕ). c.are_both_set.result ≡ (is_marked marks c.args.place && is_marked marks (c.args.place + 1))) c.self.view_is
    (c.are_both_set.ensures ∙ ap (λ (b : ℕ). is_marked c.self.inside.bytes c.args.place && (b == 1)) (both_marked c.self.inside.bytes c.args.place (cases_lt (c.args.place % 8) 7)))
