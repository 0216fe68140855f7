use Rattle.std.proofs.Common.{rules, sym, ◌∙◌}
use Rattle.std.specs.Int.{w16}
use Rattle.std.proofs.lemmas.Int.{to_z-of_z}
use Rattle.zdomain.proofs.Reading.{Short}
use Rattle.zdomain.proofs.edges.apart.Goals as goal

pub returns-then-is_single : goal.returns-then-is_single
returns-then-is_single c =
    let fits : Short c.args.b.lo = search rules in
    rw (sym c.is_single.ensures ∙ c.if-is_single.true) (rw (to_z-of_z w16 c.args.b.lo fits) at c.without.ensures)
