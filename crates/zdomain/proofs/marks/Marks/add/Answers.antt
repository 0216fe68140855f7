use Rattle.std.proofs.Common.{◌<◌, ◌≡◌, ◌/◌, ℕ, List, length, rules, arith, subst}
use Rattle.std.specs.Prelude.{◌||◌, ◌==◌}
use Rattle.zdomain.specs.Marks.{is_marked}
use Rattle.zdomain.proofs.Bits.{with_mark, one_more}
use Rattle.zdomain.proofs.marks.Marks.add.Goals as goal

pub returns : goal.returns
returns g c p =
    let few = c.requires in
    let long : length c.self.inside.bytes ≡ g.row.BYTES = search (rules, arith) in
    let inside : c.args.place / 8 < length c.self.inside.bytes = omega (arith, few, long) in
    subst (λ (marks : List ℕ). is_marked (with_mark c.self.inside.bytes c.args.place) p ≡ (is_marked marks p || (p == c.args.place))) c.self.view_is (one_more c.self.inside.bytes c.args.place inside p)
