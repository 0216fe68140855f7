use Rattle.std.proofs.Common.{◌≡◌, ℕ, List, subst}
use Rattle.std.specs.Prelude.{◌&&◌, not}
use Rattle.zdomain.specs.Marks.{is_marked}
use Rattle.zdomain.proofs.Bits.{turned_within}
use Rattle.zdomain.proofs.marks.Marks.turn_within.Goals as goal

pub returns : goal.returns
returns g c p =
    subst (λ (whole : List ℕ). is_marked c.turn_within.new.bytes p ≡ (is_marked whole p && not (is_marked c.args.self.now p))) c.whole.view_is
    (subst (λ (before : List ℕ). is_marked c.turn_within.new.bytes p ≡ (is_marked c.whole.inside.bytes p && not (is_marked before p))) c.self.view_is
    (turned_within c.whole.inside.bytes c.self.inside.bytes c.turn_within.new.bytes c.turn_within.ensures p))
