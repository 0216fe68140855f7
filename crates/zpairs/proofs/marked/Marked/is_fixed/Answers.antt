use Rattle.std.proofs.Common.{◌∙◌, arith}
use Rattle.std.proofs.lemmas.Bool.{le-leb}
use Rattle.zpairs.proofs.Marking.{fixed_behind, fixed_by_marks}
use Rattle.zpairs.proofs.marked.Marked.is_fixed.Goals as goal

pub returns-then-place-self : goal.returns-then-place-self
returns-then-place-self c =
    let self = c.args.self in
    let base = self.behind in
    let above = c.if-place-self.true in
    le-leb self.base c.args.place above ∙ fixed_behind (record { story = self.story.now; ranges = self.ranges.now }) self.closed.now self.marked c.args.place (omega (arith, base, above))

pub returns-else-place-self : goal.returns-else-place-self
returns-else-place-self c =
    let self = c.args.self in
    let base = self.behind in
    let below = c.if-place-self.false in
    fixed_by_marks (record { story = self.story.now; ranges = self.ranges.now }) self.closed.now self.marked c.args.place self.fixed.now c.has.result (omega (arith, base, below)) self.still c.has.ensures
