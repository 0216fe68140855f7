use Rattle.std.proofs.Common.{◌≡◌, ◌∙◌, ap, codes, subst, IfOk, ℕ, List}
use Rattle.zjson.specs.Objects.{Pair, line_of, number}
use Rattle.zjson.proofs.Members.{last, then}
use Rattle.zjson.proofs.answers.instruction_line.Goals as goal

pub returns : goal.returns
returns c =
    let routine = c.new-2.ensures ∙ ap (λ (n : ℕ). (codes "routine", number n)) c.from.ensures in
    subst (λ (ps : List Pair). IfOk c.line_of.result (λ line. line.items ≡ line_of ps)) (then c.new.ensures (then routine (last c.new-3.ensures))) c.line_of.ensures.text
