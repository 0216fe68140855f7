use Rattle.std.proofs.Common.{◌≡◌, ◌∙◌, ap, codes, subst, IfOk, ℕ, List}
use Rattle.json.specs.Json.{Json}
use Rattle.zjson.specs.Objects.{Pair, line_of, number}
use Rattle.zjson.proofs.Members.{last, then}
use Rattle.zjson.proofs.answers.listed_line.Goals as goal

pub returns : goal.returns
returns c =
    let routine = c.new-2.ensures ∙ ap (λ (n : ℕ). (codes "routine", number n)) c.from.ensures in
    let opcode = c.new-3.ensures ∙ ap (λ (j : Json). (codes "opcode", j)) c.of_text.ensures in
    let rule = c.new-5.ensures ∙ ap (λ (j : Json). (codes "rule", j)) c.of_text-2.ensures in
    subst (λ (ps : List Pair). IfOk c.line_of.result (λ line. line.items ≡ line_of ps)) (then c.new.ensures (then routine (then opcode (then c.new-4.ensures (last rule))))) c.line_of.ensures.text
