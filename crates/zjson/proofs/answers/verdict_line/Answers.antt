use Rattle.std.proofs.Common.{◌≡◌, ◌∙◌, ap, codes, subst, IfOk, List}
use Rattle.json.specs.Json.{Json}
use Rattle.zjson.specs.Objects.{Pair, line_of, number_or_null}
use Rattle.zjson.proofs.Members.{last, then}
use Rattle.zjson.proofs.answers.verdict_line.Goals as goal

pub returns : goal.returns
returns c =
    let digest = c.new-2.ensures ∙ ap (λ (j : Json). (codes "sha256", j)) c.of_text.ensures in
    let release = c.new-3.ensures ∙ ap (λ (j : Json). (codes "release", j)) (c.of_number.ensures ∙ ap number_or_null c.widened.ensures) in
    let serial = c.new-4.ensures ∙ ap (λ (j : Json). (codes "serial", j)) c.of_text-2.ensures in
    let checksum = c.new-5.ensures ∙ ap (λ (j : Json). (codes "checksum", j)) (c.of_number-2.ensures ∙ ap number_or_null c.widened-2.ensures) in
    let marks = c.new-7.ensures ∙ ap (λ (j : Json). (codes "marks", j)) (c.of_number-3.ensures ∙ ap number_or_null c.counted.ensures) in
    let code = c.new-8.ensures ∙ ap (λ (j : Json). (codes "code", j)) c.of_text-3.ensures in
    let address = c.new-9.ensures ∙ ap (λ (j : Json). (codes "address", j)) c.of_text-4.ensures in
    let text = c.new-10.ensures ∙ ap (λ (j : Json). (codes "text", j)) c.of_text-5.ensures in
    let judged = then c.new-6.ensures (then marks (then code (then address (last text)))) in
    let all = then c.new.ensures (then digest (then release (then serial (then checksum judged)))) in
    subst (λ (ps : List Pair). IfOk c.line_of.result (λ line. line.items ≡ line_of ps)) all c.line_of.ensures.text
