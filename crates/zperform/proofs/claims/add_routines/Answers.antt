use Rattle.std.proofs.Common.{◌≡◌, ◌∙◌, ◌+◌, ◌<◌, ◌++◌, ℕ, List, length, take, sym, ap, append_assoc, rules, arith}
use Rattle.zperform.specs.Numbered.{numbered}
use Rattle.zperform.specs.Showing.{routine_line}
use Rattle.zperform.proofs.ShowLemmas.{numbered_more}
use Rattle.zperform.proofs.claims.add_routines.Goals as goal

pub loop-index-preserved : goal.loop-index-preserved
loop-index-preserved g c =
    let line = routine_line g.V.Told.set_text in
    let below : c.loop-index.index < length c.args.routines.now = search (rules, arith) in
    let added : c.add_routine.new.text.items ≡ c.loop-index.text.items ++ line (c.loop-index.index + 1) c.index-routines-index.result = search rules in
    let number : c.loop-index.index + 1 ≡ 1 + c.loop-index.index = omega arith in
    let more = numbered_more line 1 c.loop-index.index c.args.routines.now c.index-routines-index.result below c.index-routines-index.is in
    added ∙ ap (λ (n : ℕ). c.loop-index.text.items ++ line n c.index-routines-index.result) number
    ∙ ap (λ (text : List ℕ). text ++ line (1 + c.loop-index.index) c.index-routines-index.result) c.loop-index.invariant
    ∙ append_assoc c.args.text.now.items (numbered line 1 (take c.loop-index.index c.args.routines.now)) (line (1 + c.loop-index.index) c.index-routines-index.result)
    ∙ ap (λ (lines : List ℕ). c.args.text.now.items ++ lines) (sym more)
