use Rattle.std.proofs.Common.{◌≡◌, ◌∙◌, ◌+◌, ◌<◌, ◌++◌, ℕ, List, length, take, sym, ap, append_assoc, rules, arith}
use Rattle.zperform.specs.Numbered.{numbered}
use Rattle.zperform.specs.Showing.{set_line}
use Rattle.zperform.proofs.ShowLemmas.{numbered_more}
use Rattle.zperform.proofs.claims.add_sets.Goals as goal

pub loop-index-preserved : goal.loop-index-preserved
loop-index-preserved g c =
    let line = set_line g.V.Told.set_text c.args.name.now in
    let below : c.loop-index.index < length c.args.sets.now = search (rules, arith) in
    let added : c.add_set.new.text.items ≡ c.loop-index.text.items ++ line (c.args.first + c.loop-index.index) c.index-sets-index.result = search rules in
    let more = numbered_more line c.args.first c.loop-index.index c.args.sets.now c.index-sets-index.result below c.index-sets-index.is in
    added ∙ ap (λ (text : List ℕ). text ++ line (c.args.first + c.loop-index.index) c.index-sets-index.result) c.loop-index.invariant
    ∙ append_assoc c.args.text.now.items (numbered line c.args.first (take c.loop-index.index c.args.sets.now)) (line (c.args.first + c.loop-index.index) c.index-sets-index.result)
    ∙ ap (λ (lines : List ℕ). c.args.text.now.items ++ lines) (sym more)
