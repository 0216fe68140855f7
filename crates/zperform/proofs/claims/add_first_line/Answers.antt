use Rattle.std.proofs.Common.{◌≡◌, ◌==◌, ◌∙◌, ◌+◌, ◌<◌, ◌∷◌, [], ◌++◌, ℕ, false, List, length, drop, get_or, sym, ap, append_assoc, rules, arith}
use Rattle.zperform.specs.Showing.{first_line}
use Rattle.zperform.proofs.ShowLemmas.{first_more}
use Rattle.zperform.proofs.claims.add_first_line.Goals as goal

pub loop-byte-preserved : goal.loop-byte-preserved
loop-byte-preserved c =
    let k = c.loop-byte.byte-index in
    let b = get_or c.args.lines.now k 0 in
    let below : k < length c.args.lines.now = search (rules, arith) in
    let same : b ≡ get_or c.args.lines.now k b = search rules in
    let other : (b == 10) ≡ false = search rules in
    let added : c.push.new.self.items ≡ c.loop-byte.text.items ++ b ∷ [] = search rules in
    ap (λ (text : List ℕ). text ++ first_line (drop (k + 1) c.args.lines.now)) added
    ∙ append_assoc c.loop-byte.text.items (b ∷ []) (first_line (drop (k + 1) c.args.lines.now))
    ∙ ap (λ (rest : List ℕ). c.loop-byte.text.items ++ rest) (sym (first_more c.args.lines.now k b below same other))
    ∙ c.loop-byte.invariant
