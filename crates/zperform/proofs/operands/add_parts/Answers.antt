use Rattle.std.proofs.Common.{◌≡◌, ◌∙◌, ◌+◌, ◌<◌, ◌++◌, ℕ, List, length, take, get_or, sym, ap, append_assoc, rules, arith}
use Rattle.std.proofs.lemmas.List.{get_or_default}
use Rattle.zcode.specs.declared.instr.Operand.{Operand}
use Rattle.zcode.specs.declared.instr.Operand.TheVariants.{Constant}
use Rattle.zperform.specs.Numbered.{numbered}
use Rattle.zperform.specs.Operands.{operand_part}
use Rattle.zperform.proofs.ShowLemmas.{numbered_more}
use Rattle.zperform.proofs.operands.add_parts.Goals as goal

pub loop-place-preserved : goal.loop-place-preserved
loop-place-preserved c =
    let part = operand_part c.args.opcode in
    let operands = c.args.operands.now in
    let operand : Operand = get_or operands c.loop-place.place (Constant 0) in
    let below : c.loop-place.place < length operands = search (rules, arith) in
    let added : c.add_part.new.text.items ≡ c.loop-place.text.items ++ part c.loop-place.place operand = search rules in
    let same : c.loop-place.place ≡ 0 + c.loop-place.place = omega arith in
    let more = numbered_more part 0 c.loop-place.place operands operand below (get_or_default operands c.loop-place.place (Constant 0) operand below) in
    added ∙ ap (λ (text : List ℕ). text ++ part c.loop-place.place operand) c.loop-place.invariant
    ∙ append_assoc c.args.text.now.items (numbered part 0 (take c.loop-place.place operands)) (part c.loop-place.place operand)
    ∙ ap (λ (k : ℕ). c.args.text.now.items ++ (numbered part 0 (take c.loop-place.place operands) ++ part k operand)) same
    ∙ ap (λ (lines : List ℕ). c.args.text.now.items ++ lines) (sym more)
