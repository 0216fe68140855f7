use Rattle.std.proofs.Common.{◌≡◌, rules, subst, sym, ℕ, length, ◌+◌}
use Rattle.zinfo.specs.Unplayed.{IsMet}
use Rattle.zinfo.specs.Walked.{IsCountTo}
use Rattle.zinfo.proofs.Counted.{all_counted, counted_on, passed_on}
use Rattle.zinfo.proofs.counting.count.Goals.{then-is_met, else-is_met}
use Rattle.zinfo.proofs.counting.count.Goals as goal

pub loop-address-preserved : goal.loop-address-preserved
loop-address-preserved c = elim c.if-is_met.branch [
  | then-is_met w ↦
      let here : IsMet c.args.story.now c.args.opcode c.loop-address.address = search rules in
      subst (λ (n : ℕ). IsCountTo c.args.story.now c.args.opcode (c.loop-address.address + 1) n) (sym w.count-is)
      (counted_on c.args.story.now c.args.opcode c.loop-address.address c.loop-address.count c.loop-address.invariant here)
  | else-is_met w ↦
      let none : IsMet c.args.story.now c.args.opcode c.loop-address.address → ⊥ = search rules in
      subst (λ (n : ℕ). IsCountTo c.args.story.now c.args.opcode (c.loop-address.address + 1) n) (sym w.count-is)
      (passed_on c.args.story.now c.args.opcode c.loop-address.address c.loop-address.count c.loop-address.invariant none)
]

pub returns : goal.returns
returns c =
    let end : c.loop-address.address ≡ length c.args.story.now.memory = search rules in
    all_counted c.args.story.now c.args.opcode c.loop-address.count (subst (λ (n : ℕ). IsCountTo c.args.story.now c.args.opcode n c.loop-address.count) end c.loop-address.invariant)
