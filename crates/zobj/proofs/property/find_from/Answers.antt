use Rattle.std.proofs.Common.{◌≡◌, true, false, sym, ◌∙◌, rules}
use Rattle.zobj.specs.Properties.{has_number}
use Rattle.zobj.proofs.Lists.{found_first, found_later, after_first, after_later, at_end, none_found, none_after}
use Rattle.zobj.proofs.property.find_from.Goals as goal

pub returns-then-property-number-clause-value : goal.returns-then-property-number-clause-value
returns-then-property-number-clause-value c =
    let is : has_number c.args.number c.in-Some.property ≡ true = search rules in
    sym (found_first c.args.memory.now c.loop-property.at c.args.number c.in-Some.property c.in-Some.ensures.value is) ∙ c.loop-property.invariant.sought

pub returns-then-property-number-clause-behind : goal.returns-then-property-number-clause-behind
returns-then-property-number-clause-behind c =
    let is : has_number c.args.number c.in-Some.property ≡ true = search rules in
    sym c.loop-property.invariant.behind ∙ after_first c.args.memory.now c.loop-property.at c.args.number c.in-Some.property c.in-Some.ensures.value is

pub loop-property-preserved : goal.loop-property-preserved
loop-property-preserved c =
    let is : has_number c.args.number c.in-Some.property ≡ false = search rules in
    record {
      sought = sym (found_later c.args.memory.now c.loop-property.at c.args.number c.in-Some.property c.in-Some.ensures.value is) ∙ c.loop-property.invariant.sought;
      behind = sym (after_later c.args.memory.now c.loop-property.at c.args.number c.in-Some.property c.in-Some.ensures.value is) ∙ c.loop-property.invariant.behind;
    }

pub returns-clause-value : goal.returns-clause-value
returns-clause-value c =
    sym (none_found c.args.memory.now c.loop-property.at c.args.number (at_end c.args.memory.now c.loop-property.at (search rules))) ∙ c.loop-property.invariant.sought

pub returns-clause-absent : goal.returns-clause-absent
returns-clause-absent c =
    sym c.loop-property.invariant.behind ∙ none_after c.args.memory.now c.loop-property.at c.args.number (at_end c.args.memory.now c.loop-property.at (search rules))
