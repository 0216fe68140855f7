use Rattle.std.proofs.Common.{◌≡◌, ◌∙◌, ℕ, List, true, false, nat_eq, None, Some, ap, sym, rules}
use Rattle.std.specs.List.{ends_with}
use Rattle.zdebug.specs.Cutting.{cut, parts}
use Rattle.zdebug.specs.Reading.{attribute_in}
use Rattle.zdebug.proofs.Tags.{attribute_here, attribute_further, attribute_none}
use Rattle.zdebug.proofs.tag.attribute.Goals as goal

pub returns-then-ends_with : goal.returns-then-ends_with
returns-then-ends_with c =
    let is : Some (c.in-Some.before.now, c.in-Some.behind.now) ≡ cut 34 c.loop-before.rest.now = search rules in
    let yes : ends_with nat_eq c.in-Some.before.now c.args.name.now ≡ true = sym c.ends_with.ensures.value ∙ c.if-ends_with.true in
    ap Some c.until.ensures.before ∙ sym (c.loop-before.invariant ∙ attribute_here c.args.name.now c.loop-before.rest.now c.in-Some.before.now c.in-Some.behind.now is yes)

pub loop-before-preserved : goal.loop-before-preserved
loop-before-preserved c =
    let is : Some (c.in-Some.before.now, c.in-Some.behind.now) ≡ cut 34 c.loop-before.rest.now = search rules in
    let no : ends_with nat_eq c.in-Some.before.now c.args.name.now ≡ false = sym c.ends_with.ensures.value ∙ c.if-ends_with.false in
    c.loop-before.invariant
    ∙ (attribute_further c.args.name.now c.loop-before.rest.now c.in-Some.before.now c.in-Some.behind.now is no
    ∙ ap (λ (l : List ℕ). attribute_in c.args.name.now (parts 34 l)) (sym c.until.ensures.behind))

pub returns : goal.returns
returns c =
    let is : None ≡ cut 34 c.loop-before.rest.now = search rules in
    sym (c.loop-before.invariant ∙ attribute_none c.args.name.now c.loop-before.rest.now is)
