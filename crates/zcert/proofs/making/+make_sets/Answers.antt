use Rattle.std.proofs.Common.{rules, ◌-◌, ◌++◌, ◌∷◌, [], List, sym, ap, ◌∙◌, append_assoc}
use Rattle.zdomain.specs.declared.values.Values.{Values}
use Rattle.zcert.proofs.Fronts.{others_held, held_from}
use Rattle.zcert.proofs.making.+make_sets.Goals as goal

pub set_of-set-requires : goal.set_of-set-requires
set_of-set-requires t c = (others_held c.args.count c.args.kept.now c.if-count-eq0.false c.requires.kept).front

pub make_sets-requires : goal.make_sets-requires
make_sets-requires t c =
    let o = others_held c.args.count c.args.kept.now c.if-count-eq0.false c.requires.kept in
    let found = c.set_of-set.ensures o.front in
    (search rules, (search rules, (held_from (c.args.count - 1) c.set_of-set.result.1.now o.front.rest found.1 o.others).0))

pub returns : goal.returns
returns t c held =
    let o = others_held c.args.count c.args.kept.now c.if-count-eq0.false held in
    let found = c.set_of-set.ensures o.front in
    let more = held_from (c.args.count - 1) c.set_of-set.result.1.now o.front.rest found.1 o.others in
    c.make_sets.ensures more.0
    ∙ ap (λ (vs : List Values). vs ++ more.0.kept) c.push.ensures.items
    ∙ append_assoc c.args.sets.now.items (c.set_of-set.result.0 ∷ []) more.0.kept
    ∙ ap (λ (vs : List Values). c.args.sets.now.items ++ (c.set_of-set.result.0 ∷ vs)) more.1
    ∙ ap (λ (v : Values). c.args.sets.now.items ++ (v ∷ o.others.kept)) found.0
    ∙ ap (λ (vs : List Values). c.args.sets.now.items ++ vs) (sym o.all)
