use Rattle.std.proofs.Common.{◌≡◌, ◌-◌, ◌<◌, ℕ, List, [], length, sym, ap, ◌∙◌, arith, rules, tests}
use Rattle.std.proofs.lemmas.Result.{err_from_is_err_and}
use Rattle.std.proofs.lemmas.List.{nil_from_length}
use Rattle.zquetzal.specs.declared.limits.TheConstants.{MOST_FRAMES}
use Rattle.zquetzal.specs.View.{count_within}
use Rattle.zquetzal.proofs.Loops.{counted_on, counted_none, count_step, count_refused, count_full, count_end}
use Rattle.zquetzal.proofs.frames.counted.Goals as goal

pub loop-rest-init : goal.loop-rest-init
loop-rest-init c = record { few = omega arith; so_far = counted_none _ }

pub returns-then-count-eq-MOST_FRAMES : goal.returns-then-count-eq-MOST_FRAMES
returns-then-count-eq-MOST_FRAMES c =
    let some : (c.loop-rest.rest.now ≡ [] → ⊥) = λ n. search (rules, tests) in
    let full : c.loop-rest.count ≡ MOST_FRAMES = search (rules, tests) in
    sym c.loop-rest.invariant.so_far ∙ count_full c.loop-rest.count c.loop-rest.rest.now some full

pub returns-in_err-after : goal.returns-in_err-after
returns-in_err-after c =
    let some : (c.loop-rest.rest.now ≡ [] → ⊥) = λ n. search (rules, tests) in
    let few : c.loop-rest.count < MOST_FRAMES = omega (arith, c.loop-rest.invariant.few, c.if-count-eq-MOST_FRAMES.false) in
    let p = err_from_is_err_and c.from_residual.result c.from_residual.ensures.1 in
    rw (p.1, p.2) (sym c.loop-rest.invariant.so_far ∙ count_refused c.loop-rest.count c.loop-rest.rest.now c.in_err-after.field-0.0 some few c.in_err-after.ensures.value)

pub loop-rest-preserved : goal.loop-rest-preserved
loop-rest-preserved c =
    let some : (c.loop-rest.rest.now ≡ [] → ⊥) = λ n. search (rules, tests) in
    let few : c.loop-rest.count < MOST_FRAMES = omega (arith, c.loop-rest.invariant.few, c.if-count-eq-MOST_FRAMES.false) in
    record { few = omega (arith, few); so_far = count_step c.loop-rest.count c.loop-rest.rest.now _ some few c.in_ok-after.ensures.value ∙ c.loop-rest.invariant.so_far }

pub returns : goal.returns
returns c =
    let empty : length c.loop-rest.rest.now ≡ 0 = search (rules, tests) in
    let none = nil_from_length c.loop-rest.rest.now empty in
    let k = c.loop-rest.count in
    sym c.loop-rest.invariant.so_far ∙ ap (λ (r : List ℕ). counted_on k (count_within (MOST_FRAMES - k) r)) none ∙ count_end k (MOST_FRAMES - k)
