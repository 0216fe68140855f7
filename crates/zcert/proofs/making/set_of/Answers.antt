use Rattle.std.proofs.Common.{◌≡◌, ◌*◌, List, ℕ, length, take, drop, get_or, arith, sym, ap, subst, ◌∙◌}
use Rattle.std.proofs.lemmas.List.{length-drop}
use Rattle.zdomain.specs.declared.values.Values.TheVariants.{Run, List as AList}
use Rattle.zcert.specs.Keeping.{IsRunAt, Spell}
use Rattle.zcert.proofs.Fronts.{run_front, list_front, first_of_front, second_of_front}
use Rattle.zcert.proofs.making.set_of.Goals as goal

-- the first byte, and the second
first : (kept part : List ℕ) → part ≡ take 1 kept → get_or part 0 0 ≡ get_or kept 0 0
first kept part e = ap (λ (k : List ℕ). get_or k 0 0) e ∙ first_of_front kept

second : (kept behind part : List ℕ) → behind ≡ drop 1 kept → part ≡ take 1 behind → get_or part 0 0 ≡ get_or kept 1 0
second kept behind part e f = ap (λ (k : List ℕ). get_or k 0 0) (f ∙ ap (take 1) e) ∙ second_of_front kept

pub run_of-requires : goal.run_of-requires
run_of-requires c =
    let kept = c.args.kept.now in
    let zero = sym (first kept c.split_at.result.0.now c.split_at.ensures.front) ∙ c.if-kind-eq-RUN.true in
    let r = run_front kept c.requires zero in
    let part = c.split_at-then-kind-eq-RUN.ensures.front ∙ ap (take 4) c.split_at.ensures.back in
    (r.run, subst (IsRunAt r.run) (sym part) r.at)

pub split_at-requires-3 : goal.split_at-requires-3
split_at-requires-3 c =
    let kept = c.args.kept.now in
    let some : get_or kept 0 0 ≡ 0 → ⊥ = λ e. c.if-kind-eq-RUN.false (first kept c.split_at.result.0.now c.split_at.ensures.front ∙ e) in
    let l = list_front kept c.requires some in
    let count : c.from.result ≡ get_or kept 1 0 = c.from.ensures ∙ second kept c.split_at.result.1.now c.split_at-2.result.0.now c.split_at.ensures.back c.split_at-2.ensures.front in
    let behind = ap length (c.split_at-2.ensures.back ∙ ap (drop 1) c.split_at.ensures.back) in
    let long = l.long in
    omega (arith, long, count, behind, length-drop 1 (drop 1 kept), length-drop 1 kept)

pub list_of-requires : goal.list_of-requires
list_of-requires c =
    let kept = c.args.kept.now in
    let some : get_or kept 0 0 ≡ 0 → ⊥ = λ e. c.if-kind-eq-RUN.false (first kept c.split_at.result.0.now c.split_at.ensures.front ∙ e) in
    let l = list_front kept c.requires some in
    let count : c.from.result ≡ get_or kept 1 0 = c.from.ensures ∙ second kept c.split_at.result.1.now c.split_at-2.result.0.now c.split_at.ensures.back c.split_at-2.ensures.front in
    let behind = c.split_at-2.ensures.back ∙ ap (drop 1) c.split_at.ensures.back in
    let part = c.split_at-3.ensures.front ∙ ap (λ n. take (2 * n) c.split_at-2.result.1.now) count ∙ ap (take (2 * get_or kept 1 0)) behind in
    (l.list, subst (Spell l.list.few) (sym part) l.spell)

pub returns-then-kind-eq-RUN : goal.returns-then-kind-eq-RUN
returns-then-kind-eq-RUN c front =
    let kept = c.args.kept.now in
    let zero = sym (first kept c.split_at.result.0.now c.split_at.ensures.front) ∙ c.if-kind-eq-RUN.true in
    let r = run_front kept front zero in
    let part = c.split_at-then-kind-eq-RUN.ensures.front ∙ ap (take 4) c.split_at.ensures.back in
    let rest = c.split_at-then-kind-eq-RUN.ensures.back ∙ ap (drop 4) c.split_at.ensures.back in
    (ap Run (c.run_of.ensures r.run (subst (IsRunAt r.run) (sym part) r.at)) ∙ r.set, rest ∙ r.rest)

pub returns : goal.returns
returns c front =
    let kept = c.args.kept.now in
    let some : get_or kept 0 0 ≡ 0 → ⊥ = λ e. c.if-kind-eq-RUN.false (first kept c.split_at.result.0.now c.split_at.ensures.front ∙ e) in
    let l = list_front kept front some in
    let count : c.from.result ≡ get_or kept 1 0 = c.from.ensures ∙ second kept c.split_at.result.1.now c.split_at-2.result.0.now c.split_at.ensures.back c.split_at-2.ensures.front in
    let behind = c.split_at-2.ensures.back ∙ ap (drop 1) c.split_at.ensures.back in
    let part = c.split_at-3.ensures.front ∙ ap (λ n. take (2 * n) c.split_at-2.result.1.now) count ∙ ap (take (2 * get_or kept 1 0)) behind in
    let rest = c.split_at-3.ensures.back ∙ ap (λ n. drop (2 * n) c.split_at-2.result.1.now) count ∙ ap (drop (2 * get_or kept 1 0)) behind in
    (ap AList (c.list_of.ensures l.list (subst (Spell l.list.few) (sym part) l.spell)) ∙ l.set, rest ∙ l.rest)
