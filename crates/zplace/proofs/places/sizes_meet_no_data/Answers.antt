use Rattle.std.proofs.Common.{rules, ◌⊎◌, inl, inr, ◌≤◌, ◌<◌, length, refl, arith}
use Rattle.std.specs.Prelude.{IsTrue, nat_le}
use Rattle.std.proofs.lemmas.Bool.{cases_lt, leb-true, le-leb}
use Rattle.zplace.proofs.Lists.{sizes_later, sizes_met, sizes_outside, size_passed, last_size_passed, none_at_end}
use Rattle.zplace.specs.declared.places.Places.TheVariants.{Sizes}
use Rattle.zplace.specs.Places.{MeetsNoData}
use Rattle.zplace.proofs.places.sizes_meet_no_data.Goals as goal

pub loop-end-preserved-then-end-size : goal.loop-end-preserved-then-end-size
loop-end-preserved-then-end-size c =
    let same = sizes_later c.args.memory.now c.loop-end.size c.loop-end.at c.in-Some.end c.in-Some.ensures.value.0 c.in-Some.ensures.value.1 c.if-end-size.true in
    (λ none. same.0 (c.loop-end.invariant.0 none), λ rest. c.loop-end.invariant.1 (same.1 rest))

pub returns-then-at-size : goal.returns-then-at-size
returns-then-at-size c =
    (λ outside. c.loop-end.invariant.1 (sizes_outside c.args.memory.now c.loop-end.size c.loop-end.at (leb-true (length c.args.memory.now) c.loop-end.size outside)), λ none. by_place (cases_lt c.loop-end.size (length c.args.memory.now)) (c.loop-end.invariant.0 none))
  where
    by_place : (c.loop-end.size < length c.args.memory.now) ⊎ (length c.args.memory.now ≤ c.loop-end.size) → MeetsNoData c.args.memory.now (Sizes c.loop-end.size) c.loop-end.at → IsTrue (nat_le (length c.args.memory.now) c.loop-end.size)
    by_place (inl inside) none = absurd (sizes_met c.args.memory.now c.loop-end.size c.loop-end.at c.in-Some.ensures.value.0 c.if-at-size.true (let end = c.in-Some.ensures.value.1 in let low = c.if-end-size.false in omega (arith, end, low)) inside none)
    by_place (inr outside) none = le-leb (length c.args.memory.now) c.loop-end.size outside

pub loop-end-preserved : goal.loop-end-preserved
loop-end-preserved c =
    let same = size_passed c.args.memory.now c.loop-end.size c.loop-end.at c.in-Some-data_end.next c.in-Some-data_end.ensures.value.0 c.in-Some-data_end.ensures.value.1 c.if-at-size.false in
    (λ none. same.0 (c.loop-end.invariant.0 none), λ rest. c.loop-end.invariant.1 (same.1 rest))

pub returns-in-None : goal.returns-in-None
returns-in-None c =
    (λ yes. c.loop-end.invariant.1 (last_size_passed c.args.memory.now c.loop-end.size c.loop-end.at c.in-None.ensures.value c.if-at-size.false), λ none. refl)

pub returns : goal.returns
returns c =
    (λ yes. c.loop-end.invariant.1 (none_at_end c.args.memory.now (Sizes c.loop-end.size) c.loop-end.at (search rules)), λ none. refl)
