use Rattle.std.proofs.Common.{ℕ, ◌≡◌, ◌+◌, ◌*◌, refl, sym, subst, arith}
use Rattle.zstory.specs.LoadedStory.{abbreviations}
use Rattle.zjudge.specs.Memory.{AreKept}
use Rattle.zjudge.specs.Parts.{IsLedTo}
use Rattle.zplace.proofs.Each.{one_more_below}
use Rattle.zjudge.proofs.Closed.{abbreviations_where}
use Rattle.zjudge.proofs.kept.are_abbreviations_kept.Goals as goal

pub returns-then-not-is_abbreviation_kept : goal.returns-then-not-is_abbreviation_kept
returns-then-not-is_abbreviation_kept c =
    let story = c.args.story.now in let saved = c.args.saved.now in
    let at : c.abbreviations.result + 2 * c.from.result ≡ abbreviations story + 2 * c.loop-number.number = (let a = c.abbreviations.ensures.value in let b = c.from.ensures in omega (arith, a, b)) in
    (λ no. absurd cc, λ all. c.if-not-is_abbreviation_kept.ensures.1 (subst (λ (k : ℕ). AreKept story saved (IsLedTo story.memory k)) (sym at) ((abbreviations_where story saved).0 all c.loop-number.number c.loop-number-test.true)))

pub loop-number-preserved : goal.loop-number-preserved
loop-number-preserved c =
    let story = c.args.story.now in let saved = c.args.saved.now in
    let at : c.abbreviations.result + 2 * c.from.result ≡ abbreviations story + 2 * c.loop-number.number = (let a = c.abbreviations.ensures.value in let b = c.from.ensures in omega (arith, a, b)) in
    one_more_below (λ number. AreKept story saved (IsLedTo story.memory (abbreviations story + 2 * number))) c.loop-number.number c.loop-number.invariant (subst (λ (k : ℕ). AreKept story saved (IsLedTo story.memory k)) at (c.if-not-is_abbreviation_kept.ensures.0 refl))

pub returns : goal.returns
returns c =
    let all_told = c.loop-number-test.false in
    (λ yes. (abbreviations_where c.args.story.now c.args.saved.now).1 (λ number few. c.loop-number.invariant number (omega (arith, few, all_told))), λ all. refl)
