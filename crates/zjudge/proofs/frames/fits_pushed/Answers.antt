use Rattle.std.proofs.Common.{◌≡◌, ◌∙◌, true, sym}
use Rattle.std.specs.List.{AllZip}
use Rattle.zcert.specs.Listed.{seen}
use Rattle.zdomain.specs.Domain.{In, Within}
use Rattle.zquetzal.specs.Reading.{words_of}
use Rattle.zquetzal.specs.View.{seen_frame}
use Rattle.zrule.specs.Claims.{claims_of}
use Rattle.zjudge.proofs.Fitted.{no_and_yes, pushed_where}
use Rattle.zjudge.proofs.frames.fits_pushed.Goals as goal
use Rattle.zjudge.proofs.frames.fits_pushed.Goals.{then-is_within, else-is_within}

pub returns-then-are_in-clause-value : goal.returns-then-are_in-clause-value
returns-then-are_in-clause-value g c certificate =
    let o = g.V.Domain.operations in
    let pushed = pushed_where o (claims_of o certificate) (seen c.args.listed.now) (seen_frame c.args.frame) c.args.values c.has_word.ensures c.in-Some.slots.now c.in-Some.top.now c.in-Some.ensures.cases.0 in
    let first : Within o c.args.values c.in-Some.top.now × AllZip (In o) c.in-Some.slots.now (words_of c.args.frame.stack.now) = elim c.if-is_within.branch [
      | then-is_within w ↦ (c.is_within.ensures.0 w.if-is_within.true, w.are_in.ensures.value.0 (sym w.value-is ∙ c.if-are_in.true))
      | else-is_within w ↦ absurd (no_and_yes c.is_within.result w.if-is_within.false (sym w.value-is ∙ c.if-are_in.true))
    ] in
    (λ t. pushed.0 (first.0, first.1, c.are_in-then-are_in.ensures.value.0 t), λ all. c.are_in-then-are_in.ensures.value.1 (pushed.1 all).2)

pub returns-else-are_in-clause-value : goal.returns-else-are_in-clause-value
returns-else-are_in-clause-value g c certificate =
    let o = g.V.Domain.operations in
    let pushed = pushed_where o (claims_of o certificate) (seen c.args.listed.now) (seen_frame c.args.frame) c.args.values c.has_word.ensures c.in-Some.slots.now c.in-Some.top.now c.in-Some.ensures.cases.0 in
    let back : Within o c.args.values c.in-Some.top.now → AllZip (In o) c.in-Some.slots.now (words_of c.args.frame.stack.now) → c.if-is_within.value ≡ true = λ within stack. elim c.if-is_within.branch [
      | then-is_within w ↦ w.value-is ∙ w.are_in.ensures.value.1 stack
      | else-is_within w ↦ absurd (no_and_yes c.is_within.result w.if-is_within.false (c.is_within.ensures.1 within))
    ] in
    (λ t. absurd (no_and_yes c.if-is_within.value c.if-are_in.false t), λ all. back (pushed.1 all).0 (pushed.1 all).1)
