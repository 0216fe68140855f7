use Rattle.std.proofs.Common.{◌≡◌, ◌∙◌, ◌<◌, ℕ, true, length, sym, slice_set, arith}
use Rattle.std.proofs.lemmas.Bool.{ltb-true}
use Rattle.std.specs.List.{AllZip}
use Rattle.zcert.specs.Listed.{seen}
use Rattle.zdomain.specs.Domain.{In}
use Rattle.zquetzal.specs.Reading.{words_of}
use Rattle.zquetzal.specs.View.{seen_frame}
use Rattle.zrule.specs.Claims.{claims_of}
use Rattle.zjudge.proofs.Fitted.{no_and_yes, stored_where}
use Rattle.zjudge.proofs.frames.fits_stored.Goals as goal
use Rattle.zjudge.proofs.frames.fits_stored.Goals.{then-local-word_count, else-local-word_count}

pub returns-then-are_in_with-clause-value : goal.returns-then-are_in_with-clause-value
returns-then-are_in_with-clause-value g c certificate =
    let o = g.V.Domain.operations in
    let ws = words_of c.args.frame.locals.now in
    let stored = stored_where o (claims_of o certificate) (seen c.args.listed.now) (seen_frame c.args.frame) c.args.values c.has_word.ensures c.args.local c.requires in
    let counted = c.word_count.ensures in
    let first : (c.args.local < length ws) × ((x : ℕ) → In o c.args.values x → AllZip (In o) c.args.listed.now.locals.now (slice_set ws c.args.local x)) = elim c.if-local-word_count.branch [
      | then-local-word_count w ↦ (let below = w.if-local-word_count.true in omega (arith, below, counted), w.are_in_with.ensures.0 (sym w.value-is ∙ c.if-are_in_with.true))
      | else-local-word_count w ↦ absurd (let low = ltb-true c.args.local c.word_count.result (sym w.value-is ∙ c.if-are_in_with.true) in let above = w.if-local-word_count.false in omega (arith, low, above))
    ] in
    (λ t. stored.0 (first.0, first.1, c.are_in.ensures.value.0 t), λ all. c.are_in.ensures.value.1 (stored.1 all).2)

pub returns-else-are_in_with-clause-value : goal.returns-else-are_in_with-clause-value
returns-else-are_in_with-clause-value g c certificate =
    let o = g.V.Domain.operations in
    let ws = words_of c.args.frame.locals.now in
    let stored = stored_where o (claims_of o certificate) (seen c.args.listed.now) (seen_frame c.args.frame) c.args.values c.has_word.ensures c.args.local c.requires in
    let counted = c.word_count.ensures in
    let back : c.args.local < length ws → ((x : ℕ) → In o c.args.values x → AllZip (In o) c.args.listed.now.locals.now (slice_set ws c.args.local x)) → c.if-local-word_count.value ≡ true = λ low locals. elim c.if-local-word_count.branch [
      | then-local-word_count w ↦ w.value-is ∙ w.are_in_with.ensures.1 locals
      | else-local-word_count w ↦ absurd (let above = w.if-local-word_count.false in omega (arith, above, low, counted))
    ] in
    (λ t. absurd (no_and_yes c.if-local-word_count.value c.if-are_in_with.false t), λ all. back (stored.1 all).0 (stored.1 all).1)
