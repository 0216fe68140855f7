use Rattle.std.proofs.Common.{◌≡◌, List, [], ℕ, length, sym, ap, ◌∙◌, rules, tests}
use Rattle.std.proofs.lemmas.Result.{err_from_is_err_and}
use Rattle.std.proofs.lemmas.List.{nil_from_length}
use Rattle.zquetzal.specs.Survey.{Survey, surveyed}
use Rattle.zquetzal.specs.View.{seen_chunk}
use Rattle.zquetzal.proofs.Loops.{survey_at_is, survey_step, survey_refused, surveyed_end}
use Rattle.zquetzal.proofs.survey.surveyed.Invariants.{found_so_far}
use Rattle.zquetzal.proofs.survey.surveyed.Goals as goal

pub loop-survey-init : goal.loop-survey-init
loop-survey-init c = ap (λ (s : Survey). surveyed (length c.args.bytes.now) s c.args.bytes.now) c.new-survey.ensures ∙ survey_at_is c.args.bytes.now

pub returns-in_err-chunk : goal.returns-in_err-chunk
returns-in_err-chunk c =
    let some : (c.loop-survey.rest.now ≡ [] → ⊥) = λ n. search (rules, tests) in
    let p = err_from_is_err_and c.from_residual.result c.from_residual.ensures.1 in
    rw (p.1, p.2) (sym c.loop-survey.invariant ∙ survey_refused (found_so_far c.loop-survey.survey) c.loop-survey.rest.now c.in_err-chunk.field-0.0 some c.in_err-chunk.ensures.value)

pub loop-survey-preserved : goal.loop-survey-preserved
loop-survey-preserved c =
    let after = c.in_ok-chunk.after.now in
    ap (λ (s : Survey). surveyed (length after) s after) c.noted-survey.ensures
    ∙ survey_step (found_so_far c.loop-survey.survey) c.loop-survey.rest.now (seen_chunk c.in_ok-chunk.chunk, after) c.in_ok-chunk.ensures.value
    ∙ c.loop-survey.invariant

pub returns : goal.returns
returns c =
    let empty : length c.loop-survey.rest.now ≡ 0 = search (rules, tests) in
    let none = nil_from_length c.loop-survey.rest.now empty in
    let s = found_so_far c.loop-survey.survey in
    sym c.loop-survey.invariant ∙ ap (λ (r : List ℕ). surveyed (length r) s r) none ∙ surveyed_end 0 s
