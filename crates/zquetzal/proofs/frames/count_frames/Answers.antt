use Rattle.std.proofs.Common.{◌≡◌, false, true, sym, ◌∙◌, rules, tests}
use Rattle.std.proofs.lemmas.Result.{err_from_is_err_and}
use Rattle.zquetzal.specs.Reading.{are_frames}
use Rattle.zquetzal.specs.View.{frames_in}
use Rattle.zquetzal.proofs.Loops.{count_of_refused, count_of_other, count_of_first}
use Rattle.zquetzal.proofs.frames.count_frames.Goals as goal

pub returns-in_err-count : goal.returns-in_err-count
returns-in_err-count c =
    let p = err_from_is_err_and c.from_residual.result c.from_residual.ensures.1 in
    rw (p.1, p.2) (count_of_refused c.args.stacks.now c.in_err-count.field-0.0 c.in_err-count.ensures)

pub returns-then-not-begins_with_first : goal.returns-then-not-begins_with_first
returns-then-not-begins_with_first c =
    let other : are_frames (frames_in c.args.stacks.now) ≡ false = sym c.begins_with_first.ensures ∙ search (rules, tests) in
    count_of_other c.args.stacks.now c.in_ok-count.count c.in_ok-count.ensures other

pub returns : goal.returns
returns c =
    let first : are_frames (frames_in c.args.stacks.now) ≡ true = sym c.begins_with_first.ensures ∙ search (rules, tests) in
    count_of_first c.args.stacks.now c.in_ok-count.count c.in_ok-count.ensures first
