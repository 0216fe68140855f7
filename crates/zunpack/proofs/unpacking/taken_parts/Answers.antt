use Rattle.zunpack.specs.Causes.{IsCause, IsRefused}
use Rattle.zunpack.specs.View.{AreTaken, HasParts, seen_parts}
use Rattle.zunpack.proofs.Made.{lowest_refused}
use Rattle.zunpack.proofs.Handed.{handed, handed_none, parts_argued, parts_long, parts_short}
use Rattle.zunpack.proofs.unpacking.taken_parts.Goals as goal

pub returns-in_err-parts-clause-parts : goal.returns-in_err-parts-clause-parts
returns-in_err-parts-clause-parts c = handed_none (λ x. HasParts c.args.file.now (seen_parts x)) c.from_residual.result c.in_err-parts.field-0.0 c.from_residual.ensures

pub returns-in_err-parts-clause-taken : goal.returns-in_err-parts-clause-taken
returns-in_err-parts-clause-taken c = handed_none (λ x. AreTaken c.args.story.now (seen_parts x)) c.from_residual.result c.in_err-parts.field-0.0 c.from_residual.ensures

pub returns-in_err-parts-clause-err : goal.returns-in_err-parts-clause-err
returns-in_err-parts-clause-err c =
    let story = c.args.story.now in
    let file = c.args.file.now in
    let e = c.in_err-parts.field-0.0 in
    handed (IsRefused (IsCause story file)) c.from_residual.result e c.from_residual.ensures (lowest_refused story file e c.in_err-parts.ensures.err)

pub check_parts-requires-clause-long : goal.check_parts-requires-clause-long
check_parts-requires-clause-long c = parts_long c.args.story.now c.args.file.now (seen_parts c.in_ok-parts.parts) c.in_ok-parts.ensures.ok

pub check_parts-requires-clause-short : goal.check_parts-requires-clause-short
check_parts-requires-clause-short c = parts_short c.args.story.now c.args.file.now (seen_parts c.in_ok-parts.parts) c.in_ok-parts.ensures.ok

pub returns-in_err-check_parts-clause-parts : goal.returns-in_err-check_parts-clause-parts
returns-in_err-check_parts-clause-parts c = handed_none (λ x. HasParts c.args.file.now (seen_parts x)) c.from_residual-in_err-check_parts.result c.in_err-check_parts.field-0.0 c.from_residual-in_err-check_parts.ensures

pub returns-in_err-check_parts-clause-taken : goal.returns-in_err-check_parts-clause-taken
returns-in_err-check_parts-clause-taken c = handed_none (λ x. AreTaken c.args.story.now (seen_parts x)) c.from_residual-in_err-check_parts.result c.in_err-check_parts.field-0.0 c.from_residual-in_err-check_parts.ensures

pub returns-in_err-check_parts-clause-err : goal.returns-in_err-check_parts-clause-err
returns-in_err-check_parts-clause-err c =
    let story = c.args.story.now in
    let file = c.args.file.now in
    let e = c.in_err-check_parts.field-0.0 in
    handed (IsRefused (IsCause story file)) c.from_residual-in_err-check_parts.result e c.from_residual-in_err-check_parts.ensures (parts_argued story file (seen_parts c.in_ok-parts.parts) e c.in_ok-parts.ensures.ok c.in_err-check_parts.ensures.err)

pub returns-clause-parts : goal.returns-clause-parts
returns-clause-parts c = c.in_ok-parts.ensures.ok

pub returns-clause-taken : goal.returns-clause-taken
returns-clause-taken c = c.in_ok-check_parts.ensures.ok
