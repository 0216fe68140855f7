use Rattle.std.proofs.Common.{◌≡◌, true, false, ◌∙◌}
use Rattle.zunpack.specs.declared.error.UnpackError.TheVariants as errors
use Rattle.zunpack.specs.View.{ReadsBack, plain_bytes, seen_parts}
use Rattle.zunpack.proofs.Handed.{back_as, handed_none, handed_nothing, lacks}
use Rattle.zunpack.proofs.unpacking.rewritten.Goals as goal

pub plain_text-requires-clause-long : goal.plain_text-requires-clause-long
plain_text-requires-clause-long c = c.requires.long

pub plain_text-requires-clause-short : goal.plain_text-requires-clause-short
plain_text-requires-clause-short c = c.requires.short

pub plain_text-requires-clause-fits : goal.plain_text-requires-clause-fits
plain_text-requires-clause-fits c = c.requires.fits

pub returns-in_err-text-clause-text : goal.returns-in_err-text-clause-text
returns-in_err-text-clause-text c = handed_none (λ x. x.items ≡ plain_bytes c.args.story.now (seen_parts c.args.parts)) c.from_residual.result errors.OutOfMemory c.from_residual.ensures

pub returns-in_err-text-clause-read : goal.returns-in_err-text-clause-read
returns-in_err-text-clause-read c = handed_nothing (ReadsBack c.args.story.now (plain_bytes c.args.story.now (seen_parts c.args.parts)) true) c.from_residual.result errors.OutOfMemory c.from_residual.ensures

pub returns-in_err-text-clause-err : goal.returns-in_err-text-clause-err
returns-in_err-text-clause-err c = lacks c.args.story.now (plain_bytes c.args.story.now (seen_parts c.args.parts)) c.from_residual.result c.from_residual.ensures

pub returns-then-not-is_save-clause-text : goal.returns-then-not-is_save-clause-text
returns-then-not-is_save-clause-text c = tt

pub returns-then-not-is_save-clause-read : goal.returns-then-not-is_save-clause-read
returns-then-not-is_save-clause-read c = tt

pub returns-then-not-is_save-clause-err : goal.returns-then-not-is_save-clause-err
returns-then-not-is_save-clause-err c =
    back_as c.args.story.now c.deref.result.now (plain_bytes c.args.story.now (seen_parts c.args.parts)) c.is_save.result false (c.deref.ensures.value ∙ c.in_ok-text.ensures) c.if-not-is_save.true c.is_save.ensures

pub returns-clause-text : goal.returns-clause-text
returns-clause-text c = c.in_ok-text.ensures

pub returns-clause-read : goal.returns-clause-read
returns-clause-read c =
    back_as c.args.story.now c.deref.result.now (plain_bytes c.args.story.now (seen_parts c.args.parts)) c.is_save.result true (c.deref.ensures.value ∙ c.in_ok-text.ensures) c.if-not-is_save.false c.is_save.ensures

pub returns-clause-err : goal.returns-clause-err
returns-clause-err c = tt
