use Rattle.std.proofs.Common.{rules}
use Rattle.zquetzal.proofs.Numbers.{IsBytes}
use Rattle.zunpack.specs.View.{seen_parts}
use Rattle.zunpack.proofs.Handed.{parts_long, unpacked_as, unpacked_not}
use Rattle.zunpack.proofs.unpacking.unpack.Goals as goal

pub rewritten-requires-clause-long : goal.rewritten-requires-clause-long
rewritten-requires-clause-long c = parts_long c.args.story.now c.args.file.now (seen_parts c.in_ok-parts.parts) c.in_ok-parts.ensures.parts

pub rewritten-requires-clause-short : goal.rewritten-requires-clause-short
rewritten-requires-clause-short c = c.in_ok-parts.ensures.taken.short

pub rewritten-requires-clause-fits : goal.rewritten-requires-clause-fits
rewritten-requires-clause-fits c = c.in_ok-parts.ensures.taken.fits

pub returns-in_err-parts-clause-found : goal.returns-in_err-parts-clause-found
returns-in_err-parts-clause-found c =
    let fits : IsBytes c.args.file.now = λ i. search rules in
    (unpacked_not (λ x. x.items) c.args.story.now c.args.file.now c.from_residual.result c.in_err-parts.field-0.0 c.from_residual.ensures fits c.in_err-parts.ensures.err).found

pub returns-in_err-parts-clause-read : goal.returns-in_err-parts-clause-read
returns-in_err-parts-clause-read c =
    let fits : IsBytes c.args.file.now = λ i. search rules in
    (unpacked_not (λ x. x.items) c.args.story.now c.args.file.now c.from_residual.result c.in_err-parts.field-0.0 c.from_residual.ensures fits c.in_err-parts.ensures.err).read

pub returns-in_err-parts-clause-only : goal.returns-in_err-parts-clause-only
returns-in_err-parts-clause-only c =
    let fits : IsBytes c.args.file.now = λ i. search rules in
    (unpacked_not (λ x. x.items) c.args.story.now c.args.file.now c.from_residual.result c.in_err-parts.field-0.0 c.from_residual.ensures fits c.in_err-parts.ensures.err).only

pub returns-in_err-parts-clause-lowest_cause : goal.returns-in_err-parts-clause-lowest_cause
returns-in_err-parts-clause-lowest_cause c =
    let fits : IsBytes c.args.file.now = λ i. search rules in
    (unpacked_not (λ x. x.items) c.args.story.now c.args.file.now c.from_residual.result c.in_err-parts.field-0.0 c.from_residual.ensures fits c.in_err-parts.ensures.err).lowest_cause

pub returns-in_err-parts-clause-no_cause : goal.returns-in_err-parts-clause-no_cause
returns-in_err-parts-clause-no_cause c =
    let fits : IsBytes c.args.file.now = λ i. search rules in
    (unpacked_not (λ x. x.items) c.args.story.now c.args.file.now c.from_residual.result c.in_err-parts.field-0.0 c.from_residual.ensures fits c.in_err-parts.ensures.err).no_cause

pub returns-clause-found : goal.returns-clause-found
returns-clause-found c =
    let made = c.rewritten.ensures in
    (unpacked_as (λ x. x.items) c.args.story.now c.args.file.now (seen_parts c.in_ok-parts.parts) c.rewritten.result c.in_ok-parts.ensures.parts c.in_ok-parts.ensures.taken made.text made.read made.err).found

pub returns-clause-read : goal.returns-clause-read
returns-clause-read c =
    let made = c.rewritten.ensures in
    (unpacked_as (λ x. x.items) c.args.story.now c.args.file.now (seen_parts c.in_ok-parts.parts) c.rewritten.result c.in_ok-parts.ensures.parts c.in_ok-parts.ensures.taken made.text made.read made.err).read

pub returns-clause-only : goal.returns-clause-only
returns-clause-only c =
    let made = c.rewritten.ensures in
    (unpacked_as (λ x. x.items) c.args.story.now c.args.file.now (seen_parts c.in_ok-parts.parts) c.rewritten.result c.in_ok-parts.ensures.parts c.in_ok-parts.ensures.taken made.text made.read made.err).only

pub returns-clause-lowest_cause : goal.returns-clause-lowest_cause
returns-clause-lowest_cause c =
    let made = c.rewritten.ensures in
    (unpacked_as (λ x. x.items) c.args.story.now c.args.file.now (seen_parts c.in_ok-parts.parts) c.rewritten.result c.in_ok-parts.ensures.parts c.in_ok-parts.ensures.taken made.text made.read made.err).lowest_cause

pub returns-clause-no_cause : goal.returns-clause-no_cause
returns-clause-no_cause c =
    let made = c.rewritten.ensures in
    (unpacked_as (λ x. x.items) c.args.story.now c.args.file.now (seen_parts c.in_ok-parts.parts) c.rewritten.result c.in_ok-parts.ensures.parts c.in_ok-parts.ensures.taken made.text made.read made.err).no_cause
