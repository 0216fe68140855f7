use Rattle.std.proofs.Common.{◌≡◌, [], sym, ◌∙◌}
use Rattle.std.proofs.lemmas.Result.{err_from_is_err_and}
use Rattle.zcert.specs.declared.error.CertError.TheVariants.{OutOfMemory}
use Rattle.zcert.proofs.Follows.{refusal_is}
use Rattle.zcert.proofs.Pieces.{finish_answers, finish_memory, refusal_memory}
use Rattle.zcert.proofs.reading.certificate_of.Goals as goal

pub returns-in_err-feed-clause-exact : goal.returns-in_err-feed-clause-exact
returns-in_err-feed-clause-exact g c =
    let p = err_from_is_err_and c.from_residual.result c.from_residual.ensures.1 in
    rw (p.1, p.2) (refusal_is g.V.Spelled.format c.args.bytes.now c.in_err-feed.field-0.0 (c.in_err-feed.ensures.refused [] c.new-stream.ensures.fed))

pub returns-in_err-feed-clause-memory : goal.returns-in_err-feed-clause-memory
returns-in_err-feed-clause-memory g c =
    let p = err_from_is_err_and c.from_residual.result c.from_residual.ensures.1 in
    λ e.
    let same : c.in_err-feed.field-0.0 ≡ OutOfMemory = (let both = sym p.1 ∙ e in cc) in
    refusal_memory g.V.Spelled.format c.args.bytes.now c.in_err-feed.field-0.0 (c.in_err-feed.ensures.refused [] c.new-stream.ensures.fed) same

pub returns-clause-exact : goal.returns-clause-exact
returns-clause-exact g c = finish_answers g.V.Spelled.format _ c.args.bytes.now c.finish.result c.finish.ensures.read c.finish.ensures.unread (c.feed.ensures.fed [] c.new-stream.ensures.fed)

pub returns-clause-memory : goal.returns-clause-memory
returns-clause-memory g c = finish_memory g.V.Spelled.format _ c.args.bytes.now c.finish.result c.finish.ensures.unread (c.feed.ensures.fed [] c.new-stream.ensures.fed)
