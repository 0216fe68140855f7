use Rattle.std.proofs.Common.{rules}
use Rattle.zcert.proofs.Follows.{refusal_unread, stream_refused, stream_reads, stream_cut}
use Rattle.zcert.proofs.stream.CertStream.finish.Goals as goal

pub returns-in-Some-clause-unread : goal.returns-in-Some-clause-unread
returns-in-Some-clause-unread g c = λ fed come. refusal_unread g.V.Spelled.format fed c.in-Some.error (stream_refused g.V.Spelled.format c.args.self c.in-Some.error fed (search rules) come)

pub returns-in-None-clause-read : goal.returns-in-None-clause-read
returns-in-None-clause-read g c = rw (← c.self.view_is) (stream_reads g.V.Spelled.format g.met.V.Spelled.is_format _ c.finish.result (search rules) c.finish.ensures.whole c.finish.ensures.cut)

pub returns-in-None-clause-unread : goal.returns-in-None-clause-unread
returns-in-None-clause-unread g c = rw (← c.self.view_is) (stream_cut g.V.Spelled.format g.met.V.Spelled.is_format _ c.finish.result (search rules) c.finish.ensures.whole c.finish.ensures.cut)
