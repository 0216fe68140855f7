use Rattle.std.proofs.Common.{rules}
use Rattle.std.specs.Io.KnownBytes.{Appends}
use Rattle.zexplain.specs.declared.manual.TheConstants.{MANUAL}
use Rattle.zpc.proofs.Kept.{appends_kept}
use Rattle.zpc.proofs.manual.tell_manual.Goals as goal

pub returns-clause-told : goal.returns-clause-told
returns-clause-told g c =
    let contents = g.W.Sink.contents in
    let written : Appends (contents c.args.writer.now) (contents c.write_whole.new.sink) MANUAL.now = search rules in
    λ well. appends_kept (contents c.args.writer.now) (contents c.write_whole.new.sink) (contents c.flush.new.self) MANUAL.now written c.flush.ensures.bytes
