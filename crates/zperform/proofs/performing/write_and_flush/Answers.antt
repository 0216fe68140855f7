use Rattle.std.proofs.Common.{rules}
use Rattle.zperform.specs.Devices.{seen}
use Rattle.zperform.proofs.EndLemmas.{then_flushed}
use Rattle.zperform.proofs.performing.write_and_flush.Goals as goal

pub returns : goal.returns
returns g c =
    let of = seen g.W.Sink.contents g.W.Sink.failures g.W.Sink.waits in
    then_flushed (of c.args.writer.now) (of c.write_whole.new.sink) (of c.flush.new.self) c.args.text.now c.flush.result (search rules) (search rules) c.flush.ensures.bytes c.flush.ensures.through c.flush.ensures.counts
