use Rattle.std.proofs.Common.{arith}
use Rattle.zstory.specs.Dictionary.{encoded_text}
use Rattle.zstory.proofs.Neighbours.{neighbours_more}
use Rattle.zstory.proofs.dictionary.Entries.are_ordered.Goals as goal

pub loop-entry-preserved : goal.loop-entry-preserved
loop-entry-preserved c =
    let loop = c.loop-entry in
    neighbours_more (encoded_text c.args.self.now.memory.now) loop.entry (omega arith) loop.invariant (omega arith)
