use Rattle.std.proofs.Common.{rules}
use Rattle.zperform.proofs.FileLemmas.{beginning_more}
use Rattle.zperform.proofs.files.read_more.Goals as goal

pub returns-clause-more : goal.returns-clause-more
returns-clause-more g c = λ bytes known begun.
    beginning_more c.len-at.result c.in-Some.count c.args.file.now.items c.read_at.new.buffer c.extend_from_slice.new.self.items bytes (search rules) c.in-Some.ensures.bound c.in_ok-extend_from_slice.ensures.items begun (rw known at c.in-Some.ensures.bytes)
