use Rattle.zruns.proofs.Buffers.{buffer_where, no_buffer_where}
use Rattle.zruns.proofs.runs.Runs.is_buffer.Goals as goal

pub returns-then-byte_at-least : goal.returns-then-byte_at-least
returns-then-byte_at-least c = buffer_where c.args.self.now c.args.address c.args.least c.args.size c.from.result c.byte_at.result c.is_fixed.result c.are_free.result c.if-not-is_fixed.false c.is_fixed.ensures c.if-byte_at-least.true c.byte_at.ensures c.from.ensures c.are_free.ensures

pub returns-then-not-is_fixed : goal.returns-then-not-is_fixed
returns-then-not-is_fixed c = no_buffer_where c.args.self.now c.args.address c.args.least c.args.size c.is_fixed.result c.if-not-is_fixed.true c.is_fixed.ensures
