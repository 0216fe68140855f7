use Rattle.std.proofs.Common.{arith}
use Rattle.zengine.specs.declared.doing.Aside.TheVariants as asides
use Rattle.zengine.specs.declared.row.Action.TheVariants as actions
use Rattle.zengine.proofs.Tells as by
use Rattle.zengine.proofs.board.Board.judge_tell.Goals as goal

pub returns-in-Some-clause-judges : goal.returns-in-Some-clause-judges
returns-in-Some-clause-judges c = λ game st. by.can_tell game c.args.rows.now c.args.self.now c.args.self.now (omega arith) (omega arith) st c.args.telling (by.does game c.args.rows.now c.args.self.now c.args.self.now (omega arith) (omega arith) st (actions.Aside (asides.Tell c.args.telling)) c.requires.action).tells c.in-Some.field-0 (rw c.in-Some.is at c.told.ensures) (by.does game c.args.rows.now c.args.self.now c.args.self.now (omega arith) (omega arith) st (actions.Aside (asides.Tell c.args.telling)) c.requires.action).yes (by.does game c.args.rows.now c.args.self.now c.args.self.now (omega arith) (omega arith) st (actions.Aside (asides.Tell c.args.telling)) c.requires.action).no

pub returns-in-None-clause-judges : goal.returns-in-None-clause-judges
returns-in-None-clause-judges c = λ game st. rw c.need_of.ensures (by.by_untold game c.args.rows.now c.args.self.now c.args.self.now (omega arith) (omega arith) st c.args.telling (by.does game c.args.rows.now c.args.self.now c.args.self.now (omega arith) (omega arith) st (actions.Aside (asides.Tell c.args.telling)) c.requires.action).tells (rw c.in-None.is at c.told.ensures))
