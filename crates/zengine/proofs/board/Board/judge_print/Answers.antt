use Rattle.std.proofs.Common.{arith}
use Rattle.zengine.specs.declared.doing.Aside.TheVariants as asides
use Rattle.zengine.specs.declared.row.Action.TheVariants as actions
use Rattle.zengine.proofs.Shown as by
use Rattle.zengine.proofs.board.Board.judge_print.Goals as goal

pub may_print-requires : goal.may_print-requires
may_print-requires c = record { table = rw c.deref.ensures.value (by.table c.requires.stands.0 c.args.rows.now c.args.self.now c.args.self.now (omega arith) (omega arith) c.requires.stands.1 _ c.requires.stands.2) }

pub returns-in-Ok-clause-judges : goal.returns-in-Ok-clause-judges
returns-in-Ok-clause-judges c = λ game st same. by.can_print game c.args.rows.now c.args.self.now c.args.self.now (omega arith) (omega arith) st c.args.printing c.args.objects same (by.does game c.args.rows.now c.args.self.now c.args.self.now (omega arith) (omega arith) st (actions.Aside (asides.Print c.args.printing)) c.requires.action) (rw (c.in-Ok.is, c.read-word.ensures, c.deref.ensures.value) at c.may_print.ensures)

pub returns-in-Err-clause-judges : goal.returns-in-Err-clause-judges
returns-in-Err-clause-judges c = λ game st same. by.by_unprintable game c.args.rows.now c.args.self.now c.args.self.now (omega arith) (omega arith) st c.args.printing c.args.objects same (by.does game c.args.rows.now c.args.self.now c.args.self.now (omega arith) (omega arith) st (actions.Aside (asides.Print c.args.printing)) c.requires.action) c.in-Err.fault (rw (c.in-Err.is, c.read-word.ensures, c.deref.ensures.value) at c.may_print.ensures)
