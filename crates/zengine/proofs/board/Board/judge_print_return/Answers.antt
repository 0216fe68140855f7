use Rattle.std.proofs.Common.{arith}
use Rattle.zstate.specs.declared.halt.Halt.TheVariants as halts
use Rattle.zengine.specs.declared.doing.Aside.TheVariants as asides
use Rattle.zengine.specs.declared.row.Action.TheVariants as actions
use Rattle.zengine.proofs.Shown as by
use Rattle.zengine.proofs.board.Board.judge_print_return.Goals as goal

pub returns-in-Err-clause-judges : goal.returns-in-Err-clause-judges
returns-in-Err-clause-judges c = λ game st. by.by_unread game c.args.rows.now c.args.self.now c.args.self.now (omega arith) (omega arith) st (by.does game c.args.rows.now c.args.self.now c.args.self.now (omega arith) (omega arith) st (actions.Aside asides.PrintReturn) c.requires.action) (halts.Fault c.in-Err.fault) (rw c.deref.ensures.value at c.in-Err.ensures)

pub way_back-requires : goal.way_back-requires
way_back-requires c = λ some. by.index_within c.requires.stands.0 c.args.rows.now c.args.self.now c.args.self.now (omega arith) (omega arith) c.requires.stands.1 (by.does c.requires.stands.0 c.args.rows.now c.args.self.now c.args.self.now (omega arith) (omega arith) c.requires.stands.1 (actions.Aside asides.PrintReturn) c.requires.action) some

pub returns-in-Ok-way_back-clause-judges : goal.returns-in-Ok-way_back-clause-judges
returns-in-Ok-way_back-clause-judges c = λ game st. let e = (rw c.deref.ensures.value at c.in-Ok.ensures) in by.can_close game c.args.rows.now c.args.self.now c.args.self.now (omega arith) (omega arith) st (by.does game c.args.rows.now c.args.self.now c.args.self.now (omega arith) (omega arith) st (actions.Aside asides.PrintReturn) c.requires.action) e.0 e.1 c.in-Ok-way_back.ensures.above c.in-Ok-way_back.ensures.placed

pub returns-in-Err-way_back-clause-judges : goal.returns-in-Err-way_back-clause-judges
returns-in-Err-way_back-clause-judges c = λ game st. let e = (rw c.deref.ensures.value at c.in-Ok.ensures) in by.no_way c.args.rows.now c.args.self.now _ c.in-Err-way_back.halt c.in-Err-way_back.ensures.none (by.from_main game c.args.rows.now c.args.self.now c.args.self.now (omega arith) (omega arith) st (by.does game c.args.rows.now c.args.self.now c.args.self.now (omega arith) (omega arith) st (actions.Aside asides.PrintReturn) c.requires.action) e.0 e.1) (by.by_absent game c.args.rows.now c.args.self.now c.args.self.now (omega arith) (omega arith) st (by.does game c.args.rows.now c.args.self.now c.args.self.now (omega arith) (omega arith) st (actions.Aside asides.PrintReturn) c.requires.action) e.0 e.1)
