use Rattle.std.proofs.Common.{Ok, Err, arith}
use Rattle.zstate.specs.declared.halt.Halt.TheVariants as halts
use Rattle.zengine.specs.declared.doing.Aside.TheVariants as asides
use Rattle.zengine.specs.declared.row.Action.TheVariants as actions
use Rattle.zengine.proofs.Titles.{may_title_in}
use Rattle.zengine.proofs.Shown as by
use Rattle.zengine.proofs.board.Board.judge_status.Goals as goal

pub returns-in-Ok-clause-judges : goal.returns-in-Ok-clause-judges
returns-in-Ok-clause-judges c = λ game st same. let s = (may_title_in c.args.story.now game.setting.story _ c.args.self.now.memory.items (Ok tt) same c.deref.ensures.value c.in-Ok.ensures) in by.can_status game c.args.rows.now c.args.self.now c.args.self.now (omega arith) (omega arith) st (by.does game c.args.rows.now c.args.self.now c.args.self.now (omega arith) (omega arith) st (actions.Aside asides.ShowStatus) c.requires.action) s.0 s.1

pub returns-in-Err-clause-judges : goal.returns-in-Err-clause-judges
returns-in-Err-clause-judges c = λ game st same. by.by_untitled game c.args.rows.now c.args.self.now c.args.self.now (omega arith) (omega arith) st (by.does game c.args.rows.now c.args.self.now c.args.self.now (omega arith) (omega arith) st (actions.Aside asides.ShowStatus) c.requires.action) (halts.Fault c.in-Err.fault) (may_title_in c.args.story.now game.setting.story _ c.args.self.now.memory.items (Err c.in-Err.fault) same c.deref.ensures.value c.in-Err.ensures)
