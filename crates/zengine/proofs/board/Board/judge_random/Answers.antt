use Rattle.std.proofs.Common.{refl, arith}
use Rattle.zengine.specs.declared.doing.Aside.TheVariants as asides
use Rattle.zengine.specs.declared.row.Action.TheVariants as actions
use Rattle.zengine.proofs.Outers as by
use Rattle.zengine.proofs.board.Board.judge_random.Goals as goal

pub returns-then-lacks_word-clause-judges : goal.returns-then-lacks_word-clause-judges
returns-then-lacks_word-clause-judges c = λ game st. by.by_lacking game c.args.rows.now c.args.self.now c.args.self.now (omega arith) (omega arith) st (by.does game c.args.rows.now c.args.self.now c.args.self.now (omega arith) (omega arith) st (actions.Aside asides.Random) c.requires.action) (rw (c.read-range.ensures, c.if-lacks_word.true) at (c.lacks_word.ensures (by.at_draw game c.args.rows.now c.args.self.now c.args.self.now (omega arith) (omega arith) st (by.does game c.args.rows.now c.args.self.now c.args.self.now (omega arith) (omega arith) st (actions.Aside asides.Random) c.requires.action)) refl refl))

pub returns-clause-judges : goal.returns-clause-judges
returns-clause-judges c = λ game st. by.can_draw game c.args.rows.now c.args.self.now c.args.self.now (omega arith) (omega arith) st (by.does game c.args.rows.now c.args.self.now c.args.self.now (omega arith) (omega arith) st (actions.Aside asides.Random) c.requires.action) (rw (c.read-range.ensures, c.if-lacks_word.false) at (c.lacks_word.ensures (by.at_draw game c.args.rows.now c.args.self.now c.args.self.now (omega arith) (omega arith) st (by.does game c.args.rows.now c.args.self.now c.args.self.now (omega arith) (omega arith) st (actions.Aside asides.Random) c.requires.action)) refl refl))
