use Rattle.std.proofs.Common.{true, refl, arith}
use Rattle.zengine.specs.declared.doing.Aside.TheVariants as asides
use Rattle.zengine.specs.declared.row.Action.TheVariants as actions
use Rattle.zengine.proofs.Losing as by
use Rattle.zengine.proofs.board.Board.lost_random.Goals as goal

pub returns-then-lacks_word : goal.returns-then-lacks_word
returns-then-lacks_word c = λ game st.
    let is = by.does true game c.args.rows.now c.args.self.now c.args.self.now (omega arith) (omega arith) st (actions.Aside asides.RandomFull) c.requires.action in
    by.by_lacking game c.args.rows.now c.args.self.now (omega arith) (omega arith) st is (rw (c.read-range.ensures, c.if-lacks_word.true) at (c.lacks_word.ensures (by.at_draw game c.args.rows.now c.args.self.now (omega arith) (omega arith) st is) refl refl))

pub returns : goal.returns
returns c = λ game st.
    let is = by.does true game c.args.rows.now c.args.self.now c.args.self.now (omega arith) (omega arith) st (actions.Aside asides.RandomFull) c.requires.action in
    by.by_full game c.args.rows.now c.args.self.now (omega arith) (omega arith) st is (rw (c.read-range.ensures, c.if-lacks_word.false) at (c.lacks_word.ensures (by.at_draw game c.args.rows.now c.args.self.now (omega arith) (omega arith) st is) refl refl))
