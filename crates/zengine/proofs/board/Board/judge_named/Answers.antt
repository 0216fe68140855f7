use Rattle.std.proofs.Common.{◌∙◌, ap, arith, sym}
use Rattle.zengine.specs.declared.doing.Aside.TheVariants as asides
use Rattle.zengine.specs.declared.doing.Naming.{Naming}
use Rattle.zengine.specs.declared.doing.Naming.TheVariants as namings
use Rattle.zengine.specs.declared.row.Action.TheVariants as actions
use Rattle.zengine.proofs.Named as by
use Rattle.zengine.proofs.Judged as j
use Rattle.zengine.proofs.board.Board.judge_named.Goals as goal

pub held_slot-requires : goal.held_slot-requires
held_slot-requires c = by.fewer c.requires.stands.0 c.args.rows.now c.args.self.now c.args.self.now (omega arith) (omega arith) c.requires.stands.1 c.args.naming c.args.count c.args.height (by.does c.requires.stands.0 c.args.rows.now c.args.self.now c.args.self.now (omega arith) (omega arith) c.requires.stands.1 (actions.Aside (asides.Named c.args.naming c.args.count c.args.height)) c.requires.action).names

pub returns-in-Err-clause-judges : goal.returns-in-Err-clause-judges
returns-in-Err-clause-judges c = λ game st same. by.by_unheld game c.args.rows.now c.args.self.now c.args.self.now (omega arith) (omega arith) st c.args.naming c.args.count c.args.height (by.does game c.args.rows.now c.args.self.now c.args.self.now (omega arith) (omega arith) st (actions.Aside (asides.Named c.args.naming c.args.count c.args.height)) c.requires.action).names c.in-Err.halt (by.told_of _ _ _ _ _ _ _ _ c.held_slot.ensures.slot c.in-Err.is c.read-number.ensures same)

pub returns-in-Lost-clause-judges : goal.returns-in-Lost-clause-judges
returns-in-Lost-clause-judges c = λ game st same. by.refused_at _ _ _ (by.by_lost game c.args.rows.now c.args.self.now c.args.self.now (omega arith) (omega arith) st c.args.count c.args.height c.in-Ok.field-0 c.in-Lost.nowhere (by.does game c.args.rows.now c.args.self.now c.args.self.now (omega arith) (omega arith) st (actions.Aside (asides.Named (namings.Lost c.in-Lost.nowhere) c.args.count c.args.height)) (c.requires.action ∙ ap (λ (n : Naming). actions.Aside (asides.Named n c.args.count c.args.height)) c.in-Lost.is)) (by.told_of _ _ _ _ _ _ _ _ c.held_slot.ensures.slot c.in-Ok.is c.read-number.ensures same)) (sym c.halt.ensures)

pub returns-in-Store-clause-judges : goal.returns-in-Store-clause-judges
returns-in-Store-clause-judges c = λ game st same. j.can_store_named game c.args.rows.now c.args.self.now (omega arith) (omega arith) st c.args.count c.args.height c.in-Ok.field-0 (by.told_of _ _ _ _ _ _ _ _ c.held_slot.ensures.slot c.in-Ok.is c.read-number.ensures same) (by.does game c.args.rows.now c.args.self.now c.args.self.now (omega arith) (omega arith) st (actions.Aside (asides.Named namings.Store c.args.count c.args.height)) (c.requires.action ∙ ap (λ (n : Naming). actions.Aside (asides.Named n c.args.count c.args.height)) c.in-Store.is))

pub returns-in-Load-clause-judges : goal.returns-in-Load-clause-judges
returns-in-Load-clause-judges c = λ game st same. j.can_load_named game c.args.rows.now c.args.self.now (omega arith) (omega arith) st c.args.count c.args.height c.in-Ok.field-0 (by.told_of _ _ _ _ _ _ _ _ c.held_slot.ensures.slot c.in-Ok.is c.read-number.ensures same) (by.does game c.args.rows.now c.args.self.now c.args.self.now (omega arith) (omega arith) st (actions.Aside (asides.Named namings.Load c.args.count c.args.height)) (c.requires.action ∙ ap (λ (n : Naming). actions.Aside (asides.Named n c.args.count c.args.height)) c.in-Load.is))

pub returns-in-Count-clause-judges : goal.returns-in-Count-clause-judges
returns-in-Count-clause-judges c = λ game st same. j.can_count_named game c.args.rows.now c.args.self.now (omega arith) (omega arith) st c.args.count c.args.height c.in-Ok.field-0 (by.told_of _ _ _ _ _ _ _ _ c.held_slot.ensures.slot c.in-Ok.is c.read-number.ensures same) c.in-Count.field-0 (by.does game c.args.rows.now c.args.self.now c.args.self.now (omega arith) (omega arith) st (actions.Aside (asides.Named (namings.Count c.in-Count.field-0) c.args.count c.args.height)) (c.requires.action ∙ ap (λ (n : Naming). actions.Aside (asides.Named n c.args.count c.args.height)) c.in-Count.is))

pub returns-in-Check-clause-judges : goal.returns-in-Check-clause-judges
returns-in-Check-clause-judges c = λ game st same. j.can_check_named game c.args.rows.now c.args.self.now (omega arith) (omega arith) st c.args.count c.args.height c.in-Ok.field-0 (by.told_of _ _ _ _ _ _ _ _ c.held_slot.ensures.slot c.in-Ok.is c.read-number.ensures same) c.in-Check.field-0 (by.does game c.args.rows.now c.args.self.now c.args.self.now (omega arith) (omega arith) st (actions.Aside (asides.Named (namings.Check c.in-Check.field-0) c.args.count c.args.height)) (c.requires.action ∙ ap (λ (n : Naming). actions.Aside (asides.Named n c.args.count c.args.height)) c.in-Check.is))
