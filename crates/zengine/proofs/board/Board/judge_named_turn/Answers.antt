use Rattle.std.proofs.Common.{◌∙◌, sym, arith}
use Rattle.zengine.specs.declared.doing.Naming.TheVariants as namings
use Rattle.zengine.specs.declared.doing.Aside.TheVariants as asides
use Rattle.zengine.specs.declared.row.Action.TheVariants as actions
use Rattle.zengine.proofs.Judged.{can_stay_named}
use Rattle.zengine.proofs.Named as by
use Rattle.zengine.proofs.board.Board.judge_named_turn.Goals as goal

pub held_slot-requires : goal.held_slot-requires
held_slot-requires c = by.fewer c.requires.stands.0 c.args.rows.now c.args.self.now c.args.self.now (omega arith) (omega arith) c.requires.stands.1 (namings.Check c.args.op) c.args.count c.args.height (by.does c.requires.stands.0 c.args.rows.now c.args.self.now c.args.self.now (omega arith) (omega arith) c.requires.stands.1 (actions.Aside (asides.NamedTurn c.args.op c.args.turning c.args.count c.args.height)) c.requires.action).names

pub returns-in-Err-clause-judges : goal.returns-in-Err-clause-judges
returns-in-Err-clause-judges c = λ game st same. by.by_unheld game c.args.rows.now c.args.self.now c.args.self.now (omega arith) (omega arith) st (namings.Check c.args.op) c.args.count c.args.height (by.does game c.args.rows.now c.args.self.now c.args.self.now (omega arith) (omega arith) st (actions.Aside (asides.NamedTurn c.args.op c.args.turning c.args.count c.args.height)) c.requires.action).names c.in-Err.halt (by.told_of _ _ _ _ _ _ _ _ c.held_slot.ensures.slot c.in-Err.is c.read-number.ensures same)

pub returns-then-holds-sense-clause-judges : goal.returns-then-holds-sense-clause-judges
returns-then-holds-sense-clause-judges c = λ game st same. can_stay_named game c.args.rows.now c.args.self.now (omega arith) (omega arith) st c.args.count c.args.height c.in-Ok.slot (by.told_of _ _ _ _ _ _ _ _ c.held_slot.ensures.slot c.in-Ok.is c.read-number.ensures same) c.args.op c.args.turning (by.does game c.args.rows.now c.args.self.now c.args.self.now (omega arith) (omega arith) st (actions.Aside (asides.NamedTurn c.args.op c.args.turning c.args.count c.args.height)) c.requires.action) (λ again. by.other_sense _ _ _ c.sense.ensures c.if-holds-sense.true ((by.asked_of _ _ _ _ _ _ _ _ c.holds-holds.ensures c.question_behind.ensures c.apply-word.ensures c.read.ensures c.read-2.ensures) ∙ again))

pub way_back-requires : goal.way_back-requires
way_back-requires c = λ some. by.index_within c.requires.stands.0 c.args.rows.now c.args.self.now c.args.self.now (omega arith) (omega arith) c.requires.stands.1 some

pub returns-in-Ok-way_back-clause-judges : goal.returns-in-Ok-way_back-clause-judges
returns-in-Ok-way_back-clause-judges c = λ game st same. by.turn_can game c.args.rows.now c.args.self.now c.args.self.now (omega arith) (omega arith) st c.args.count c.args.height c.in-Ok.slot c.args.op c.args.turning (by.does game c.args.rows.now c.args.self.now c.args.self.now (omega arith) (omega arith) st (actions.Aside (asides.NamedTurn c.args.op c.args.turning c.args.count c.args.height)) c.requires.action) (by.told_of _ _ _ _ _ _ _ _ c.held_slot.ensures.slot c.in-Ok.is c.read-number.ensures same) (sym (by.asked_of _ _ _ _ _ _ _ _ c.holds-holds.ensures c.question_behind.ensures c.apply-word.ensures c.read.ensures c.read-2.ensures) ∙ by.same_sense _ _ _ c.sense.ensures c.if-holds-sense.false) c.in-Ok-way_back.ensures.above c.in-Ok-way_back.ensures.placed

pub returns-in-Err-way_back-clause-judges : goal.returns-in-Err-way_back-clause-judges
returns-in-Err-way_back-clause-judges c = λ game st same. by.no_way c.args.rows.now c.args.self.now _ c.in-Err-way_back.halt c.in-Err-way_back.ensures.none (by.turn_main game c.args.rows.now c.args.self.now c.args.self.now (omega arith) (omega arith) st c.args.count c.args.height c.in-Ok.slot c.args.op c.args.turning (by.does game c.args.rows.now c.args.self.now c.args.self.now (omega arith) (omega arith) st (actions.Aside (asides.NamedTurn c.args.op c.args.turning c.args.count c.args.height)) c.requires.action) (by.told_of _ _ _ _ _ _ _ _ c.held_slot.ensures.slot c.in-Ok.is c.read-number.ensures same) (sym (by.asked_of _ _ _ _ _ _ _ _ c.holds-holds.ensures c.question_behind.ensures c.apply-word.ensures c.read.ensures c.read-2.ensures) ∙ by.same_sense _ _ _ c.sense.ensures c.if-holds-sense.false)) (by.turn_absent game c.args.rows.now c.args.self.now c.args.self.now (omega arith) (omega arith) st c.args.count c.args.height c.in-Ok.slot c.args.op c.args.turning (by.does game c.args.rows.now c.args.self.now c.args.self.now (omega arith) (omega arith) st (actions.Aside (asides.NamedTurn c.args.op c.args.turning c.args.count c.args.height)) c.requires.action) (by.told_of _ _ _ _ _ _ _ _ c.held_slot.ensures.slot c.in-Ok.is c.read-number.ensures same) (sym (by.asked_of _ _ _ _ _ _ _ _ c.holds-holds.ensures c.question_behind.ensures c.apply-word.ensures c.read.ensures c.read-2.ensures) ∙ by.same_sense _ _ _ c.sense.ensures c.if-holds-sense.false))
