use Rattle.std.proofs.Common.{◌∙◌, Ok, Err, ap, sym, arith}
use Rattle.zstory.specs.LoadedStory.{static_base}
use Rattle.zstate.specs.declared.halt.Halt.TheVariants as halts
use Rattle.zengine.specs.declared.outside.Outside.{Outside}
use Rattle.zengine.specs.declared.doing.Aside.TheVariants as asides
use Rattle.zengine.specs.declared.row.Action.TheVariants as actions
use Rattle.zengine.proofs.Titles.{may_title_in}
use Rattle.zengine.proofs.Heard as by
use Rattle.zengine.proofs.board.Board.judge_line.Goals as goal

pub returns-in-Err-clause-judges : goal.returns-in-Err-clause-judges
returns-in-Err-clause-judges c = λ game st same. by.by_untitled game c.args.rows.now c.args.self.now c.args.self.now (omega arith) (omega arith) st (by.does game c.args.rows.now c.args.self.now c.args.self.now (omega arith) (omega arith) st (actions.Aside asides.ReadLine) c.requires.action) (halts.Fault c.in-Err.fault) (may_title_in c.args.story.now game.setting.story _ c.args.self.now.memory.items (Err c.in-Err.fault) same c.deref.ensures.value c.in-Err.ensures)

pub returns-in-Err-judge-clause-judges : goal.returns-in-Err-judge-clause-judges
returns-in-Err-judge-clause-judges c = λ game st same. let s = (may_title_in c.args.story.now game.setting.story _ c.args.self.now.memory.items (Ok tt) same c.deref.ensures.value c.in-Ok.ensures) in by.by_unbuffered game c.args.rows.now c.args.self.now c.args.self.now (omega arith) (omega arith) st (by.does game c.args.rows.now c.args.self.now c.args.self.now (omega arith) (omega arith) st (actions.Aside asides.ReadLine) c.requires.action) s.0 s.1 (halts.Fault c.in-Err-judge.fault) (by.buffered_in game c.args.rows.now c.args.self.now c.args.self.now (omega arith) (omega arith) st (by.does game c.args.rows.now c.args.self.now c.args.self.now (omega arith) (omega arith) st (actions.Aside asides.ReadLine) c.requires.action) _ _ _ (Err (halts.Fault c.in-Err-judge.fault)) c.read-place.ensures c.read-parse.ensures c.deref-2.ensures.value (c.in-Err-judge.ensures.err game.setting.story (c.static_base.ensures.value ∙ ap static_base same)))

pub returns-then-not-has_line-clause-judges : goal.returns-then-not-has_line-clause-judges
returns-then-not-has_line-clause-judges c = λ game st same. let s = (may_title_in c.args.story.now game.setting.story _ c.args.self.now.memory.items (Ok tt) same c.deref.ensures.value c.in-Ok.ensures) in by.by_needed game c.args.rows.now c.args.self.now c.args.self.now (omega arith) (omega arith) st (by.does game c.args.rows.now c.args.self.now c.args.self.now (omega arith) (omega arith) st (actions.Aside asides.ReadLine) c.requires.action) s.0 s.1 (by.buffered_in game c.args.rows.now c.args.self.now c.args.self.now (omega arith) (omega arith) st (by.does game c.args.rows.now c.args.self.now c.args.self.now (omega arith) (omega arith) st (actions.Aside asides.ReadLine) c.requires.action) _ _ _ (Ok tt) c.read-place.ensures c.read-parse.ensures c.deref-2.ensures.value (c.in-Ok-judge.ensures.ok game.setting.story (c.static_base.ensures.value ∙ ap static_base same))) (ap (λ (o : Outside). o.prompted) (sym c.deref-3.ensures) ∙ c.if-deref.true) (c.has_line.ensures.none c.if-not-has_line.true)

pub returns-then-deref-clause-judges : goal.returns-then-deref-clause-judges
returns-then-deref-clause-judges c = λ game st same. let s = (may_title_in c.args.story.now game.setting.story _ c.args.self.now.memory.items (Ok tt) same c.deref.ensures.value c.in-Ok.ensures) in let w = c.has_line.ensures.some c.if-not-has_line.false in by.can_line game c.args.rows.now c.args.self.now c.args.self.now (omega arith) (omega arith) st (by.does game c.args.rows.now c.args.self.now c.args.self.now (omega arith) (omega arith) st (actions.Aside asides.ReadLine) c.requires.action) s.0 s.1 (by.buffered_in game c.args.rows.now c.args.self.now c.args.self.now (omega arith) (omega arith) st (by.does game c.args.rows.now c.args.self.now c.args.self.now (omega arith) (omega arith) st (actions.Aside asides.ReadLine) c.requires.action) _ _ _ (Ok tt) c.read-place.ensures c.read-parse.ensures c.deref-2.ensures.value (c.in-Ok-judge.ensures.ok game.setting.story (c.static_base.ensures.value ∙ ap static_base same))) (ap (λ (o : Outside). o.prompted) (sym c.deref-3.ensures) ∙ c.if-deref.true) w.0 w.1

pub returns-clause-judges : goal.returns-clause-judges
returns-clause-judges c = λ game st same. let s = (may_title_in c.args.story.now game.setting.story _ c.args.self.now.memory.items (Ok tt) same c.deref.ensures.value c.in-Ok.ensures) in by.can_prompt game c.args.rows.now c.args.self.now c.args.self.now (omega arith) (omega arith) st (by.does game c.args.rows.now c.args.self.now c.args.self.now (omega arith) (omega arith) st (actions.Aside asides.ReadLine) c.requires.action) s.0 s.1 (by.buffered_in game c.args.rows.now c.args.self.now c.args.self.now (omega arith) (omega arith) st (by.does game c.args.rows.now c.args.self.now c.args.self.now (omega arith) (omega arith) st (actions.Aside asides.ReadLine) c.requires.action) _ _ _ (Ok tt) c.read-place.ensures c.read-parse.ensures c.deref-2.ensures.value (c.in-Ok-judge.ensures.ok game.setting.story (c.static_base.ensures.value ∙ ap static_base same))) (ap (λ (o : Outside). o.prompted) (sym c.deref-3.ensures) ∙ c.if-deref.false)
