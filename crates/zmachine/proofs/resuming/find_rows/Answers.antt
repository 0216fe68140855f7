use Rattle.std.proofs.Common.{rules, ◌≡◌, ◌+◌, ◌≤◌, ℕ, [], ◌∷◌, List, length, ap, subst, arith, ◌∙◌}
use Rattle.std.proofs.lemmas.List.{length-append}
use Rattle.std.specs.List.{AllByRecursion}
use Rattle.zquetzal.specs.Saved.{Frame as SavedFrame, IsFrame}
use Rattle.zquetzal.specs.View.{frames_left, seen_frame}
use Rattle.zstate.specs.State.{Setting}
use Rattle.zmachine.proofs.Backs.{Found, count_next, found_kept, found_next, have_rows}
use Rattle.zmachine.proofs.resuming.find_rows.Goals as goal

pub loop-frame-preserved : goal.loop-frame-preserved
loop-frame-preserved g c =
    let s = c.loop-frame.invariant in
    let f : SavedFrame = seen_frame c.in-Some-next.frame in
    let more : List SavedFrame = frames_left c.next-in-loop-frame.new.self in
    let yields : frames_left c.loop-frame.rest ≡ seen_frame c.in-Some-next.frame ∷ frames_left c.next-in-loop-frame.new.self = search rules in
    let fit = subst (λ (fs : List SavedFrame). AllByRecursion IsFrame fs) yields s.fit in
    let limit : ℕ = (g.R.Rows.game c.args.rows.now).setting.limit in
    let same = ap (λ (m : Setting). m.limit) s.setting in
    let longer = ap length yields in
    let few = c.requires.few in
    let number = s.number in
    let count = s.count in
    let low : c.loop-frame.number ≤ limit = omega (arith, number, count, longer, few) in
    let found = subst (λ (fs : List SavedFrame). Found c.args.story.now limit c.loop-frame.number (g.R.Rows.game c.loop-frame.rows) (g.R.Rows.all c.loop-frame.rows) c.size_of-below.result.count c.size_of-below.result.height (frames_left c.next.new.self) c.loop-frame.below.count c.loop-frame.below.height fs c.loop-frame.backs) yields s.found in
    record {
      setting = c.back_of.ensures.setting ∙ s.setting;
      fit = fit.1;
      low = c.size_of-below-in-Some-next.ensures.low;
      less = λ t wants. s.less t (c.back_of.ensures.less t wants);
      found = found_next c.args.story.now limit c.loop-frame.number _ _ _ _ _ _ _ _ f more (g.R.Rows.game c.back_of.new.rows) (g.R.Rows.all c.back_of.new.rows) c.back_of.result _ _ _ _ low c.back_of.ensures.others (found_kept limit _ _ _ same c.back_of.ensures.within) c.back_of.ensures.back c.size_of-below-in-Some-next.ensures.count c.size_of-below-in-Some-next.ensures.height (omega arith) c.push.ensures found;
      number = (let n = s.number in let long = ap length c.push.ensures ∙ length-append c.loop-frame.backs (c.back_of.result ∷ []) in omega (arith, n, long));
      count = count_next _ _ _ f _ more _ c.push.ensures yields s.count;
    }

pub returns-clause-rows : goal.returns-clause-rows
returns-clause-rows g c =
    let s = c.loop-frame.invariant in
    let first : SavedFrame = seen_frame c.in-Some.first in
    let all : c.args.save.now.frames ≡ seen_frame c.in-Some.first ∷ frames_left c.next.new.self = search rules in
    let none : frames_left c.loop-frame.rest ≡ [] = search rules in
    let limit : ℕ = (g.R.Rows.game c.args.rows.now).setting.limit in
    let few = c.requires.few in
    let number = s.number in
    let count = s.count in
    let low : c.loop-frame.number ≤ limit = omega (arith, number, count, few) in
    have_rows c.args.story.now limit c.loop-frame.number (g.R.Rows.game c.loop-frame.rows) (g.R.Rows.all c.loop-frame.rows) c.size_of-below.result.count c.size_of-below.result.height (frames_left c.next.new.self) c.loop-frame.below.count c.loop-frame.below.height c.loop-frame.backs (g.R.Rows.game c.row_anew.new.self) (g.R.Rows.all c.row_anew.new.self) c.args.save.now.frames first (frames_left c.loop-frame.rest) _ _ _ c.row_anew.result low all c.size_of-below.ensures.count c.size_of-below.ensures.height none c.row_anew.ensures.others s.found c.newest_spot.ensures c.row_anew.ensures.found

pub returns-clause-less : goal.returns-clause-less
returns-clause-less g c = λ t wants. c.loop-frame.invariant.less t (c.row_anew.ensures.less t wants)
