use Rattle.std.proofs.Common.{◌≡◌, ◌≤◌, Ok, ap, subst, sym, refl, inl, inr, length, arith, rules, ◌∙◌, false, true}
use Rattle.zquetzal.specs.Saved.{IsSaved}
use Rattle.zstory.specs.LoadedStory.{IsSound, LoadedStory}
use Rattle.zengine.specs.Body.{Body}
use Rattle.zmachine.proofs.Alike as alikes
use Rattle.zmachine.proofs.Course.{story_on}
use Rattle.zmachine.proofs.Restoring as restoring
use Rattle.zmachine.proofs.resuming.go_on.Goals as goal

pub judge_save-requires-clause-now : goal.judge_save-requires-clause-now
judge_save-requires-clause-now g c = restoring.size_own (g.R.Rows.game c.args.rows.now) (g.R.Rows.all c.args.rows.now) _ _ c.requires.own (c.plays.ensures c.requires.played)

pub resume_within-requires-clause-size : goal.resume_within-requires-clause-size
resume_within-requires-clause-size g c = ap (λ (b : Body). length b.memory) c.lengthen.ensures.longer.body ∙ restoring.size_own (g.R.Rows.game c.args.rows.now) (g.R.Rows.all c.args.rows.now) _ _ c.requires.own (c.plays.ensures c.requires.played)

pub resume_within-requires-clause-fits : goal.resume_within-requires-clause-fits
resume_within-requires-clause-fits g c = ((g.R.Rows.game c.find_rows-at.new.rows), (g.R.Rows.all c.find_rows-at.new.rows), restoring.can_resume (g.R.Rows.game c.find_rows-at.new.rows) (g.R.Rows.all c.find_rows-at.new.rows) _ _ _ _ _ (story_on (g.R.Rows.game c.args.rows.now) (g.R.Rows.game c.find_rows-at.new.rows) _ c.find_rows-at.ensures.setting c.requires.own) c.first-first.ensures.few c.long.ensures.low c.in_ok-view.ensures.found.saved c.find_rows-at.ensures.rows c.as_slice.ensures)

pub returns-in-Err-clause-err : goal.returns-in-Err-clause-err
returns-in-Err-clause-err g c = inl (restoring.restored_by (g.R.Rows.game c.args.rows.now).setting c.args.story.now c.args.save.now _ c.in_ok-view.view c.requires.own c.in_ok-view.ensures.exact ∙ c.in-Err.ensures.err)

pub returns-in-Err-clause-narrow : goal.returns-in-Err-clause-narrow
returns-in-Err-clause-narrow g c = inl (restoring.restored_by (g.R.Rows.game c.args.rows.now).setting c.args.story.now c.args.save.now _ c.in_ok-view.view c.requires.own c.in_ok-view.ensures.exact ∙ c.in-Err.ensures.err)

pub returns-then-not-lengthen-clause-played : goal.returns-then-not-lengthen-clause-played
returns-then-not-lengthen-clause-played g c = alikes.played_longer (g.R.Rows.game c.args.rows.now) (g.R.Rows.all c.args.rows.now) _ _ c.lengthen.ensures.longer (c.plays.ensures c.requires.played) c.requires.played

pub returns-then-not-lengthen-clause-same : goal.returns-then-not-lengthen-clause-same
returns-then-not-lengthen-clause-same g c =
    let short : c.lengthen.result ≡ false = search rules in
    (refl, alikes.state_longer (g.R.Rows.game c.args.rows.now) (g.R.Rows.all c.args.rows.now) _ _ c.lengthen.ensures.longer (c.plays.ensures c.requires.played), c.lengthen.ensures.kept short)

pub returns-then-not-lengthen-clause-err : goal.returns-then-not-lengthen-clause-err
returns-then-not-lengthen-clause-err g c = restoring.wanted_save (g.R.Rows.game c.args.rows.now).setting c.args.story.now c.args.save.now _ c.in_ok-view.view c.requires.own c.in_ok-view.ensures.exact

pub returns-then-not-lengthen-clause-narrow : goal.returns-then-not-lengthen-clause-narrow
returns-then-not-lengthen-clause-narrow g c =
    let short : c.lengthen.result ≡ false = search rules in
    let few = c.lengthen.ensures.short short in
    let wanted = c.words_wanted.ensures in
    inr (restoring.narrow_save (g.R.Rows.game c.args.rows.now).setting c.args.story.now c.args.save.now _ c.in_ok-view.view c.requires.own c.in_ok-view.ensures.exact (omega (arith, few, wanted)))

pub returns-clause-played : goal.returns-clause-played
returns-clause-played g c =
    let sound = subst (λ (x : LoadedStory). IsSound x.memory) c.requires.own c.memory-memory.ensures.sound in
    let saved = subst (λ (x : LoadedStory). IsSaved x c.in_ok-view.view) c.requires.own c.in_ok-view.ensures.found.saved in
    let bytes = rw c.memory.ensures at c.are_bytes.ensures in
    restoring.laid_played (g.R.Rows.game c.args.rows.now) (g.R.Rows.game c.find_rows-at.new.rows) (g.R.Rows.all c.args.rows.now) (g.R.Rows.all c.find_rows-at.new.rows) c.find_rows-at.ensures.setting c.args.board.now c.lengthen.new.board c.resume_within.new.board c.in_ok-view.view c.requires.played c.lengthen.ensures.longer (c.resume_within.ensures.on (g.R.Rows.game c.find_rows-at.new.rows) (g.R.Rows.all c.find_rows-at.new.rows) (restoring.can_resume (g.R.Rows.game c.find_rows-at.new.rows) (g.R.Rows.all c.find_rows-at.new.rows) _ _ _ _ _ (story_on (g.R.Rows.game c.args.rows.now) (g.R.Rows.game c.find_rows-at.new.rows) _ c.find_rows-at.ensures.setting c.requires.own) c.first-first.ensures.few c.long.ensures.low c.in_ok-view.ensures.found.saved c.find_rows-at.ensures.rows c.as_slice.ensures)) saved c.saves_are_states.ensures.keep sound bytes c.long.ensures.long c.args.story.now c.requires.own c.in-Ok.ensures.ok

pub returns-clause-ok : goal.returns-clause-ok
returns-clause-ok g c =
    let saved = subst (λ (x : LoadedStory). IsSaved x c.in_ok-view.view) c.requires.own c.in_ok-view.ensures.found.saved in
    restoring.laid_restores (g.R.Rows.game c.args.rows.now) (g.R.Rows.game c.find_rows-at.new.rows) (g.R.Rows.all c.args.rows.now) (g.R.Rows.all c.find_rows-at.new.rows) c.find_rows-at.ensures.setting c.args.board.now c.lengthen.new.board c.resume_within.new.board c.in_ok-view.view c.requires.played c.lengthen.ensures.longer (c.resume_within.ensures.on (g.R.Rows.game c.find_rows-at.new.rows) (g.R.Rows.all c.find_rows-at.new.rows) (restoring.can_resume (g.R.Rows.game c.find_rows-at.new.rows) (g.R.Rows.all c.find_rows-at.new.rows) _ _ _ _ _ (story_on (g.R.Rows.game c.args.rows.now) (g.R.Rows.game c.find_rows-at.new.rows) _ c.find_rows-at.ensures.setting c.requires.own) c.first-first.ensures.few c.long.ensures.low c.in_ok-view.ensures.found.saved c.find_rows-at.ensures.rows c.as_slice.ensures)) saved c.args.story.now c.args.save.now c.requires.own c.in_ok-view.ensures.exact c.in-Ok.ensures.ok

pub returns-clause-waits : goal.returns-clause-waits
returns-clause-waits g c =
    let saved = subst (λ (x : LoadedStory). IsSaved x c.in_ok-view.view) c.requires.own c.in_ok-view.ensures.found.saved in
    restoring.laid_waits (g.R.Rows.game c.args.rows.now) (g.R.Rows.game c.find_rows-at.new.rows) (g.R.Rows.all c.args.rows.now) (g.R.Rows.all c.find_rows-at.new.rows) c.find_rows-at.ensures.setting c.args.board.now c.lengthen.new.board c.resume_within.new.board c.in_ok-view.view c.requires.played c.lengthen.ensures.longer (c.resume_within.ensures.on (g.R.Rows.game c.find_rows-at.new.rows) (g.R.Rows.all c.find_rows-at.new.rows) (restoring.can_resume (g.R.Rows.game c.find_rows-at.new.rows) (g.R.Rows.all c.find_rows-at.new.rows) _ _ _ _ _ (story_on (g.R.Rows.game c.args.rows.now) (g.R.Rows.game c.find_rows-at.new.rows) _ c.find_rows-at.ensures.setting c.requires.own) c.first-first.ensures.few c.long.ensures.low c.in_ok-view.ensures.found.saved c.find_rows-at.ensures.rows c.as_slice.ensures)) saved

pub returns-clause-words : goal.returns-clause-words
returns-clause-words g c =
    let longer = alikes.length_longer _ _ c.lengthen.ensures.longer in
    let same = c.resume_within.ensures.words in
    omega (arith, longer, same)
