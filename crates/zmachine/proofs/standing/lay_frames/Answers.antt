use Rattle.std.proofs.Common.{ap, subst, sym, refl, length, arith, ◌∙◌}
use Rattle.zquetzal.specs.Saved.{IsSaved}
use Rattle.zstate.specs.Saves.{resumed}
use Rattle.zstory.specs.LoadedStory.{LoadedStory}
use Rattle.zengine.specs.Body.{Body}
use Rattle.zengine.specs.Play.{state_in}
use Rattle.zmachine.proofs.Alike as alikes
use Rattle.zmachine.proofs.Course.{story_on}
use Rattle.zmachine.proofs.Restoring as restoring
use Rattle.zmachine.proofs.standing.lay_frames.Goals as goal

pub resume_within-requires-clause-size : goal.resume_within-requires-clause-size
resume_within-requires-clause-size g c = ap (λ (b : Body). length b.memory) c.lengthen.ensures.longer.body ∙ restoring.size_own (g.R.Rows.game c.args.rows.now) (g.R.Rows.all c.args.rows.now) _ _ c.requires.own (c.plays.ensures c.requires.played)

pub resume_within-requires-clause-fits : goal.resume_within-requires-clause-fits
resume_within-requires-clause-fits g c = ((g.R.Rows.game c.find_rows-at.new.rows), (g.R.Rows.all c.find_rows-at.new.rows), restoring.can_resume (g.R.Rows.game c.find_rows-at.new.rows) (g.R.Rows.all c.find_rows-at.new.rows) _ _ _ _ _ (story_on (g.R.Rows.game c.args.rows.now) (g.R.Rows.game c.find_rows-at.new.rows) _ c.find_rows-at.ensures.setting c.requires.own) c.first-first.ensures.few c.long.ensures.low c.requires.saved c.find_rows-at.ensures.rows c.as_slice.ensures)

pub returns-then-not-lengthen-clause-played : goal.returns-then-not-lengthen-clause-played
returns-then-not-lengthen-clause-played g c = λ no. alikes.played_longer (g.R.Rows.game c.args.rows.now) (g.R.Rows.all c.args.rows.now) _ _ c.lengthen.ensures.longer (c.plays.ensures c.requires.played) c.requires.played

pub returns-then-not-lengthen-clause-same : goal.returns-then-not-lengthen-clause-same
returns-then-not-lengthen-clause-same g c = λ no. (refl, alikes.state_longer (g.R.Rows.game c.args.rows.now) (g.R.Rows.all c.args.rows.now) _ _ c.lengthen.ensures.longer (c.plays.ensures c.requires.played))

pub returns-clause-state : goal.returns-clause-state
returns-clause-state g c = λ yes.
    let saved = subst (λ (x : LoadedStory). IsSaved x c.args.view.now) c.requires.own c.requires.saved in
    let resumes = c.resume_within.ensures.on (g.R.Rows.game c.find_rows-at.new.rows) (g.R.Rows.all c.find_rows-at.new.rows) (restoring.can_resume (g.R.Rows.game c.find_rows-at.new.rows) (g.R.Rows.all c.find_rows-at.new.rows) _ _ _ _ _ (story_on (g.R.Rows.game c.args.rows.now) (g.R.Rows.game c.find_rows-at.new.rows) _ c.find_rows-at.ensures.setting c.requires.own) c.first-first.ensures.few c.long.ensures.low c.requires.saved c.find_rows-at.ensures.rows c.as_slice.ensures) in
    restoring.laid_state (g.R.Rows.game c.args.rows.now) (g.R.Rows.game c.find_rows-at.new.rows) (g.R.Rows.all c.args.rows.now) (g.R.Rows.all c.find_rows-at.new.rows) c.find_rows-at.ensures.setting c.args.board.now c.lengthen.new.board c.resume_within.new.board c.args.view.now c.requires.played c.lengthen.ensures.longer resumes saved
    ∙ ap (λ (x : LoadedStory). resumed x c.args.view.now (state_in (g.R.Rows.game c.args.rows.now) c.args.board.now)) (sym c.requires.own)

pub returns-clause-laid : goal.returns-clause-laid
returns-clause-laid g c = λ yes.
    let resumes = c.resume_within.ensures.on (g.R.Rows.game c.find_rows-at.new.rows) (g.R.Rows.all c.find_rows-at.new.rows) (restoring.can_resume (g.R.Rows.game c.find_rows-at.new.rows) (g.R.Rows.all c.find_rows-at.new.rows) _ _ _ _ _ (story_on (g.R.Rows.game c.args.rows.now) (g.R.Rows.game c.find_rows-at.new.rows) _ c.find_rows-at.ensures.setting c.requires.own) c.first-first.ensures.few c.long.ensures.low c.requires.saved c.find_rows-at.ensures.rows c.as_slice.ensures) in
    record { within = rw (← c.long.ensures.long) resumes.within; frames = resumes.frames }

pub returns-clause-words : goal.returns-clause-words
returns-clause-words g c =
    let longer = alikes.length_longer _ _ c.lengthen.ensures.longer in
    let same = c.resume_within.ensures.words in
    omega (arith, longer, same)
