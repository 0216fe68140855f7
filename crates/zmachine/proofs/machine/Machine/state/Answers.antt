use Rattle.std.proofs.Common.{◌≡◌, ◌∙◌, ℕ, ◌<◌, List, Option, Result, Ok, Err, ap, subst, sym}
use Rattle.std.specs.Prelude.{IfOk}
use Rattle.zquetzal.specs.declared.limits.TheConstants.{MOST_FRAMES}
use Rattle.zquetzal.specs.Grammar.{save_text}
use Rattle.zquetzal.specs.Reading.{reading}
use Rattle.zquetzal.specs.Saved.{origin_of}
use Rattle.zstory.specs.LoadedStory.{LoadedStory}
use Rattle.zstate.specs.Saves.{saved_of}
use Rattle.zstate.specs.State.{IsState, State, opening}
use Rattle.zengine.specs.declared.board.Board.{Board}
use Rattle.zengine.specs.Lying.{SavedGame}
use Rattle.zengine.specs.Play.{Game, state_in}
use Rattle.zmachine.specs.Machine.{stands_in}
use Rattle.zmachine.specs.Parts.{IsInside}
use Rattle.zmachine.proofs.Stood.{is_saved, same_saved, taken_again}
use Rattle.zmachine.proofs.Telling.{held_there, there_so}
use Rattle.zmachine.proofs.machine.Machine.state.Goals as goal

if_ok : {A E : Type 0} (r : Result A E) (P Q : A → Type 0) → ((x : A) → P x → Q x) → IfOk r P → IfOk r Q
if_ok (Ok x) P Q f h = f x h
if_ok (Err e) P Q f h = tt

pub view_of-view-requires : goal.view_of-view-requires
view_of-view-requires g c =
    let is = c.in-Some.is in
    let held = held_there _ _ _ _ _ _ _ c.in-Some.board c.self.invariant.0 is in
    let game : Game = g.R.Rows.game c.self.inside.rows in
    let story : LoadedStory = c.self.inside.story.now in
    let s : State = state_in game c.in-Some.board in
    let inside : IsInside s = there_so (λ (t : State). IsInside t) game c.self.inside.board c.in-Some.board is (rw (sym c.self.view_is) at c.requires.inside) in
    let few : game.setting.limit < MOST_FRAMES = rw (sym c.self.view_is) at c.requires.few in
    let state : IsState game.setting.limit story s = subst (λ (x : LoadedStory). IsState game.setting.limit x s) (sym held.own) held.played.state in
    let text : c.deref.result.now ≡ save_text (origin_of story) (saved_of story s) = c.deref.ensures.value ∙ c.in_ok-bytes.ensures ∙ ap (λ (lent : SavedGame). save_text (origin_of lent.story) (saved_of lent.story lent.state)) c.parts_of.ensures in
    let reads : reading story c.deref.result.now ≡ Ok (saved_of story s) = ap (λ (bytes : List ℕ). reading story bytes) text ∙ c.saves_are_read.ensures.read story (saved_of story s) c.memory-memory.ensures.sound (is_saved game.setting.limit story s c.saves_are_states.ensures.saved c.memory-memory.ensures.sound few state inside) in
    (saved_of story s, reads)

pub returns-clause-value : goal.returns-clause-value
returns-clause-value g c =
    let is = c.in-Some.is in
    let held = held_there _ _ _ _ _ _ _ c.in-Some.board c.self.invariant.0 is in
    let game : Game = g.R.Rows.game c.self.inside.rows in
    let story : LoadedStory = c.self.inside.story.now in
    let s : State = state_in game c.in-Some.board in
    let inside : IsInside s = there_so (λ (t : State). IsInside t) game c.self.inside.board c.in-Some.board is (rw (sym c.self.view_is) at c.requires.inside) in
    let few : game.setting.limit < MOST_FRAMES = rw (sym c.self.view_is) at c.requires.few in
    let state : IsState game.setting.limit story s = subst (λ (x : LoadedStory). IsState game.setting.limit x s) (sym held.own) held.played.state in
    let text : c.deref.result.now ≡ save_text (origin_of story) (saved_of story s) = c.deref.ensures.value ∙ c.in_ok-bytes.ensures ∙ ap (λ (lent : SavedGame). save_text (origin_of lent.story) (saved_of lent.story lent.state)) c.parts_of.ensures in
    let reads : reading story c.deref.result.now ≡ Ok (saved_of story s) = ap (λ (bytes : List ℕ). reading story bytes) text ∙ c.saves_are_read.ensures.read story (saved_of story s) c.memory-memory.ensures.sound (is_saved game.setting.limit story s c.saves_are_states.ensures.saved c.memory-memory.ensures.sound few state inside) in
    let same : c.view_of-view.result ≡ saved_of story s = same_saved story c.deref.result.now c.view_of-view.result (saved_of story s) c.view_of-view.ensures.read reads in
    let seen : s ≡ c.args.self.now.state = sym (ap (λ (o : Option Board). stands_in game o) is) ∙ ap (λ v. v.state) c.self.view_is in
    if_ok c.state_of.result _ (λ (t : State). t ≡ c.args.self.now.state) (λ t e. e ∙ taken_again story s (opening story) c.view_of-view.result c.deref-2.result.now c.deref-3.result.now same inside c.deref-2.ensures.value c.deref-3.ensures ∙ seen) c.state_of.ensures

pub returns-clause-is_state : goal.returns-clause-is_state
returns-clause-is_state g c =
    let is = c.in-Some.is in
    let held = held_there _ _ _ _ _ _ _ c.in-Some.board c.self.invariant.0 is in
    let game : Game = g.R.Rows.game c.self.inside.rows in
    let there : IsState game.setting.limit game.setting.story (stands_in game c.self.inside.board) = subst (λ (o : Option Board). IsState game.setting.limit game.setting.story (stands_in game o)) (sym is) held.played.state in
    let state = subst (λ v. IsState (g.R.Rows.game v.rows).setting.limit (g.R.Rows.game v.rows).setting.story v.state) c.self.view_is there in
    if_ok c.state_of.result (λ (t : State). t ≡ c.args.self.now.state) _ (λ t e. subst (λ (u : State). IsState (g.R.Rows.game c.args.self.now.rows).setting.limit (g.R.Rows.game c.args.self.now.rows).setting.story u) (sym e) state) (returns-clause-value g c)
