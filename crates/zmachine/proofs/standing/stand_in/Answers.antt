use Rattle.std.proofs.Common.{◌≡◌, ◌∙◌, ℕ, List, Ok, ap, rules, subst, sym, true}
use Rattle.zquetzal.specs.Grammar.{save_text}
use Rattle.zquetzal.specs.Reading.{reading}
use Rattle.zquetzal.specs.Saved.{origin_of}
use Rattle.zstory.specs.LoadedStory.{LoadedStory}
use Rattle.zstate.specs.Saved.{LentState}
use Rattle.zstate.specs.Saves.{saved_of}
use Rattle.zstate.specs.State.{IsState, Setting, State}
use Rattle.zengine.specs.Play.{state_in}
use Rattle.zmachine.specs.Rows.{IsAsLoaded}
use Rattle.zmachine.proofs.Stood.{few_saved, is_saved, played_again, same_saved, stands_again}
use Rattle.zmachine.proofs.standing.stand_in.Goals as goal

pub view_of-view-requires : goal.view_of-view-requires
view_of-view-requires g c =
    let limit : ℕ = (g.R.Rows.game c.args.rows.now).setting.limit in
    let story : LoadedStory = c.args.story.now in
    let s : State = c.args.state.now in
    let text : c.deref.result.now ≡ save_text (origin_of story) (saved_of story s) = c.deref.ensures.value ∙ c.in_ok-bytes.ensures ∙ ap (λ (lent : LentState). save_text (origin_of lent.story) (saved_of lent.story lent.state)) c.new.ensures in
    let reads : reading story c.deref.result.now ≡ Ok (saved_of story s) = ap (λ (bytes : List ℕ). reading story bytes) text ∙ c.saves_are_read.ensures.read story (saved_of story s) c.memory-memory.ensures.sound (is_saved limit story s c.saves_are_states.ensures.saved c.memory-memory.ensures.sound c.requires.few c.requires.state c.requires.inside) in
    (saved_of story s, reads)

pub lay_frames-requires-clause-few : goal.lay_frames-requires-clause-few
lay_frames-requires-clause-few g c =
    let limit : ℕ = (g.R.Rows.game c.args.rows.now).setting.limit in
    let story : LoadedStory = c.args.story.now in
    let s : State = c.args.state.now in
    let text : c.deref.result.now ≡ save_text (origin_of story) (saved_of story s) = c.deref.ensures.value ∙ c.in_ok-bytes.ensures ∙ ap (λ (lent : LentState). save_text (origin_of lent.story) (saved_of lent.story lent.state)) c.new.ensures in
    let reads : reading story c.deref.result.now ≡ Ok (saved_of story s) = ap (λ (bytes : List ℕ). reading story bytes) text ∙ c.saves_are_read.ensures.read story (saved_of story s) c.memory-memory.ensures.sound (is_saved limit story s c.saves_are_states.ensures.saved c.memory-memory.ensures.sound c.requires.few c.requires.state c.requires.inside) in
    let same : c.view_of-view.result ≡ saved_of story s = same_saved story c.deref.result.now c.view_of-view.result (saved_of story s) c.view_of-view.ensures.read reads in
    few_saved limit story s c.view_of-view.result same c.requires.state

pub returns-clause-ok : goal.returns-clause-ok
returns-clause-ok g c =
    let limit : ℕ = (g.R.Rows.game c.args.rows.now).setting.limit in
    let story : LoadedStory = c.args.story.now in
    let s : State = c.args.state.now in
    let text : c.deref.result.now ≡ save_text (origin_of story) (saved_of story s) = c.deref.ensures.value ∙ c.in_ok-bytes.ensures ∙ ap (λ (lent : LentState). save_text (origin_of lent.story) (saved_of lent.story lent.state)) c.new.ensures in
    let reads : reading story c.deref.result.now ≡ Ok (saved_of story s) = ap (λ (bytes : List ℕ). reading story bytes) text ∙ c.saves_are_read.ensures.read story (saved_of story s) c.memory-memory.ensures.sound (is_saved limit story s c.saves_are_states.ensures.saved c.memory-memory.ensures.sound c.requires.few c.requires.state c.requires.inside) in
    let same : c.view_of-view.result ≡ saved_of story s = same_saved story c.deref.result.now c.view_of-view.result (saved_of story s) c.view_of-view.ensures.read reads in
    let yes : c.lay_frames.result ≡ true = search rules in
    let stands : state_in (g.R.Rows.game c.lay_frames.new.rows) c.set_rest.new.board ≡ s = stands_again (g.R.Rows.game c.lay_frames.new.rows) story s (state_in (g.R.Rows.game c.args.rows.now) c.args.board.now) c.view_of-view.result c.lay_frames.new.board c.set_rest.new.board same c.requires.inside (c.lay_frames.ensures.state yes) c.set_rest.ensures.body c.set_rest.ensures.at in
    stands

pub returns-clause-played : goal.returns-clause-played
returns-clause-played g c =
    let limit : ℕ = (g.R.Rows.game c.args.rows.now).setting.limit in
    let story : LoadedStory = c.args.story.now in
    let s : State = c.args.state.now in
    let text : c.deref.result.now ≡ save_text (origin_of story) (saved_of story s) = c.deref.ensures.value ∙ c.in_ok-bytes.ensures ∙ ap (λ (lent : LentState). save_text (origin_of lent.story) (saved_of lent.story lent.state)) c.new.ensures in
    let reads : reading story c.deref.result.now ≡ Ok (saved_of story s) = ap (λ (bytes : List ℕ). reading story bytes) text ∙ c.saves_are_read.ensures.read story (saved_of story s) c.memory-memory.ensures.sound (is_saved limit story s c.saves_are_states.ensures.saved c.memory-memory.ensures.sound c.requires.few c.requires.state c.requires.inside) in
    let same : c.view_of-view.result ≡ saved_of story s = same_saved story c.deref.result.now c.view_of-view.result (saved_of story s) c.view_of-view.ensures.read reads in
    let yes : c.lay_frames.result ≡ true = search rules in
    let stands : state_in (g.R.Rows.game c.lay_frames.new.rows) c.set_rest.new.board ≡ s = stands_again (g.R.Rows.game c.lay_frames.new.rows) story s (state_in (g.R.Rows.game c.args.rows.now) c.args.board.now) c.view_of-view.result c.lay_frames.new.board c.set_rest.new.board same c.requires.inside (c.lay_frames.ensures.state yes) c.set_rest.ensures.body c.set_rest.ensures.at in
    let state = subst (λ (m : Setting). IsState m.limit m.story s) (sym c.lay_frames.ensures.setting) (subst (λ (x : LoadedStory). IsState limit x s) c.requires.own c.requires.state) in
    let loaded = subst (λ (m : Setting). IsAsLoaded m.story s.memory) (sym c.lay_frames.ensures.setting) (subst (λ (x : LoadedStory). IsAsLoaded x s.memory) c.requires.own c.requires.loaded) in
    played_again (g.R.Rows.game c.lay_frames.new.rows) (g.R.Rows.all c.lay_frames.new.rows) s c.lay_frames.new.board c.set_rest.new.board (c.lay_frames.ensures.laid yes) stands state loaded c.set_rest.ensures.body c.set_rest.ensures.at
