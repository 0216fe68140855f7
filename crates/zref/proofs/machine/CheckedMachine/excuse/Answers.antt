use Rattle.std.proofs.Common.{◌≡◌, ◌∙◌, [], Ok, Err, ap, arith, refl, rules, subst, sym, true, false}
use Rattle.zstory.specs.LoadedStory.{LoadedStory}
use Rattle.zstate.specs.State.{IsState, Setting, State}
use Rattle.zmachine.specs.Parts.{IsInside}
use Rattle.zlenient.specs.declared.excusing.Unexcused.TheVariants as unexcused
use Rattle.zref.specs.Machine.{Machine, setting}
use Rattle.zref.proofs.Excused.{came_of_it, front_came, is_inside, made_to, step_outside, step_unexcused}
use Rattle.zref.proofs.machine.CheckedMachine.excuse.Goals as goal
use Rattle.zref.proofs.machine.CheckedMachine.excuse.Goals.{then-not-is_excusable-via-then-not-is_excusable, then-not-is_excusable-via-else-not-is_excusable+then-not-is_inside}

pub returns-then-not-is_excusable-clause-excuses : goal.returns-then-not-is_excusable-clause-excuses
returns-then-not-is_excusable-clause-excuses c =
    elim c.then-not-is_excusable.branch [
      | then-not-is_excusable-via-then-not-is_excusable w ↦ (let none : c.is_excusable.result ≡ false = search rules in (step_unexcused (setting c.args.self.now) c.args.self.now.state c.args.fault c.requires (sym c.is_excusable.ensures ∙ none), refl, refl, refl))
      | then-not-is_excusable-via-else-not-is_excusable+then-not-is_inside w ↦ (let out : w.is_inside.result ≡ false = search rules in (step_outside (setting c.args.self.now) c.args.self.now.state c.args.fault c.requires (sym w.is_inside.ensures ∙ out), refl, refl, refl))
    ]

pub state-requires-clause-inside : goal.state-requires-clause-inside
state-requires-clause-inside c =
    let yes : c.is_inside.result ≡ true = search rules in
    subst (λ (v : Machine). IsInside v.state) (sym c.self.view_is) (is_inside c.args.self.now.state (sym c.is_inside.ensures ∙ yes))

pub returns-in-Err-Halt-clause-excuses : goal.returns-in-Err-Halt-clause-excuses
returns-in-Err-Halt-clause-excuses c =
    let able : c.is_excusable.result ≡ true = search rules in
    let same : c.in_ok-state.state ≡ c.args.self.now.state = c.in_ok-state.ensures.value ∙ ap (λ (v : Machine). v.state) c.self.view_is in
    let own : c.args.self.now.story ≡ c.self.inside.story.now = ap (λ (v : Machine). v.story) (sym c.self.view_is) in
    let came = came_of_it (setting c.args.self.now) c.args.self.now.state c.in_ok-state.state c.args.fault c.self.inside.story.now c.requires (sym c.is_excusable.ensures ∙ able) own same (Err (unexcused.Halt c.in-Err-Halt.halt)) c.excuse.new.state (rw c.in-Err-Halt.field-0-is at c.in-Err-Halt.ensures.done) in
    rw c.in-Err-Halt.field-0-is (came.0, refl, refl, refl)

pub returns-then-left-eq0-clause-excuses : goal.returns-then-left-eq0-clause-excuses
returns-then-left-eq0-clause-excuses c =
    let able : c.is_excusable.result ≡ true = search rules in
    let same : c.in_ok-state.state ≡ c.args.self.now.state = c.in_ok-state.ensures.value ∙ ap (λ (v : Machine). v.state) c.self.view_is in
    let own : c.args.self.now.story ≡ c.self.inside.story.now = ap (λ (v : Machine). v.story) (sym c.self.view_is) in
    let came = came_of_it (setting c.args.self.now) c.args.self.now.state c.in_ok-state.state c.args.fault c.self.inside.story.now c.requires (sym c.is_excusable.ensures ∙ able) own same (Ok c.in-Ok.field-0) c.excuse.new.state c.in-Ok.ensures.done in
    ((record { state = c.excuse.new.state; items = [] }, came), refl, refl, c.if-left-eq0.true, c.if-left-eq0.true)

pub stand-requires-clause-state : goal.stand-requires-clause-state
stand-requires-clause-state c =
    let limit = c.self.inside.machine.rows.limit in
    let own = ap (λ (m : Setting). m.story) c.self.invariant in
    subst (λ (x : LoadedStory). IsState limit x c.excuse.new.state) (sym own) (c.in-Ok.ensures.keeps limit (subst (λ (x : LoadedStory). IsState limit x c.in_ok-state.state) own c.in_ok-state.ensures.is_state))

pub returns-clause-excuses : goal.returns-clause-excuses
returns-clause-excuses c =
    let able : c.is_excusable.result ≡ true = search rules in
    let same : c.in_ok-state.state ≡ c.args.self.now.state = c.in_ok-state.ensures.value ∙ ap (λ (v : Machine). v.state) c.self.view_is in
    let own : c.args.self.now.story ≡ c.self.inside.story.now = ap (λ (v : Machine). v.story) (sym c.self.view_is) in
    let came = came_of_it (setting c.args.self.now) c.args.self.now.state c.in_ok-state.state c.args.fault c.self.inside.story.now c.requires (sym c.is_excusable.ensures ∙ able) own same (Ok c.in-Ok.field-0) c.excuse.new.state c.in-Ok.ensures.done in
    let some = c.if-left-eq0.false in
    (came ∙ ap (λ (t : State). made_to t) (sym c.in_ok-stand.ensures.ok), front_came (setting c.args.self.now) c.args.self.now.state c.in_ok-state.state c.args.fault c.self.inside.story.now c.args.front.now c.excuse.new.front c.requires own same c.in-Ok.ensures.front, omega (arith, some))
