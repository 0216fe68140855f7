use Rattle.std.proofs.Common.{◌≡◌, ◌∙◌, ap, rules, subst, sym, true}
use Rattle.zstate.specs.State.{IsState, Setting, State}
use Rattle.zmachine.specs.Parts.{IsInside}
use Rattle.zmachine.specs.Rows.{IsAsLoaded}
use Rattle.zlink.specs.Laid.{setting_of}
use Rattle.zref.specs.Machine.{Machine, setting}
use Rattle.zref.proofs.Excused.{is_inside}
use Rattle.zref.proofs.machine.CheckedMachine.keep.Goals as goal

pub state-requires-clause-inside : goal.state-requires-clause-inside
state-requires-clause-inside c =
    let yes : c.is_inside.result ≡ true = search rules in
    subst (λ (v : Machine). IsInside v.state) (sym c.self.view_is) (is_inside c.args.self.now.state (sym c.is_inside.ensures ∙ yes))

pub returns-clause-state : goal.returns-clause-state
returns-clause-state c =
    let yes : c.is_inside.result ≡ true = search rules in
    let same : c.in_ok-state.state ≡ c.args.self.now.state = c.in_ok-state.ensures.value ∙ ap (λ (v : Machine). v.state) c.self.view_is in
    let own : setting_of c.self.inside.machine.rows ≡ setting c.args.self.now = c.self.invariant ∙ ap setting c.self.view_is in (
      same,
      record {
        state = subst (λ (m : Setting). IsState m.limit m.story c.in_ok-state.state) own c.in_ok-state.ensures.is_state;
        loaded = subst (λ (m : Setting). IsAsLoaded m.story c.in_ok-state.state.memory) own c.in_ok-state.ensures.loaded;
        inside = subst (λ (s : State). IsInside s) (sym same) (is_inside c.args.self.now.state (sym c.is_inside.ensures ∙ yes));
      },
    )
