-- Which instruction waits for what was told of a save.
use Rattle.std.proofs.Common.{◌≡◌, ℕ, ◌-◌, Bool, true, false, List, [], if◌then◌else◌, Option, Some, None, Result, Ok, Err, nat_lt, refl, sym, ap, subst, ◌∙◌}
use Rattle.std.specs.Prelude.{is_some, IfOk, ◌==◌}
use Rattle.zfault.specs.declared.event.Event.{Event}
use Rattle.zfault.specs.declared.event.Event.TheVariants as events
use Rattle.zfault.specs.declared.pause.Need.{Need}
use Rattle.zfault.specs.declared.pause.Need.TheVariants as needs
use Rattle.zcode.specs.declared.operation.Operation.{Operation}
use Rattle.zcode.specs.declared.operation.Operation.TheVariants as operations
use Rattle.zcode.specs.Instruction.{Instruction}
use Rattle.zcode.specs.Operation.{operation_of, target}
use Rattle.zstory.specs.LoadedStory.{LoadedStory}
use Rattle.zstate.specs.declared.halt.Halt.{Halt}
use Rattle.zstate.specs.declared.halt.Halt.TheVariants as halts
use Rattle.zstate.specs.declared.mode.RandomMode.{RandomMode}
use Rattle.zstate.specs.declared.mode.RandomMode.TheVariants.{Counting, Words}
use Rattle.zstate.specs.State.{State, Setting}
use Rattle.zstate.specs.Run.{awaited, need_in}
use Rattle.zstate.specs.Saves.{is_save}
use Rattle.zstate.specs.Step.{Done, Effect, arg, buffered, course, drawing, effect_of, fetch, hearing, line_read, random_of, status_of, step, switching, unrestored}
use Rattle.zstate.proofs.Quiet.{IsUnaided, Kept, kept, needs_none, needs_so}
use Rattle.zstate.proofs.Steps.{bind_ok, ok_is}

-- what is needed was found by the step
need_found : (r : Result Done Halt) (n : Need) → need_in r ≡ Some n → r ≡ Err (halts.Need n)
need_found (Ok d) n e = absurd cc
need_found (Err (halts.Fault f)) n e = absurd cc
need_found (Err (halts.Need need)) n e = cc
need_found (Err halts.Quit) n e = absurd cc
need_found (Err halts.FrameLimit) n e = absurd cc

pub waits_for : (m : Setting) (s : State) (n : Need) → awaited m s ≡ Some n → step m s ≡ Err (halts.Need n)
waits_for m s n e = by (is_some s.waiting) e
  where
    by : (b : Bool) → (if b then None else need_in (step m s)) ≡ Some n → step m s ≡ Err (halts.Need n)
    by true e = absurd cc
    by false e = need_found (step m s) n e

-- ---- what others need

-- an effect that needs nothing of a save
abbrev Apart : Effect → Type 0
Apart effect = effect.needs ≡ Some needs.Saved → ⊥

none_apart : (need : Option Need) → need ≡ None → need ≡ Some needs.Saved → ⊥
none_apart need none is = absurd cc

drawn_apart : (r : ℕ) (mode : RandomMode) (waiting : Option Event) → Apart (drawing r mode waiting)
drawn_apart r (Counting seed next) waiting is = absurd cc
drawn_apart r Words None is = absurd cc
drawn_apart r Words (Some (events.Random w)) is = absurd cc
drawn_apart r Words (Some (events.Line line)) is = absurd cc
drawn_apart r Words (Some (events.Saved kept)) is = absurd cc
drawn_apart r Words (Some events.NotRestored) is = absurd cc

random_apart : (r : ℕ) (s : State) → Apart (random_of r s)
random_apart r s = by (r == 0) (nat_lt r 32768)
  where
    by : (b c : Bool) → Apart (if b then switching Words else (if c then drawing r s.random s.waiting else switching (Counting (65536 - r) 1)))
    by true c is = absurd cc
    by false true is = drawn_apart r s.random s.waiting is
    by false false is = absurd cc

heard_apart : (story : LoadedStory) (t p : ℕ) (memory : List ℕ) (prompted : Bool) (waiting : Option Event) (shown : Effect) → shown.needs ≡ None → Apart (hearing story t p memory prompted waiting shown)
heard_apart story t p memory false waiting shown none is = none_apart shown.needs none is
heard_apart story t p memory true None shown none is = absurd cc
heard_apart story t p memory true (Some (events.Line line)) shown none is = absurd cc
heard_apart story t p memory true (Some (events.Random w)) shown none is = absurd cc
heard_apart story t p memory true (Some (events.Saved kept)) shown none is = absurd cc
heard_apart story t p memory true (Some events.NotRestored) shown none is = absurd cc

unrestored_apart : (waiting : Option Event) → Apart (unrestored waiting)
unrestored_apart None is = absurd cc
unrestored_apart (Some (events.Line line)) is = absurd cc
unrestored_apart (Some (events.Random w)) is = absurd cc
unrestored_apart (Some (events.Saved kept)) is = absurd cc
unrestored_apart (Some events.NotRestored) is = absurd cc

-- a status line needs nothing
status_unaided : IsUnaided operations.ShowStatus
status_unaided = record { random = λ e. absurd cc; line = λ e. absurd cc; saved = λ e. absurd cc; restore = λ e. absurd cc }

status_none : (m : Setting) (s : State) (shown : Effect) → status_of m.story s.memory ≡ Ok shown → shown.needs ≡ None
unfolding effect_of
status_none m s shown is = subst (λ (r : Result Effect Halt). IfOk r (λ e. e.needs ≡ None)) is (needs_none m operations.ShowStatus [] s status_unaided)

line_apart : (m : Setting) (t p : ℕ) (s : State) (effect : Effect) → line_read m.story t p s ≡ Ok effect → Apart effect
line_apart m t p s effect e =
    let shown = bind_ok (status_of m.story s.memory) _ effect e in
    let whole = bind_ok (buffered m.story t p s.memory) _ effect shown.2 in
    subst Apart (ok_is (hearing m.story t p s.memory s.prompted s.waiting shown.0) effect whole.2) (heard_apart m.story t p s.memory s.prompted s.waiting shown.0 (status_none m s shown.0 shown.1))

not_both : (b : Bool) → b ≡ true → b ≡ false → ⊥
not_both b is isnt = absurd (let clash : true ≡ false = sym is ∙ isnt in cc)

module _ (m : Setting) (s : State) (i : Instruction) (fetched : fetch m.scope s.place s.memory ≡ Ok i) (waits : awaited m s ≡ Some needs.Saved) where
  k : Kept m i s (halts.Need needs.Saved)
  k = kept m i s (halts.Need needs.Saved) fetched tt (waits_for m s needs.Saved waits)

  needed : k.effect.needs ≡ Some needs.Saved
  needed = needs_so m.limit (target i) k.effect (course k.effect i.branch) k.after needs.Saved k.stands

  does : (o : Operation) → operation_of i.opcode ≡ o → effect_of m o k.values k.after ≡ Ok k.effect
  does o is = subst (λ (x : Operation). effect_of m x k.values k.after ≡ Ok k.effect) is k.does

  drawn : operation_of i.opcode ≡ operations.Random → ⊥
  unfolding effect_of
  drawn is = subst Apart (ok_is (random_of (arg k.values 0) k.after) k.effect (does operations.Random is)) (random_apart (arg k.values 0) k.after) needed

  heard : operation_of i.opcode ≡ operations.ReadLine → ⊥
  unfolding effect_of
  heard is = line_apart m (arg k.values 0) (arg k.values 1) k.after k.effect (does operations.ReadLine is) needed

  restored : operation_of i.opcode ≡ operations.Restore → ⊥
  unfolding effect_of
  restored is = subst Apart (ok_is (unrestored k.after.waiting) k.effect (does operations.Restore is)) (unrestored_apart k.after.waiting) needed

  -- it is `save`
  pub save_there : is_save (operation_of i.opcode) ≡ true
  save_there = by (is_save (operation_of i.opcode)) refl
    where
      by : (b : Bool) → is_save (operation_of i.opcode) ≡ b → b ≡ true
      by true is = refl
      by false is =
          let unaided : IsUnaided (operation_of i.opcode) = record { random = drawn; line = heard; saved = λ e. not_both (is_save (operation_of i.opcode)) (ap is_save e) is; restore = restored } in
          let none : k.effect.needs ≡ None = subst (λ (r : Result Effect Halt). IfOk r (λ e. e.needs ≡ None)) k.does (needs_none m (operation_of i.opcode) k.values k.after unaided) in
          absurd (none_apart k.effect.needs none needed)
