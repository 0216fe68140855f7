-- What is done in lenient play where a step is a fault is what the table has for it.
use Rattle.std.proofs.Common.{◌≡◌, ◌⊎◌, inl, inr, drop, length, Option, Some, None, Bool, true, false, Result, Ok, Err, refl, sym, ap, subst, ◌∙◌, if◌then◌else◌}
use Rattle.std.specs.Prelude.{ℤ, pos, negsuc}
use Rattle.zfault.specs.declared.fault.Fault.{Fault}
use Rattle.zfault.specs.declared.fault.Fault.TheVariants.{UnlistedInstruction}
use Rattle.zcode.specs.declared.error.DecodeError.{DecodeError}
use Rattle.zcode.specs.declared.error.DecodeError.TheVariants.{Truncated, NoSuchOpcode, NotInProfile, Operands, Text}
use Rattle.zcode.specs.Instruction.{Instruction}
use Rattle.zcode.specs.Operation.{inputs, operation_of}
use Rattle.zcode.specs.Reading.{instruction_at}
use Rattle.zstate.specs.declared.halt.Halt.{Halt}
use Rattle.zstate.specs.declared.halt.Halt.TheVariants as halts
use Rattle.zstate.specs.State.{Scope, Setting, State, fault, read_operands}
use Rattle.zstate.specs.Step.{Done, Effect, came, decoded, fetch, items_of, settle, step}
use Rattle.zstate.proofs.Steps.{bind_ok, ok_is}
use Rattle.zlenient.specs.Customary.{customary, is_excusable}
use Rattle.zlenient.specs.Step.{instead, is_within, lenient_fetch, lenient_step, or_fault, or_instead, or_nowhere, or_passed, passed_at, plan_instead}
use Rattle.zlenient.specs.Laws.{IsCustomary, IsPassedOver}

was_passed : (r : Result Instruction DecodeError) (i : Instruction) → decoded r ≡ Ok i → r ≡ Ok i
was_passed (Ok j) i e = ap (λ (k : Instruction). Ok k) (ok_is j i e)
was_passed (Err cause) i e = absurd cc

-- what is fetched leniently is fetched, or is passed over
fetched_or_passed : (scope : Scope) (s : State) (place : ℤ) (i : Instruction) → s.place ≡ place → lenient_fetch scope place s.memory ≡ Ok i → (fetch scope place s.memory ≡ Ok i) ⊎ IsPassedOver s i
unfolding fetch lenient_fetch
fetched_or_passed scope s (negsuc n) i at e = absurd cc
fetched_or_passed scope s (pos p) i at e = by (scope.instructions p) e
  where
    of : (r : Result Instruction DecodeError) → instruction_at (drop p s.memory) ≡ r → or_passed (drop p s.memory) r ≡ Ok i → (decoded r ≡ Ok i) ⊎ IsPassedOver s i
    of (Ok j) is e = inl e
    of (Err (NotInProfile opcode)) is e = inr (record { place = p; place_is = at; opcode = opcode; left_out = is; passed = was_passed (passed_at (drop p s.memory)) i e })
    of (Err Truncated) is e = absurd cc
    of (Err NoSuchOpcode) is e = absurd cc
    of (Err Operands) is e = absurd cc
    of (Err Text) is e = absurd cc

    by : (b : Bool) → (if b then or_passed (drop p s.memory) (instruction_at (drop p s.memory)) else fault UnlistedInstruction) ≡ Ok i → ((if b then decoded (instruction_at (drop p s.memory)) else fault UnlistedInstruction) ≡ Ok i) ⊎ IsPassedOver s i
    by true e = of (instruction_at (drop p s.memory)) refl e
    by false e = absurd cc

was_answered : (f : Fault) (given : Option Effect) (effect : Effect) → or_fault f given ≡ Ok effect → given ≡ Some effect
was_answered f (Some x) effect e = ap (λ (k : Effect). Some k) (ok_is x effect e)
was_answered f None effect e = absurd cc

-- what leads into memory is what was planned
was_inside : (f : Fault) (x d : Done) → or_nowhere f x ≡ Ok d → (d ≡ x) × (is_within d.state.place (length d.state.memory) ≡ true)
was_inside f x d e = by (is_within x.state.place (length x.state.memory)) refl e
  where
    by : (b : Bool) → is_within x.state.place (length x.state.memory) ≡ b → (if b then Ok x else fault f) ≡ Ok d → (d ≡ x) × (is_within d.state.place (length d.state.memory) ≡ true)
    by true is e = let same : x ≡ d = ok_is x d e in (sym same, subst (λ (k : Done). is_within k.state.place (length k.state.memory) ≡ true) same is)
    by false is e = absurd cc

customary_done : (m : Setting) (f : Fault) (s : State) (d : Done) → instead m f s ≡ Ok d → IsCustomary m s f d
unfolding instead plan_instead
customary_done m f s d e =
    let p = bind_ok (plan_instead m f s) _ d e in
    let i = bind_ok (lenient_fetch m.scope s.place s.memory) _ p.0 p.1 in
    let v = bind_ok (read_operands m.story (inputs i.0) s) _ p.0 i.2 in
    let x = bind_ok (or_fault f (customary m.story (operation_of i.0.opcode) v.0.0 v.0.1 f)) _ p.0 v.2 in
    let y = bind_ok (settle m.limit i.0 x.0 v.0.1) _ p.0 x.2 in
    let whole = ok_is (i.0, x.0, v.0.1) p.0 y.2 in
    let end = was_inside f _ d p.2 in
    record {
      instruction = i.0;
      fetched = fetched_or_passed m.scope s s.place i.0 refl i.1;
      values = v.0.0;
      read = v.0.1;
      reads = v.1;
      effect = x.0;
      answer = was_answered f _ x.0 x.1;
      settled = y.1;
      done = end.0 ∙ ap (λ (q : Instruction × Effect × State). done_by q) (sym whole);
      inside = end.1;
    }
  where
    done_by : Instruction × Effect × State → Done
    done_by q = record { state = came m.story q.0 q.1 q.2 s; items = items_of q.1 }

pub answers_are : (m : Setting) (s : State) (d : Done) → lenient_step m s ≡ Ok d → (step m s ≡ Ok d) ⊎ ((f : Fault) × (step m s ≡ Err (halts.Fault f)) × IsCustomary m s f d)
answers_are m s d e = by (step m s) refl e
  where
    excused : (f : Fault) (b : Bool) → (if b then instead m f s else fault f) ≡ Ok d → instead m f s ≡ Ok d
    excused f true e = e
    excused f false e = absurd cc

    by : (r : Result Done Halt) → step m s ≡ r → or_instead (λ f. instead m f s) r ≡ Ok d → (step m s ≡ Ok d) ⊎ ((f : Fault) × (step m s ≡ Err (halts.Fault f)) × IsCustomary m s f d)
    by (Ok x) is e = inl (is ∙ e)
    by (Err (halts.Fault f)) is e = inr (f, is, customary_done m f s d (excused f (is_excusable f) e))
    by (Err (halts.Need need)) is e = absurd cc
    by (Err halts.Quit) is e = absurd cc
    by (Err halts.FrameLimit) is e = absurd cc

-- a fault for which nothing is customary stays one
pub others_stay : (m : Setting) (s : State) (f : Fault) → step m s ≡ Err (halts.Fault f) → is_excusable f ≡ false → lenient_step m s ≡ Err (halts.Fault f)
others_stay m s f e none = rw (e, none) refl
