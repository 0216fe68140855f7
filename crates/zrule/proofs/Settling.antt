-- What the judging of a step comes to.
use Rattle.std.proofs.Common.{◌≡◌, ◌⊎◌, inl, inr, ℕ, ◌≤◌, Bool, true, false, Option, Some, None, Result, Ok, Err, refl, arith, length, if◌then◌else◌}
use Rattle.std.specs.Prelude.{is_some, not, ◌||◌, ◌==◌, nat_lt}
use Rattle.std.proofs.lemmas.Bool.{lt-ltb}
use Rattle.zfault.specs.declared.pause.Need.{Need}
use Rattle.zstate.specs.declared.halt.Halt.{Halt}
use Rattle.zstate.specs.declared.halt.Halt.TheVariants as halts
use Rattle.zstate.specs.InTurn.{◌>>=◌}
use Rattle.zstate.specs.State.{Frame, State, exists, has_room}
use Rattle.zstate.specs.Step.{Move, Effect, asked, waits, expects, has_caller, is_taken, is_roomy, admits, pauses}

-- no fault
abbrev pub IsPause : Halt → Type 0
IsPause (halts.Fault f) = ⊥
IsPause (halts.Need n) = Unit {0}
IsPause halts.Quit = Unit {0}
IsPause halts.FrameLimit = Unit {0}

abbrev pub PausesAtMost : Result (Unit {0}) Halt → Type 0
PausesAtMost (Ok x) = Unit {0}
PausesAtMost (Err h) = IsPause h

asked_fine : (b : Bool) (h : Halt) → IsPause h → PausesAtMost (asked b h)
asked_fine true h is = tt
asked_fine false h is = is

waits_fine : (needs : Option Need) → PausesAtMost (waits needs)
waits_fine None = tt
waits_fine (Some need) = tt

in_turn_fine : (r : Result (Unit {0}) Halt) (f : Unit {0} → Result (Unit {0}) Halt) → PausesAtMost r → ((x : Unit {0}) → PausesAtMost (f x)) → PausesAtMost (r >>= f)
in_turn_fine (Ok x) f a b = b x
in_turn_fine (Err h) f a b = a

-- the pauses are no faults
pub pauses_fine : (limit v : ℕ) (effect : Effect) (move : Move) (s : State) → PausesAtMost (pauses limit v effect move s)
unfolding pauses
pauses_fine limit v effect move s =
    in_turn_fine (waits effect.needs) _ (waits_fine effect.needs) (λ x.
    in_turn_fine (asked (not effect.quits) halts.Quit) _ (asked_fine (not effect.quits) halts.Quit tt) (λ x.
    in_turn_fine (asked (not (is_some effect.gives) || has_room v s.frame) halts.FrameLimit) _ (asked_fine _ halts.FrameLimit tt) (λ x. asked_fine (is_roomy limit move s.frame.result s.callers) halts.FrameLimit tt)))

-- a machine that waits or quits does
stands_by : (needs : Option Need) (b : Bool) (r : Result (Unit {0}) Halt) → (is_some needs ≡ true) ⊎ (b ≡ true) → (waits needs >>= λ _. (asked (not b) halts.Quit >>= λ _. r)) ≡ Ok tt → ⊥
stands_by (Some need) b r still e = cc
stands_by None true r still e = cc
stands_by None false r (inl still) e = cc
stands_by None false r (inr still) e = cc

pub pauses_there : (limit v : ℕ) (effect : Effect) (move : Move) (s : State) → (is_some effect.needs ≡ true) ⊎ (effect.quits ≡ true) → pauses limit v effect move s ≡ Ok tt → ⊥
unfolding pauses
pauses_there limit v effect move s still e = stands_by effect.needs effect.quits _ still e

or_true : (b : Bool) → (b || true) ≡ true
or_true true = refl
or_true false = refl

asked_true : (b : Bool) (h : Halt) → b ≡ true → asked b h ≡ Ok tt
asked_true true h e = refl
asked_true false h e = absurd cc

expected_true : (a b : Bool) → b ≡ true → (not a || b) ≡ true
expected_true a true e = or_true (not a)
expected_true a false e = absurd cc

both_ok : (a b c : Result (Unit {0}) Halt) → a ≡ Ok tt → b ≡ Ok tt → c ≡ Ok tt → (a >>= λ _. (b >>= λ _. c)) ≡ Ok tt
both_ok (Ok x) (Ok y) c d e f = f
both_ok (Ok x) (Err y) c d e f = absurd cc
both_ok (Err x) b c d e f = absurd cc

-- no fault keeps the step from being made
pub admits_is : (v : ℕ) (effect : Effect) (move : Move) (s : State) → exists v s.frame ≡ true → has_caller move s.callers ≡ true → is_taken move s.frame.result s.callers ≡ true → admits v effect move s ≡ Ok tt
unfolding admits
admits_is v effect move s there caller taken =
    both_ok _ _ _ (asked_true _ _ (expected_true (expects effect.gives move) (exists v s.frame) there)) (asked_true _ _ caller) (asked_true _ _ taken)

-- a stack that is low has room for a word
pub room_there : (v : ℕ) (f : Frame) → length f.stack ≤ 64 → has_room v f ≡ true
room_there v f low = by_stack (v == 0)
  where
    by_stack : (b : Bool) → (if b then nat_lt (length f.stack) 65535 else true) ≡ true
    by_stack true = lt-ltb (length f.stack) 65535 (omega (arith, low))
    by_stack false = refl

-- nothing keeps a step from being made that needs nothing, goes on, and has room
pub pauses_none : (limit v : ℕ) (effect : Effect) (move : Move) (s : State) → effect.needs ≡ None → effect.quits ≡ false → has_room v s.frame ≡ true → is_roomy limit move s.frame.result s.callers ≡ true → pauses limit v effect move s ≡ Ok tt
unfolding pauses
pauses_none limit v effect move s needs quits room roomy =
    let given = expected_true (is_some effect.gives) (has_room v s.frame) room in
    rw (needs, quits, given, roomy) refl

-- and where there is no room for what is returned, or for a frame more, that does
pub pauses_full : (limit v : ℕ) (effect : Effect) (move : Move) (s : State) → effect.needs ≡ None → effect.quits ≡ false → has_room v s.frame ≡ true → is_roomy limit move s.frame.result s.callers ≡ false → pauses limit v effect move s ≡ Err halts.FrameLimit
unfolding pauses
pauses_full limit v effect move s needs quits room roomy =
    let given = expected_true (is_some effect.gives) (has_room v s.frame) room in
    rw (needs, quits, given, roomy) refl
