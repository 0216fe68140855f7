-- What is settled of an effect, in two parts.
use Rattle.std.proofs.Common.{◌≡◌, ℕ, Result, Ok, Err, Option, sym, ap, ◌∙◌}
use Rattle.zcode.specs.declared.instr.Branch.{Branch}
use Rattle.zcode.specs.Instruction.{Instruction}
use Rattle.zcode.specs.Operation.{target}
use Rattle.zstate.specs.declared.halt.Halt.{Halt}
use Rattle.zstate.specs.InTurn.{◌>>=◌}
use Rattle.zstate.specs.State.{State}
use Rattle.zstate.specs.Step.{Effect, Move, course, settle, admits, pauses}

-- what keeps an effect from being admitted, or then from being done now
pub settle_admits : (limit : ℕ) (i : Instruction) (e : Effect) (s : State) (v : ℕ) (b : Option Branch) (move : Move) (h : Halt) → v ≡ target i → b ≡ i.branch → move ≡ course e b → admits v e move s ≡ Err h → settle limit i e s ≡ Err h
settle_admits limit i e s v b move h tv tb tm stuck =
    let at : course e i.branch ≡ move = sym (tm ∙ ap (λ (c : Option Branch). course e c) tb) in
    let same : admits (target i) e (course e i.branch) s ≡ Err h = ap (λ (w : ℕ). admits w e (course e i.branch) s) (sym tv) ∙ ap (λ (m : Move). admits v e m s) at ∙ stuck in
    ap (λ (r : Result (Unit {0}) Halt). r >>= λ _. pauses limit (target i) e (course e i.branch) s) same

pub settle_pauses : (limit : ℕ) (i : Instruction) (e : Effect) (s : State) (v : ℕ) (b : Option Branch) (move : Move) (r : Result (Unit {0}) Halt) → v ≡ target i → b ≡ i.branch → move ≡ course e b → admits v e move s ≡ Ok tt → pauses limit v e move s ≡ r → settle limit i e s ≡ r
settle_pauses limit i e s v b move r tv tb tm able paused =
    let at : course e i.branch ≡ move = sym (tm ∙ ap (λ (c : Option Branch). course e c) tb) in
    let same : admits (target i) e (course e i.branch) s ≡ Ok tt = ap (λ (w : ℕ). admits w e (course e i.branch) s) (sym tv) ∙ ap (λ (m : Move). admits v e m s) at ∙ able in
    let last : pauses limit (target i) e (course e i.branch) s ≡ r = ap (λ (w : ℕ). pauses limit w e (course e i.branch) s) (sym tv) ∙ ap (λ (m : Move). pauses limit v e m s) at ∙ paused in
    ap (λ (q : Result (Unit {0}) Halt). q >>= λ _. pauses limit (target i) e (course e i.branch) s) same ∙ last
