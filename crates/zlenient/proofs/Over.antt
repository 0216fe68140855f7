-- What is passed over, over plain variables.
use Rattle.std.proofs.Common.{◌≡◌, ℕ, ◌+◌, ◌<◌, ◌≤◌, drop, length, true, List, Some, None, Result, Ok, Err, refl, sym, ap, subst, ◌∙◌, arith, inl, inr, if◌then◌else◌}
use Rattle.std.specs.Prelude.{ℤ, pos, negsuc}
use Rattle.std.proofs.lemmas.Bool.{cases_lt}
use Rattle.std.proofs.lemmas.Int.{ints}
use Rattle.std.proofs.lemmas.List.{append-nil, length-drop}
use Rattle.zfault.specs.declared.fault.Fault.{Fault}
use Rattle.zfault.specs.declared.fault.Fault.TheVariants.{IllegalOpcode, UnlistedInstruction}
use Rattle.zstory.specs.LoadedStory.{LoadedStory}
use Rattle.zcode.specs.declared.error.DecodeError.{DecodeError}
use Rattle.zcode.specs.declared.error.DecodeError.TheVariants.{Truncated, NoSuchOpcode, NotInProfile, Operands, Text}
use Rattle.zcode.specs.declared.opcode.Excluded.{Excluded}
use Rattle.zcode.specs.declared.instr.Operand.{Operand}
use Rattle.zcode.specs.Instruction.{Instruction}
use Rattle.zcode.specs.Operation.{inputs, operation_of}
use Rattle.zcode.specs.Reading.{instruction_at}
use Rattle.zcode.proofs.ReadingLaws.{nothing_past}
use Rattle.zstate.specs.declared.halt.Halt.{Halt}
use Rattle.zstate.specs.InTurn.{◌>>=◌}
use Rattle.zstate.specs.State.{Scope, Setting, State, fault, popped, read_operands}
use Rattle.zstate.specs.Step.{Effect, admits, came, course, decoded, fetch, items_of, pauses, settle}
use Rattle.zlenient.specs.declared.front.Front.{Front}
use Rattle.zlenient.specs.declared.settling.Course.{Course}
use Rattle.zlenient.specs.declared.settling.Course.TheVariants.{On}
use Rattle.zlenient.specs.Answer.{IsOpenWay, IsShortWay, done_instead, effect_with, move_of}
use Rattle.zlenient.specs.Customary.{customary}
use Rattle.zlenient.specs.Front.{front_at, turned_by}
use Rattle.zlenient.specs.Nops.{nop_of}
use Rattle.zlenient.specs.Step.{instead, is_listed_at, lenient_fetch, or_nowhere, or_passed, passed_at, plan_instead}

-- ---- what stands at a place

pub unlisted : (scope : Scope) (place : ℤ) → ((p : ℕ) → place ≡ pos p → ⊥) → is_listed_at scope place ≡ true → ⊥
unlisted scope (pos p) none listed = none p refl
unlisted scope (negsuc n) none listed = absurd cc

fetched_by : (scope : Scope) (place : ℤ) (memory : List ℕ) (p : ℕ) (r : Result Instruction DecodeError) → place ≡ pos p → is_listed_at scope place ≡ true → instruction_at (drop p memory) ≡ r → lenient_fetch scope place memory ≡ or_passed (drop p memory) r
unfolding lenient_fetch
fetched_by scope place memory p r at listed is = subst (λ (z : ℤ). is_listed_at scope z ≡ true → lenient_fetch scope z memory ≡ or_passed (drop p memory) r) (sym at) by listed
  where
    by : scope.instructions p ≡ true → (if scope.instructions p then or_passed (drop p memory) (instruction_at (drop p memory)) else fault UnlistedInstruction) ≡ or_passed (drop p memory) r
    by listed_there = rw (listed_there, is) refl

-- an instruction of the profile is fetched
pub fetched_listed : (scope : Scope) (place : ℤ) (memory : List ℕ) (p : ℕ) (i : Instruction) → place ≡ pos p → is_listed_at scope place ≡ true → instruction_at (drop p memory) ≡ Ok i → fetch scope place memory ≡ Ok i
unfolding fetch
fetched_listed scope place memory p i at listed is = subst (λ (z : ℤ). is_listed_at scope z ≡ true → fetch scope z memory ≡ Ok i) (sym at) by listed
  where
    by : scope.instructions p ≡ true → (if scope.instructions p then decoded (instruction_at (drop p memory)) else fault UnlistedInstruction) ≡ Ok i
    by listed_there = rw (listed_there, is) refl

abbrev placed : ℕ → ℤ
placed p = pos p

same_place : (p q : ℕ) → placed p ≡ placed q → p ≡ q
same_place p q e = cc

-- at the place, whatever that is called
pub stands_there : (place : ℤ) (memory : List ℕ) (p : ℕ) (i : Instruction) → place ≡ pos p → instruction_at (drop p memory) ≡ Ok i → (q : ℕ) → place ≡ pos q → instruction_at (drop q memory) ≡ Ok i
stands_there place memory p i at is q there = ap (λ (k : ℕ). instruction_at (drop k memory)) (same_place q p (sym there ∙ at)) ∙ is

-- what is left out of the profile lies in memory
pub left_out_inside : (memory : List ℕ) (p : ℕ) (opcode : Excluded) → instruction_at (drop p memory) ≡ Err (NotInProfile opcode) → p < length memory
left_out_inside memory p opcode is = elim (cases_lt p (length memory)) [
  | inl low ↦ low
  | inr high ↦ (let past = nothing_past memory p high in absurd cc)
]

-- and it ends there
pub passed_within : (memory : List ℕ) (p size : ℕ) → p < length memory → size ≤ length (drop p memory) → p + size ≤ length memory
passed_within memory p size inside short = let long = length-drop p memory in omega (arith, inside, short, long)

-- ---- what spells no instruction, nor what is passed over

module _ (m : Setting) (f : Fault) (s : State) (p : ℕ) (at : s.place ≡ pos p) (listed : is_listed_at m.scope s.place ≡ true) where
  unfetched : (h : Halt) → lenient_fetch m.scope s.place s.memory ≡ Err h → instead m f s ≡ Err h
  unfolding instead plan_instead
  unfetched h stuck = rw stuck refl

  pub unspelled : (e : DecodeError) → ((opcode : Excluded) → e ≡ NotInProfile opcode → ⊥) → instruction_at (drop p s.memory) ≡ Err e → instead m f s ≡ fault IllegalOpcode
  unspelled Truncated other is = unfetched _ (fetched_by m.scope s.place s.memory p (Err Truncated) at listed is)
  unspelled NoSuchOpcode other is = unfetched _ (fetched_by m.scope s.place s.memory p (Err NoSuchOpcode) at listed is)
  unspelled (NotInProfile opcode) other is = absurd (other opcode refl)
  unspelled Operands other is = unfetched _ (fetched_by m.scope s.place s.memory p (Err Operands) at listed is)
  unspelled Text other is = unfetched _ (fetched_by m.scope s.place s.memory p (Err Text) at listed is)

-- ---- what is passed over

abbrev given : {A : Type 0} → A → Result A Halt
given x = Ok x

joined : {A B : Type 0} (r : Result (Unit {0}) Halt) (q : A) (g : A → Result B Halt) → ((r >>= λ _. given q) >>= g) ≡ (r >>= λ _. g q)
joined (Ok u) q g = refl
joined (Err h) q g = refl

passed_is : (m : Setting) (f : Fault) (s : State) (i : Instruction) (v : List ℕ × State) (e : Effect) → lenient_fetch m.scope s.place s.memory ≡ Ok i → read_operands m.story (inputs i) s ≡ Ok v → customary m.story (operation_of i.opcode) v.0 v.1 f ≡ Some e → instead m f s ≡ done_instead m.story m.limit f i e v.1 s
unfolding instead plan_instead
passed_is m f s i v e fetched reads is = rw (fetched, reads, is) (joined (settle m.limit i e v.1) (i, e, v.1) (λ q. or_nowhere f (record { state = came m.story q.0 q.1 q.2 s; items = items_of q.1 })))

nothing_done : (story : LoadedStory) (os : List Operand) (size : ℕ) (values : List ℕ) (s : State) (f : Fault) → customary story (operation_of (nop_of os size).opcode) values s f ≡ Some (effect_with None None)
unfolding customary operation_of
nothing_done story os size values s f = refl

inputs_are : (os : List Operand) (size : ℕ) → inputs (nop_of os size) ≡ os
inputs_are os size = append-nil os

module _ (m : Setting) (f : Fault) (s : State) (story : LoadedStory) (own : m.story ≡ story) (p : ℕ) (at : s.place ≡ pos p) (listed : is_listed_at m.scope s.place ≡ true) (opcode : Excluded) (left_out : instruction_at (drop p s.memory) ≡ Err (NotInProfile opcode)) where
  fetch_is : lenient_fetch m.scope s.place s.memory ≡ decoded (passed_at (drop p s.memory))
  fetch_is = fetched_by m.scope s.place s.memory p (Err (NotInProfile opcode)) at listed left_out

  -- its bytes end too soon
  pub pass_cut : (e : DecodeError) → passed_at (drop p s.memory) ≡ Err e → instead m f s ≡ fault IllegalOpcode
  pass_cut e is = unfetched m f s p at listed _ (fetch_is ∙ ap (λ (r : Result Instruction DecodeError). decoded r) is)

  module _ (os : List Operand) (size : ℕ) (is : passed_at (drop p s.memory) ≡ Ok (nop_of os size)) where
    there : lenient_fetch m.scope s.place s.memory ≡ Ok (nop_of os size)
    there = fetch_is ∙ ap (λ (r : Result Instruction DecodeError). decoded r) is

    reads_so : (r : Result (List ℕ × State) Halt) → read_operands story os s ≡ r → read_operands m.story (inputs (nop_of os size)) s ≡ r
    reads_so r e = ap (λ (x : LoadedStory). read_operands x (inputs (nop_of os size)) s) own ∙ ap (λ (xs : List Operand). read_operands story xs s) (inputs_are os size) ∙ e

    pub pass_unread : (h : Halt) → read_operands story os s ≡ Err h → instead m f s ≡ Err h
    unfolding instead plan_instead
    pass_unread h unread = rw (there, reads_so (Err h) unread) refl

    pub pass_is : (v : List ℕ × State) → read_operands story os s ≡ Ok v → instead m f s ≡ done_instead story m.limit f (nop_of os size) (effect_with None None) v.1 s
    pass_is v reads =
        passed_is m f s (nop_of os size) v (effect_with None None) there (reads_so (Ok v) reads) (nothing_done m.story os size v.0 v.1 f)
        ∙ ap (λ (x : LoadedStory). done_instead x m.limit f (nop_of os size) (effect_with None None) v.1 s) own

-- ---- that nothing keeps it from being done, and where it leads

abbrev pub on_it : Course
on_it = On (pos 0)

pub short_way : IsShortWay on_it
short_way = (omega (arith, ints), omega (arith, ints))

pub open_way : (s : State) → IsOpenWay on_it s
open_way s = (omega (arith, ints), omega (arith, ints))

pub leads_on : (os : List Operand) (size : ℕ) → move_of on_it ≡ course (effect_with None None) (nop_of os size).branch
leads_on os size = refl

pub settled : (limit : ℕ) (os : List Operand) (size n : ℕ) (s : State) → settle limit (nop_of os size) (effect_with None None) (popped n s) ≡ Ok tt
unfolding admits pauses
settled limit os size n s = refl

-- ---- the front

pub front_turned : (story : LoadedStory) (s : State) (f : Front) (p : ℕ) (opcode : Excluded) (os : List Operand) (size : ℕ) (v : List ℕ × State) → s.place ≡ pos p → instruction_at (drop p s.memory) ≡ Err (NotInProfile opcode) → passed_at (drop p s.memory) ≡ Ok (nop_of os size) → read_operands story os s ≡ Ok v → front_at story s s.place f ≡ turned_by opcode v.0 f
front_turned story s f p opcode os size v at left_out is reads =
    let reads_so : read_operands story (inputs (nop_of os size)) s ≡ Ok v = ap (λ (xs : List Operand). read_operands story xs s) (inputs_are os size) ∙ reads in
    ap (λ (z : ℤ). front_at story s z f) at ∙ rw (left_out, is, reads_so) refl

pub front_stays : (story : LoadedStory) (s : State) (f : Front) (p : ℕ) (i : Instruction) → s.place ≡ pos p → instruction_at (drop p s.memory) ≡ Ok i → front_at story s s.place f ≡ f
front_stays story s f p i at is = ap (λ (z : ℤ). front_at story s z f) at ∙ rw is refl
