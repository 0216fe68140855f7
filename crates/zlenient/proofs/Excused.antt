-- What came of an answer, over plain variables.
use Rattle.std.proofs.Common.{◌≡◌, ℕ, ◌+◌, ◌≤◌, drop, length, Bool, true, false, List, [], Option, Some, None, Result, Ok, Err, refl, sym, ap, subst, ◌∙◌, arith, if◌then◌else◌}
use Rattle.std.specs.Prelude.{ℤ, pos, negsuc}
use Rattle.std.proofs.lemmas.Int.{ints}
use Rattle.zfault.specs.declared.fault.Fault.{Fault}
use Rattle.zfault.specs.declared.fault.Fault.TheVariants.{UnlistedInstruction}
use Rattle.zstory.specs.LoadedStory.{LoadedStory}
use Rattle.zcode.specs.declared.error.DecodeError.{DecodeError}
use Rattle.zcode.specs.declared.instr.Operand.{Operand}
use Rattle.zcode.specs.declared.operation.Operation.{Operation}
use Rattle.zcode.specs.Instruction.{Instruction}
use Rattle.zcode.specs.Operation.{inputs, operation_of}
use Rattle.zcode.specs.Reading.{instruction_at}
use Rattle.zstate.specs.declared.halt.Halt.{Halt}
use Rattle.zstate.specs.InTurn.{◌>>=◌}
use Rattle.zstate.specs.State.{Scope, Setting, State, fault, popped, read_operands}
use Rattle.zstate.specs.Step.{Done, Effect, act, came, course, decoded, fetch, items_of, settle}
use Rattle.zstate.proofs.Steps.{ok_is}
use Rattle.zlenient.specs.declared.excusing.Unexcused.{Unexcused}
use Rattle.zlenient.specs.declared.settling.Course.{Course}
use Rattle.zlenient.specs.Answer.{EndsBy, IsExcused, IsOpenWay, done_instead, effect_with, move_of, place_after}
use Rattle.zlenient.specs.Customary.{customary}
use Rattle.zlenient.specs.Step.{instead, is_within, lenient_fetch, or_nowhere, or_passed, plan_instead}
use Rattle.zlenient.proofs.Acted.{acted_place, acted_size}

-- ---- what is fetched

was_decoded : (r : Result Instruction DecodeError) (i : Instruction) → decoded r ≡ Ok i → r ≡ Ok i
was_decoded (Ok j) i e = ap (λ (k : Instruction). Ok k) (ok_is j i e)
was_decoded (Err cause) i e = absurd cc

-- an instruction that is fetched stands at its place
pub fetched_there : (scope : Scope) (place : ℤ) (memory : List ℕ) (i : Instruction) → fetch scope place memory ≡ Ok i → (p : ℕ) × (place ≡ pos p) × (instruction_at (drop p memory) ≡ Ok i)
unfolding fetch
fetched_there scope (negsuc n) memory i e = absurd cc
fetched_there scope (pos p) memory i e = by (scope.instructions p) e
  where
    by : (b : Bool) → (if b then decoded (instruction_at (drop p memory)) else fault UnlistedInstruction) ≡ Ok i → (k : ℕ) × (pos p ≡ pos k) × (instruction_at (drop k memory) ≡ Ok i)
    by true e = (p, refl, was_decoded (instruction_at (drop p memory)) i e)
    by false e = absurd cc

decoded_stays : (bytes : List ℕ) (r : Result Instruction DecodeError) (i : Instruction) → decoded r ≡ Ok i → or_passed bytes r ≡ Ok i
decoded_stays bytes (Ok j) i e = e
decoded_stays bytes (Err cause) i e = absurd cc

fetch_stays : (scope : Scope) (place : ℤ) (memory : List ℕ) (i : Instruction) → fetch scope place memory ≡ Ok i → lenient_fetch scope place memory ≡ Ok i
unfolding fetch lenient_fetch
fetch_stays scope (negsuc n) memory i e = absurd cc
fetch_stays scope (pos p) memory i e = by (scope.instructions p) e
  where
    by : (b : Bool) → (if b then decoded (instruction_at (drop p memory)) else fault UnlistedInstruction) ≡ Ok i → (if b then or_passed (drop p memory) (instruction_at (drop p memory)) else fault UnlistedInstruction) ≡ Ok i
    by true e = decoded_stays (drop p memory) (instruction_at (drop p memory)) i e
    by false e = absurd cc

-- an instruction that is read ends within memory
pub ends_within : (limit size p : ℕ) (place : ℤ) (n : ℕ) → place ≡ pos p → p + size ≤ n → n ≤ limit → EndsBy limit size place
ends_within limit size p place n is within few = rw is (omega (arith, ints), omega (arith, ints, within, few))

-- ---- what is done of it

abbrev given : {A : Type 0} → A → Result A Halt
given x = Ok x

joined : {A B : Type 0} (r : Result (Unit {0}) Halt) (p : A) (g : A → Result B Halt) → ((r >>= λ _. given p) >>= g) ≡ (r >>= λ _. g p)
joined (Ok u) p g = refl
joined (Err h) p g = refl

module _ (m : Setting) (f : Fault) (s : State) (i : Instruction) (fetched : fetch m.scope s.place s.memory ≡ Ok i) where
  -- where an operand can't be read
  pub instead_unread : (h : Halt) → read_operands m.story (inputs i) s ≡ Err h → instead m f s ≡ Err h
  unfolding instead plan_instead
  instead_unread h unread = rw (fetch_stays m.scope s.place s.memory i fetched, unread) refl

  module _ (v : List ℕ × State) (reads : read_operands m.story (inputs i) s ≡ Ok v) where
    -- where nothing is customary
    pub instead_none : customary m.story (operation_of i.opcode) v.0 v.1 f ≡ None → instead m f s ≡ fault f
    unfolding instead plan_instead
    instead_none none = rw (fetch_stays m.scope s.place s.memory i fetched, reads, none) refl

    pub instead_is : (e : Effect) → customary m.story (operation_of i.opcode) v.0 v.1 f ≡ Some e → instead m f s ≡ done_instead m.story m.limit f i e v.1 s
    unfolding instead plan_instead
    instead_is e is = rw (fetch_stays m.scope s.place s.memory i fetched, reads, is) (joined (settle m.limit i e v.1) (i, e, v.1) (λ p. or_nowhere f (record { state = came m.story p.0 p.1 p.2 s; items = items_of p.1 })))

module _ (story : LoadedStory) (limit : ℕ) (f : Fault) (i : Instruction) (gives : Option ℕ) (tests : Option Bool) (n : ℕ) (s : State) where
  abbrev effect : Effect
  effect = effect_with gives tests

  abbrev done : Result Done Halt
  done = done_instead story limit f i effect (popped n s) s

  pub unsettled : (h : Halt) → settle limit i effect (popped n s) ≡ Err h → done ≡ Err h
  unsettled h stuck = rw stuck refl

  module _ (c : Course) (where_to : move_of c ≡ course effect i.branch) (way : IsOpenWay c s) (settled : settle limit i effect (popped n s) ≡ Ok tt) where
    abbrev after : State
    after = act story i effect (popped n s)

    inside_is : (b : Bool) → b ≡ is_within (place_after i.size c s) (length s.memory) → is_within after.place (length after.memory) ≡ b
    inside_is b is =
        ap (λ (z : ℤ). is_within z (length after.memory)) (acted_place story i gives tests c n s where_to way)
        ∙ ap (λ (k : ℕ). is_within (place_after i.size c s) k) (acted_size story i gives tests c n s where_to way)
        ∙ sym is

    pub led_nowhere : (b : Bool) → b ≡ is_within (place_after i.size c s) (length s.memory) → b ≡ false → done ≡ fault f
    led_nowhere b is out = rw (settled, inside_is b is, out) refl

    pub led_inside : (b : Bool) → b ≡ is_within (place_after i.size c s) (length s.memory) → b ≡ true → (t : State) → t ≡ after → done ≡ Ok (record { state = t; items = [] })
    led_inside b is into t same = rw (settled, inside_is b is, into, same) refl

    pub stands_inside : (b : Bool) → b ≡ is_within (place_after i.size c s) (length s.memory) → b ≡ true → (t : State) → t ≡ after → is_within t.place (length t.memory) ≡ true
    stands_inside b is into t same = rw same (inside_is b is ∙ into)

-- ---- as code has it

abbrev read_so : {A : Type 0} → A → Result A DecodeError
read_so x = Ok x

same_read : {A : Type 0} (x y : A) → read_so x ≡ read_so y → x ≡ y
same_read x y e = cc

-- the instruction that was read at the place is the one that is fetched
pub fetched_same : (scope : Scope) (place : ℤ) (memory : List ℕ) (i j : Instruction) → fetch scope place memory ≡ Ok i → ((p : ℕ) → place ≡ pos p → instruction_at (drop p memory) ≡ Ok j) → fetch scope place memory ≡ Ok j
fetched_same scope place memory i j fetched is =
    let there = fetched_there scope place memory i fetched in
    fetched ∙ ap (λ (k : Instruction). Ok k) (same_read i j (sym there.2 ∙ is there.0 there.1))

module _ (m : Setting) (f : Fault) (s : State) (story : LoadedStory) (own : m.story ≡ story) (i j : Instruction) (fetched : fetch m.scope s.place s.memory ≡ Ok i) (at : (p : ℕ) → s.place ≡ pos p → instruction_at (drop p s.memory) ≡ Ok j) (os : List Operand) (operands : os ≡ inputs j) where
  there : fetch m.scope s.place s.memory ≡ Ok j
  there = fetched_same m.scope s.place s.memory i j fetched at

  reads_so : (r : Result (List ℕ × State) Halt) → read_operands story os s ≡ r → read_operands m.story (inputs j) s ≡ r
  reads_so r is = ap (λ (x : LoadedStory). read_operands x (inputs j) s) own ∙ ap (λ (xs : List Operand). read_operands story xs s) (sym operands) ∙ is

  pub excused_unread : (h : Halt) → read_operands story os s ≡ Err h → instead m f s ≡ Err h
  excused_unread h unread = instead_unread m f s j there h (reads_so (Err h) unread)

  module _ (v : List ℕ × State) (reads : read_operands story os s ≡ Ok v) (op : Operation) (does : op ≡ operation_of j.opcode) (words : List ℕ) (values : words ≡ v.0) where
    customary_so : (r : Option Effect) → customary story op words v.1 f ≡ r → customary m.story (operation_of j.opcode) v.0 v.1 f ≡ r
    customary_so r is =
        ap (λ (x : LoadedStory). customary x (operation_of j.opcode) v.0 v.1 f) own
        ∙ ap (λ (o : Operation). customary story o v.0 v.1 f) (sym does)
        ∙ ap (λ (xs : List ℕ). customary story op xs v.1 f) (sym values)
        ∙ is

    pub excused_none : customary story op words v.1 f ≡ None → instead m f s ≡ fault f
    excused_none none = instead_none m f s j there v (reads_so (Ok v) reads) (customary_so None none)

    pub excused_some : (e : Effect) → customary story op words v.1 f ≡ Some e → (r : Result (Unit {0}) Unexcused) (t : State) → IsExcused (done_instead story m.limit f j e v.1 s) r s t → IsExcused (instead m f s) r s t
    excused_some e is r t done =
        let same : instead m f s ≡ done_instead story m.limit f j e v.1 s = instead_is m f s j there v (reads_so (Ok v) reads) e (customary_so (Some e) is) ∙ ap (λ (x : LoadedStory). done_instead x m.limit f j e v.1 s) own in
        subst (λ (d : Result Done Halt). IsExcused d r s t) (sym same) done
