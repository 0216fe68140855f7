use Rattle.std.proofs.Common.{◌≡◌, ◌∙◌, ◌≤◌, ℕ, List, None, Ok, Err, ap, arith, drop, length, subst, sym, true, false, refl, rules}
use Rattle.zcode.specs.declared.instr.Operand.{Operand}
use Rattle.zstory.specs.LoadedStory.{static_base}
use Rattle.zstate.specs.State.{IsState, State, popped, read_operands}
use Rattle.zstate.specs.Step.{act}
use Rattle.zlenient.specs.Answer.{effect_with}
use Rattle.zlenient.specs.Front.{turned_by}
use Rattle.zlenient.specs.Nops.{nop_of}
use Rattle.zlenient.specs.Step.{passed_at}
use Rattle.zlenient.proofs.Acted.{acted_is}
use Rattle.zlenient.proofs.Excused.{ends_within, led_inside, led_nowhere, stands_inside}
use Rattle.zlenient.proofs.Keeping.{act_fixed, act_keeps, reached_of, result_of}
use Rattle.zlenient.proofs.Over.{front_turned, leads_on, left_out_inside, on_it, open_way, pass_cut, pass_is, pass_unread, passed_within, settled, short_way}
use Rattle.zlenient.proofs.excusing.pass_over.Goals as goal

pub returns-in-Err-clause-done : goal.returns-in-Err-clause-done
returns-in-Err-clause-done c =
    let bytes : c.bytes_from.result.now ≡ drop c.args.place c.args.state.now.memory = c.bytes_from.ensures ∙ ap (λ (m : List ℕ). drop c.args.place m) c.memory.ensures in
    λ m own listed. (pass_cut m c.args.fault c.args.state.now c.args.story.now own c.args.place c.requires.at listed c.args.opcode c.requires.left_out c.in-Err.field-0 (ap (λ (b : List ℕ). passed_at b) (sym bytes) ∙ c.in-Err.ensures.reads), refl)

pub returns-in-Err-read_operands-clause-done : goal.returns-in-Err-read_operands-clause-done
returns-in-Err-read_operands-clause-done c =
    let bytes : c.bytes_from.result.now ≡ drop c.args.place c.args.state.now.memory = c.bytes_from.ensures ∙ ap (λ (m : List ℕ). drop c.args.place m) c.memory.ensures in
    let is : passed_at (drop c.args.place c.args.state.now.memory) ≡ Ok (nop_of c.in-Ok.passed.operands.items c.in-Ok.passed.size) = ap (λ (b : List ℕ). passed_at b) (sym bytes) ∙ c.in-Ok.ensures.reads in
    let reads : read_operands c.args.story.now c.in-Ok.passed.operands.items c.args.state.now ≡ Err c.in-Err-read_operands.halt = ap (λ (os : List Operand). read_operands c.args.story.now os c.args.state.now) (sym c.as_slice.ensures.value) ∙ c.in-Err-read_operands.ensures.value in
    λ m own listed. (pass_unread m c.args.fault c.args.state.now c.args.story.now own c.args.place c.requires.at listed c.args.opcode c.requires.left_out c.in-Ok.passed.operands.items c.in-Ok.passed.size is c.in-Err-read_operands.halt reads, refl)

pub leads_inside-requires-clause-near : goal.leads_inside-requires-clause-near
leads_inside-requires-clause-near c =
    let bytes : c.bytes_from.result.now ≡ drop c.args.place c.args.state.now.memory = c.bytes_from.ensures ∙ ap (λ (m : List ℕ). drop c.args.place m) c.memory.ensures in
    let inside = left_out_inside c.args.state.now.memory c.args.place c.args.opcode c.requires.left_out in
    let short : c.in-Ok.passed.size ≤ length (drop c.args.place c.args.state.now.memory) = subst (λ (b : List ℕ). c.in-Ok.passed.size ≤ length b) bytes c.in-Ok.ensures.short in
    ends_within 131072 c.in-Ok.passed.size c.args.place c.args.state.now.place (length c.args.state.now.memory) c.requires.at (passed_within c.args.state.now.memory c.args.place c.in-Ok.passed.size inside short) (rw c.requires.state.1.memory c.memory-memory.ensures.sound.greatest_length)

pub leads_inside-requires-clause-reached : goal.leads_inside-requires-clause-reached
leads_inside-requires-clause-reached c = reached_of c.requires.state.0 _ _ c.requires.state.1

pub returns-then-not-leads_inside-clause-done : goal.returns-then-not-leads_inside-clause-done
returns-then-not-leads_inside-clause-done c =
    let bytes : c.bytes_from.result.now ≡ drop c.args.place c.args.state.now.memory = c.bytes_from.ensures ∙ ap (λ (m : List ℕ). drop c.args.place m) c.memory.ensures in
    let is : passed_at (drop c.args.place c.args.state.now.memory) ≡ Ok (nop_of c.in-Ok.passed.operands.items c.in-Ok.passed.size) = ap (λ (b : List ℕ). passed_at b) (sym bytes) ∙ c.in-Ok.ensures.reads in
    let reads : read_operands c.args.story.now c.in-Ok.passed.operands.items c.args.state.now ≡ Ok (c.in-Ok-read_operands.values.words.items, popped c.in-Ok-read_operands.values.popped c.args.state.now) = ap (λ (os : List Operand). read_operands c.args.story.now os c.args.state.now) (sym c.as_slice.ensures.value) ∙ c.in-Ok-read_operands.ensures.value in
    let out : c.leads_inside.result ≡ false = search rules in
    λ m own listed. (pass_is m c.args.fault c.args.state.now c.args.story.now own c.args.place c.requires.at listed c.args.opcode c.requires.left_out c.in-Ok.passed.operands.items c.in-Ok.passed.size is (c.in-Ok-read_operands.values.words.items, popped c.in-Ok-read_operands.values.popped c.args.state.now) reads ∙ led_nowhere c.args.story.now m.limit c.args.fault (nop_of c.in-Ok.passed.operands.items c.in-Ok.passed.size) None None c.in-Ok-read_operands.values.popped c.args.state.now on_it (leads_on c.in-Ok.passed.operands.items c.in-Ok.passed.size) (open_way c.args.state.now) (settled m.limit c.in-Ok.passed.operands.items c.in-Ok.passed.size c.in-Ok-read_operands.values.popped c.args.state.now) c.leads_inside.result c.leads_inside.ensures out, refl)

pub go-requires-clause-reached : goal.go-requires-clause-reached
go-requires-clause-reached c =
    let at_pop : c.pop.new.self ≡ popped c.popped.result c.args.state.now = c.pop.ensures in
    rw at_pop (reached_of c.requires.state.0 _ _ c.requires.state.1)

pub returns-clause-done : goal.returns-clause-done
returns-clause-done c =
    let bytes : c.bytes_from.result.now ≡ drop c.args.place c.args.state.now.memory = c.bytes_from.ensures ∙ ap (λ (m : List ℕ). drop c.args.place m) c.memory.ensures in
    let is : passed_at (drop c.args.place c.args.state.now.memory) ≡ Ok (nop_of c.in-Ok.passed.operands.items c.in-Ok.passed.size) = ap (λ (b : List ℕ). passed_at b) (sym bytes) ∙ c.in-Ok.ensures.reads in
    let reads : read_operands c.args.story.now c.in-Ok.passed.operands.items c.args.state.now ≡ Ok (c.in-Ok-read_operands.values.words.items, popped c.in-Ok-read_operands.values.popped c.args.state.now) = ap (λ (os : List Operand). read_operands c.args.story.now os c.args.state.now) (sym c.as_slice.ensures.value) ∙ c.in-Ok-read_operands.ensures.value in
    let at_pop : c.pop.new.self ≡ popped c.in-Ok-read_operands.values.popped c.args.state.now = c.pop.ensures ∙ ap (λ (k : ℕ). popped k c.args.state.now) c.popped.ensures in
    let acted : c.go.new.state ≡ act c.args.story.now (nop_of c.in-Ok.passed.operands.items c.in-Ok.passed.size) (effect_with None None) (popped c.in-Ok-read_operands.values.popped c.args.state.now) = acted_is c.args.story.now (nop_of c.in-Ok.passed.operands.items c.in-Ok.passed.size) None None on_it 0 c.in-Ok-read_operands.values.popped c.args.state.now c.pop.new.self c.go.new.state c.in-Ok.passed.size (leads_on c.in-Ok.passed.operands.items c.in-Ok.passed.size) refl at_pop refl (c.go.ensures 0) in
    let into : c.leads_inside.result ≡ true = search rules in
    λ m own listed. pass_is m c.args.fault c.args.state.now c.args.story.now own c.args.place c.requires.at listed c.args.opcode c.requires.left_out c.in-Ok.passed.operands.items c.in-Ok.passed.size is (c.in-Ok-read_operands.values.words.items, popped c.in-Ok-read_operands.values.popped c.args.state.now) reads ∙ led_inside c.args.story.now m.limit c.args.fault (nop_of c.in-Ok.passed.operands.items c.in-Ok.passed.size) None None c.in-Ok-read_operands.values.popped c.args.state.now on_it (leads_on c.in-Ok.passed.operands.items c.in-Ok.passed.size) (open_way c.args.state.now) (settled m.limit c.in-Ok.passed.operands.items c.in-Ok.passed.size c.in-Ok-read_operands.values.popped c.args.state.now) c.leads_inside.result c.leads_inside.ensures into c.go.new.state acted

pub returns-clause-front : goal.returns-clause-front
returns-clause-front c =
    let bytes : c.bytes_from.result.now ≡ drop c.args.place c.args.state.now.memory = c.bytes_from.ensures ∙ ap (λ (m : List ℕ). drop c.args.place m) c.memory.ensures in
    let is : passed_at (drop c.args.place c.args.state.now.memory) ≡ Ok (nop_of c.in-Ok.passed.operands.items c.in-Ok.passed.size) = ap (λ (b : List ℕ). passed_at b) (sym bytes) ∙ c.in-Ok.ensures.reads in
    let reads : read_operands c.args.story.now c.in-Ok.passed.operands.items c.args.state.now ≡ Ok (c.in-Ok-read_operands.values.words.items, popped c.in-Ok-read_operands.values.popped c.args.state.now) = ap (λ (os : List Operand). read_operands c.args.story.now os c.args.state.now) (sym c.as_slice.ensures.value) ∙ c.in-Ok-read_operands.ensures.value in
    c.turned_by.ensures
    ∙ ap (λ (ws : List ℕ). turned_by c.args.opcode ws c.args.front.now) c.words.ensures
    ∙ sym (front_turned c.args.story.now c.args.state.now c.args.front.now c.args.place c.args.opcode c.in-Ok.passed.operands.items c.in-Ok.passed.size (c.in-Ok-read_operands.values.words.items, popped c.in-Ok-read_operands.values.popped c.args.state.now) c.requires.at c.requires.left_out is reads)

pub returns-clause-keeps : goal.returns-clause-keeps
returns-clause-keeps c =
    let at_pop : c.pop.new.self ≡ popped c.in-Ok-read_operands.values.popped c.args.state.now = c.pop.ensures ∙ ap (λ (k : ℕ). popped k c.args.state.now) c.popped.ensures in
    let acted : c.go.new.state ≡ act c.args.story.now (nop_of c.in-Ok.passed.operands.items c.in-Ok.passed.size) (effect_with None None) (popped c.in-Ok-read_operands.values.popped c.args.state.now) = acted_is c.args.story.now (nop_of c.in-Ok.passed.operands.items c.in-Ok.passed.size) None None on_it 0 c.in-Ok-read_operands.values.popped c.args.state.now c.pop.new.self c.go.new.state c.in-Ok.passed.size (leads_on c.in-Ok.passed.operands.items c.in-Ok.passed.size) refl at_pop refl (c.go.ensures 0) in
    λ limit state. subst (λ (t : State). IsState limit c.args.story.now t) (sym acted) (act_keeps limit c.args.story.now c.memory-memory.ensures.sound.globals_above (nop_of c.in-Ok.passed.operands.items c.in-Ok.passed.size) None None on_it c.in-Ok-read_operands.values.popped c.args.state.now tt short_way (leads_on c.in-Ok.passed.operands.items c.in-Ok.passed.size) (settled limit c.in-Ok.passed.operands.items c.in-Ok.passed.size c.in-Ok-read_operands.values.popped c.args.state.now) state)

pub returns-clause-fixed : goal.returns-clause-fixed
returns-clause-fixed c =
    let at_pop : c.pop.new.self ≡ popped c.in-Ok-read_operands.values.popped c.args.state.now = c.pop.ensures ∙ ap (λ (k : ℕ). popped k c.args.state.now) c.popped.ensures in
    let acted : c.go.new.state ≡ act c.args.story.now (nop_of c.in-Ok.passed.operands.items c.in-Ok.passed.size) (effect_with None None) (popped c.in-Ok-read_operands.values.popped c.args.state.now) = acted_is c.args.story.now (nop_of c.in-Ok.passed.operands.items c.in-Ok.passed.size) None None on_it 0 c.in-Ok-read_operands.values.popped c.args.state.now c.pop.new.self c.go.new.state c.in-Ok.passed.size (leads_on c.in-Ok.passed.operands.items c.in-Ok.passed.size) refl at_pop refl (c.go.ensures 0) in
    ap (λ (t : State). drop (static_base c.args.story.now) t.memory) acted
    ∙ act_fixed c.args.story.now c.memory-memory.ensures.sound.globals_within (nop_of c.in-Ok.passed.operands.items c.in-Ok.passed.size) None None on_it c.in-Ok-read_operands.values.popped c.args.state.now (omega arith) (result_of c.requires.state.0 _ _ c.requires.state.1) (leads_on c.in-Ok.passed.operands.items c.in-Ok.passed.size)

pub returns-clause-inside : goal.returns-clause-inside
returns-clause-inside c =
    let at_pop : c.pop.new.self ≡ popped c.in-Ok-read_operands.values.popped c.args.state.now = c.pop.ensures ∙ ap (λ (k : ℕ). popped k c.args.state.now) c.popped.ensures in
    let acted : c.go.new.state ≡ act c.args.story.now (nop_of c.in-Ok.passed.operands.items c.in-Ok.passed.size) (effect_with None None) (popped c.in-Ok-read_operands.values.popped c.args.state.now) = acted_is c.args.story.now (nop_of c.in-Ok.passed.operands.items c.in-Ok.passed.size) None None on_it 0 c.in-Ok-read_operands.values.popped c.args.state.now c.pop.new.self c.go.new.state c.in-Ok.passed.size (leads_on c.in-Ok.passed.operands.items c.in-Ok.passed.size) refl at_pop refl (c.go.ensures 0) in
    let into : c.leads_inside.result ≡ true = search rules in
    stands_inside c.args.story.now c.requires.state.0 c.args.fault (nop_of c.in-Ok.passed.operands.items c.in-Ok.passed.size) None None c.in-Ok-read_operands.values.popped c.args.state.now on_it (leads_on c.in-Ok.passed.operands.items c.in-Ok.passed.size) (open_way c.args.state.now) (settled c.requires.state.0 c.in-Ok.passed.operands.items c.in-Ok.passed.size c.in-Ok-read_operands.values.popped c.args.state.now) c.leads_inside.result c.leads_inside.ensures into c.go.new.state acted
