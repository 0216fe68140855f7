-- What a session relies on, where it stands in a described state.
use Rattle.std.proofs.Common.{Bool, ◌≡◌, inl, inr, ℕ, ◌≤◌, false, List, length, drop, Option, Some, Ok, sym, ap, subst, ◌∙◌, arith}
use Rattle.std.specs.Prelude.{IsTrue, IfSome, is_some, ◌==◌}
use Rattle.zcode.specs.declared.operation.Operation.{Operation}
use Rattle.zcode.specs.declared.operation.Operation.TheVariants.{Jump, Call}
use Rattle.zcode.specs.declared.instr.Operand.{Operand}
use Rattle.zcode.specs.Instruction.{Instruction}
use Rattle.zcode.specs.Operation.{operation_of, inputs, target}
use Rattle.zcode.specs.Reading.{instruction_at}
use Rattle.zdomain.specs.Domain.{SetOperations, AreSound, In}
use Rattle.zstate.specs.State.{State, Setting, popped, read_operands}
use Rattle.zstate.specs.Step.{Effect, admits, arg, changed, course, effect_of, fetch, pauses, plan, settle, unpacked}
use Rattle.zstate.proofs.Steps.{bind_ok, ok_is}
use Rattle.zflow.specs.declared.parts.Outcome.{Outcome}
use Rattle.zflow.specs.Transfer.{Shape, pops, slots_with, leading, demands_of, read_set, argument_sets, enters_in}
use Rattle.zrule.specs.declared.rule.Rule.TheVariants as rules
use Rattle.zrule.specs.Claims.{Claims, globals_at}
use Rattle.zrule.specs.Rules.{Begins, IsThere, SupportsWhere, comes_back}
use Rattle.zrule.specs.Described.{Described, IsListedWhere, IsLoadedStory}
use Rattle.zrule.proofs.Sets.{ReadsAll, zip_length}
use Rattle.zrule.proofs.Settling.{pauses_there}
use Rattle.zrule.proofs.Standing.{IsStill, a_quit, a_need, a_prompt, a_restart}
use Rattle.zrule.proofs.Pieces.{not_zero, no_lower, same_read}
use Rattle.zrule.proofs.Safety.{ComesOf, Matches, Expected, edge, expected, all, asked, known_jump, CallsOf, begins_said, entry_edge, fetches}
use Rattle.zrule.proofs.Able.{low, low_read}

module _ {V : Type 0} (o : SetOperations V) (lawful : AreSound o) (claims : Claims V) (m : Setting) (loaded : IsLoadedStory m.story) {marked : ℕ → Bool} (supports : SupportsWhere o claims marked m.story) (listed : IsListedWhere o claims marked m.scope) (s : State) (d : Described o claims m.limit m.story s) (plain : marked d.at ≡ false) (i : Instruction) (there : IsThere m.story d.at i) where
  abbrev operands : List Operand
  operands = inputs i

  abbrev args : ℕ → V
  args = read_set o (globals_at claims d.at) i d.entry.shape

  abbrev given_args : List V
  given_args = argument_sets o (globals_at claims d.at) i d.entry.shape

  abbrev all_there : ReadsAll o (globals_at claims d.at) m.story operands d.entry.shape s
  all_there = all o lawful claims m loaded supports listed s d plain i there

  -- where a first operand can have but one value, it has that
  first_read : (values : List ℕ) (u : State) (x : ℕ) → o.known (args 0) ≡ Some x → read_operands m.story operands s ≡ Ok (values, u) → arg values 0 ≡ x
  first_read values u x known read =
      let same : values ≡ all_there.values = ap (λ (p : List ℕ × State). p.0) (same_read (values, u) (all_there.values, popped (pops operands) s) (sym read ∙ all_there.read)) in
      ap (λ (ys : List ℕ). arg ys 0) same ∙ lawful.known (args 0) x (arg all_there.values 0) known (all_there.members 0)

  known_for : IsTrue (demands_of o Jump args).certain → (x : ℕ) × (o.known (args 0) ≡ Some x)
  unfolding demands_of
  known_for sure = let k = known_jump o lawful claims m loaded supports listed s d plain i there sure in (k.0, k.1)

  pub jumps_as_known : operation_of i.opcode ≡ Jump → (values : List ℕ) (u : State) → read_operands m.story operands s ≡ Ok (values, u) → o.known (args 0) ≡ Some (arg values 0)
  jumps_as_known jump values u read =
      let sure : IsTrue (demands_of o Jump args).certain = subst (λ (k : Operation). IsTrue (demands_of o k args).certain) jump (asked o lawful claims m loaded supports listed s d plain i there).certain in
      let k = known_for sure in
      k.1 ∙ ap (λ (n : ℕ). Some n) (sym (first_read values u k.0 k.1 read))

  -- what is called is a routine that begins as is said
  called_begins : CallsOf o lawful claims m loaded supports listed s d plain i there Call → (arg all_there.values 0 == 0) ≡ false → Begins o claims m.story given_args (unpacked (arg all_there.values 0))
  unfolding CallsOf
  called_begins rule e = let on_edge = entry_edge o lawful claims m loaded supports listed s d plain i there e in rule (enters_in on_edge.a) on_edge.comes (arg all_there.values 0) on_edge.member (not_zero (arg all_there.values 0) e)

  pub called_as_said : operation_of i.opcode ≡ Call → (values : List ℕ) (u : State) → read_operands m.story operands s ≡ Ok (values, u) → (arg values 0 == 0) ≡ false → Begins o claims m.story given_args (unpacked (arg values 0))
  called_as_said call values u read some =
      let same : all_there.values ≡ values = ap (λ (p : List ℕ × State). p.0) (same_read (all_there.values, popped (pops operands) s) (values, u) (sym all_there.read ∙ read)) in
      subst (λ (ys : List ℕ). Begins o claims m.story given_args (unpacked (arg ys 0))) same
      (called_begins (subst (λ (k : Operation). CallsOf o lawful claims m loaded supports listed s d plain i there k) call (begins_said o lawful claims m loaded supports listed s d plain i there)) (subst (λ (ys : List ℕ). (arg ys 0 == 0) ≡ false) (sym same) some))

  -- with what an effect gives, a stack is low
  low_with : (w : Outcome V) (effect : Effect) (comes : ComesOf o lawful claims m loaded supports listed s d plain i there (operation_of i.opcode) w) (matches : Matches o lawful claims m loaded supports listed s d plain i there w effect) → length (changed m.story i effect (popped (pops operands) s)).frame.stack ≤ 64
  low_with w effect comes matches =
      let on_edge = edge o lawful claims m loaded supports listed s d plain i there w effect comes matches in
      let same = zip_length (In o) on_edge.0.slots (changed m.story i effect (popped (pops operands) s)).frame.stack on_edge.2.in_slots in
      let high = subst (λ (r : Option (Shape V)). IfSome r (λ f. length (slots_with (comes_back o claims (leading o w i.branch)) (target i) f.slots) ≤ 64)) on_edge.1 (supports.each d.at d.entry d.listed plain rules.High i there w comes) in
      let more = no_lower (comes_back o claims (leading o w i.branch)) (target i) on_edge.0.slots in
      omega (arith, same, high, more)

  -- and with one that leads nowhere
  low_still : (effect : Effect) → IsStill effect → pauses m.limit (target i) effect (course effect i.branch) (popped (pops operands) s) ≡ Ok tt → length (changed m.story i effect (popped (pops operands) s)).frame.stack ≤ 64
  unfolding changed
  low_still effect (a_quit needs quits) ok = absurd (pauses_there m.limit (target i) effect (course effect i.branch) (popped (pops operands) s) (inr quits) ok)
  low_still effect (a_need need needs) ok = absurd (pauses_there m.limit (target i) effect (course effect i.branch) (popped (pops operands) s) (inl (ap is_some needs)) ok)
  low_still effect (a_prompt line is) ok = rw is (low_read o lawful claims m loaded supports listed s d plain i there)
  low_still effect (a_restart is) ok = rw is (low_read o lawful claims m loaded supports listed s d plain i there)

  low_if : (effect : Effect) → Expected o lawful claims m loaded supports listed s d plain i there (operation_of i.opcode) (Ok effect) → settle m.limit i effect (popped (pops operands) s) ≡ Ok tt → length (changed m.story i effect (popped (pops operands) s)).frame.stack ≤ 64
  unfolding Expected
  low_if effect (inl still) settled = low_still effect still.why (bind_ok (admits (target i) effect (course effect i.branch) (popped (pops operands) s)) _ tt settled).2
  low_if effect (inr (w, comes, matches)) settled = low_with w effect comes matches

  -- so it is of every step that is planned
  pub low_planned : (j : Instruction) (effect : Effect) (u : State) → plan m s ≡ Ok (j, effect, u) → length (changed m.story j effect u).frame.stack ≤ 64
  unfolding plan
  low_planned j effect u planned =
      let f = bind_ok (fetch m.scope s.place s.memory) _ (j, effect, u) planned in
      let v = bind_ok (read_operands m.story (inputs f.0) s) _ (j, effect, u) f.2 in
      let x = bind_ok (effect_of m (operation_of f.0.opcode) v.0.0 v.0.1) _ (j, effect, u) v.2 in
      let y = bind_ok (settle m.limit f.0 x.0 v.0.1) _ (j, effect, u) x.2 in
      let parts : (f.0, x.0, v.0.1) ≡ (j, effect, u) = ok_is (f.0, x.0, v.0.1) (j, effect, u) y.2 in
      let one : i ≡ f.0 = ok_is i f.0 (sym (fetches o lawful claims m loaded supports listed s d plain i there) ∙ f.1) in
      let read : read_operands m.story operands s ≡ Ok v.0 = subst (λ (k : Instruction). read_operands m.story (inputs k) s ≡ Ok v.0) (sym one) v.1 in
      let both : (all_there.values, popped (pops operands) s) ≡ v.0 = same_read (all_there.values, popped (pops operands) s) v.0 (sym all_there.read ∙ read) in
      let does : effect_of m (operation_of i.opcode) all_there.values (popped (pops operands) s) ≡ Ok x.0 = subst (λ (k : Instruction). effect_of m (operation_of k.opcode) all_there.values (popped (pops operands) s) ≡ Ok x.0) (sym one) (subst (λ (r : List ℕ × State). effect_of m (operation_of f.0.opcode) r.0 r.1 ≡ Ok x.0) (sym both) x.1) in
      let settled : settle m.limit i x.0 (popped (pops operands) s) ≡ Ok tt = subst (λ (k : Instruction). settle m.limit k x.0 (popped (pops operands) s) ≡ Ok tt) (sym one) (subst (λ (r : List ℕ × State). settle m.limit f.0 x.0 r.1 ≡ Ok tt) (sym both) y.1) in
      let low : length (changed m.story i x.0 (popped (pops operands) s)).frame.stack ≤ 64 = low_if x.0 (subst (Expected o lawful claims m loaded supports listed s d plain i there (operation_of i.opcode)) does (expected o lawful claims m loaded supports listed s d plain i there)) settled in
      let there_low : length (changed m.story f.0 x.0 v.0.1).frame.stack ≤ 64 = subst (λ (k : Instruction). length (changed m.story k x.0 v.0.1).frame.stack ≤ 64) one (subst (λ (r : List ℕ × State). length (changed m.story i x.0 r.1).frame.stack ≤ 64) both low) in
      subst (λ (q : Instruction × Effect × State). length (changed m.story q.0 q.1 q.2).frame.stack ≤ 64) parts there_low

-- by the instruction that is listed there
module _ {V : Type 0} (o : SetOperations V) (lawful : AreSound o) (claims : Claims V) (m : Setting) (s : State) (loaded : IsLoadedStory m.story) {marked : ℕ → Bool} (supports : SupportsWhere o claims marked m.story) (listed : IsListedWhere o claims marked m.scope) (d : Described o claims m.limit m.story s) (plain : marked d.at ≡ false) (i : Instruction) (reads : instruction_at (drop d.at m.story.memory) ≡ Ok i) where
  there : IsThere m.story d.at i
  there = record { static = (supports.each d.at d.entry d.listed plain rules.Decodes).1.static; decodes = reads }

  -- the instruction that is listed there is read there
  pub reads_it : fetch m.scope s.place s.memory ≡ Ok i
  reads_it = fetches o lawful claims m loaded supports listed s d plain i there

  -- a jump goes as far as is known
  pub jumps_known : operation_of i.opcode ≡ Jump → (values : List ℕ) (u : State) → read_operands m.story (inputs i) s ≡ Ok (values, u) → o.known (read_set o (globals_at claims d.at) i d.entry.shape 0) ≡ Some (arg values 0)
  jumps_known = jumps_as_known o lawful claims m loaded supports listed s d plain i there

  -- its stack is low
  pub stack_low : length s.frame.stack ≤ 64
  stack_low = low o lawful claims m loaded supports listed s d plain i there

  -- what it calls is a routine that begins as is said
  pub calls_begin : operation_of i.opcode ≡ Call → (values : List ℕ) (u : State) → read_operands m.story (inputs i) s ≡ Ok (values, u) → (arg values 0 == 0) ≡ false → Begins o claims m.story (argument_sets o (globals_at claims d.at) i d.entry.shape) (unpacked (arg values 0))
  calls_begin = called_as_said o lawful claims m loaded supports listed s d plain i there

  -- with what it gives, its stack is low
  pub low_once_planned : (j : Instruction) (effect : Effect) (u : State) → plan m s ≡ Ok (j, effect, u) → length (changed m.story j effect u).frame.stack ≤ 64
  low_once_planned = low_planned o lawful claims m loaded supports listed s d plain i there
