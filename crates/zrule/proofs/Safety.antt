-- A step from a described state is safe, by the parts of its effect.
use Rattle.std.proofs.Common.{◌≡◌, ◌⊎◌, inl, inr, ℕ, ◌+◌, ◌-◌, ◌<◌, ◌≤◌, Bool, true, false, List, [], ◌∷◌, ◌++◌, length, drop, Option, Some, None, Result, Ok, Err, refl, sym, ap, subst, ◌∙◌, arith, nat_lt, slice_set, if◌then◌else◌}
use Rattle.std.specs.Prelude.{ℤ, pos, ◌+ℤ◌, IsOk, IfSome, MatchOption, IsTrue, is_some, not, option_map, slice_get, ◌==◌, ◌&&◌}
use Rattle.std.specs.Bool.{OnTrue, MatchBool}
use Rattle.std.specs.List.{AllByRecursion}
use Rattle.std.proofs.lemmas.Bool.{ltb-false, eqb-true, lt-ltb}
use Rattle.zword.specs.declared.question.Question.{Question}
use Rattle.zword.specs.declared.question.Question.TheVariants.{Equal}
use Rattle.zword.specs.declared.count.CountOp.{CountOp}
use Rattle.zword.specs.Question.{holds}
use Rattle.zword.specs.declared.count.CountOp.TheVariants.{Up, Down}
use Rattle.zword.specs.declared.binary.BinaryOp.TheVariants.{Add, Sub}
use Rattle.zword.specs.Count.{counted}
use Rattle.zword.specs.Addressing.{place_of as text_place}
use Rattle.zstory.specs.Bytes.{byte_at}
use Rattle.zfault.specs.declared.fault.Fault.TheVariants.{UnlistedCall}
use Rattle.zfault.specs.declared.item.Status.{Status as StatusLine}
use Rattle.ztext.specs.declared.error.TextError.{TextError}
use Rattle.ztext.specs.Output.{output_at}
use Rattle.zcode.specs.declared.instr.Operand.{Operand}
use Rattle.zcode.specs.declared.instr.Operand.TheVariants.{Constant, Variable}
use Rattle.zcode.specs.declared.operation.Operation.{Operation}
use Rattle.zcode.specs.declared.operation.Operation.TheVariants.{Unary, Binary, Compare, Count, Store, Load, Jump, Verify, PrintChar, PrintNumber, Print, NewLine, Nop, Quit, Return, PrintReturn, Call, Inside, TestAttribute, Follow, SetAttribute, ClearAttribute, Insert, Remove, Property, PropertyLength, SetProperty, PrintObject, PrintAt, ShowStatus, LoadArray, StoreArray, Random, ReadLine, Save, Restore, Restart}
use Rattle.zcode.specs.Instruction.{Instruction}
use Rattle.zcode.specs.Operation.{operation_of, inputs, target}
use Rattle.zcode.specs.Reading.{instruction_at}
use Rattle.std.specs.Result.{IsOkAnd}
use Rattle.zobj.specs.declared.error.ObjectError.{ObjectError}
use Rattle.zobj.specs.declared.tree.Link.{Link}
use Rattle.zobj.specs.declared.property.Property.{Property as AProperty}
use Rattle.zobj.specs.declared.answers.PropertyQuestion.{PropertyQuestion}
use Rattle.zobj.specs.Answers.{answer_of}
use Rattle.zobj.specs.Properties.{property_of}
use Rattle.zarray.specs.declared.width.Width.{Width}
use Rattle.zarray.specs.Arrays.{place_of as element_place, element_at, with_element}
use Rattle.zruns.specs.Runs.{AreOpen, AreReadable}
use Rattle.zruns.specs.Texts.{AreFixedTexts, HasFixedText}
use Rattle.zobj.specs.Values.{IsDataByte, length_before, with_property}
use Rattle.zobj.proofs.Answering.{length_small}
use Rattle.zdomain.specs.Domain.{SetOperations, AreSound, In, Within}
use Rattle.zstate.specs.declared.halt.Halt.{Halt}
use Rattle.zstate.specs.declared.halt.Halt.TheVariants as halts
use Rattle.zstate.specs.InTurn.{◌>>=◌}
use Rattle.zstate.specs.State.{State, Setting, IsState, popped, with_stack, with_locals, with_memory, write_word, global, exists, put_named, put_in_place, read_in_place, has_head, fault}
use Rattle.zstate.specs.Step.{counting, Move, on, back, calling, closing, called_at, call_of, unpacked, arguments, Effect, Done, way, arg, asked_of, giving, assigning, testing, printing, jumping, following, marking, rearranging, rewriting, rewritten, answering, reading, filling, storing, showing, proceeds, saving, unrestored, is_data_writable, fetch, printed, print_at, effect_of, has_caller, is_taken, turned, course, admits, pauses, assigned, changed, stored, advance, act, step, came, drawn, used}
use Rattle.zstate.proofs.Effects.{table_place}
use Rattle.zstate.proofs.Keeps.{changed_aside, step_keeps}
use Rattle.zflow.specs.declared.parts.Kept.{Kept}
use Rattle.zflow.specs.declared.parts.Outcome.{Outcome}
use Rattle.zflow.specs.declared.parts.Demands.{Demands}
use Rattle.zpairs.specs.Pairs.{HaveOpenData}
use Rattle.zplace.specs.Bytes.{IsOpen}
use Rattle.zflow.specs.Transfer.{Shape, drawn_set, pops, variable_set, small, is_local, local_kept, operand_kept, operand_global, both_kept, globals_named, globals_after, untold, counted_set, demands_of, goes_on, gives_in, assigns_in, asks, counts_in, follows_in, returns_in, enters_in, argument_sets, jumps, outcome_of, leading, named_with, with_assigned, narrowed, read_set, mid_shape, changed_by, after}
use Rattle.zrule.specs.declared.rule.Rule.TheVariants as rules
use Rattle.zrule.specs.Claims.{Claims, frozen_in, told_of, globals_at}
use Rattle.zrule.specs.Rules.{LieIn, Begins, Enters, TakesBack, HasLineObject, IsThere, IsKnown, IsNamed, IsVariable, HasTop, SupportsWhere, Takes, TakesInPlace, GoesOn, Returns, OnEdge, Whatever, IsLow, demands_at, AreObjects, NamesObject, Finds, FindsProperty, FillsOpen, AreRead, AreWritten, KnowsAnswers}
use Rattle.zrule.specs.Described.{Described, DescribedMemory, Fits, IsSafe, IsListedWhere, IsLoadedStory}
use Rattle.zrule.proofs.Sets.{ReadsAll, reads_all, fits_popped, zip_set, zip_length}
use Rattle.zrule.proofs.Printing.{line_shown, name_known, text_printed}
use Rattle.zrule.proofs.Unchanged.{static_fixed, drop_same}
use Rattle.zrule.proofs.Called.{called_same, head_same, arguments_in}
use Rattle.zrule.proofs.Settling.{PausesAtMost, pauses_fine, pauses_there, admits_is}
use Rattle.zrule.proofs.Landing.{LeadsIn, IsCall, judged, lands, turned_in}
use Rattle.zrule.proofs.Standing.{IsStill, Still, a_quit, a_need, a_prompt, a_restart}
use Rattle.zrule.proofs.Restarting.{restarted_described}
use Rattle.zrule.proofs.Given.{prompted_described, spent_mid}
use Rattle.zrule.proofs.Drawing.{Draws, number_drawn, word_needed, random_comes}
use Rattle.zrule.proofs.Hearing.{Hears, first_asked, line_stored, line_needed, buffer_read, hearing_comes, line_described, line_taken}
use Rattle.zruns.specs.Buffers.{AreBuffers, IsParseBuffer, IsTextBuffer}
use Rattle.zfault.specs.declared.event.Event.{Event}
use Rattle.zfault.specs.declared.event.Event.TheVariants as events
use Rattle.zfault.specs.declared.pause.Need.{Need}
use Rattle.zfault.specs.declared.pause.Need.TheVariants as needs
use Rattle.zrule.proofs.Framed.{FitsFrame}
use Rattle.zrule.proofs.Assigned.{AssignedIn, lie_rewritten, lie_assigned, lie_given, fits_assigned, fits_given}
use Rattle.zrule.proofs.Fitting.{IsIn, exists_in, named_in, length_with, Mid, GivenIn, stored_mid}
use Rattle.zrule.proofs.Memory.{global_put}
use Rattle.zrule.proofs.Told.{HoldsGlobal, HoldGlobals, global_holds, length_with_facts, lie_facts, lie_after, lie_spent}
use Rattle.zrule.proofs.Parts.{Hold, HoldsOne, narrowed_fits, variable_there, small_is}
use Rattle.zrule.proofs.Stepping.{fetch_is, done_at, made_by, step_is}
use Rattle.zrule.proofs.Pieces.{between_small, known_wherever, not_below_one, not_none, not_zero, object_known, on_true, two_asked, first_there, assigned_local, length_assigned, edge_of, defined_where, kept_holds}
use Rattle.zrule.proofs.Answering.{Filled, answer_lies, answered, filled, found_same, length_there}
use Rattle.zrule.proofs.Storing.{bytes_of, data_open, element_differs, element_lies, element_there, element_writable}
use Rattle.zrule.proofs.Rewriting.{stored_described, inserted_described, marked_described, unlinked_described}

module _ {V : Type 0} (o : SetOperations V) (lawful : AreSound o) (claims : Claims V) (m : Setting) (loaded : IsLoadedStory m.story) {marked : ℕ → Bool} (supports : SupportsWhere o claims marked m.story) (listed : IsListedWhere o claims marked m.scope) (s : State) (d : Described o claims m.limit m.story s) (plain : marked d.at ≡ false) (i : Instruction) (there : IsThere m.story d.at i) where
  abbrev operands : List Operand
  operands = inputs i

  -- the sets that the globals have there
  abbrev pub known_globals : List V
  known_globals = globals_at claims d.at

  same_globals : length known_globals ≡ length claims.globals
  same_globals = length_with_facts claims.globals (claims.facts d.at)

  lie_before : LieIn o known_globals m.story s.memory
  lie_before = lie_facts o m.story claims.globals (claims.facts d.at) s.memory d.memory.values d.facts

  -- what is said of memory holds with those sets too
  abbrev here : Claims V
  here = record claims { globals = known_globals }

  here_described : DescribedMemory o here m.story s.memory
  here_described = record { long = d.memory.long; values = lie_before; tree = d.memory.tree; fixed = d.memory.fixed }

  few_here : length here.globals ≤ 240
  few_here = let few = supports.few in omega (arith, few, same_globals)

  abbrev mid : Shape V
  mid = mid_shape o known_globals i d.entry.shape

  abbrev args : ℕ → V
  args = read_set o known_globals i d.entry.shape

  abbrev t : State
  t = popped (pops operands) s

  -- what may come of an operation there, where its condition is answered so
  abbrev pub ComesOf : Operation → Outcome V → Type 0
  ComesOf k w = (c : Bool) × (outcome_of o known_globals (told_of claims m.story) k operands args mid c ≡ Some w)

  -- a state in mid-instruction, of which this is known
  abbrev Known_in : Shape V → State → Type 0
  Known_in e u = Mid o claims m.story loaded supports.tables d.entry.routine e u

  rule_known : IsKnown o claims d.at i d.entry.shape
  rule_known = supports.each d.at d.entry d.listed plain rules.Known i there

  height : (pops operands ≤ length d.entry.shape.slots) × IfSome (demands_at o claims d.at i d.entry.shape).variable (HasTop o claims mid)
  height = supports.each d.at d.entry d.listed plain rules.Height i there rule_known

  local : AllByRecursion (IsNamed o claims d.entry.shape) operands × IsVariable o claims d.entry.shape (target i) × IfSome (demands_at o claims d.at i d.entry.shape).variable (IsVariable o claims d.entry.shape)
  local = supports.each d.at d.entry d.listed plain rules.Local i there rule_known

  pub all : ReadsAll o known_globals m.story operands d.entry.shape s
  all = reads_all o lawful claims m.story known_globals same_globals operands d.entry.shape s d.fits lie_before height.0 local.0

  mid_fits : Fits o claims mid t.frame.locals t.frame.stack
  mid_fits = fits_popped o lawful claims m.story (pops operands) d.entry.shape s d.fits

  read_known : Known_in mid t
  read_known = record { memory = d.memory; fits = mid_fits; callers = d.callers }

  same_count : length d.entry.shape.locals ≡ length s.frame.locals
  same_count = zip_length (In o) d.entry.shape.locals s.frame.locals d.fits.in_locals

  -- ---- what the rules say of what is asked for

  pub record Asked (out : Demands V) : Type 0 where
    top : IfSome out.variable (HasTop o claims mid)
    exists : IfSome out.variable (IsVariable o claims d.entry.shape)
    known : OnTrue out.indirect (IsTrue (is_some out.variable))
    divides : IfSome out.divisor (λ a. In o a 0 → ⊥)
    pub object : IfSome out.object (AreObjects o m.story) × IfSome out.under (AreObjects o m.story)
    pub attribute : IfSome out.attribute (λ a. (x : ℕ) → In o a x → x < 32)
    pub property : IfSome out.property (λ p. Finds o m.story p.asked p.objects p.numbers)
    pub puts : IfSome out.property (λ p. FillsOpen o m.story (frozen_in claims) p.asked p.objects p.numbers)
    pub address : IfSome out.address (λ a. (x : ℕ) → In o a x → IsTrue (is_some (length_before m.story.memory x)))
    pub written : IfSome out.elements (λ x. AreWritten o m.story (frozen_in claims) x.access x.width x.arrays x.indices)
    pub read : IfSome out.elements (λ x. AreRead o m.story x.access x.width x.arrays x.indices)
    pub certain : IsTrue out.certain
    text : OnTrue out.has_text (HasFixedText m.story (frozen_in claims) (d.at + 1))
    texts : IfSome out.texts (λ x. AreFixedTexts o m.story (frozen_in claims) x.addressing x.places)
    line : OnTrue out.shows_status (HasLineObject o claims m.story)
    buffers : IfSome out.buffers (λ b. AreBuffers o m.story (frozen_in claims) b.texts b.parses)

  -- what get_prop and get_prop_addr give is known, since what they ask for is found
  answers_known : KnowsAnswers o claims d.at m.story i d.entry.shape
  answers_known = known_wherever (demands_at o claims d.at i d.entry.shape).property (NamesObject o claims d.at m.story i d.entry.shape × FindsProperty o claims d.at m.story i d.entry.shape) (supports.each d.at d.entry d.listed plain rules.Object i there, supports.each d.at d.entry d.listed plain rules.Property i there)

  abbrev successor : IsTrue (demands_at o claims d.at i d.entry.shape).certain × Whatever o claims d.at m.story i d.entry.shape (λ w. IsLow o claims d.at i d.entry.shape w → OnEdge o claims d.at w i d.entry.shape (λ f. GoesOn o claims d.entry.routine (target i) (globals_after known_globals (target i) w) f (d.at + i.size) (leading o w i.branch)))
  successor = supports.each d.at d.entry d.listed plain rules.Successor i there (supports.each d.at d.entry d.listed plain rules.Divisor i there) (supports.each d.at d.entry d.listed plain rules.Read i there) answers_known (supports.each d.at d.entry d.listed plain rules.Called i there)

  pub asked : Asked (demands_of o (operation_of i.opcode) args)
  asked = record {
    top = height.1;
    exists = local.2;
    known = on_true (demands_at o claims d.at i d.entry.shape).indirect _ _ rule_known (first_there o claims operands d.entry.shape height.0 local.0);
    divides = supports.each d.at d.entry d.listed plain rules.Divisor i there;
    object = supports.each d.at d.entry d.listed plain rules.Object i there;
    attribute = supports.each d.at d.entry d.listed plain rules.Attribute i there;
    property = supports.each d.at d.entry d.listed plain rules.Property i there;
    puts = (supports.each d.at d.entry d.listed plain rules.Write i there).0;
    written = (supports.each d.at d.entry d.listed plain rules.Write i there).1;
    address = (supports.each d.at d.entry d.listed plain rules.Read i there).0;
    read = (supports.each d.at d.entry d.listed plain rules.Read i there).1;
    certain = successor.0;
    text = (supports.each d.at d.entry d.listed plain rules.Text i there).0;
    texts = (supports.each d.at d.entry d.listed plain rules.Text i there).1;
    line = supports.each d.at d.entry d.listed plain rules.Status i there;
    buffers = supports.each d.at d.entry d.listed plain rules.Buffers i there;
  }

  abbrev given_args : List V
  given_args = argument_sets o known_globals i d.entry.shape

  -- ---- what an effect has to be for an outcome, part by part

  -- an effect has the parts of an outcome
  pub record Matches (w : Outcome V) (effect : Effect) : Type 0 where
    gives : GivenIn o claims m.story loaded supports.tables w.gives effect.gives
    assigns : AssignedIn o claims d.entry.shape w.assigns effect.assigns
    memory : IfSome effect.memory (λ after. DescribedMemory o claims m.story after × LieIn o known_globals m.story after)
    tests : effect.tests ≡ w.tests
    leads : LeadsIn o lawful claims m loaded supports s d i w.leads effect.moves
    kept : Hold o lawful w.kept (changed m.story i effect t).frame.locals
    told : HoldGlobals o m.story w.kept (changed m.story i effect t).memory
    -- it needs no event, the machine goes on, all is done at once, and nothing begins anew
    pub needs : effect.needs ≡ None
    pub goes : effect.quits ≡ false
    pub acts : effect.prompts ≡ false
    pub stays : effect.restarts ≡ false

  -- the effect is one that the rules expect, or it leads nowhere
  unfoldable pub Expected : Operation → Result Effect Halt → Type 0
  Expected k (Ok effect) = Still effect ⊎ ((w : Outcome V) × ComesOf k w × Matches w effect)
  Expected k (Err h) = ⊥

  -- ---- a variable that an operand names

  record InPlace : Type 0 where
    v : ℕ
    named : arg all.values 0 ≡ v
    variable : small (o.known (args 0)) ≡ Some v
    old : ℕ
    reads : read_in_place m.story (arg all.values 0) t ≡ Ok old
    member : In o (variable_set o known_globals v mid) old
    exists : IsVariable o claims d.entry.shape v

  in_place : IsTrue (is_some (small (o.known (args 0)))) → IfSome (small (o.known (args 0))) (HasTop o claims mid) → IfSome (small (o.known (args 0))) (IsVariable o claims d.entry.shape) → InPlace
  in_place known top exists =
      let k = small_is o lawful claims (o.known (args 0)) known in
      let named : arg all.values 0 ≡ k.0 = lawful.known (args 0) k.0 (arg all.values 0) k.1 (all.members 0) in
      let exists_here : IsVariable o claims d.entry.shape k.0 = subst (λ (x : Option ℕ). IfSome x (IsVariable o claims d.entry.shape)) k.2 exists in
      let above : HasTop o claims mid k.0 = subst (λ (x : Option ℕ). IfSome x (HasTop o claims mid)) k.2 top in
      let r = variable_there o lawful claims known_globals same_globals m.story k.0 mid t k.3 mid_fits lie_before above exists_here in
      record { v = k.0; named = named; variable = k.2; old = r.0; reads = subst (λ (n : ℕ). read_in_place m.story n t ≡ Ok r.0) (sym named) r.1; member = r.2; exists = exists_here }

  -- ---- what a branch says

  operand_holds : (k : ℕ) (a : V) → In o a (arg all.values k) → HoldsOne o lawful (operand_kept (slice_get operands k) a) s.frame.locals
  operand_holds k a member = by_operand (slice_get operands k) refl
    where
      by_operand : (x : Option Operand) → slice_get operands k ≡ x → HoldsOne o lawful (operand_kept x a) s.frame.locals
      by_operand None e = tt
      by_operand (Some (Constant n)) e = tt
      by_operand (Some (Variable v)) e = kept_holds o lawful v a s.frame.locals (λ least few. subst (λ (n : ℕ). In o a n) (all.locals k v e least few) member)

  operand_told : (k : ℕ) (a : V) → In o a (arg all.values k) → HoldsGlobal o m.story (operand_global (slice_get operands k) a) s.memory
  operand_told k a member = by_operand (slice_get operands k) refl
    where
      by_operand : (x : Option Operand) → slice_get operands k ≡ x → HoldsGlobal o m.story (operand_global x a) s.memory
      by_operand None e = tt
      by_operand (Some (Constant n)) e = tt
      by_operand (Some (Variable v)) e = global_holds o m.story v a s.memory (λ high. subst (λ (n : ℕ). In o a n) (all.words k v e high) member)

  compared_holds : (q : Question) (c : Bool) → holds q (arg all.values 0) (arg all.values 1) ≡ c → MatchOption (o.narrow q c (args 0) (args 1)) ⊥ (λ p. Hold o lawful (both_kept operands p) s.frame.locals × HoldGlobals o m.story (both_kept operands p) s.memory)
  compared_holds q c is = by_narrowed (o.narrow q c (args 0) (args 1)) (lawful.narrow q c (args 0) (args 1) (arg all.values 0) (arg all.values 1) (all.members 0) (all.members 1) is)
    where
      by_narrowed : (p : Option (V × V)) → MatchOption p ⊥ (λ p. In o p.0 (arg all.values 0) × In o p.1 (arg all.values 1)) → MatchOption p ⊥ (λ p. Hold o lawful (both_kept operands p) s.frame.locals × HoldGlobals o m.story (both_kept operands p) s.memory)
      by_narrowed None h = absurd h
      by_narrowed (Some p) h = ((operand_holds 0 p.0 h.0, operand_holds 1 p.1 h.1), (operand_told 0 p.0 h.0, operand_told 1 p.1 h.1))

  -- the local that was counted
  counted_local : (v new : ℕ) (a : V) (u : State) → length u.frame.locals ≡ length d.entry.shape.locals → IsVariable o claims d.entry.shape v → In o a new → HoldsOne o lawful (local_kept v a) (put_in_place m.story v new u).frame.locals
  counted_local v new a u same exists member = kept_holds o lawful v a _ (λ least few. (
      let here = by_kind least few (v == 0) (nat_lt v 16) refl refl exists in
      subst (λ (n : ℕ). In o a n) (sym (assigned_local m.story v new u least few (rw same here))) member))
    where
      by_kind : 1 ≤ v → v < 16 → (b c : Bool) → (v == 0) ≡ b → nat_lt v 16 ≡ c → MatchBool b (Unit {0}) (MatchBool c (v ≤ length d.entry.shape.locals) ((v < 256) × (v - 16 < length claims.globals))) → v ≤ length d.entry.shape.locals
      by_kind least few true true e f h = absurd (let z = eqb-true v 0 e in omega (arith, z, least))
      by_kind least few false true e f h = h
      by_kind least few b false e f h = absurd (let g = ltb-false v 16 f in omega (arith, g, few))

  -- what prints, or does nothing, and goes on
  goes_expected : (k : Operation) (bytes : List ℕ) → ComesOf k goes_on → Expected k (Ok (printing bytes))
  unfolding Expected LeadsIn AssignedIn changed
  goes_expected k bytes comes = inr (goes_on, comes, record { gives = tt; assigns = tt; tests = refl; leads = refl; kept = (tt, tt); told = (tt, tt); memory = tt; needs = refl; goes = refl; acts = refl; stays = refl })

  gives_expected : (k : Operation) (a : V) (x : ℕ) → ComesOf k (gives_in a) → In o a x → Expected k (Ok (giving x))
  unfolding Expected LeadsIn AssignedIn changed
  gives_expected k a x comes member = inr (gives_in a, comes, record { gives = member; assigns = tt; tests = refl; leads = refl; kept = (tt, tt); told = (tt, tt); memory = tt; needs = refl; goes = refl; acts = refl; stays = refl })

  assigns_expected : (k : Operation) (v : ℕ) (a : V) (w x : ℕ) → ComesOf k (assigns_in v a) → w ≡ v → In o a x → IsVariable o claims d.entry.shape v → Expected k (Ok (assigning w x))
  unfolding Expected LeadsIn AssignedIn changed
  assigns_expected k v a w x comes same member exists = inr (assigns_in v a, comes, record { gives = tt; assigns = (same, member, exists); tests = refl; leads = refl; kept = (tt, tt); told = (tt, tt); memory = tt; needs = refl; goes = refl; acts = refl; stays = refl })

  asks_expected : (k : Operation) (c : Bool) (kept : Kept V) → ComesOf k (asks c kept) → Hold o lawful kept s.frame.locals → HoldGlobals o m.story kept s.memory → Expected k (Ok (testing c))
  unfolding Expected LeadsIn AssignedIn changed
  asks_expected k c kept comes hold told = inr (asks c kept, comes, record { gives = tt; assigns = tt; tests = refl; leads = refl; kept = hold; told = told; memory = tt; needs = refl; goes = refl; acts = refl; stays = refl })

  printed_expected : (k : Operation) (r : Result (List ℕ) TextError) → IsOk r → ComesOf k goes_on → Expected k (printed r)
  printed_expected k (Ok bytes) ok comes = goes_expected k bytes comes
  printed_expected k (Err e) ok comes = absurd cc

  prints : (at : ℕ) → HasFixedText m.story (frozen_in claims) at → IsOk (output_at s.memory at)
  prints at rule = text_printed o lawful claims m.story loaded supports s.memory d.memory at rule

  shows_expected : (line : StatusLine) → ComesOf ShowStatus goes_on → Expected ShowStatus (Ok (showing line))
  unfolding Expected LeadsIn AssignedIn changed
  shows_expected line comes = inr (goes_on, comes, record { gives = tt; assigns = tt; tests = refl; leads = refl; kept = (tt, tt); told = (tt, tt); memory = tt; needs = refl; goes = refl; acts = refl; stays = refl })

  compared_two : (q : Question) (c : Bool) (p : V × V) → (length operands == 2) ≡ true → o.narrow q c (args 0) (args 1) ≡ Some p → ComesOf (Compare q) (asks c (both_kept operands p))
  unfolding outcome_of
  compared_two q c p two narrows = (c, rw (two, narrows) refl)

  counted_asked : (op : CountOp) (q : Question) (c : Bool) (v : ℕ) (p : V × V) → is_local v ≡ true → small (o.known (args 0)) ≡ Some v → o.narrow q c (counted_set o known_globals op v mid) (args 1) ≡ Some p → ComesOf (Count op (Some q)) (counts_in v (counted_set o known_globals op v mid) c (record untold { first = Some (v, p.0) }))
  unfolding outcome_of
  counted_asked op q c v p is known narrows = (c, rw (known, is, narrows) refl)

  counted_unasked : (op : CountOp) (q : Question) (c : Bool) (v : ℕ) → is_local v ≡ false → small (o.known (args 0)) ≡ Some v → ComesOf (Count op (Some q)) (counts_in v (counted_set o known_globals op v mid) c untold)
  unfolding outcome_of
  counted_unasked op q c v is known = (c, rw (known, is) refl)

  compares : (q : Question) → Expected (Compare q) (Ok (testing (asked_of q all.values)))
  unfolding outcome_of
  compares q = by_count (length operands == 2) refl
    where
      by_count : (b : Bool) → (length operands == 2) ≡ b → Expected (Compare q) (Ok (testing (asked_of q all.values)))
      by_count false many = asks_expected (Compare q) (asked_of q all.values) untold (asked_of q all.values, rw many refl) (tt, tt) (tt, tt)
      by_count true two =
          let c = asked_of q all.values in
          let is : holds q (arg all.values 0) (arg all.values 1) ≡ c = sym (two_asked q all.values (all.count ∙ eqb-true (length operands) 2 two)) in
          let p = edge_of (o.narrow q c (args 0) (args 1)) _ (compared_holds q c is) in
          asks_expected (Compare q) c (both_kept operands p.0) (compared_two q c p.0 two p.1) p.2.0 p.2.1

  counted_in : (op : CountOp) (p : InPlace) → In o (counted_set o known_globals op p.v mid) (counted op p.old)
  counted_in Up p = lawful.binary Add _ _ _ _ p.member (lawful.single 1 (omega arith)) refl
  counted_in Down p = lawful.binary Sub _ _ _ _ p.member (lawful.single 1 (omega arith)) refl

  counts : (op : CountOp) (question : Option Question) → (p : InPlace) → Expected (Count op question) (effect_of m (Count op question) all.values t)
  unfolding Expected LeadsIn AssignedIn effect_of outcome_of changed
  counts op None p =
      let r = p.reads in let known = p.variable in
      rw r (assigns_expected (Count op None) p.v _ (arg all.values 0) (counted op p.old) (true, rw known refl) p.named (counted_in op p) p.exists)
  counts op (Some q) p =
      let r = p.reads in rw r (by_local (is_local p.v) refl)
    where
      new : ℕ
      new = counted op p.old

      c : Bool
      c = holds q new (arg all.values 1)

      a : V
      a = counted_set o known_globals op p.v mid

      comes_so : (kept : Kept V) → ComesOf (Count op (Some q)) (counts_in p.v a c kept) → Hold o lawful kept (put_in_place m.story p.v new t).frame.locals → HoldGlobals o m.story kept (put_in_place m.story p.v new t).memory → Expected (Count op (Some q)) (Ok (counting (arg all.values 0) new (Some q) (arg all.values 1)))
      comes_so kept comes held told =
          let named = p.named in
          inr (counts_in p.v a c kept, comes, record { gives = tt; assigns = (named, counted_in op p, p.exists); tests = refl; leads = refl; kept = rw named held; told = rw named told; memory = tt; needs = refl; goes = refl; acts = refl; stays = refl })

      by_local : (b : Bool) → is_local p.v ≡ b → Expected (Count op (Some q)) (Ok (counting (arg all.values 0) new (Some q) (arg all.values 1)))
      by_local false is = comes_so untold (counted_unasked op q c p.v is p.variable) (tt, tt) (tt, tt)
      by_local true is =
          let n = edge_of (o.narrow q c a (args 1)) _ (lawful.narrow q c a (args 1) new (arg all.values 1) (counted_in op p) (all.members 1) refl) in
          let kept_local : local_kept p.v n.0.0 ≡ Some (p.v, n.0.0) = rw is refl in
          let held = counted_local p.v new n.0.0 t (sym same_count) p.exists n.2.0 in
          comes_so (record untold { first = Some (p.v, n.0.0) }) (counted_asked op q c p.v n.0 is p.variable n.1) (subst (λ (k : Option (ℕ × V)). HoldsOne o lawful k (put_in_place m.story p.v new t).frame.locals) kept_local held, tt) (tt, tt)

  pub known_jump : IsTrue (is_some (o.known (args 0))) → (x : ℕ) × (o.known (args 0) ≡ Some x) × (arg all.values 0 ≡ x)
  known_jump h = by_known (o.known (args 0)) refl h
    where
      by_known : (k : Option ℕ) → o.known (args 0) ≡ k → IsTrue (is_some k) → (x : ℕ) × (o.known (args 0) ≡ Some x) × (arg all.values 0 ≡ x)
      by_known None e h = absurd cc
      by_known (Some x) e h = (x, e, lawful.known (args 0) x (arg all.values 0) e (all.members 0))

  jumps_expected : (x : ℕ) → o.known (args 0) ≡ Some x → arg all.values 0 ≡ x → Expected Jump (Ok (jumping (arg all.values 0)))
  unfolding Expected LeadsIn AssignedIn outcome_of changed
  jumps_expected x known is = inr (jumps x, (true, rw known refl), record { gives = tt; assigns = tt; tests = refl; leads = rw is refl; kept = (tt, tt); told = (tt, tt); memory = tt; needs = refl; goes = refl; acts = refl; stays = refl })

  returns_expected : (k : Operation) (bytes : List ℕ) (a : V) (x : ℕ) → ComesOf k (returns_in a) → In o a x → Expected k (Ok (record (printing bytes) { moves = back x }))
  unfolding Expected LeadsIn AssignedIn changed
  returns_expected k bytes a x comes member = inr (returns_in a, comes, record { gives = tt; assigns = tt; tests = refl; leads = member; kept = (tt, tt); told = (tt, tt); memory = tt; needs = refl; goes = refl; acts = refl; stays = refl })

  closes_expected : (r : Result (List ℕ) TextError) → IsOk r → ComesOf PrintReturn (returns_in (o.single 1)) → Expected PrintReturn (printed r >>= λ effect. Ok (closing effect))
  closes_expected (Ok bytes) ok comes = returns_expected PrintReturn (bytes ++ 10 ∷ []) (o.single 1) 1 comes (lawful.single 1 (omega arith))
  closes_expected (Err e) ok comes = absurd cc

  -- whatever is called begins as is said
  unfoldable pub CallsOf : Operation → Type 0
  CallsOf k = (w : Outcome V) → ComesOf k w → OnEdge o claims d.at w i d.entry.shape (λ f. Enters o claims m.story given_args (leading o w i.branch))

  -- a routine that begins so can be called
  can_be_called : (p : ℕ) → Begins o claims m.story given_args p → (m.scope.routines p ≡ true) × (has_head s.memory p ≡ true) × (called_at s.memory p (arguments all.values) ≡ called_at m.story.memory p (arguments all.values))
  can_be_called p begins =
      let static = supports.heads.static p begins.index begins.routine in
      let same : (q : ℕ) → p ≤ q → byte_at s.memory q ≡ byte_at m.story.memory q = λ q above. d.memory.fixed q (static_fixed m.story loaded.sound loaded.counted (frozen_in claims) q (omega (arith, static, above))) in
      (listed.routines p begins.index begins.routine, head_same s.memory m.story.memory p d.memory.long (same p (omega arith)) (supports.heads.there p begins.index begins.routine), called_same s.memory m.story.memory p (arguments all.values) same)

  -- the edge on which a routine is called
  pub record Entry_edge : Type 0 where
    pub a : V
    pub comes : ComesOf Call (enters_in a)
    pub member : In o a (arg all.values 0)

  pub entry_edge : (arg all.values 0 == 0) ≡ false → Entry_edge
  unfolding outcome_of
  entry_edge e =
      let n = edge_of (o.narrow Equal false (args 0) (o.single 0)) _ (lawful.narrow Equal false (args 0) (o.single 0) (arg all.values 0) 0 (all.members 0) (lawful.single 0 (omega arith)) e) in
      record { a = n.0.0; comes = (true, ap (λ (r : Option (V × V)). option_map (λ p. enters_in p.0) r) n.1); member = n.2.0 }

  missed : (arg all.values 0 == 0) ≡ true → ComesOf Call (gives_in (o.single 0))
  unfolding outcome_of
  missed e =
      let n = edge_of (o.narrow Equal true (args 0) (o.single 0)) _ (lawful.narrow Equal true (args 0) (o.single 0) (arg all.values 0) 0 (all.members 0) (lawful.single 0 (omega arith)) e) in
      (false, ap (λ (r : Option (V × V)). option_map (λ p. gives_in (o.single 0)) r) n.1)

  calls : CallsOf Call → Expected Call (call_of m.scope s.memory all.values)
  unfolding Expected LeadsIn IsCall AssignedIn CallsOf changed
  calls rule = by_zero (arg all.values 0 == 0) refl
    where
      by_zero : (b : Bool) → (arg all.values 0 == 0) ≡ b → Expected Call (if b then Ok (giving 0) else (if m.scope.routines (unpacked (arg all.values 0)) && has_head s.memory (unpacked (arg all.values 0)) then Ok (calling (called_at s.memory (unpacked (arg all.values 0)) (arguments all.values))) else fault UnlistedCall))
      by_zero true e = gives_expected Call (o.single 0) 0 (missed e) (lawful.single 0 (omega arith))
      by_zero false e =
          let x = arg all.values 0 in
          let some = not_zero x e in
          let on_edge = entry_edge e in
          let begins : Begins o claims m.story given_args (unpacked x) = rule (enters_in on_edge.a) on_edge.comes x on_edge.member some in
          let can = can_be_called (unpacked x) begins in
          let routine = can.0 in
          let head = can.1 in
          rw (routine, head) (inr (enters_in on_edge.a, on_edge.comes, record { gives = tt; assigns = tt; tests = refl; leads = (x, on_edge.member, some, (arguments all.values, arguments_in o args (length operands) all.values all.count all.members, can.2)); kept = (tt, tt); told = (tt, tt); memory = tt; needs = refl; goes = refl; acts = refl; stays = refl }))

  -- what a link leads to is an object, or none
  follows_expected : (k : Operation) (c : Bool) (a : V) (x : ℕ) → ComesOf k (follows_in c a) → In o a x → not (x == 0) ≡ c → Expected k (Ok (following x))
  unfolding Expected LeadsIn AssignedIn changed
  follows_expected k c a x comes member is = inr (follows_in c a, comes, record { gives = member; assigns = tt; tests = ap (λ (b : Bool). Some b) is; leads = refl; kept = (tt, tt); told = (tt, tt); memory = tt; needs = refl; goes = refl; acts = refl; stays = refl })

  to_object : (link : Link) → (m.story.objects == 0) ≡ false → ComesOf (Follow link) (follows_in true (o.between 1 m.story.objects))
  unfolding outcome_of
  to_object link some = (true, rw some refl)

  follows : (link : Link) (x : ℕ) → x ≤ m.story.objects → m.story.objects ≤ 255 → Expected (Follow link) (Ok (following x))
  unfolding outcome_of
  follows link x most few = by (x == 0) refl
    where
      by : (b : Bool) → (x == 0) ≡ b → Expected (Follow link) (Ok (following x))
      by true e = let none = eqb-true x 0 e in follows_expected (Follow link) false (o.single 0) x (false, refl) (subst (In o (o.single 0)) (sym none) (lawful.single 0 (omega arith))) (ap not e)
      by false e = let first = not_below_one x e in follows_expected (Follow link) true (o.between 1 m.story.objects) x (to_object link (not_none m.story.objects x first most)) (between_small o lawful 1 m.story.objects x first most (omega (arith, few))) (ap not e)

  -- what rewrites memory so that it stays as is said
  rewrites : (k : Operation) (after : List ℕ) → ComesOf k goes_on → DescribedMemory o claims m.story after → DescribedMemory o here m.story after → Expected k (Ok (rewriting after))
  unfolding Expected LeadsIn AssignedIn changed
  rewrites k after comes is too = inr (goes_on, comes, record { gives = tt; assigns = tt; memory = (is, too.values); tests = refl; leads = refl; kept = (tt, tt); told = (tt, tt); needs = refl; goes = refl; acts = refl; stays = refl })

  rearranges : (k : Operation) (r : Result (List ℕ) ObjectError) → ComesOf k goes_on → IsOkAnd r (DescribedMemory o claims m.story) → IsOkAnd r (DescribedMemory o here m.story) → Expected k (rearranging r)
  rearranges k (Ok after) comes is too = rewrites k after comes is too
  rearranges k (Err e) comes is too = absurd is

  marks : (k : Operation) (sets : Bool) → ComesOf k goes_on → (1 ≤ arg all.values 0) × (arg all.values 0 ≤ m.story.objects) → arg all.values 1 < 32 → Expected k (marking m.story sets all.values s.memory)
  marks k sets comes object low =
      let known = object_known m.story.objects (arg all.values 0) object in let few = lt-ltb (arg all.values 1) 32 low in
      rw (known, few) (rewrites k _ comes (marked_described o claims m.story supports.tables supports.few s.memory d.memory d.is_state.objects d.is_state.tables sets (arg all.values 0) (arg all.values 1) object.0 object.1 low) (marked_described o here m.story supports.tables few_here s.memory here_described d.is_state.objects d.is_state.tables sets (arg all.values 0) (arg all.values 1) object.0 object.1 low))

  -- an answer about a property lies in the set of the answers
  answers_expected : (question : PropertyQuestion) (x : ℕ) → answer_of question s.memory (arg all.values 0) (arg all.values 1) ≡ Ok x → (1 ≤ arg all.values 0) × (arg all.values 0 ≤ m.story.objects) → Expected (Property question) (answering (answer_of question s.memory (arg all.values 0) (arg all.values 1)))
  unfolding outcome_of
  answers_expected question x is object =
      subst (λ (r : Result ℕ ObjectError). Expected (Property question) (answering r)) (sym is)
      (gives_expected (Property question) _ x (true, refl) (answer_lies o lawful claims m.story loaded supports s.memory d.memory (arg all.values 0) object.0 object.1 d.is_state.bytes question (args 0) (args 1) (arg all.values 1) x (all.members 0) (all.members 1) is))

  measures_expected : IsTrue (is_some (length_before m.story.memory (arg all.values 0))) → Expected PropertyLength (reading (length_before s.memory (arg all.values 0)))
  unfolding outcome_of
  measures_expected readable =
      let n = length_there m.story s.memory d.memory.long (arg all.values 0) readable in
      let few : n.0 ≤ 8 = subst (λ (r : Option ℕ). IfSome r (λ n. n ≤ 8)) n.1 (length_small s.memory (arg all.values 0) d.is_state.bytes) in
      subst (λ (r : Option ℕ). Expected PropertyLength (reading r)) (sym n.1) (gives_expected PropertyLength _ n.0 (true, refl) (between_small o lawful 0 8 n.0 (omega arith) few (omega arith)))

  fills_expected : (object : (1 ≤ arg all.values 0) × (arg all.values 0 ≤ m.story.objects)) → Filled o lawful claims m.story loaded supports s.memory d.memory (arg all.values 0) object.0 object.1 (arg all.values 1) (arg all.values 2) → HaveOpenData o m.story (frozen_in claims) (args 0) (args 1) → Expected SetProperty (filling (with_property (arg all.values 0) (arg all.values 1) (arg all.values 2) s.memory) (is_data_writable m.story (property_of s.memory (arg all.values 0) (arg all.values 1))))
  unfolding outcome_of
  fills_expected object f free =
      let is = f.is in let writable = f.writable in
      let loaded_data = free (arg all.values 0) (arg all.values 1) object.0 object.1 (all.members 0) (all.members 1) in
      let was : property_of m.story.memory (arg all.values 0) (arg all.values 1) ≡ Some f.property = sym (found_same o lawful claims m.story loaded supports s.memory d.memory (arg all.values 0) object.0 object.1 (arg all.values 1)) ∙ f.found in
      let open_there : (p : ℕ) → IsDataByte f.property p → IsOpen m.story (frozen_in claims) p = subst (λ (r : Option AProperty). IfSome r (λ property. (p : ℕ) → IsDataByte property p → IsOpen m.story (frozen_in claims) p)) was loaded_data in
      let place = table_place m.story s.memory f.after f.property (sym (ap (is_data_writable m.story) f.found) ∙ f.writable) f.differs ∙ d.is_state.tables in
      rw (is, writable) (rewrites SetProperty f.after (true, refl) (stored_described o claims m.story supports.tables supports.few s.memory d.memory d.is_state.objects d.is_state.tables (IsDataByte f.property) open_there f.after f.differs place) (stored_described o here m.story supports.tables few_here s.memory here_described d.is_state.objects d.is_state.tables (IsDataByte f.property) open_there f.after f.differs place))

  -- an element is read, or given a word
  loads_expected : (width : Width) → AreReadable o m.story width (args 0) (args 1) → Expected (LoadArray width) (reading (element_at width s.memory (element_place width (arg all.values 0) (arg all.values 1))))
  unfolding outcome_of
  loads_expected width readable =
      let x = element_there o lawful claims m.story s.memory d.memory width (args 0) (args 1) (arg all.values 0) (arg all.values 1) (all.members 0) (all.members 1) readable in
      subst (λ (r : Option ℕ). Expected (LoadArray width) (reading r)) (sym x.1)
      (gives_expected (LoadArray width) _ x.0 (true, refl) (element_lies o lawful claims m.story s.memory d.memory width (args 0) (args 1) (arg all.values 0) (arg all.values 1) (all.members 0) (all.members 1) d.is_state.bytes x.0 x.1))

  stores_expected : (width : Width) → AreOpen o m.story (frozen_in claims) width (args 0) (args 1) → Expected (StoreArray width) (storing m.story width (element_place width (arg all.values 0) (arg all.values 1)) (arg all.values 2) s.memory)
  unfolding outcome_of
  stores_expected width free =
      let p = element_place width (arg all.values 0) (arg all.values 1) in
      let writable = element_writable o lawful claims m.story s.memory d.memory width (args 0) (args 1) (arg all.values 0) (arg all.values 1) (all.members 0) (all.members 1) free in
      let differs = element_differs s.memory width p (arg all.values 2) in
      let place = table_place m.story s.memory (with_element width p (arg all.values 2) s.memory) (bytes_of width p) writable differs ∙ d.is_state.tables in rw writable (rewrites (StoreArray width) _ (true, refl) (stored_described o claims m.story supports.tables supports.few s.memory d.memory d.is_state.objects d.is_state.tables (IsDataByte (bytes_of width p)) (data_open o lawful claims m.story s.memory d.memory width (args 0) (args 1) (arg all.values 0) (arg all.values 1) (all.members 0) (all.members 1) free) _ differs place) (stored_described o here m.story supports.tables few_here s.memory here_described d.is_state.objects d.is_state.tables (IsDataByte (bytes_of width p)) (data_open o lawful claims m.story s.memory d.memory width (args 0) (args 1) (arg all.values 0) (arg all.values 1) (all.members 0) (all.members 1) free) _ differs place))

  -- a number is drawn, or a word is needed
  draws : (effect : Effect) → Draws o lawful (args 0) (arg all.values 0) (all.members 0) effect → Expected Random (Ok effect)
  unfolding Expected LeadsIn AssignedIn outcome_of changed
  draws effect (number_drawn x mode uses is member) = subst (λ (e : Effect). Expected Random (Ok e)) (sym is) (inr (gives_in (drawn_set o (args 0)), (true, refl), record { gives = member; assigns = tt; tests = refl; leads = refl; kept = (tt, tt); told = (tt, tt); memory = tt; needs = refl; goes = refl; acts = refl; stays = refl }))
  draws effect (word_needed is) = subst (λ (e : Effect). Expected Random (Ok e)) (sym is) (inl (record { tests = refl; moves = refl; why = a_need needs.Random refl }))

  -- a line is asked for, stored, or needed
  hears : (shown : StatusLine) (text : IsTextBuffer m.story (frozen_in claims) (arg all.values 0)) (parse : IsParseBuffer m.story (frozen_in claims) (arg all.values 1)) (effect : Effect) → Hears m.story (arg all.values 0) (arg all.values 1) s.memory shown effect → Expected ReadLine (Ok effect)
  unfolding Expected LeadsIn AssignedIn outcome_of changed
  hears shown text parse effect (first_asked is) = inl (record { tests = ap (λ (e : Effect). e.tests) is; moves = ap (λ (e : Effect). e.moves) is; why = a_prompt shown is })
  hears shown text parse effect (line_stored line is) =
      let too = line_described o lawful here m.story loaded supports.tables few_here s.memory here_described (arg all.values 0) (arg all.values 1) text parse line d.is_state.bytes d.is_state.objects d.is_state.tables in
      let memory = line_described o lawful claims m.story loaded supports.tables supports.few s.memory d.memory (arg all.values 0) (arg all.values 1) text parse line d.is_state.bytes d.is_state.objects d.is_state.tables in
      subst (λ (e : Effect). Expected ReadLine (Ok e)) (sym is) (inr (goes_on, (true, refl), record { gives = tt; assigns = tt; tests = refl; leads = refl; kept = (tt, tt); told = (tt, tt); memory = (memory, too.values); needs = refl; goes = refl; acts = refl; stays = refl }))
  hears shown text parse effect (line_needed is) = inl (record { tests = ap (λ (e : Effect). e.tests) is; moves = ap (λ (e : Effect). e.moves) is; why = a_need needs.Line (ap (λ (e : Effect). e.needs) is) })

  -- an event that is used answers a branch, or is needed
  answers_by : (k : Operation) (c : Bool) (need : Need) → ComesOf k (asks c untold) → Expected k (Ok (record (testing c) { uses = Some need }))
  unfolding Expected LeadsIn AssignedIn changed
  answers_by k c need comes = inr (asks c untold, comes, record { gives = tt; assigns = tt; tests = refl; leads = refl; kept = (tt, tt); told = (tt, tt); memory = tt; needs = refl; goes = refl; acts = refl; stays = refl })

  waits_for : (k : Operation) (need : Need) → Expected k (Ok (record proceeds { needs = Some need }))
  unfolding Expected
  waits_for k need = inl (record { tests = refl; moves = refl; why = a_need need refl })

  saves_expected : (waiting : Option Event) → Expected Save (Ok (saving waiting))
  unfolding outcome_of
  saves_expected (Some (events.Saved kept)) = answers_by Save kept needs.Saved (kept, refl)
  saves_expected (Some (events.Line line)) = waits_for Save needs.Saved
  saves_expected (Some (events.Random w)) = waits_for Save needs.Saved
  saves_expected (Some events.NotRestored) = waits_for Save needs.Saved
  saves_expected None = waits_for Save needs.Saved

  -- that there is no save to go on from is the one edge of a restore
  restores_expected : (waiting : Option Event) → Expected Restore (Ok (unrestored waiting))
  unfolding outcome_of
  restores_expected (Some events.NotRestored) = answers_by Restore false needs.Restore (false, refl)
  restores_expected (Some (events.Line line)) = waits_for Restore needs.Restore
  restores_expected (Some (events.Random w)) = waits_for Restore needs.Restore
  restores_expected (Some (events.Saved kept)) = waits_for Restore needs.Restore
  restores_expected None = waits_for Restore needs.Restore

  by_operation : (k : Operation) → Asked (demands_of o k args) → CallsOf k → Expected k (effect_of m k all.values t)
  unfolding Expected demands_of outcome_of effect_of
  by_operation (Unary op) rule begins = gives_expected (Unary op) _ _ (true, refl) (lawful.unary op _ _ (all.members 0))
  by_operation (Binary op) rule begins =
      let fine = defined_where o op (args 1) (arg all.values 1) rule.divides (all.members 1) in rw fine (gives_expected (Binary op) _ _ (true, refl) (lawful.binary op _ _ _ _ (all.members 0) (all.members 1) fine))
  by_operation (Compare q) rule begins = compares q
  by_operation (Count op question) rule begins = counts op question (in_place rule.known rule.top rule.exists)
  by_operation Store rule begins =
      let p = in_place rule.known rule.top rule.exists in let r = p.reads in let known = p.variable in rw r (assigns_expected Store p.v (args 1) (arg all.values 0) (arg all.values 1) (true, rw known refl) p.named (all.members 1) p.exists)
  by_operation Load rule begins =
      let p = in_place rule.known rule.top rule.exists in let r = p.reads in let known = p.variable in rw r (gives_expected Load _ p.old (true, rw known refl) p.member)
  by_operation Jump rule begins = let k = known_jump rule.certain in jumps_expected k.0 k.1 k.2
  by_operation Verify rule begins = asks_expected Verify _ untold (_, refl) (tt, tt) (tt, tt)
  by_operation PrintChar rule begins = goes_expected PrintChar _ (true, refl)
  by_operation PrintNumber rule begins = goes_expected PrintNumber _ (true, refl)
  by_operation Print rule begins =
      let at : s.place +ℤ pos 1 ≡ pos (d.at + 1) = ap (λ (p : ℤ). p +ℤ pos 1) d.place in subst (λ (p : ℤ). Expected Print (print_at p s.memory)) (sym at) (printed_expected Print (output_at s.memory (d.at + 1)) (prints (d.at + 1) rule.text) (true, refl))
  by_operation NewLine rule begins = goes_expected NewLine _ (true, refl)
  by_operation Nop rule begins = goes_expected Nop _ (true, refl)
  by_operation Quit rule begins = inl (record { tests = refl; moves = refl; why = a_quit refl refl })
  by_operation Return rule begins = returns_expected Return [] _ _ (true, refl) (all.members 0)
  by_operation PrintReturn rule begins =
      let at : s.place +ℤ pos 1 ≡ pos (d.at + 1) = ap (λ (p : ℤ). p +ℤ pos 1) d.place in subst (λ (p : ℤ). Expected PrintReturn (print_at p s.memory >>= λ effect. Ok (closing effect))) (sym at) (closes_expected (output_at s.memory (d.at + 1)) (prints (d.at + 1) rule.text) (true, refl))
  by_operation Call rule begins = calls begins
  by_operation Inside rule begins =
      let known = object_known m.story.objects (arg all.values 0) (rule.object.0 (arg all.values 0) (all.members 0)) in
      rw known (asks_expected Inside _ untold (_, refl) (tt, tt) (tt, tt))
  by_operation TestAttribute rule begins =
      let known = object_known m.story.objects (arg all.values 0) (rule.object.0 (arg all.values 0) (all.members 0)) in let few = lt-ltb (arg all.values 1) 32 (rule.attribute (arg all.values 1) (all.members 1)) in
      rw (known, few) (asks_expected TestAttribute _ untold (_, refl) (tt, tt) (tt, tt))
  by_operation (Follow link) rule begins =
      let object = rule.object.0 (arg all.values 0) (all.members 0) in let known = object_known m.story.objects (arg all.values 0) object in
      rw known (follows link _ (d.memory.tree.small link (arg all.values 0) object.0 object.1) d.is_state.objects.few)
  by_operation SetAttribute rule begins = marks SetAttribute true (true, refl) (rule.object.0 (arg all.values 0) (all.members 0)) (rule.attribute (arg all.values 1) (all.members 1))
  by_operation ClearAttribute rule begins = marks ClearAttribute false (true, refl) (rule.object.0 (arg all.values 0) (all.members 0)) (rule.attribute (arg all.values 1) (all.members 1))
  by_operation Insert rule begins =
      let object = rule.object.0 (arg all.values 0) (all.members 0) in
      let under = rule.object.1 (arg all.values 1) (all.members 1) in
      let known = object_known m.story.objects (arg all.values 0) object in
      let known_under = object_known m.story.objects (arg all.values 1) under in
      rw (known, known_under) (rearranges Insert _ (true, refl) (inserted_described o claims m.story supports.tables supports.few s.memory d.memory d.is_state.objects d.is_state.tables (arg all.values 0) (arg all.values 1) object.0 object.1 under.0 under.1) (inserted_described o here m.story supports.tables few_here s.memory here_described d.is_state.objects d.is_state.tables (arg all.values 0) (arg all.values 1) object.0 object.1 under.0 under.1))
  by_operation Remove rule begins =
      let object = rule.object.0 (arg all.values 0) (all.members 0) in let known = object_known m.story.objects (arg all.values 0) object in
      rw known (rearranges Remove _ (true, refl) (unlinked_described o claims m.story supports.tables supports.few s.memory d.memory d.is_state.objects d.is_state.tables (arg all.values 0) object.0 object.1) (unlinked_described o here m.story supports.tables few_here s.memory here_described d.is_state.objects d.is_state.tables (arg all.values 0) object.0 object.1))
  by_operation (Property question) rule begins =
      let object = rule.object.0 (arg all.values 0) (all.members 0) in let known = object_known m.story.objects (arg all.values 0) object in
      let there = answered o lawful claims m.story loaded supports s.memory d.memory (arg all.values 0) object.0 object.1 question (arg all.values 1) (rule.property (arg all.values 0) (arg all.values 1) object.0 object.1 (all.members 0) (all.members 1)) in
      rw known (answers_expected question there.0 there.1 object)
  by_operation PropertyLength rule begins = measures_expected (rule.address (arg all.values 0) (all.members 0))
  by_operation SetProperty rule begins =
      let object = rule.object.0 (arg all.values 0) (all.members 0) in let known = object_known m.story.objects (arg all.values 0) object in
      rw known (fills_expected object (filled o lawful claims m.story loaded supports s.memory d.memory (arg all.values 0) object.0 object.1 (arg all.values 1) (arg all.values 2) (rule.property (arg all.values 0) (arg all.values 1) object.0 object.1 (all.members 0) (all.members 1))) rule.puts)
  by_operation (LoadArray width) rule begins = loads_expected width rule.read
  by_operation (StoreArray width) rule begins = stores_expected width rule.written
  by_operation (PrintAt addressing) rule begins =
      printed_expected (PrintAt addressing) _ (prints (text_place addressing (arg all.values 0)) (rule.texts (arg all.values 0) (all.members 0))) (true, refl)
  by_operation ShowStatus rule begins =
      let shown = line_shown o lawful claims m.story loaded supports s.memory d.memory rule.line in let is = shown.1 in rw is (shows_expected shown.0 (true, refl))
  by_operation PrintObject rule begins =
      let object = rule.object.0 (arg all.values 0) (all.members 0) in let known = object_known m.story.objects (arg all.values 0) object in
      let name = name_known o lawful claims m.story loaded supports s.memory d.memory (arg all.values 0) object.0 object.1 in let is = name.1 in
      rw (known, is) (goes_expected PrintObject name.0 (true, refl))
  by_operation Random rule begins = draws _ (random_comes o lawful (args 0) (arg all.values 0) (all.members 0) t)
  by_operation ReadLine rule begins =
      let text = buffer_read o lawful (args 0) (arg all.values 0) (IsTextBuffer m.story (frozen_in claims)) (all.members 0) rule.buffers.0 in
      let parse = buffer_read o lawful (args 1) (arg all.values 1) (IsParseBuffer m.story (frozen_in claims)) (all.members 1) rule.buffers.1 in
      let line = line_shown o lawful claims m.story loaded supports s.memory d.memory rule.line in let shown = line.1 in
      let taken = line_taken o lawful claims m.story loaded supports.tables supports.few s.memory d.memory (arg all.values 0) (arg all.values 1) text parse in
      rw (shown, taken) (hears line.0 text parse _ (hearing_comes m.story (arg all.values 0) (arg all.values 1) s.memory line.0 s.prompted s.waiting))
  by_operation Save rule begins = saves_expected t.waiting
  by_operation Restore rule begins = restores_expected t.waiting
  by_operation Restart rule begins = inl (record { tests = refl; moves = refl; why = a_restart refl })

  pub begins_said : CallsOf (operation_of i.opcode)
  unfolding CallsOf
  begins_said = supports.each d.at d.entry d.listed plain rules.Called i there

  pub expected : Expected (operation_of i.opcode) (effect_of m (operation_of i.opcode) all.values t)
  expected = by_operation (operation_of i.opcode) asked begins_said

  -- ---- the parts, done

  -- a local or a global is given a value
  mid_named : (v x : ℕ) (a : V) (e : Shape V) (u : State) → MatchBool (nat_lt v 16) (v ≤ length d.entry.shape.locals) ((v < 256) × (v - 16 < length claims.globals)) → MatchBool (nat_lt v 16) (Unit {0}) (MatchOption (slice_get claims.globals (v - 16)) ⊥ (Within o a)) → In o a x → Known_in e u
      → Known_in (record { locals = named_with v a e.locals; slots = e.slots }) (put_named m.story v x u)
  unfolding put_named
  mid_named v x a e u exists takes member known = by_kind (nat_lt v 16) refl exists takes
    where
      by_kind : (c : Bool) → nat_lt v 16 ≡ c → MatchBool c (v ≤ length d.entry.shape.locals) ((v < 256) × (v - 16 < length claims.globals)) → MatchBool c (Unit {0}) (MatchOption (slice_get claims.globals (v - 16)) ⊥ (Within o a))
          → Known_in (record { locals = if c then slice_set e.locals (v - 1) a else e.locals; slots = e.slots }) (if c then with_locals (slice_set u.frame.locals (v - 1) x) u else with_memory (write_word u.memory (global m.story v) x) u)
      by_kind true is exists takes = record { memory = known.memory; fits = record { in_locals = zip_set (In o) e.locals u.frame.locals known.fits.in_locals (v - 1) a x member; in_slots = known.fits.in_slots }; callers = known.callers }
      by_kind false is exists takes = record { memory = global_put o claims m.story loaded supports.tables v x a u.memory known.memory.long (ltb-false v 16 is) exists.0 member takes known.memory; fits = record { in_locals = known.fits.in_locals; in_slots = known.fits.in_slots }; callers = known.callers }

  -- what is given in place
  mid_in_place : (v x : ℕ) (a : V) (e : Shape V) (u : State) → IsVariable o claims d.entry.shape v → MatchBool (nat_lt v 16) (Unit {0}) (MatchOption (slice_get claims.globals (v - 16)) ⊥ (Within o a)) → In o a x → Known_in e u → Known_in (with_assigned (Some (v, a)) e) (put_in_place m.story v x u)
  unfolding put_in_place
  mid_in_place v x a e u exists takes member known = by_stack (v == 0) exists
    where
      by_stack : (b : Bool) → MatchBool b (Unit {0}) (MatchBool (nat_lt v 16) (v ≤ length d.entry.shape.locals) ((v < 256) × (v - 16 < length claims.globals)))
          → Known_in (record { locals = if b then e.locals else named_with v a e.locals; slots = if b then slice_set e.slots 0 a else e.slots }) (if b then with_stack (slice_set u.frame.stack 0 x) u else put_named m.story v x u)
      by_stack true exists = record { memory = known.memory; fits = record { in_locals = known.fits.in_locals; in_slots = zip_set (In o) e.slots u.frame.stack known.fits.in_slots 0 a x member }; callers = known.callers }
      by_stack false exists = mid_named v x a e u exists takes member known

  mid_assigned : (given : Option (ℕ × V)) (assigns : Option (ℕ × ℕ)) (e : Shape V) (u : State) → AssignedIn o claims d.entry.shape given assigns → TakesInPlace o claims given → Known_in e u → Known_in (with_assigned given e) (assigned m.story assigns u)
  unfolding AssignedIn
  mid_assigned None None e u is takes known = known
  mid_assigned None (Some p) e u is takes known = absurd is
  mid_assigned (Some a) None e u is takes known = absurd is
  mid_assigned (Some a) (Some p) e u is takes known =
      subst (λ (n : ℕ). Known_in (with_assigned (Some a) e) (put_in_place m.story n p.1 u)) (sym is.0) (mid_in_place a.0 p.1 a.1 e u is.2 takes is.1 known)

  -- the result variable is there all along
  still_there : (e : Shape V) (u : State) → length e.locals ≡ length d.entry.shape.locals → Known_in e u → IsIn (target i) u.frame.locals
  still_there e u same known = named_in o claims (target i) d.entry.shape u.frame.locals local.1 (sym same ∙ zip_length (In o) e.locals u.frame.locals known.fits.in_locals)

  rewritten_known : (memory : Option (List ℕ)) (u : State) → IfSome memory (λ after. DescribedMemory o claims m.story after × LieIn o known_globals m.story after) → Known_in mid u → Known_in mid (rewritten memory u)
  rewritten_known None u is known = known
  rewritten_known (Some memory) u is known = record { memory = is.0; fits = known.fits; callers = known.callers }

  -- before anything is assigned
  begun : (w : Outcome V) (effect : Effect) → Matches w effect → Known_in mid (rewritten effect.memory (used effect.uses (drawn effect.random t)))
  begun w effect matches = rewritten_known effect.memory (used effect.uses (drawn effect.random t)) matches.memory (spent_mid o claims m.story loaded supports.tables d.entry.routine mid effect.random effect.uses t read_known)

  -- all parts, one after another
  mid_changed : (w : Outcome V) (effect : Effect) → Matches w effect → Takes o claims w.gives (target i) → TakesInPlace o claims w.assigns → Known_in (changed_by o known_globals i d.entry.shape w) (changed m.story i effect t)
  unfolding changed
  mid_changed w effect matches given in_place =
      let r = rewritten effect.memory (used effect.uses (drawn effect.random t)) in let u = assigned m.story effect.assigns r in
      let known = mid_assigned w.assigns effect.assigns mid r matches.assigns in_place (begun w effect matches) in
      stored_mid o claims m.story loaded supports.tables d.entry.routine (target i) w.gives effect.gives (with_assigned w.assigns mid) u matches.gives (still_there (with_assigned w.assigns mid) u (length_assigned w.assigns mid) known) given known

  -- ---- what is known of globals, part by part

  lie_changed : (w : Outcome V) (effect : Effect) → Matches w effect → TakesInPlace o claims w.assigns → LieIn o (globals_after known_globals (target i) w) m.story (changed m.story i effect t).memory
  unfolding changed
  lie_changed w effect matches in_place =
      let r = rewritten effect.memory (used effect.uses (drawn effect.random t)) in
      let u = assigned m.story effect.assigns r in
      let at_first = begun w effect matches in
      let known = mid_assigned w.assigns effect.assigns mid r matches.assigns in_place at_first in
      let lie = lie_rewritten o claims m.story known_globals effect.memory (used effect.uses (drawn effect.random t)) matches.memory (lie_spent o m.story known_globals effect.random effect.uses t lie_before) in
      let lie_named = lie_assigned o claims m.story loaded d.entry.shape w.assigns effect.assigns known_globals r matches.assigns at_first.memory.long lie in
      let lie_with = lie_given o claims m.story loaded supports.tables d.entry.shape (target i) local.1 w.gives effect.gives (globals_named w.assigns known_globals) u matches.gives known.memory.long lie_named in
      lie_after o m.story known_globals (target i) w (stored m.story effect.gives (target i) u).memory matches.told lie_with

  -- and the frame with all parts, whatever globals take
  fits_changed : (w : Outcome V) (effect : Effect) → Matches w effect → FitsFrame o claims m.story (changed_by o known_globals i d.entry.shape w) (changed m.story i effect t)
  unfolding changed
  fits_changed w effect matches = fits_given o claims m.story loaded supports.tables (target i) w.gives effect.gives (with_assigned w.assigns mid) (assigned m.story effect.assigns (rewritten effect.memory (used effect.uses (drawn effect.random t)))) matches.gives (fits_assigned o claims m.story d.entry.shape w.assigns effect.assigns mid (rewritten effect.memory (used effect.uses (drawn effect.random t))) matches.assigns (begun w effect matches).fits)

  -- ---- the step

  exists_read : exists (target i) t.frame ≡ true
  exists_read = exists_in (target i) t.frame (named_in o claims (target i) d.entry.shape s.frame.locals local.1 same_count)

  -- an effect with the parts of an outcome, of which every rule holds
  module _ (w : Outcome V) (effect : Effect) (comes : ComesOf (operation_of i.opcode) w) (matches : Matches w effect) where
    pub leads_in : LeadsIn o lawful claims m loaded supports s d i (leading o w i.branch) (course effect i.branch)
    leads_in = subst (λ (t : Option Bool). LeadsIn o lawful claims m loaded supports s d i (leading o w i.branch) (turned (way t i.branch) effect.moves)) (sym matches.tests) (turned_in o lawful claims m loaded supports s d i (way w.tests i.branch) w.leads effect.moves matches.leads)

    abbrev shape : Shape V
    shape = changed_by o known_globals i d.entry.shape w

    abbrev u : State
    u = changed m.story i effect t

    -- the edge can be taken
    pub edge : (f : Shape V) × (after o known_globals i d.entry.shape w ≡ Some f) × Fits o claims f u.frame.locals u.frame.stack
    edge = edge_of (narrowed o w.kept shape) _ (narrowed_fits o lawful claims w.kept shape u.frame.locals u.frame.stack (fits_changed w effect matches) matches.kept)

    by_edge : (Rule : Shape V → Type 0) → OnEdge o claims d.at w i d.entry.shape Rule → Rule edge.0
    by_edge Rule rule = subst (λ (r : Option (Shape V)). IfSome r Rule) edge.1 rule

    takes : Takes o claims w.gives (target i) × TakesInPlace o claims w.assigns × TakesBack o claims (target i) (leading o w i.branch)
    takes = by_edge (λ f. Takes o claims w.gives (target i) × TakesInPlace o claims w.assigns × TakesBack o claims (target i) (leading o w i.branch)) (supports.each d.at d.entry d.listed plain rules.Stored i there w comes)

    known_there : Known_in shape u
    known_there = mid_changed w effect matches takes.0 takes.1

    pub returns : Returns o claims d.entry.routine (leading o w i.branch)
    returns = by_edge (λ f. Returns o claims d.entry.routine (leading o w i.branch)) (supports.each d.at d.entry d.listed plain rules.Returned i there w comes)

    begins_there : Enters o claims m.story given_args (leading o w i.branch)
    begins_there = by_edge (λ f. Enters o claims m.story given_args (leading o w i.branch)) (supports.each d.at d.entry d.listed plain rules.Called i there w comes)

    pub admitted : admits (target i) effect (course effect i.branch) t ≡ Ok tt
    admitted =
        let fine = judged o lawful claims m loaded supports s d i (leading o w i.branch) (course effect i.branch) s.frame.result s.frame.return_place s.callers leads_in returns d.callers in
        admits_is (target i) effect (course effect i.branch) t exists_read fine.0 fine.1

    acted : IsState m.limit m.story (act m.story i effect t) → Described o claims m.limit m.story (act m.story i effect t)
    unfolding act
    acted state =
        let follows = successor.1 w comes (supports.each d.at d.entry d.listed plain rules.High i there w comes) in
        let exists = still_there shape u (length_with o claims w.gives (target i) (with_assigned w.assigns mid).locals ∙ length_assigned w.assigns mid) known_there in
        let goes = by_edge (λ f. GoesOn o claims d.entry.routine (target i) (globals_after known_globals (target i) w) f (d.at + i.size) (leading o w i.branch)) follows in
        let place : u.place +ℤ pos i.size ≡ pos (d.at + i.size) = ap (λ (p : ℤ). p +ℤ pos i.size) ((changed_aside m.story i effect t).place ∙ d.place) in
        lands o lawful claims m loaded supports s d i (leading o w i.branch) (course effect i.branch) (globals_after known_globals (target i) w) edge.0 (advance i u) leads_in place (record { memory = known_there.memory; fits = edge.2; callers = known_there.callers }) (lie_changed w effect matches takes.1) exists goes begins_there returns takes.2 state

  pub still_admitted : (effect : Effect) → Still effect → admits (target i) effect (course effect i.branch) t ≡ Ok tt
  still_admitted effect still =
      let on_is : course effect i.branch ≡ on (pos 0) = ap (λ (t : Option Bool). turned (way t i.branch) effect.moves) still.tests ∙ still.moves in
      admits_is (target i) effect (course effect i.branch) t exists_read (ap (λ (c : Move). has_caller c s.callers) on_is) (ap (λ (c : Move). is_taken c s.frame.result s.callers) on_is)

  -- the instruction that stands there now
  reads : instruction_at (drop d.at s.memory) ≡ Ok i
  reads = ap instruction_at (drop_same m.story loaded.sound loaded.counted (frozen_in claims) s.memory d.memory.long d.memory.fixed d.at there.static) ∙ there.decodes

  pub fetches : fetch m.scope s.place s.memory ≡ Ok i
  fetches = fetch_is m.scope s.place d.at s.memory i d.place (listed.places d.at d.entry d.listed plain) reads

  pub steps : step m s ≡ (effect_of m (operation_of i.opcode) all.values t >>= made_by m s t i)
  steps = step_is m s t i all.values fetches all.read

  -- where its judging finds no fault, what is left is a pause, or the step
  pub settled : (effect : Effect) → admits (target i) effect (course effect i.branch) t ≡ Ok tt → made_by m s t i effect ≡ (pauses m.limit (target i) effect (course effect i.branch) t >>= λ _. Ok (done_at m s t i effect))
  settled effect ok = ap (λ (r : Result (Unit {0}) Halt). (r >>= λ _. pauses m.limit (target i) effect (course effect i.branch) t) >>= λ _. Ok (done_at m s t i effect)) ok

  paused : (effect : Effect) (r : Result (Unit {0}) Halt) → PausesAtMost r → (r ≡ Ok tt → Described o claims m.limit m.story (came m.story i effect t s)) → IsSafe o claims m.limit m.story (r >>= λ _. Ok (done_at m s t i effect))
  paused effect (Ok x) fine made = made refl
  paused effect (Err (halts.Fault f)) fine made = fine
  paused effect (Err (halts.Need n)) fine made = tt
  paused effect (Err halts.Quit) fine made = tt
  paused effect (Err halts.FrameLimit) fine made = tt

  -- an effect that nothing keeps from being done is what the step does
  made_is : (effect : Effect) → effect_of m (operation_of i.opcode) all.values t ≡ Ok effect → admits (target i) effect (course effect i.branch) t ≡ Ok tt → pauses m.limit (target i) effect (course effect i.branch) t ≡ Ok tt → step m s ≡ Ok (done_at m s t i effect)
  made_is effect is admitted unpaused =
      steps ∙ ap (λ (r : Result Effect Halt). r >>= made_by m s t i) is ∙ settled effect admitted ∙ ap (λ (r : Result (Unit {0}) Halt). r >>= λ _. Ok (done_at m s t i effect)) unpaused

  -- all of it is done at once
  came_is : (effect : Effect) → effect.prompts ≡ false → effect.restarts ≡ false → came m.story i effect t s ≡ act m.story i effect t
  came_is effect acts stays = rw (acts, stays) refl

  -- one that leads nowhere isn't done, leaves a mark, or begins anew
  still_described : (effect : Effect) → IsStill effect → pauses m.limit (target i) effect (course effect i.branch) t ≡ Ok tt → Described o claims m.limit m.story (came m.story i effect t s)
  still_described effect (a_quit needs stands) ok = absurd (pauses_there m.limit (target i) effect (course effect i.branch) t (inr stands) ok)
  still_described effect (a_need need needs) ok = absurd (pauses_there m.limit (target i) effect (course effect i.branch) t (inl (ap is_some needs)) ok)
  still_described effect (a_prompt line is) ok = subst (λ (e : Effect). Described o claims m.limit m.story (came m.story i e t s)) (sym is) (prompted_described o claims m.story m.limit s d)
  still_described effect (a_restart is) ok = subst (λ (e : Effect). Described o claims m.limit m.story (came m.story i e t s)) (sym is) (restarted_described o claims m.story loaded supports m.limit t d.is_state.count)

  finish : (r : Result Effect Halt) → effect_of m (operation_of i.opcode) all.values t ≡ r → Expected (operation_of i.opcode) r → IsSafe o claims m.limit m.story (r >>= made_by m s t i)
  unfolding Expected
  finish (Ok effect) is (inl still) =
      subst (IsSafe o claims m.limit m.story) (sym (settled effect (still_admitted effect still)))
      (paused effect (pauses m.limit (target i) effect (course effect i.branch) t) (pauses_fine m.limit (target i) effect (course effect i.branch) t) (still_described effect still.why))
  finish (Ok effect) is (inr (w, comes, matches)) =
      let ok = admitted w effect comes matches in
      let same = came_is effect matches.acts matches.stays in
      subst (IsSafe o claims m.limit m.story) (sym (settled effect ok))
      (paused effect (pauses m.limit (target i) effect (course effect i.branch) t) (pauses_fine m.limit (target i) effect (course effect i.branch) t)
      (λ unpaused. subst (Described o claims m.limit m.story) (sym same) (acted w effect comes matches (subst (IsState m.limit m.story) same (step_keeps m s (done_at m s t i effect) loaded.sound d.is_state (made_is effect is ok unpaused))))))
  finish (Err h) is expected = absurd expected

  pub safe_there : IsSafe o claims m.limit m.story (step m s)
  safe_there = subst (λ (r : Result Done Halt). IsSafe o claims m.limit m.story r) (sym steps) (finish (effect_of m (operation_of i.opcode) all.values t) refl expected)
