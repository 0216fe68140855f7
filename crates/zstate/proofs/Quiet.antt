-- What keeps a step from being made, and is no fault, is of its effect.
use Rattle.std.proofs.Common.{◌≡◌, ℕ, Bool, true, false, List, [], ◌∷◌, Result, Ok, Err, Option, Some, None, refl, sym, ap, subst, ◌∙◌, if◌then◌else◌}
use Rattle.std.specs.Prelude.{IfOk, ℤ, pos, negsuc, not, is_some, ◌&&◌, ◌||◌, ◌==◌, nat_lt, ◌+ℤ◌}
use Rattle.zfault.specs.declared.fault.Fault.{Fault}
use Rattle.zfault.specs.declared.fault.Fault.TheVariants.{AbsentLocal, ReadOutside, ReturnFromMain, SmallBuffer, WriteOutside}
use Rattle.zfault.specs.declared.pause.Need.{Need}
use Rattle.zcode.specs.declared.instr.Operand.{Operand}
use Rattle.zcode.specs.declared.instr.Operand.TheVariants.{Constant, Variable}
use Rattle.zcode.specs.declared.operation.Operation.{Operation}
use Rattle.zcode.specs.declared.operation.Operation.TheVariants as operations
use Rattle.zcode.specs.Instruction.{Instruction}
use Rattle.zcode.specs.Operation.{operation_of, inputs, target}
use Rattle.zarray.specs.Arrays.{place_of as element_place, span, with_element}
use Rattle.zobj.specs.declared.error.ObjectError.{ObjectError}
use Rattle.zobj.specs.declared.name.ShortName.{ShortName}
use Rattle.zobj.specs.declared.name.ShortName.TheVariants.{Empty, At, Outside}
use Rattle.ztext.specs.declared.error.TextError.{TextError}
use Rattle.ztext.specs.Output.{output_at}
use Rattle.zobj.specs.Names.{short_name}
use Rattle.zword.specs.Addressing.{place_of as text_place}
use Rattle.zword.specs.Binary.{is_defined}
use Rattle.zstory.specs.LoadedStory.{LoadedStory}
use Rattle.zstate.specs.declared.halt.Halt.{Halt}
use Rattle.zstate.specs.declared.halt.Halt.TheVariants as halts
use Rattle.zstate.specs.InTurn.{◌>>=◌, in_turn}
use Rattle.zstate.specs.State.{State, Setting, has_head, pop, found, read_named, read_variable, read_operand, read_operands, read_in_place, exists, has_room}
use Rattle.zstate.specs.Run.{need_in}
use Rattle.zstate.specs.Step.{Done, Effect, Move, arg, closing, are_large, are_open, are_sized, buffered, is_object, printed, print_at, marking, rearranging, answering, reading, filling, are_writable, of_object, of_attribute, naming, global_word, status_of, effect_of, course, expects, has_caller, is_taken, is_roomy, asked, waits, admits, pauses, settle, fetch, unpacked, plan, step}

abbrev done : {A : Type 0} → A → Result A Halt
done x = Ok x

abbrev err : {A : Type 0} → Halt → Result A Halt
err h = Err h

-- only a fault keeps it from being done
abbrev pub IsOrFaults : {A : Type 0} → Result A Halt → Type 0
IsOrFaults (Ok x) = Unit {0}
IsOrFaults (Err (halts.Fault f)) = Unit {0}
IsOrFaults (Err (halts.Need n)) = ⊥
IsOrFaults (Err halts.Quit) = ⊥
IsOrFaults (Err halts.FrameLimit) = ⊥

either : {A : Type 0} (b : Bool) (r t : Result A Halt) → IsOrFaults r → IsOrFaults t → IsOrFaults (if b then r else t)
either true r t h k = h
either false r t h k = k

bind : {A B : Type 0} (r : Result A Halt) (f : A → Result B Halt) → IsOrFaults r → ((x : A) → r ≡ Ok x → IsOrFaults (f x)) → IsOrFaults (r >>= f)
bind (Ok x) f h k = k x refl
bind (Err (halts.Fault f)) g h k = tt
bind (Err (halts.Need n)) f h k = h
bind (Err halts.Quit) f h k = h
bind (Err halts.FrameLimit) f h k = h

of_pop : (stack : List ℕ) (s : State) → IsOrFaults (pop stack s)
of_pop [] s = tt
of_pop (x ∷ stack) s = tt

of_found : (o : Option ℕ) (f : Fault) → IsOrFaults (found o f)
of_found None f = tt
of_found (Some x) f = tt

of_named : (story : LoadedStory) (v : ℕ) (s : State) → IsOrFaults (read_named story v s)
unfolding read_named
of_named story v s = either (nat_lt v 16) _ _ (of_found _ _) tt

of_variable : (story : LoadedStory) (v : ℕ) (s : State) → IsOrFaults (read_variable story v s)
unfolding read_variable
of_variable story v s = either (v == 0) _ _ (of_pop _ s) (bind (read_named story v s) _ (of_named story v s) (λ x e. tt))

of_operand : (story : LoadedStory) (o : Operand) (s : State) → IsOrFaults (read_operand story o s)
unfolding read_operand
of_operand story (Constant n) s = tt
of_operand story (Variable v) s = of_variable story v s

pub of_operands : (story : LoadedStory) (os : List Operand) (s : State) → IsOrFaults (read_operands story os s)
unfolding in_turn
of_operands story [] s = tt
of_operands story (o ∷ os) s = bind (read_operand story o s) _ (of_operand story o s) (λ x e. bind (read_operands story os x.1) _ (of_operands story os x.1) (λ y f. tt))

of_in_place : (story : LoadedStory) (v : ℕ) (s : State) → IsOrFaults (read_in_place story v s)
unfolding read_in_place
of_in_place story v s = either (nat_lt v 256) _ _ (either (v == 0) _ _ (of_found _ _) (of_named story v s)) tt

of_printed : (r : Result (List ℕ) TextError) → IsOrFaults (printed r)
of_printed (Ok bytes) = tt
of_printed (Err e) = tt

of_print : (z : ℤ) (memory : List ℕ) → IsOrFaults (print_at z memory)
of_print (pos p) memory = of_printed (output_at memory p)
of_print (negsuc n) memory = tt

of_marking : (story : LoadedStory) (sets : Bool) (values memory : List ℕ) → IsOrFaults (marking story sets values memory)
of_marking story sets values memory = either (is_object story (arg values 0)) _ _ (either (nat_lt (arg values 1) 32) _ _ tt tt) tt

of_move : (r : Result (List ℕ) ObjectError) → IsOrFaults (rearranging r)
of_move (Ok memory) = tt
of_move (Err e) = tt

of_answer : (r : Result ℕ ObjectError) → IsOrFaults (answering r)
of_answer (Ok x) = tt
of_answer (Err e) = tt

of_length : (o : Option ℕ) → IsOrFaults (reading o)
of_length (Some n) = tt
of_length None = tt

of_filling : (r : Result (List ℕ) ObjectError) (writable : Bool) → IsOrFaults (filling r writable)
of_filling (Ok memory) writable = either writable _ _ tt tt
of_filling (Err e) writable = tt

of_name : (name : ShortName) (memory : List ℕ) → IsOrFaults (naming name memory)
of_name Empty memory = tt
of_name (At p) memory = of_printed (output_at memory p)
of_name Outside memory = tt

of_status : (story : LoadedStory) (memory : List ℕ) → IsOrFaults (status_of story memory)
of_status story memory =
    let x = global_word story 16 memory in
    either (x == 0) _ _ tt (bind (of_object story x (naming (short_name memory x) memory)) _ (either (is_object story x) _ _ (of_name (short_name memory x) memory) tt) (λ named e. tt))

of_asked : (b : Bool) (f : Fault) → IsOrFaults (asked b (halts.Fault f))
of_asked true f = tt
of_asked false f = tt

of_faults : (a b c : Bool) (f g h : Fault) → IsOrFaults (asked a (halts.Fault f) >>= λ x. (asked b (halts.Fault g) >>= λ y. asked c (halts.Fault h)))
of_faults true true c f g h = of_asked c h
of_faults true false c f g h = tt
of_faults false b c f g h = tt

of_buffers : (story : LoadedStory) (t p : ℕ) (memory : List ℕ) → IsOrFaults (buffered story t p memory)
unfolding buffered
of_buffers story t p memory = of_faults (are_sized t p memory) (are_large t p memory) (are_open story t p memory) ReadOutside SmallBuffer WriteOutside

pub of_effect : (m : Setting) (o : Operation) (values : List ℕ) (s : State) → IsOrFaults (effect_of m o values s)
unfolding effect_of
of_effect m (operations.Unary op) values s = tt
of_effect m (operations.Binary op) values s = either (is_defined op (arg values 1)) _ _ tt tt
of_effect m (operations.Compare q) values s = tt
of_effect m operations.Inside values s = either (is_object m.story (arg values 0)) _ _ tt tt
of_effect m operations.TestAttribute values s = either (is_object m.story (arg values 0)) _ _ (either (nat_lt (arg values 1) 32) _ _ tt tt) tt
of_effect m (operations.Follow link) values s = either (is_object m.story (arg values 0)) _ _ tt tt
of_effect m operations.SetAttribute values s = of_marking m.story true values s.memory
of_effect m operations.ClearAttribute values s = of_marking m.story false values s.memory
of_effect m operations.Insert values s = either (is_object m.story (arg values 0)) _ _ (either (is_object m.story (arg values 1)) _ _ (of_move _) tt) tt
of_effect m operations.Remove values s = either (is_object m.story (arg values 0)) _ _ (of_move _) tt
of_effect m (operations.Property question) values s = either (is_object m.story (arg values 0)) _ _ (of_answer _) tt
of_effect m operations.PropertyLength values s = of_length _
of_effect m operations.SetProperty values s = either (is_object m.story (arg values 0)) _ _ (of_filling _ _) tt
of_effect m (operations.LoadArray width) values s = of_length _
of_effect m (operations.StoreArray width) values s = of_filling (Ok (with_element width (element_place width (arg values 0) (arg values 1)) (arg values 2) s.memory)) (are_writable m.story (element_place width (arg values 0) (arg values 1)) (span width))
of_effect m operations.PrintObject values s = either (is_object m.story (arg values 0)) _ _ (of_name _ s.memory) tt
of_effect m (operations.PrintAt addressing) values s = of_printed (output_at s.memory (text_place addressing (arg values 0)))
of_effect m operations.ShowStatus values s = of_status m.story s.memory
of_effect m (operations.Count op q) values s = bind (read_in_place m.story (arg values 0) s) _ (of_in_place _ _ s) (λ x e. tt)
of_effect m operations.Store values s = bind (read_in_place m.story (arg values 0) s) _ (of_in_place _ _ s) (λ x e. tt)
of_effect m operations.Load values s = bind (read_in_place m.story (arg values 0) s) _ (of_in_place _ _ s) (λ x e. tt)
of_effect m operations.Jump values s = tt
of_effect m operations.Verify values s = tt
of_effect m operations.PrintChar values s = tt
of_effect m operations.PrintNumber values s = tt
of_effect m operations.Print values s = of_print _ s.memory
of_effect m operations.NewLine values s = tt
of_effect m operations.Nop values s = tt
of_effect m operations.Quit values s = tt
of_effect m operations.Return values s = tt
of_effect m operations.PrintReturn values s = bind (print_at (s.place +ℤ pos 1) s.memory) _ (of_print _ s.memory) (λ x e. tt)
of_effect m operations.Call values s = either (arg values 0 == 0) _ _ tt (either (m.scope.routines (unpacked (arg values 0)) && has_head s.memory (unpacked (arg values 0))) _ _ tt tt)
of_effect m operations.Random values s = tt
of_effect m operations.Save values s = tt
of_effect m operations.Restore values s = tt
of_effect m operations.Restart values s = tt
of_effect m operations.ReadLine values s = bind (status_of m.story s.memory) _ (of_status m.story s.memory) (λ shown e. bind (buffered m.story (arg values 0) (arg values 1) s.memory) _ (of_buffers m.story (arg values 0) (arg values 1) s.memory) (λ free f. tt))

of_admits : (v : ℕ) (effect : Effect) (move : Move) (s : State) → IsOrFaults (admits v effect move s)
unfolding admits
of_admits v effect move s = of_faults (not (expects effect.gives move) || exists v s.frame) (has_caller move s.callers) (is_taken move s.frame.result s.callers) AbsentLocal ReturnFromMain AbsentLocal

-- ---- what else keeps a step from being made, which is judged of its effect

abbrev pub IsPause : Halt → Type 0
IsPause (halts.Fault f) = ⊥
IsPause h = Unit {0}

ok_is : {A : Type 0} {x y : A} → done x ≡ done y → x ≡ y
ok_is e = cc

err_is : {A : Type 0} (g h : Halt) → err {A = A} g ≡ err {A = A} h → g ≡ h
err_is g h e = cc

-- what comes behind something that was done
behind : {A B : Type 0} (r : Result A Halt) (f : A → Result B Halt) (h : Halt) → IsOrFaults r → IsPause h → (r >>= f) ≡ Err h → (x : A) × (r ≡ Ok x) × (f x ≡ Err h)
behind (Ok x) f h is pause e = (x, refl, e)
behind {A} {B} (Err (halts.Fault g)) f h is pause e = absurd (subst IsPause (sym (err_is {A = B} (halts.Fault g) h e)) pause)
behind (Err (halts.Need n)) f h is pause e = absurd is
behind (Err halts.Quit) f h is pause e = absurd is
behind (Err halts.FrameLimit) f h is pause e = absurd is

ok_behind : {A B : Type 0} (r : Result A Halt) (f : A → B) (h : Halt) → (r >>= λ x. done (f x)) ≡ Err h → r ≡ Err h
ok_behind (Ok x) f h e = absurd cc
ok_behind {A} {B} (Err g) f h e = ap (λ (x : Halt). err {A = A} x) (err_is {A = B} g h e)

-- the instruction was read, and its effect isn't done
pub record Kept (m : Setting) (i : Instruction) (s : State) (h : Halt) : Type 0 where
  pub values : List ℕ
  pub after : State
  pub effect : Effect
  pub read : read_operands m.story (inputs i) s ≡ Ok (values, after)
  pub does : effect_of m (operation_of i.opcode) values after ≡ Ok effect
  pub stands : pauses m.limit (target i) effect (course effect i.branch) after ≡ Err h

pub kept : (m : Setting) (i : Instruction) (s : State) (h : Halt) → fetch m.scope s.place s.memory ≡ Ok i → IsPause h → step m s ≡ Err h → Kept m i s h
unfolding step plan
kept m i s h fetched pause e =
    let f = behind (fetch m.scope s.place s.memory) _ h (subst (λ (r : Result Instruction Halt). IsOrFaults r) (sym fetched) tt) pause (ok_behind (plan m s) _ h e) in
    let v = behind (read_operands m.story (inputs f.0) s) _ h (of_operands m.story (inputs f.0) s) pause f.2 in
    let x = behind (effect_of m (operation_of f.0.opcode) v.0.0 v.0.1) _ h (of_effect m (operation_of f.0.opcode) v.0.0 v.0.1) pause v.2 in
    let y = behind (admits (target f.0) x.0 (course x.0 f.0.branch) v.0.1) _ h (of_admits (target f.0) x.0 (course x.0 f.0.branch) v.0.1) pause (ok_behind (settle m.limit f.0 x.0 v.0.1) _ h x.2) in
    let here : Kept m f.0 s h = record { values = v.0.0; after = v.0.1; effect = x.0; read = v.1; does = x.1; stands = y.2 } in
    subst (λ (j : Instruction). Kept m j s h) (sym (ok_is (sym fetched ∙ f.1))) here

-- `quit` is the effect's, and so is what it needs
abbrev Pauses : Option Need → Bool → Bool → Bool → Result (Unit {0}) Halt
Pauses need q a b = waits need >>= λ x. (asked (not q) halts.Quit >>= λ y. (asked a halts.FrameLimit >>= λ z. asked b halts.FrameLimit))

quits_if : (need : Option Need) (q a b : Bool) → Pauses need q a b ≡ Err halts.Quit → q ≡ true
quits_if (Some need) q a b e = absurd cc
quits_if None true a b e = refl
quits_if None false true true e = absurd cc
quits_if None false true false e = absurd cc
quits_if None false false b e = absurd cc

needs_if : (need : Option Need) (q a b : Bool) (n : Need) → Pauses need q a b ≡ Err (halts.Need n) → need ≡ Some n
needs_if (Some need) q a b n e = cc
needs_if None true a b n e = absurd cc
needs_if None false true true n e = absurd cc
needs_if None false true false n e = absurd cc
needs_if None false false b n e = absurd cc

module _ (limit v : ℕ) (effect : Effect) (move : Move) (s : State) where
  pub quits_so : pauses limit v effect move s ≡ Err halts.Quit → effect.quits ≡ true
  unfolding pauses
  quits_so e = quits_if effect.needs effect.quits (not (is_some effect.gives) || has_room v s.frame) (is_roomy limit move s.frame.result s.callers) e

  pub needs_so : (n : Need) → pauses limit v effect move s ≡ Err (halts.Need n) → effect.needs ≡ Some n
  unfolding pauses
  needs_so n e = needs_if effect.needs effect.quits (not (is_some effect.gives) || has_room v s.frame) (is_roomy limit move s.frame.result s.callers) n e

-- ---- what needs nothing

abbrev NeedsNone : Result Effect Halt → Type 0
NeedsNone r = IfOk r (λ e. e.needs ≡ None)

whether : (b : Bool) (r t : Result Effect Halt) → NeedsNone r → NeedsNone t → NeedsNone (if b then r else t)
whether true r t h k = h
whether false r t h k = k

onward : {A : Type 0} (r : Result A Halt) (f : A → Result Effect Halt) → ((x : A) → NeedsNone (f x)) → NeedsNone (r >>= f)
onward (Ok x) f h = h x
onward (Err h) f g = tt

none_printed : (r : Result (List ℕ) TextError) → NeedsNone (printed r)
none_printed (Ok bytes) = refl
none_printed (Err e) = tt

none_print : (z : ℤ) (memory : List ℕ) → NeedsNone (print_at z memory)
none_print (pos p) memory = none_printed (output_at memory p)
none_print (negsuc n) memory = tt

none_closed : (r : Result Effect Halt) → NeedsNone r → NeedsNone (r >>= λ e. done (closing e))
none_closed (Ok e) h = h
none_closed (Err f) h = tt

none_object : (story : LoadedStory) (x : ℕ) (r : Result Effect Halt) → NeedsNone r → NeedsNone (of_object story x r)
none_object story x r h = whether (is_object story x) r _ h tt

none_attribute : (a : ℕ) (r : Result Effect Halt) → NeedsNone r → NeedsNone (of_attribute a r)
none_attribute a r h = whether (nat_lt a 32) r _ h tt

none_moved : (r : Result (List ℕ) ObjectError) → NeedsNone (rearranging r)
none_moved (Ok memory) = refl
none_moved (Err e) = tt

none_answered : (r : Result ℕ ObjectError) → NeedsNone (answering r)
none_answered (Ok x) = refl
none_answered (Err e) = tt

none_read : (o : Option ℕ) → NeedsNone (reading o)
none_read (Some x) = refl
none_read None = tt

none_filled : (r : Result (List ℕ) ObjectError) (writable : Bool) → NeedsNone (filling r writable)
none_filled (Ok memory) writable = whether writable _ _ refl tt
none_filled (Err e) writable = tt

none_named : (name : ShortName) (memory : List ℕ) → NeedsNone (naming name memory)
none_named Empty memory = refl
none_named (At p) memory = none_printed (output_at memory p)
none_named Outside memory = tt

-- the operation waits for nothing from outside (Z 2.4, 15 random, sread, save, restore)
pub record IsUnaided (o : Operation) : Type 0 where
  pub random : o ≡ operations.Random → ⊥
  pub line : o ≡ operations.ReadLine → ⊥
  pub saved : o ≡ operations.Save → ⊥
  pub restore : o ≡ operations.Restore → ⊥

-- its effect needs nothing
pub needs_none : (m : Setting) (o : Operation) (values : List ℕ) (s : State) → IsUnaided o → NeedsNone (effect_of m o values s)
unfolding effect_of
needs_none m operations.Random values s unaided = absurd (unaided.random refl)
needs_none m operations.ReadLine values s unaided = absurd (unaided.line refl)
needs_none m operations.Save values s unaided = absurd (unaided.saved refl)
needs_none m operations.Restore values s unaided = absurd (unaided.restore refl)
needs_none m (operations.Unary op) values s unaided = refl
needs_none m (operations.Binary op) values s unaided = whether (is_defined op (arg values 1)) _ _ refl tt
needs_none m (operations.Compare q) values s unaided = refl
needs_none m operations.Inside values s unaided = none_object m.story (arg values 0) _ refl
needs_none m operations.TestAttribute values s unaided = none_object m.story (arg values 0) _ (none_attribute (arg values 1) _ refl)
needs_none m (operations.Follow link) values s unaided = none_object m.story (arg values 0) _ refl
needs_none m operations.SetAttribute values s unaided = none_object m.story (arg values 0) _ (none_attribute (arg values 1) _ refl)
needs_none m operations.ClearAttribute values s unaided = none_object m.story (arg values 0) _ (none_attribute (arg values 1) _ refl)
needs_none m operations.Insert values s unaided = none_object m.story (arg values 0) _ (none_object m.story (arg values 1) _ (none_moved _))
needs_none m operations.Remove values s unaided = none_object m.story (arg values 0) _ (none_moved _)
needs_none m (operations.Property question) values s unaided = none_object m.story (arg values 0) _ (none_answered _)
needs_none m operations.PropertyLength values s unaided = none_read _
needs_none m operations.SetProperty values s unaided = none_object m.story (arg values 0) _ (none_filled _ _)
needs_none m (operations.LoadArray width) values s unaided = none_read _
needs_none m (operations.StoreArray width) values s unaided = none_filled (Ok (with_element width (element_place width (arg values 0) (arg values 1)) (arg values 2) s.memory)) (are_writable m.story (element_place width (arg values 0) (arg values 1)) (span width))
needs_none m operations.PrintObject values s unaided = none_object m.story (arg values 0) _ (none_named (short_name s.memory (arg values 0)) s.memory)
needs_none m (operations.PrintAt addressing) values s unaided = none_printed (output_at s.memory (text_place addressing (arg values 0)))
needs_none m operations.ShowStatus values s unaided = let x = global_word m.story 16 s.memory in whether (x == 0) _ _ refl (onward (of_object m.story x (naming (short_name s.memory x) s.memory)) _ (λ named. refl))
needs_none m (operations.Count op q) values s unaided = onward (read_in_place m.story (arg values 0) s) _ (λ old. refl)
needs_none m operations.Store values s unaided = onward (read_in_place m.story (arg values 0) s) _ (λ old. refl)
needs_none m operations.Load values s unaided = onward (read_in_place m.story (arg values 0) s) _ (λ x. refl)
needs_none m operations.Jump values s unaided = refl
needs_none m operations.Verify values s unaided = refl
needs_none m operations.PrintChar values s unaided = refl
needs_none m operations.PrintNumber values s unaided = refl
needs_none m operations.Print values s unaided = none_print _ s.memory
needs_none m operations.NewLine values s unaided = refl
needs_none m operations.Nop values s unaided = refl
needs_none m operations.Quit values s unaided = refl
needs_none m operations.Return values s unaided = refl
needs_none m operations.PrintReturn values s unaided = none_closed (print_at (s.place +ℤ pos 1) s.memory) (none_print _ s.memory)
needs_none m operations.Call values s unaided = whether (arg values 0 == 0) _ _ refl (whether (m.scope.routines (unpacked (arg values 0)) && has_head s.memory (unpacked (arg values 0))) _ _ refl tt)
needs_none m operations.Restart values s unaided = refl

-- so its step doesn't wait either
pub waits_for_none : (m : Setting) (i : Instruction) (s : State) → fetch m.scope s.place s.memory ≡ Ok i → IsUnaided (operation_of i.opcode) → need_in (step m s) ≡ None
waits_for_none m i s fetched unaided = by (step m s) refl
  where
    needed : (n : Need) → step m s ≡ Err (halts.Need n) → ⊥
    needed n is =
        let k = kept m i s (halts.Need n) fetched tt is in
        let some = needs_so m.limit (target i) k.effect (course k.effect i.branch) k.after n k.stands in
        let none : k.effect.needs ≡ None = subst NeedsNone k.does (needs_none m (operation_of i.opcode) k.values k.after unaided) in
        absurd (let never : Some n ≡ None = sym some ∙ none in cc)

    by : (made : Result Done Halt) → step m s ≡ made → need_in made ≡ None
    by (Ok d) is = refl
    by (Err (halts.Need n)) is = absurd (needed n is)
    by (Err (halts.Fault f)) is = refl
    by (Err halts.Quit) is = refl
    by (Err halts.FrameLimit) is = refl
