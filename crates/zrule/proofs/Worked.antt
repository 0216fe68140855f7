-- Values of the definitions, computed.
use Rattle.std.proofs.Common.{◌≡◌, ℤ, pos, negsuc, int_le, Option, ℕ, ◌∙◌, Bool, true, false, List, [], ◌∷◌, ◌++◌, replicate, Some, None, refl, sym, ap, subst, arith, if◌then◌else◌}
use Rattle.std.specs.Prelude.{◌==◌, ◌||◌, ◌+ℤ◌, ◌%◌, ◌≤◌}
use Rattle.std.proofs.lemmas.Bool.{eqb-true}
use Rattle.std.proofs.lemmas.Option.{same_Some}
use Rattle.std.proofs.lemmas.Int.{ints}
use Rattle.zstory.specs.LoadedStory.{LoadedStory}
use Rattle.zcode.specs.declared.opcode.Opcode.{Opcode}
use Rattle.zcode.specs.declared.opcode.Opcode.TheVariants as opcodes
use Rattle.zcode.specs.declared.instr.Operand.{Operand}
use Rattle.zcode.specs.declared.instr.Operand.TheVariants.{Constant, Variable}
use Rattle.zcode.specs.Instruction.{Instruction}
use Rattle.zcode.specs.Operation.{operation_of}
use Rattle.zobj.specs.declared.answers.PropertyQuestion.TheVariants.{Value, Address, Next}
use Rattle.zdomain.specs.declared.interval.Interval.{Interval}
use Rattle.zdomain.specs.Domain.{In, Within}
use Rattle.zdomain.specs.Interval.{point, all_words, in_order, interval_operations}
use Rattle.zdomain.specs.IntervalLaw.{interval_sound}
use Rattle.zarray.specs.declared.width.Width.TheVariants.{Byte}
use Rattle.zflow.specs.declared.parts.Access.TheVariants.{Reading, Writing}
use Rattle.zflow.specs.declared.parts.Asked.TheVariants.{Answered, Filled}
use Rattle.zflow.specs.declared.parts.Lead.TheVariants.{Ahead, Returning, Entering}
use Rattle.zflow.specs.Transfer.{Shape, demands_of, outcome_of, with_result}
use Rattle.zstate.specs.State.{Frame, Scope, State, has_head}
use Rattle.zruns.specs.Buffers.{IsParseBuffer, IsTextBuffer}
use Rattle.zpairs.specs.Pairs.{AreAnswered, CanBePut, HaveOpenData}
use Rattle.zruns.specs.Runs.{AreOpen, AreReadable}
use Rattle.zruns.specs.Names.{AreFixedNames}
use Rattle.zruns.specs.Texts.{AreFixedTexts}
use Rattle.zword.specs.declared.addressing.Addressing.TheVariants.{Byte as ByAddress}
use Rattle.zcert.specs.declared.parts.Range.{Range}
use Rattle.zcert.specs.Certificate.{Certificate}
use Rattle.zrule.specs.declared.rule.Rule.{Rule}
use Rattle.zrule.specs.declared.rule.Rule.TheVariants.{Decodes, Height, Local, Successor, Object, Attribute, Property, Divisor, Write, Read, Text, Called, Returned, Buffers, Known, Stored, High, Status}
use Rattle.zrule.specs.Numbers.{number_of}
use Rattle.zrule.specs.Edges.{StaysLow}
use Rattle.zpairs.specs.Frozen.{is_inside}
use Rattle.zrule.specs.Claims.{Entry, Claims, claims_of, frozen_in}
use Rattle.zrule.specs.Described.{Callers, Described, Fits, FitsWith, IsListedIn}
use Rattle.zrule.specs.Rules.{AreImplied, AreObjects, Finds, FillsOpen, AreWritten, AreRead, HasFirstPlace, HasHeads, HasLineObject, gives_by_property, global_in, IsNamed, KnowsAnswers, Covers, Leads, Enters, GoesOn, Asks, Begins, Starts, Takes, TakesBack, comes_back, result_at}
use Rattle.zstate.specs.Step.{words_from}
use Rattle.zrule.proofs.Instances.{by_answers}

-- ---- numbers of rules

numbers : (number_of Decodes ≡ 1) × (number_of Height ≡ 2) × (number_of Local ≡ 3) × (number_of Successor ≡ 4) × (number_of Object ≡ 5) × (number_of Attribute ≡ 6) × (number_of Property ≡ 7) × (number_of Divisor ≡ 8) × (number_of Write ≡ 9) × (number_of Read ≡ 10) × (number_of Text ≡ 11) × (number_of Called ≡ 12) × (number_of Returned ≡ 13) × (number_of Buffers ≡ 14) × (number_of Known ≡ 15) × (number_of Stored ≡ 16) × (number_of High ≡ 17) × (number_of Status ≡ 18)
numbers = (refl, refl, refl, refl, refl, refl, refl, refl, refl, refl, refl, refl, refl, refl, refl, refl, refl, refl)

-- of what is asked of a property, get_prop and get_prop_addr give what is found
found_given : (gives_by_property (Answered Value) ≡ true) × (gives_by_property (Answered Address) ≡ true) × (gives_by_property (Answered Next) ≡ false) × (gives_by_property Filled ≡ false)
found_given = (refl, refl, refl, refl)

-- ---- objects

two_objects : LoadedStory
two_objects = record { memory = []; objects = 2 }

-- each from the first to the last is one, and no other number
are_objects : AreObjects interval_operations two_objects (point 1) × AreObjects interval_operations two_objects (point 2) × (AreObjects interval_operations two_objects (point 0) → ⊥) × (AreObjects interval_operations two_objects (point 3) → ⊥)
unfolding two_objects
are_objects = (
  λ x inside. omega (arith, interval_sound.known (point 1) 1 x refl inside),
  λ x inside. omega (arith, interval_sound.known (point 2) 2 x refl inside),
  λ are. omega (arith, (are 0 (interval_sound.single 0 (omega arith))).0),
  λ are. omega (arith, (are 3 (interval_sound.single 3 (omega arith))).1),
)

-- ---- claims

range : Range
range = record { first = 64; last = 66 }

-- both ends are inside
insides : (is_inside 63 range ≡ false) × (is_inside 64 range ≡ true) × (is_inside 66 range ≡ true) × (is_inside 67 range ≡ false)
unfolding range
insides = (refl, refl, refl, refl)

-- a routine with one local, of which two instructions are listed; the second has two slots, of which 7 is the topmost
certificate : Certificate Interval
certificate = record {
  identity = record { release = 1; serial = 0 ∷ 0 ∷ 0 ∷ 0 ∷ 0 ∷ 0 ∷ []; checksum = 0; length = 1024 };
  limit = None;
  marking = false;
  stating = false;
  ranges = range ∷ record { first = 70; last = 70 } ∷ [];
  globals = replicate 240 (point 3);
  routines = record { address = 0x300; locals = 1; result = point 5 } ∷ [];
  instructions = record { address = 0x302; routine = 1; is_marked = false; locals = point 4 ∷ []; slots = [] } ∷ record { address = 0x305; routine = 1; is_marked = false; locals = point 4 ∷ []; slots = point 6 ∷ point 7 ∷ [] } ∷ [];
  facts = [];
}

shape : Shape Interval
shape = record { locals = point 4 ∷ []; slots = point 7 ∷ point 6 ∷ [] }

-- what is listed is claimed with the top slot first, and nothing is claimed of another place
entries : ((claims_of interval_operations certificate).entry 0x305 ≡ Some (record { routine = 1; shape = shape })) × ((claims_of interval_operations certificate).entry 0x302 ≡ Some (record { routine = 1; shape = record { locals = point 4 ∷ []; slots = [] } })) × ((claims_of interval_operations certificate).entry 0x303 ≡ None)
unfolding certificate shape
entries = (refl, refl, refl)

stays : ((frozen_in (claims_of interval_operations certificate)) 64 ≡ true) × ((frozen_in (claims_of interval_operations certificate)) 67 ≡ false) × ((frozen_in (claims_of interval_operations certificate)) 70 ≡ true)
unfolding certificate range
stays = (refl, refl, refl)

-- the main code, and a routine that isn't there, may give any word
results : ((claims_of interval_operations certificate).result 0 ≡ all_words) × ((claims_of interval_operations certificate).result 1 ≡ point 5) × ((claims_of interval_operations certificate).result 2 ≡ all_words)
unfolding certificate
results = (refl, refl, refl)

-- the first global is no object, or one of them up to the last
saying : ℕ → Claims Interval
saying word = record (claims_of interval_operations certificate) { globals = point word ∷ [] }

line_objects : HasLineObject interval_operations (saying 0) two_objects × HasLineObject interval_operations (saying 2) two_objects × (HasLineObject interval_operations (saying 3) two_objects → ⊥)
unfolding saying two_objects
line_objects = (
  λ x inside. omega (arith, interval_sound.known (point 0) 0 x refl inside),
  λ x inside. omega (arith, interval_sound.known (point 2) 2 x refl inside),
  λ are. omega (arith, are 3 (interval_sound.single 3 (omega arith))),
)

-- a routine begins at one place of a story of 18 bytes, which is static from 16 on
headed : ℕ → Claims Interval
headed place = record (claims_of interval_operations certificate) { routine_at = λ p. if p == place then Some 0 else None }

short_story : LoadedStory
short_story = record { memory = replicate 15 0 ++ 16 ∷ 0 ∷ 0 ∷ []; objects = 0 }

-- the first static place has a head, and no odd one, nor one that is dynamic
heads : HasHeads interval_operations (headed 16) short_story × (HasHeads interval_operations (headed 17) short_story → ⊥) × (HasHeads interval_operations (headed 14) short_story → ⊥)
unfolding headed short_story
heads = (record { even = even; static = static; there = there }, (λ h. let odd = h.even 17 0 refl in absurd cc), λ h. omega (arith, h.static 14 0 refl))
  where
    here : (p k : ℕ) → (if p == 16 then Some 0 else None) ≡ Some k → p ≡ 16
    here p k found = by_test (p == 16) refl found
      where
        by_test : (t : Bool) → (p == 16) ≡ t → (if t then Some 0 else None) ≡ Some k → p ≡ 16
        by_test true is e = eqb-true p 16 is
        by_test false is e = absurd cc

    even : (p k : ℕ) → (if p == 16 then Some 0 else None) ≡ Some k → (p % 2 == 0) ≡ true
    even p k found = rw (here p k found) refl

    static : (p k : ℕ) → (if p == 16 then Some 0 else None) ≡ Some k → 16 ≤ p
    static p k found = omega (arith, here p k found)

    there : (p k : ℕ) → (if p == 16 then Some 0 else None) ≡ Some k → has_head short_story.memory p ≡ true
    there p k found = rw (here p k found) refl

-- ---- what the rules ask

-- an interval, and its ends
abbrev from : (lo hi : ℤ) → int_le lo hi ≡ true → Interval
from lo hi e = record { lo = lo; hi = hi; ordered = in_order lo hi e }

abbrev before : List Interval → List Interval → Shape Interval
before locals slots = record { locals = locals; slots = slots }

-- Global 16 is one of [0, 5], and there is no other. Of routine 1, which gives 0, three places are listed: 8, 13 and 21, with
-- nothing on the stack and one local, of [1, 5] at 13 and of any value at the others.
abbrev of_one : Interval → Entry Interval
of_one a = record { routine = 1; shape = before (a ∷ []) [] }

abbrev listed_at_place : ℕ → Option (Entry Interval)
listed_at_place p = if p == 13 then Some (of_one (from (pos 1) (pos 5) refl)) else (if p == 8 || p == 21 then Some (of_one all_words) else None)

small : Claims Interval
small = record { ranges = []; globals = from (pos 0) (pos 5) refl ∷ []; entry = listed_at_place; facts = λ p. []; result = λ r. point 0; routine_at = λ p. None }

-- the instructions stand at 10, and are of three bytes
abbrev plain : Opcode → List Operand → Instruction
plain opcode operands = record { opcode = opcode; operands = operands; store = None; branch = None; size = 3 }

abbrev storing : Opcode → List Operand → ℕ → Instruction
storing opcode operands v = record (plain opcode operands) { store = Some v }

abbrev branching : Opcode → List Operand → ℤ → Instruction
branching opcode operands offset = record (plain opcode operands) { branch = Some (record { sense = true; offset = offset }) }

abbrev nowhere : LoadedStory
nowhere = record { memory = []; objects = 0 }

-- what a rule asks of an instruction of a routine, by what locals and slots there are, the top first
abbrev of_routine : ℕ → Rule → List Interval → List Interval → Instruction → Type 0
of_routine routine rule locals slots i = Asks interval_operations small nowhere 10 (record { routine = routine; shape = before locals slots }) i rule

abbrev asks : Rule → List Interval → List Interval → Instruction → Type 0
asks = of_routine 1

-- a pop finds a slot
add_top : Instruction
add_top = storing opcodes.Add (Variable 0 ∷ Constant 1 ∷ []) 1

heights : asks Height [] (point 7 ∷ []) add_top × (asks Height [] [] add_top → ⊥)
unfolding add_top operation_of demands_of small
heights = (λ known. (omega arith, tt), λ h. omega (arith, (h tt).0))

-- what is stored in the top's place is popped before
store_top : Instruction
store_top = plain opcodes.Store (Constant 0 ∷ Variable 0 ∷ [])

in_place : asks Height [] (point 7 ∷ point 8 ∷ []) store_top × (asks Height [] (point 7 ∷ []) store_top → ⊥)
unfolding store_top operation_of demands_of small
in_place = (λ known. (omega arith, omega arith), λ h. omega (arith, (h (λ there. refl)).1))

-- where it isn't known which variable is named, nothing is asked of heights
store_any : Instruction
store_any = plain opcodes.Store (Variable 1 ∷ Variable 0 ∷ [])

unknown_height : asks Height (all_words ∷ []) [] store_any
unfolding store_any operation_of demands_of small
unknown_height = λ known. absurd (let none = known (omega arith, omega arith) in cc)

-- nor of locals
store_third : Instruction
store_third = plain opcodes.Store (Variable 1 ∷ Variable 3 ∷ [])

unknown_local : asks Local (all_words ∷ []) [] store_third × (asks Local (point 1 ∷ []) [] store_third → ⊥)
unfolding store_third operation_of demands_of small
unknown_local = (λ known. absurd (let none = known (omega arith, omega arith) in cc), λ l. omega (arith, (l (λ there. refl)).0.1.0))

-- of two locals the second is there and the third isn't: read, given a result, or named
two : List Interval
two = point 4 ∷ point 4 ∷ []

abbrev reads_local : ℕ → Instruction
reads_local v = storing opcodes.Add (Constant 1 ∷ Variable v ∷ []) 1

abbrev gives_local : ℕ → Instruction
gives_local v = storing opcodes.Add (Constant 1 ∷ Constant 1 ∷ []) v

abbrev names_local : ℕ → Instruction
names_local v = plain opcodes.Inc (Constant v ∷ [])

locals : asks Local two [] (reads_local 2) × asks Local two [] (gives_local 2) × asks Local two [] (names_local 2)
unfolding two operation_of demands_of small
locals = (λ known. ((omega arith, (omega arith, tt)), omega arith, tt), λ known. ((omega arith, (omega arith, tt)), omega arith, tt), λ known. ((omega arith, tt), tt, omega arith))

no_locals : (asks Local two [] (reads_local 3) → ⊥) × (asks Local two [] (gives_local 3) → ⊥) × (asks Local two [] (names_local 3) → ⊥)
unfolding two operation_of demands_of small
no_locals = (λ l. omega (arith, (l tt).0.1.0), λ l. omega (arith, (l tt).1), λ l. omega (arith, (l (λ there. refl)).2))

-- the one global is there, and the next isn't
a_global_named : asks Local [] [] (names_local 16) × (asks Local [] [] (names_local 17) → ⊥)
unfolding operation_of demands_of small
a_global_named = (λ known. ((omega arith, tt), tt, (omega arith, omega arith)), λ l. omega (arith, (l (λ there. refl)).2.1))

-- a constant is a word, and a variable a byte
many : Claims Interval
many = record small { globals = replicate 241 (point 0) }

numbered : IsNamed interval_operations many (before [] []) (Constant 65535) × (IsNamed interval_operations many (before [] []) (Constant 65536) → ⊥) × IsNamed interval_operations many (before [] []) (Variable 255) × (IsNamed interval_operations many (before [] []) (Variable 256) → ⊥)
unfolding many
numbered = (omega arith, λ n. omega (arith, n), (omega arith, omega arith), λ n. omega (arith, n.0))

-- local 15 is there where there are so many, takes any value, and is no global
last_local : IsNamed interval_operations many (before (replicate 15 (point 0)) []) (Variable 15) × (IsNamed interval_operations many (before [] []) (Variable 15) → ⊥) × Takes interval_operations many (Some (point 5)) 15
unfolding many
last_local = (omega arith, (λ n. omega (arith, n)), tt)

-- the last attribute, and no further one
attribute : ℕ → Instruction
attribute number = branching opcodes.TestAttr (Constant 1 ∷ Constant number ∷ []) (pos 8)

attributes : asks Attribute [] [] (attribute 31) × (asks Attribute [] [] (attribute 32) → ⊥)
unfolding attribute operation_of demands_of small
attributes = (λ x inside. omega (arith, interval_sound.known (point 31) 31 x refl inside), λ asked. omega (arith, asked 32 (interval_sound.single 32 (omega arith))))

-- a divisor may be anything but 0
divide : Instruction
divide = storing opcodes.Div (Constant 7 ∷ Variable 1 ∷ []) 1

divisors : asks Divisor (from (pos 1) (pos 5) refl ∷ []) [] divide × asks Divisor (from (negsuc 4) (negsuc 0) refl ∷ []) [] divide × (asks Divisor (from (pos 0) (pos 5) refl ∷ []) [] divide → ⊥)
unfolding divide operation_of demands_of small
divisors = (λ zero. zero.member.0.le, λ zero. zero.member.1.le, λ d. d (record { word = omega arith; member = (record { le = tt }, record { le = tt }) }))

-- routine 1 may return 0 and not 1, and the main code nothing
jz : ℤ → Instruction
jz offset = branching opcodes.Jz (Variable 1 ∷ []) offset

any_local : List Interval
any_local = all_words ∷ []

low_local : List Interval
low_local = from (pos 1) (pos 5) refl ∷ []

returns_zero : asks Returned any_local [] (jz (pos 0))
unfolding jz any_local operation_of outcome_of small
returns_zero = by_answers small 10 (jz (pos 0)) (before any_local []) _ (omega arith, λ x inside. inside) tt

other_returns : (asks Returned any_local [] (jz (pos 1)) → ⊥) × (of_routine 0 Returned any_local [] (jz (pos 0)) → ⊥)
unfolding jz any_local operation_of outcome_of small
other_returns = (λ r. ((r _ (true, refl)).1 1 (interval_sound.single 1 (omega arith))).member.1.le, λ r. omega (arith, (r _ (true, refl)).0))

-- a branch that is never taken returns nothing
never_returns : of_routine 0 Returned low_local [] (jz (pos 0))
unfolding jz low_local operation_of outcome_of small
never_returns = by_answers small 10 (jz (pos 0)) (before low_local []) _ tt tt

-- nor does one that leaves a local no value
narrowed_out : of_routine 0 Returned (from (pos 0) (pos 1) refl ∷ []) [] (branching opcodes.Jl (Variable 1 ∷ Variable 1 ∷ []) (pos 0))
unfolding operation_of outcome_of small
narrowed_out = by_answers small 10 (branching opcodes.Jl (Variable 1 ∷ Variable 1 ∷ []) (pos 0)) (before (from (pos 0) (pos 1) refl ∷ []) []) _ tt tt

-- a text has an end
no_text : asks Text [] [] (plain opcodes.Print []) → ⊥
unfolding operation_of demands_of
no_text t = let found = t.0.found in cc

-- a variable that is named by one value is known, up to 255
store_named : Instruction
store_named = plain opcodes.Store (Variable 1 ∷ Constant 5 ∷ [])

known : asks Known (point 255 ∷ []) [] store_named × (asks Known (point 256 ∷ []) [] store_named → ⊥) × (asks Known (from (pos 1) (pos 2) refl ∷ []) [] store_named → ⊥)
unfolding store_named operation_of demands_of small
known = (λ there. refl, λ k. let none = k (omega arith, omega arith) in cc, λ k. let none = k (omega arith, omega arith) in cc)

-- nothing is asked of it where it isn't there
not_there : asks Known [] [] store_named
unfolding store_named operation_of demands_of small
not_there = λ there. absurd (omega (arith, there.1))

-- one that is named by the top of the stack is there where there is a slot, whatever locals there are
store_by_top : Instruction
store_by_top = plain opcodes.Store (Variable 0 ∷ Constant 5 ∷ [])

named_by_top : (asks Known [] (point 256 ∷ []) store_by_top → ⊥) × asks Known (point 256 ∷ []) [] store_by_top
unfolding store_by_top operation_of demands_of small
named_by_top = (λ k. let none = k (omega arith, omega arith) in cc, λ there. absurd (omega (arith, there.0)))

-- both numbers of a move are of objects
abbrev moves : ℕ → ℕ → Type 0
moves object under = Asks interval_operations small two_objects 10 (record { routine = 1; shape = before [] [] }) (plain opcodes.InsertObj (Constant object ∷ Constant under ∷ [])) Object

both_objects : moves 1 2 × (moves 3 2 → ⊥) × (moves 1 3 → ⊥)
unfolding operation_of demands_of small two_objects
both_objects = (
  (λ x inside. omega (arith, interval_sound.known (point 1) 1 x refl inside), λ x inside. omega (arith, interval_sound.known (point 2) 2 x refl inside)),
  λ n. omega (arith, (n.0 3 (interval_sound.single 3 (omega arith))).1),
  λ n. omega (arith, (n.1 3 (interval_sound.single 3 (omega arith))).1),
)

-- global 16 takes 5 and not 6, as a result and in place
abbrev gives_global : ℕ → Instruction
gives_global x = storing opcodes.Or (Constant x ∷ Constant x ∷ []) 16

abbrev stores_global : ℕ → Instruction
stores_global x = plain opcodes.Store (Constant 16 ∷ Constant x ∷ [])

upper : Within interval_operations (point 5) (from (pos 0) (pos 5) refl)
upper x inside = let above = inside.member.0 in record { word = inside.word; member = (omega (arith, ints), inside.member.1) }

stores_five : asks Stored [] [] (gives_global 5) × asks Stored [] [] (stores_global 5)
unfolding operation_of outcome_of small
stores_five = (by_answers small 10 (gives_global 5) (before [] []) _ (upper, tt, tt) tt, by_answers small 10 (stores_global 5) (before [] []) _ (tt, upper, tt) tt)

not_six : (asks Stored [] [] (gives_global 6) → ⊥) × (asks Stored [] [] (stores_global 6) → ⊥)
unfolding operation_of outcome_of small
not_six = (λ s. ((s _ (true, refl)).0 6 (interval_sound.single 6 (omega arith))).member.1.le, λ s. ((s _ (true, refl)).1 6 (interval_sound.single 6 (omega arith))).member.1.le)

-- nor is it counted beyond its set
not_counted : asks Stored [] [] (plain opcodes.Inc (Constant 16 ∷ [])) → ⊥
unfolding operation_of outcome_of small
not_counted s = ((s _ (true, refl)).1 6 (record { word = omega arith; member = (record { le = tt }, record { le = tt }) })).member.1.le

-- a stack may have 64 slots, and no more
push : Instruction
push = plain opcodes.Push (Constant 7 ∷ [])

high : asks High [] (replicate 63 (point 7)) push × (asks High [] (replicate 64 (point 7)) push → ⊥)
unfolding push operation_of outcome_of small
high = (by_answers small 10 push (before [] (replicate 63 (point 7))) _ (omega arith) tt, λ h. omega (arith, h _ (true, refl)))

-- a line goes where buffers are, each at one known address, and the status line is shown first
abbrev sread : Operand → Operand → Instruction
sread texts parses = plain opcodes.Sread (texts ∷ parses ∷ [])

takes_line : (IsTextBuffer nowhere (frozen_in small) 640 → IsParseBuffer nowhere (frozen_in small) 656 → asks Buffers [] [] (sread (Constant 640) (Constant 656))) × (asks Buffers [] [] (sread (Constant 640) (Constant 656)) → IsTextBuffer nowhere (frozen_in small) 640 × IsParseBuffer nowhere (frozen_in small) 656)
unfolding operation_of demands_of small
takes_line = (λ text parse. (text, parse), λ b. b)

unknown_buffers : (asks Buffers (from (pos 640) (pos 641) refl ∷ []) [] (sread (Variable 1) (Constant 656)) → ⊥) × (asks Buffers (from (pos 656) (pos 657) refl ∷ []) [] (sread (Constant 640) (Variable 1)) → ⊥)
unfolding operation_of demands_of small
unknown_buffers = (λ b. b.0, λ b. b.1)

line_with_status : (asks Status [] [] (sread (Constant 640) (Constant 656)) → ⊥) × asks Status [] [] (plain opcodes.NewLine [])
unfolding operation_of demands_of small
line_with_status = (λ s. (let few = s 5 (record { word = omega arith; member = (record { le = tt }, record { le = tt }) }) in omega (arith, few)), tt)

-- what two operands name together is asked of the one and of the other
abbrev first_set : Interval
first_set = from (pos 1) (pos 2) refl

abbrev second_set : Interval
second_set = from (pos 3) (pos 5) refl

abbrev of_both : Rule → Opcode → List Operand → Type 0
of_both rule opcode more = asks rule (first_set ∷ second_set ∷ []) [] (plain opcode (Variable 1 ∷ Variable 2 ∷ more))

elements_asked :
    ((AreWritten interval_operations nowhere (frozen_in small) Writing Byte first_set second_set → of_both Write opcodes.Storeb (Constant 7 ∷ [])) × (of_both Write opcodes.Storeb (Constant 7 ∷ []) → AreWritten interval_operations nowhere (frozen_in small) Writing Byte first_set second_set))
    × ((AreRead interval_operations nowhere Reading Byte first_set second_set → of_both Read opcodes.Loadb []) × (of_both Read opcodes.Loadb [] → AreRead interval_operations nowhere Reading Byte first_set second_set))
unfolding operation_of demands_of small
elements_asked = ((λ w. (tt, w), λ a. a.1), (λ r. (tt, r), λ a. a.1))

properties_asked :
    ((Finds interval_operations nowhere (Answered Value) first_set second_set → of_both Property opcodes.GetProp []) × (of_both Property opcodes.GetProp [] → Finds interval_operations nowhere (Answered Value) first_set second_set))
    × ((FillsOpen interval_operations nowhere (frozen_in small) Filled first_set second_set → of_both Write opcodes.PutProp (Constant 7 ∷ [])) × (of_both Write opcodes.PutProp (Constant 7 ∷ []) → FillsOpen interval_operations nowhere (frozen_in small) Filled first_set second_set))
unfolding operation_of demands_of small
properties_asked = ((λ f. f, λ a. a), (λ s. (s, tt), λ a. a.0))

-- which is that an answer is there, or that a word can be put where all data are open; that all is open, or can be read
together :
    (Finds interval_operations nowhere (Answered Value) first_set second_set → AreAnswered interval_operations nowhere Value first_set second_set)
    × (Finds interval_operations nowhere Filled first_set second_set → CanBePut interval_operations nowhere first_set second_set)
    × (FillsOpen interval_operations nowhere (frozen_in small) Filled first_set second_set → HaveOpenData interval_operations nowhere (frozen_in small) first_set second_set)
    × (AreWritten interval_operations nowhere (frozen_in small) Writing Byte first_set second_set → AreOpen interval_operations nowhere (frozen_in small) Byte first_set second_set)
    × (AreRead interval_operations nowhere Reading Byte first_set second_set → AreReadable interval_operations nowhere Byte first_set second_set)
together = (λ a. a, λ a. a, λ a. a, λ a. a, λ a. a)

-- what has no object, or no answer, isn't known, and then I4 asks nothing
asks_property : Instruction
asks_property = storing opcodes.GetProp (Variable 1 ∷ Variable 2 ∷ []) 1

no_object : asks Successor (point 0 ∷ point 5 ∷ []) [] asks_property
unfolding asks_property operation_of demands_of small
no_object = λ divides reads known begins. absurd (omega (arith, (known.0.0 0 (interval_sound.single 0 (omega arith))).0))

known_answers : KnowsAnswers interval_operations small 10 nowhere asks_property (before (first_set ∷ second_set ∷ []) []) → Finds interval_operations nowhere (Answered Value) first_set second_set
unfolding asks_property operation_of demands_of small
known_answers known = known.1

-- a length is read before an address, where there is no memory just at address 0
asks_length : Instruction
asks_length = storing opcodes.GetPropLen (Variable 1 ∷ []) 1

lengths : asks Read (point 0 ∷ []) [] asks_length × (asks Read (point 5 ∷ []) [] asks_length → ⊥)
unfolding asks_length operation_of demands_of small
lengths = ((λ x inside. rw (interval_sound.known (point 0) 0 x refl inside) refl, tt), λ r. let none = r.0 5 (interval_sound.single 5 (omega arith)) in absurd cc)

-- texts are printed by their addresses, and short names by the numbers of their objects
texts_asked :
    (AreFixedTexts interval_operations nowhere (frozen_in small) ByAddress first_set → asks Text (first_set ∷ []) [] (plain opcodes.PrintAddr (Variable 1 ∷ [])))
    × (asks Text (first_set ∷ []) [] (plain opcodes.PrintAddr (Variable 1 ∷ [])) → AreFixedTexts interval_operations nowhere (frozen_in small) ByAddress first_set)
    × (AreFixedNames interval_operations nowhere (frozen_in small) first_set → asks Text (first_set ∷ []) [] (plain opcodes.PrintObj (Variable 1 ∷ [])))
    × (asks Text (first_set ∷ []) [] (plain opcodes.PrintObj (Variable 1 ∷ [])) → AreFixedNames interval_operations nowhere (frozen_in small) first_set)
unfolding operation_of demands_of small
texts_asked = (λ f. (tt, f, tt), λ t. t.1, λ f. (tt, tt, f), λ t. t.2)

-- ---- edges

-- an edge leads to the one place that is so far behind another
leads_there : (r : ℕ) (f : Shape Interval) (q : ℕ) (d : ℤ) (p : ℕ) → (pos q +ℤ d) ≡ pos p → GoesOn interval_operations small r 0 small.globals f q (Ahead d) → Leads interval_operations small r small.globals f p
leads_there r f q d p same (to, at, leads) = subst (Leads interval_operations small r small.globals f) (same_place to p (sym at ∙ same)) leads
  where
    same_place : (m n : ℕ) → pos m ≡ pos n → m ≡ n
    same_place m n e = cc

-- not where none is listed
unlisted : (f : Shape Interval) (q : ℕ) (d : ℤ) (p : ℕ) → (pos q +ℤ d) ≡ pos p → small.entry p ≡ None → GoesOn interval_operations small 1 0 small.globals f q (Ahead d) → ⊥
unlisted f q d p same none goes = let leads = leads_there 1 f q d p same goes in let listed = leads.listed in cc

-- nor where fewer values are
uncovered : (a b : Interval) (q : ℕ) (d : ℤ) (p x : ℕ) → (pos q +ℤ d) ≡ pos p → small.entry p ≡ Some (of_one b) → In interval_operations a x → (In interval_operations b x → ⊥) → GoesOn interval_operations small 1 0 small.globals (before (a ∷ []) []) q (Ahead d) → ⊥
uncovered a b q d p x same listed inside outside goes =
    let leads = leads_there 1 (before (a ∷ []) []) q d p same goes in
    let is : leads.entry ≡ of_one b = same_Some leads.entry (of_one b) (sym leads.listed ∙ listed) in
    outside ((subst (λ (e : Entry Interval). Covers interval_operations (before (a ∷ []) []) e.shape) is leads.covered).locals.0 x inside)

covered : (a b : Interval) (p : ℕ) → small.entry p ≡ Some (of_one b) → Within interval_operations a b → Leads interval_operations small 1 small.globals (before (a ∷ []) []) p
unfolding small
covered a b p listed within = record { entry = of_one b; listed = listed; same = refl; covered = record { locals = (within, tt); slots = tt }; implied = tt }

-- of a branch that is never taken only what follows has to be listed, and else where it leads too
one_edge : asks Successor low_local [] (jz (pos 500))
unfolding jz low_local operation_of demands_of outcome_of small
one_edge = λ divides reads knows begins. (refl, by_answers small 10 (jz (pos 500)) (before low_local []) _ tt (λ low. (13, refl, covered (from (pos 1) (pos 5) refl) (from (pos 1) (pos 5) refl) 13 refl (λ x inside. inside))))

both_edges : asks Successor any_local [] (jz (pos 500)) → ⊥
unfolding jz any_local operation_of demands_of outcome_of small
both_edges s = unlisted _ 13 (pos 498) 511 refl refl ((s tt (tt, tt) tt (by_answers small 10 (jz (pos 500)) (before any_local []) _ tt tt)).1 _ (true, refl) (omega arith))

-- what is listed for one routine isn't for another
elsewhere : of_routine 2 Successor low_local [] (jz (pos 500)) → ⊥
unfolding jz low_local operation_of demands_of outcome_of small
elsewhere s =
    let leads = leads_there 2 _ 13 (pos 0) 13 refl ((s tt (tt, tt) tt (by_answers small 10 (jz (pos 500)) (before low_local []) _ tt tt)).1 _ (false, refl) (omega arith)) in
    let is : leads.entry ≡ of_one (from (pos 1) (pos 5) refl) = same_Some leads.entry (of_one (from (pos 1) (pos 5) refl)) (sym leads.listed) in
    omega (arith, ap (λ (e : Entry Interval). e.routine) is, leads.same)

-- what follows has to be listed where the branch may not be taken
abbrev longer : Instruction → Instruction
longer i = record i { size = 5 }

not_taken : asks Successor any_local [] (longer (jz (pos 8))) → ⊥
unfolding jz any_local operation_of demands_of outcome_of small
not_taken s = unlisted _ 15 (pos 0) 15 refl refl ((s tt (tt, tt) tt (by_answers small 10 (longer (jz (pos 8))) (before any_local []) _ tt tt)).1 _ (false, refl) (omega arith))

-- with all that the branch leaves of a local: [0, 5] without 0, and not [0, 6]
narrowed : asks Successor (from (pos 0) (pos 5) refl ∷ []) [] (jz (pos 10))
unfolding jz operation_of demands_of outcome_of small
narrowed = λ divides reads knows begins. (refl, by_answers small 10 (jz (pos 10)) (before (from (pos 0) (pos 5) refl ∷ []) []) _ (λ low. (21, refl, covered (point 0) all_words 21 refl (λ x inside. interval_sound.any x inside.word))) (λ low. (13, refl, covered (from (pos 1) (pos 5) refl) (from (pos 1) (pos 5) refl) 13 refl (λ x inside. inside))))

not_narrowed : asks Successor (from (pos 0) (pos 6) refl ∷ []) [] (jz (pos 10)) → ⊥
unfolding jz operation_of demands_of outcome_of small
not_narrowed s =
    uncovered (from (pos 1) (pos 6) refl) (from (pos 1) (pos 5) refl) 13 (pos 0) 13 6 refl refl (record { word = omega arith; member = (record { le = tt }, record { le = tt }) }) (λ inside. inside.member.1.le)
    ((s tt (tt, tt) tt (by_answers small 10 (jz (pos 10)) (before (from (pos 0) (pos 6) refl ∷ []) []) _ tt tt)).1 _ (false, refl) (omega arith))

-- a jump goes one known way: back to 8, but not before the first byte, and of two values nowhere
jump : Operand → Instruction
jump operand = plain opcodes.Jump (operand ∷ [])

goes_back : asks Successor any_local [] (jump (Constant 0xFFFD))
unfolding jump any_local operation_of demands_of outcome_of small
goes_back = λ divides reads knows begins. (refl, by_answers small 10 (jump (Constant 0xFFFD)) (before any_local []) _ (λ low. (8, refl, covered all_words all_words 8 refl (λ x inside. inside))) tt)

goes_nowhere : (asks Successor any_local [] (jump (Constant 0xFFF3)) → ⊥) × (asks Successor (from (pos 1) (pos 2) refl ∷ []) [] (jump (Variable 1)) → ⊥)
unfolding jump any_local operation_of demands_of outcome_of small
goes_nowhere = (λ s. let place = ((s tt (tt, tt) tt (by_answers small 10 (jump (Constant 0xFFF3)) (before any_local []) _ tt tt)).1 _ (true, refl) (omega arith)).1 in cc, λ s. let certain = (s tt (tt, tt) tt (by_answers small 10 (jump (Variable 1)) (before (from (pos 1) (pos 2) refl ∷ []) []) _ tt tt)).0 in cc)

-- nothing has to follow `quit`, what may divide by 0, or what makes the stack too high: other rules refuse the last two
nothing_follows : asks Successor [] [] (longer (plain opcodes.Quit [])) × asks Successor (from (pos 0) (pos 5) refl ∷ []) [] (longer divide) × asks Successor [] (replicate 64 (point 7)) (longer push)
unfolding divide push operation_of demands_of outcome_of small
nothing_follows = (
  λ divides reads knows begins. (refl, by_answers small 10 (longer (plain opcodes.Quit [])) (before [] []) _ tt tt),
  λ divides reads knows begins. absurd (divides (record { word = omega arith; member = (record { le = tt }, record { le = tt }) })),
  λ divides reads knows begins. (refl, by_answers small 10 (longer push) (before [] (replicate 64 (point 7))) _ (λ low. absurd (omega (arith, low))) tt),
)

-- ---- values that are stored

frame : Frame
frame = record { return_place = 0; result = 0; supplied = 0; locals = 4 ∷ []; stack = 8 ∷ [] }

-- a value goes on the stack as its top, into a local, or into a global whose set has it; nothing else takes one
stored : (FitsWith interval_operations (claims_of interval_operations certificate) 0 9 shape frame → Fits interval_operations (claims_of interval_operations certificate) shape (4 ∷ []) (9 ∷ 8 ∷ [])) × (FitsWith interval_operations (claims_of interval_operations certificate) 1 9 shape frame → Fits interval_operations (claims_of interval_operations certificate) shape (9 ∷ []) (8 ∷ [])) × (FitsWith interval_operations (claims_of interval_operations certificate) 255 9 shape frame → In interval_operations (point 3) 9)
unfolding certificate frame
stored = (λ fits. fits, λ fits. fits.1, λ fits. fits.1)

not_stored : (FitsWith interval_operations (claims_of interval_operations certificate) 2 9 shape frame → ⊥) × (FitsWith interval_operations (claims_of interval_operations certificate) 256 9 shape frame → ⊥)
unfolding certificate frame
not_stored = (λ fits. omega (arith, fits.0), λ fits. omega (arith, fits.0))

-- a local takes one where the frame has no stack, and none where it has a stack alone
abbrev of_local : Frame
of_local = record { return_place = 0; result = 0; supplied = 0; locals = 4 ∷ []; stack = [] }

abbrev of_slot : Frame
of_slot = record { return_place = 0; result = 0; supplied = 0; locals = []; stack = 4 ∷ [] }

stored_in_local : FitsWith interval_operations small 1 9 (before (point 9 ∷ []) []) of_local × (FitsWith interval_operations small 1 9 (before [] (point 4 ∷ [])) of_slot → ⊥)
stored_in_local = ((omega arith, record { in_locals = (interval_sound.single 9 (omega arith), tt); in_slots = tt }), λ fits. omega (arith, fits.0))

-- a caller takes whatever the routine above it may give, in the variable that the frame above it keeps, and was called by its own callers
called_by :
    (routine place result : ℕ) (g : Frame) (gs : List Frame) (c : Callers interval_operations small routine place result (g ∷ gs))
    → (1 ≤ routine) × (small.entry place ≡ Some c.1) × ((x : ℕ) → In interval_operations (small.result routine) x → FitsWith interval_operations small result x c.1.shape g)
    × AreImplied interval_operations small.globals (small.facts place) × Callers interval_operations small c.1.routine g.return_place g.result gs
called_by routine place result g gs c = (c.0, c.2, c.3, c.4, c.5)

-- a global that takes a value leaves the frame as it is
stored_in_global : FitsWith interval_operations small 16 3 (before (point 4 ∷ []) []) of_local
unfolding small
stored_in_global = (omega arith, record { word = omega arith; member = (record { le = tt }, record { le = tt }) }, record { in_locals = (interval_sound.single 4 (omega arith), tt); in_slots = tt })

-- the newest frame of a state fits, with its locals and its stack, and so do its callers
fits_of : (story : LoadedStory) (s : State) (d : Described interval_operations small 5 story s) → Fits interval_operations small d.entry.shape s.frame.locals s.frame.stack
fits_of story s d = d.fits

callers_of : (story : LoadedStory) (s : State) (d : Described interval_operations small 5 story s) → Callers interval_operations small d.entry.routine s.frame.return_place s.frame.result s.callers
callers_of story s d = d.callers

-- of a scope that has what is listed, each listed place may be played, and each routine called
listed_in : (scope : Scope) (l : IsListedIn interval_operations small scope) → (scope.instructions 8 ≡ true) × ((p k : ℕ) → small.routine_at p ≡ Some k → scope.routines p ≡ true)
unfolding small
listed_in scope l = (l.places 8 _ refl refl, l.routines)

-- the first place is in the main code, which has no locals, with an empty stack
begins_with : ℕ → Shape Interval → Claims Interval
begins_with number said = record small { entry = λ p. Some (record { routine = number; shape = said }) }

first_place : HasFirstPlace interval_operations (begins_with 0 (before [] [])) nowhere × (HasFirstPlace interval_operations (begins_with 1 (before [] [])) nowhere → ⊥)
unfolding begins_with small
first_place = (record { entry = record { routine = 0; shape = before [] [] }; listed = refl; main = refl; no_locals = refl; no_slots = refl; implied = tt }, λ f. let is = same_Some _ _ f.listed in omega (arith, ap (λ (e : Entry Interval). e.routine) is, f.main))

first_place_empty : (HasFirstPlace interval_operations (begins_with 0 (before (point 1 ∷ []) [])) nowhere → ⊥) × (HasFirstPlace interval_operations (begins_with 0 (before [] (point 1 ∷ []))) nowhere → ⊥)
unfolding begins_with
first_place_empty = (λ f. let is = ap (λ (e : Entry Interval). e.shape.locals) (same_Some _ _ f.listed) ∙ f.no_locals in absurd cc, λ f. let is = ap (λ (e : Entry Interval). e.shape.slots) (same_Some _ _ f.listed) ∙ f.no_slots in absurd cc)

-- ---- globals of a memory

-- the globals are at 16, and the first two are 0x102 and 0x304
with_globals : LoadedStory
with_globals = record { memory = replicate 12 0 ++ 0 ∷ 16 ∷ 0 ∷ 0 ∷ 1 ∷ 2 ∷ 3 ∷ 4 ∷ []; objects = 0 }

loaded_values : (global_in with_globals with_globals.memory 0 ≡ 0x102) × (global_in with_globals with_globals.memory 1 ≡ 0x304)
unfolding with_globals
loaded_values = (refl, refl)

-- ---- routines that are called

-- at 4 a routine begins with two locals, of 7 and 9 at first, and its code at 9; it gives 5
two_locals : LoadedStory
two_locals = record { memory = 0 ∷ 0 ∷ 0 ∷ 0 ∷ 2 ∷ 0 ∷ 7 ∷ 0 ∷ 9 ∷ []; objects = 0 }

abbrev begun : Entry Interval
begun = record { routine = 1; shape = before (from (pos 0) (pos 7) refl ∷ point 9 ∷ []) [] }

routines : Claims Interval
routines = record { ranges = []; globals = from (pos 0) (pos 4) refl ∷ []; entry = λ p. if p == 9 then Some begun else None; facts = λ p. []; result = λ r. point 5; routine_at = λ p. if p == 4 then Some 0 else None }

seven : In interval_operations (from (pos 0) (pos 7) refl) 7
seven = record { word = omega arith; member = (record { le = tt }, record { le = tt }) }

-- with no argument, with one that its first local takes, and with a spare one
begins_there : Begins interval_operations routines two_locals [] 4 × Begins interval_operations routines two_locals (from (pos 0) (pos 7) refl ∷ []) 4 × Begins interval_operations routines two_locals (from (pos 0) (pos 7) refl ∷ point 9 ∷ all_words ∷ []) 4
unfolding words_from routines two_locals
begins_there =
    let first = interval_sound.single 9 (omega arith) in (
      record { index = 0; routine = refl; entry = begun; listed = refl; same = refl; empty = refl; starts = (seven, (first, tt)); implied = tt },
      record { index = 0; routine = refl; entry = begun; listed = refl; same = refl; empty = refl; starts = (λ x inside. inside, (first, tt)); implied = tt },
      record { index = 0; routine = refl; entry = begun; listed = refl; same = refl; empty = refl; starts = (λ x inside. inside, (λ x inside. inside, tt)); implied = tt },
    )

-- not where an argument may be 8, and not at another place
eight : Begins interval_operations routines two_locals (point 8 ∷ []) 4 → In interval_operations (from (pos 0) (pos 7) refl) 8
unfolding words_from routines two_locals
eight b =
    let is : b.entry ≡ begun = same_Some b.entry begun (sym b.listed) in
    (subst (λ (e : Entry Interval). Starts interval_operations routines (point 8 ∷ []) (7 ∷ 9 ∷ []) e.shape.locals) is b.starts).0 8 (interval_sound.single 8 (omega arith))

not_begun : (Begins interval_operations routines two_locals (point 8 ∷ []) 4 → ⊥) × (Begins interval_operations routines two_locals [] 6 → ⊥)
unfolding routines
not_begun = (λ b. (eight b).member.1.le, λ b. let none = b.routine in cc)

-- what it gives is that of its claims; of no routine it may be any word
gives_back : (result_at interval_operations routines 4 ≡ point 5) × (result_at interval_operations routines 6 ≡ all_words)
unfolding routines
gives_back = (refl, refl)

-- behind a call play goes on in the routine of the call, whichever variable takes the result
leads_behind : (r v : ℕ) (known : List Interval) (f : Shape Interval) (q : ℕ) → GoesOn interval_operations routines r v known f q (Entering (point 2)) → Leads interval_operations routines r routines.globals (with_result (Some (result_at interval_operations routines 4)) v f) q
leads_behind r v known f q goes_on = goes_on 2 (interval_sound.single 2 (omega arith)) (λ e. omega (arith, e))

-- a global doesn't take it
untaken : TakesBack interval_operations routines 16 (Entering (point 2)) → ⊥
unfolding routines
untaken takes = (takes 2 (interval_sound.single 2 (omega arith)) (λ e. omega (arith, e)) 5 (interval_sound.single 5 (omega arith))).member.1.le

-- an address is asked of any number, an answer asks for no open data, what is read needn't be open nor what is written read, and a
-- return leads to no place
nothing_asked :
    Finds interval_operations two_objects (Answered Address) (point 1) (point 9) × FillsOpen interval_operations two_objects (λ p. true) (Answered Value) (point 1) (point 1)
    × AreWritten interval_operations two_objects (λ p. true) Reading Byte (point 0) (point 0) × AreRead interval_operations two_objects Writing Byte (point 0) (point 0)
    × Enters interval_operations routines two_objects [] (Returning (point 2)) × GoesOn interval_operations routines 0 16 [] shape 0 (Returning (point 2)) × TakesBack interval_operations routines 16 (Returning (point 2))
nothing_asked = ((λ x n least most object number. refl), tt, tt, tt, tt, tt, tt)

-- a stack of 64 slots is low, and one of 65 isn't
low : StaysLow interval_operations routines 16 (Returning (point 2)) (record { locals = []; slots = replicate 64 (point 0) }) × (StaysLow interval_operations routines 16 (Returning (point 2)) (record { locals = []; slots = replicate 65 (point 0) }) → ⊥)
low = (omega arith, λ stays. omega (arith, stays))

-- the result of a call lies on the stack behind it, and that of a return doesn't
comes : (comes_back interval_operations routines (Entering (point 2)) ≡ Some all_words) × (comes_back interval_operations routines (Returning (point 2)) ≡ None)
comes = (refl, refl)
