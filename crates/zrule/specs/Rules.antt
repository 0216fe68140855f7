-- What a certificate must say of a story: sentences over its claims (own). A rule has the number that a refusal shows.
use Rattle.std.specs.Prelude.{◌≡◌, ℕ, suc, ◌∷◌, ◌%◌, ◌+◌, ◌-◌, ◌*◌, ◌<◌, ◌≤◌, Bool, true, false, List, [], length, drop, take, Option, Some, None, IfSome, MatchOption, IsTrue, is_some, Ok, slice_get, ◌==◌, nat_lt, pos, ◌+ℤ◌}
use Rattle.std.specs.Bool.{OnTrue, MatchBool}
use Rattle.std.specs.List.{AllZip, AllByRecursion}
use Rattle.zstory.specs.Bytes.{word_at}
use Rattle.zstory.specs.LoadedStory.{LoadedStory, first_instruction, globals, object_table, static_base}
use Rattle.zobj.specs.declared.answers.PropertyQuestion.TheVariants.{Value, Address, Next}
use Rattle.zobj.specs.Tree.{IsTree}
use Rattle.zobj.specs.Values.{length_before}
use Rattle.ztext.specs.Abbreviations.{IsPlainAbbreviation}
use Rattle.zcode.specs.declared.instr.Operand.{Operand}
use Rattle.zcode.specs.declared.instr.Operand.TheVariants.{Constant, Variable}
use Rattle.zcode.specs.Instruction.{Instruction}
use Rattle.zcode.specs.Operation.{inputs, target}
use Rattle.zcode.specs.Reading.{instruction_at}
use Rattle.zdomain.specs.Domain.{SetOperations, In, Within}
use Rattle.zstate.specs.State.{has_head}
use Rattle.zstate.specs.Step.{initial, behind_head, unpacked}
use Rattle.zrule.specs.declared.rule.Rule.{Rule}
use Rattle.zrule.specs.declared.rule.Rule.TheVariants as rules
use Rattle.zrule.specs.Numbers.{number_of}
use Rattle.zcert.specs.declared.parts.Fact.{Fact}
use Rattle.zrule.specs.Claims.{Entry, Claims, frozen_in, told_of, globals_at}
use Rattle.zplace.specs.Bytes.{IsWithin, IsChanging, IsAbbreviation}
use Rattle.zplace.specs.Tables.{HasPropertyTables}
use Rattle.zpairs.specs.Pairs.{AreAnswered, CanBePut, HaveOpenData}
use Rattle.zflow.specs.declared.parts.Lead.{Lead}
use Rattle.zflow.specs.declared.parts.Lead.TheVariants.{Ahead, Returning, Entering}
use Rattle.zarray.specs.declared.width.Width.{Width}
use Rattle.zruns.specs.Runs.{AreOpen, AreReadable}
use Rattle.zruns.specs.Texts.{AreFixedTexts, HasFixedText}
use Rattle.zruns.specs.Names.{AreFixedNames}
use Rattle.zruns.specs.Buffers.{AreBuffers}
use Rattle.zflow.specs.declared.parts.Access.{Access}
use Rattle.zflow.specs.declared.parts.Access.TheVariants.{Reading, Writing}
use Rattle.zflow.specs.declared.parts.Asked.{Asked}
use Rattle.zflow.specs.declared.parts.Asked.TheVariants.{Answered, Filled}
use Rattle.zflow.specs.declared.parts.Demands.{Demands}
use Rattle.zflow.specs.declared.parts.Outcome.{Outcome}
use Rattle.zflow.specs.Transfer.{Shape, pops, leading, slots_with, with_result, demands_at as asked_for, outcome_at, argument_sets, mid_shape, after, globals_after}

-- ---- rules on the story

-- S7: each abbreviation is whole in memory and uses none, and no instruction changes a byte of one or of a word that
-- leads to one
pub record HasAbbreviations (story : LoadedStory) : Type 0 where
  pub plain : (n : ℕ) → n < 96 → IsPlainAbbreviation story.memory n
  pub unchanging : (p : ℕ) → IsAbbreviation story p → IsChanging story p → ⊥

-- S8: the globals, and the object table with its entries, share no byte; what is frozen lies in dynamic memory behind
-- the header, and no instruction changes it
pub record HasDisjointTables (story : LoadedStory) (is_frozen : ℕ → Bool) : Type 0 where
  pub apart : (p : ℕ) → IsWithin (globals story) 480 p → IsWithin (object_table story) (62 + 9 * story.objects) p → ⊥
  pub frozen_above : (p : ℕ) → is_frozen p ≡ true → 64 ≤ p
  pub frozen_below : (p : ℕ) → is_frozen p ≡ true → p < static_base story
  pub unchanging : (p : ℕ) → is_frozen p ≡ true → IsChanging story p → ⊥

-- a global of a memory, counted from variable 16
abbrev pub global_in : LoadedStory → List ℕ → ℕ → ℕ
global_in story memory k = word_at memory (globals story + 2 * k)

-- an instruction is there, at or above the base of static memory; where none is, no rule but that one asks anything
pub record IsThere (story : LoadedStory) (p : ℕ) (i : Instruction) : Type 0 where
  pub static : static_base story ≤ p
  pub decodes : instruction_at (drop p story.memory) ≡ Ok i

-- each word of a set is the number of one of the story's objects
abbrev pub AreObjects : {V : Type 0} → SetOperations V → LoadedStory → V → Type 0
AreObjects o story a = (x : ℕ) → In o a x → (1 ≤ x) × (x ≤ story.objects)

-- what is asked of the property of an object and a number: a question has an answer, or it can be given a word
abbrev pub Finds : {V : Type 0} → SetOperations V → LoadedStory → Asked → V → V → Type 0
Finds o story (Answered question) objects numbers = AreAnswered o story question objects numbers
Finds o story Filled objects numbers = CanBePut o story objects numbers

-- a word that one is given is put where all data are open
abbrev pub FillsOpen : {V : Type 0} → SetOperations V → LoadedStory → (ℕ → Bool) → Asked → V → V → Type 0
FillsOpen o story is_frozen (Answered question) objects numbers = Unit {0}
FillsOpen o story is_frozen Filled objects numbers = HaveOpenData o story is_frozen objects numbers

-- elements of arrays that are written are open, and those that are read can be
abbrev pub AreWritten : {V : Type 0} → SetOperations V → LoadedStory → (ℕ → Bool) → Access → Width → V → V → Type 0
AreWritten o story is_frozen Reading width arrays indices = Unit {0}
AreWritten o story is_frozen Writing width arrays indices = AreOpen o story is_frozen width arrays indices

abbrev pub AreRead : {V : Type 0} → SetOperations V → LoadedStory → Access → Width → V → V → Type 0
AreRead o story Reading width arrays indices = AreReadable o story width arrays indices
AreRead o story Writing width arrays indices = Unit {0}

-- get_prop and get_prop_addr give what is found of a property
abbrev pub gives_by_property : Asked → Bool
gives_by_property (Answered Value) = true
gives_by_property (Answered Address) = true
gives_by_property (Answered Next) = false
gives_by_property Filled = false

-- one shape says all that the other says
pub record Covers {V : Type 0} (o : SetOperations V) (from to : Shape V) : Type 0 where
  pub locals : AllZip (Within o) from.locals to.locals
  pub slots : AllZip (Within o) from.slots to.slots

-- what is known of each global of which a fact is stated lies in the set of the fact
abbrev pub AreImplied : {V : Type 0} → SetOperations V → List V → List (Fact V) → Type 0
AreImplied {V} o globals facts = AllByRecursion (λ (f : Fact V). MatchOption (slice_get globals f.global) ⊥ (λ a. Within o a f.values)) facts

-- each global of a memory lies in the set of its index
abbrev pub LieIn : {V : Type 0} → SetOperations V → List V → LoadedStory → List ℕ → Type 0
LieIn {V} o globals story memory = (k : ℕ) (values : V) → slice_get globals k ≡ Some values → In o values (global_in story memory k)

module _ {V : Type 0} (o : SetOperations V) (claims : Claims V) where
  -- S2: the first place is listed, in the main code, which has no locals, with an empty stack
  pub record HasFirstPlace (story : LoadedStory) : Type 0 where
    pub entry : Entry V
    pub listed : claims.entry (first_instruction story) ≡ Some entry
    pub main : entry.routine ≡ 0
    pub no_locals : entry.shape.locals ≡ []
    pub no_slots : entry.shape.slots ≡ []
    pub implied : AreImplied o claims.globals (claims.facts (first_instruction story))

  -- S3: each routine has its head at an even place of static memory
  pub record HasHeads (story : LoadedStory) : Type 0 where
    pub even : (p k : ℕ) → claims.routine_at p ≡ Some k → (p % 2 == 0) ≡ true
    pub static : (p k : ℕ) → claims.routine_at p ≡ Some k → static_base story ≤ p
    pub there : (p k : ℕ) → claims.routine_at p ≡ Some k → has_head story.memory p ≡ true

  -- S4, and of every memory of a play: each global is in its set
  abbrev pub HasGlobals : LoadedStory → List ℕ → Type 0
  HasGlobals story memory = LieIn o claims.globals story memory

  -- ---- words of the rules

  -- a variable exists
  abbrev pub IsVariable : Shape V → ℕ → Type 0
  IsVariable e v = MatchBool (v == 0) (Unit {0}) (MatchBool (nat_lt v 16) (v ≤ length e.locals) ((v < 256) × (v - 16 < length claims.globals)))

  -- an operand is a word or names a variable that exists
  abbrev pub IsNamed : Shape V → Operand → Type 0
  IsNamed e (Constant n) = n < 65536
  IsNamed e (Variable v) = IsVariable e v

  -- the stack is used in place only where it has something
  abbrev pub HasTop : Shape V → ℕ → Type 0
  HasTop e v = MatchBool (v == 0) (0 < length e.slots) (Unit {0})

  -- what is given to a global lies in its set
  abbrev pub Takes : Option V → ℕ → Type 0
  Takes None v = Unit {0}
  Takes (Some x) v = MatchBool (nat_lt v 16) (Unit {0}) (MatchOption (slice_get claims.globals (v - 16)) ⊥ (Within o x))

  abbrev pub TakesInPlace : Option (ℕ × V) → Type 0
  TakesInPlace None = Unit {0}
  TakesInPlace (Some p) = Takes (Some p.1) p.0

  -- an edge leads to a listed place of the same routine that covers what is known of the globals and of the frame
  pub record Leads (routine : ℕ) (globals : List V) (shape : Shape V) (to : ℕ) : Type 0 where
    pub entry : Entry V
    pub listed : claims.entry to ≡ Some entry
    pub same : entry.routine ≡ routine
    pub covered : Covers o shape entry.shape
    pub implied : AreImplied o globals (claims.facts to)

  -- ---- calls

  -- each routine that may be called, by its place; 0 is none (Z 6.4.3)
  abbrev pub EachCallee : V → (ℕ → Type 0) → Type 0
  EachCallee a Rule = (x : ℕ) → In o a x → (x ≡ 0 → ⊥) → Rule (unpacked x)

  abbrev pub result_if : Option ℕ → V
  result_if None = o.any
  result_if (Some k) = claims.result (suc k)

  -- the values that the routine at a place may give; any, where none begins there
  abbrev pub result_at : ℕ → V
  result_at p = result_if (claims.routine_at p)

  -- a routine's first locals lie in the sets stated: the arguments, and initial words where none is supplied (Z 6.4.4)
  abbrev pub Starts : List V → List ℕ → List V → Type 0
  Starts args [] [] = Unit {0}
  Starts args [] (b ∷ bs) = ⊥
  Starts args (x ∷ xs) [] = ⊥
  Starts [] (x ∷ xs) (b ∷ bs) = In o b x × Starts [] xs bs
  Starts (a ∷ args) (x ∷ xs) (b ∷ bs) = Within o a b × Starts args xs bs

  -- a routine begins at a place, and its first instruction is listed in it, with an empty stack
  pub record Begins (story : LoadedStory) (args : List V) (p : ℕ) : Type 0 where
    pub index : ℕ
    pub routine : claims.routine_at p ≡ Some index
    pub entry : Entry V
    pub listed : claims.entry (behind_head story.memory p) ≡ Some entry
    pub same : entry.routine ≡ suc index
    pub empty : entry.shape.slots ≡ []
    pub starts : Starts args (initial story.memory p) entry.shape.locals
    pub implied : AreImplied o claims.globals (claims.facts (behind_head story.memory p))

  -- what is called begins as is said
  abbrev pub Enters : LoadedStory → List V → Lead V → Type 0
  Enters story args (Ahead d) = Unit {0}
  Enters story args (Returning a) = Unit {0}
  Enters story args (Entering a) = EachCallee a (Begins story args)

  -- What comes after leads on, in front of a place, where `v` takes what a routine gives; a return leads to no place of its own. A routine
  -- may give each global any value of its own set.
  abbrev pub GoesOn : ℕ → ℕ → List V → Shape V → ℕ → Lead V → Type 0
  GoesOn routine v globals shape q (Ahead d) = (to : ℕ) × (pos q +ℤ d ≡ pos to) × Leads routine globals shape to
  GoesOn routine v globals shape q (Returning a) = Unit {0}
  GoesOn routine v globals shape q (Entering a) = EachCallee a (λ p. Leads routine claims.globals (with_result (Some (result_at p)) v shape) q)

  -- a global takes what a routine gives
  abbrev pub TakesBack : ℕ → Lead V → Type 0
  TakesBack v (Ahead d) = Unit {0}
  TakesBack v (Returning a) = Unit {0}
  TakesBack v (Entering a) = EachCallee a (λ p. Takes (Some (result_at p)) v)

  -- a routine gives a word, before the next instruction
  abbrev pub comes_back : Lead V → Option V
  comes_back (Ahead d) = None
  comes_back (Returning a) = None
  comes_back (Entering a) = Some o.any

  -- a routine returns what it may, and the main code nothing
  abbrev pub Returns : ℕ → Lead V → Type 0
  Returns routine (Returning a) = (1 ≤ routine) × Within o a (claims.result routine)
  Returns routine (Ahead d) = Unit {0}
  Returns routine (Entering a) = Unit {0}

  -- the first operand has a value
  abbrev pub FirstThere : Instruction → Shape V → Type 0
  FirstThere i e = (pops (take 1 (inputs i)) ≤ length e.slots) × IfSome (slice_get (inputs i) 0) (IsNamed e)

  -- each word of the first global's set is 0 or the number of one of the story's objects
  abbrev pub HasLineObject : LoadedStory → Type 0
  HasLineObject story = MatchOption (slice_get claims.globals 0) ⊥ (λ a. (x : ℕ) → In o a x → x ≤ story.objects)

  -- ---- of an instruction at a place

  module _ (p : ℕ) where
    -- what an instruction asks for
    abbrev pub demands_at : Instruction → Shape V → Demands V
    demands_at i e = asked_for o (globals_at claims p) i e

    -- one of the things that may come of it
    abbrev pub Comes : LoadedStory → Instruction → Shape V → Outcome V → Type 0
    Comes story i e w = (c : Bool) × (outcome_at o (globals_at claims p) i e (told_of claims story) c ≡ Some w)

    -- whatever may come of an instruction
    abbrev pub Whatever : LoadedStory → Instruction → Shape V → (Outcome V → Type 0) → Type 0
    Whatever story i e Rule = (w : Outcome V) → Comes story i e w → Rule w

    -- where locals can have what a branch says of them
    abbrev pub OnEdge : Outcome V → Instruction → Shape V → (Shape V → Type 0) → Type 0
    OnEdge w i e Rule = IfSome (after o (globals_at claims p) i e w) Rule

    -- its stack stays low, with what comes back of a call
    abbrev pub IsLow : Instruction → Shape V → Outcome V → Type 0
    IsLow i e w = OnEdge w i e (λ f. length (slots_with (comes_back (leading o w i.branch)) (target i) f.slots) ≤ 64)

    -- every routine that it calls begins as is said
    abbrev pub CallsBegin : LoadedStory → Instruction → Shape V → Type 0
    CallsBegin story i e = Whatever story i e (λ w. OnEdge w i e (λ f. Enters story (argument_sets o (globals_at claims p) i e) (leading o w i.branch)))

    -- a variable that an operand names is known
    abbrev pub IsKnown : Instruction → Shape V → Type 0
    IsKnown i e = OnTrue (demands_at i e).indirect (FirstThere i e → IsTrue (is_some (demands_at i e).variable))

    -- nothing is divided by 0
    abbrev pub Divides : Instruction → Shape V → Type 0
    Divides i e = IfSome (demands_at i e).divisor (λ a. In o a 0 → ⊥)

    -- each number that is taken for an object's is that of one of the story's
    abbrev pub NamesObject : LoadedStory → Instruction → Shape V → Type 0
    NamesObject story i e = IfSome (demands_at i e).object (AreObjects o story) × IfSome (demands_at i e).under (AreObjects o story)

    -- and each that is taken for an attribute's, of which there are 32 (Z 12.3.1)
    abbrev pub NamesAttribute : Instruction → Shape V → Type 0
    NamesAttribute i e = IfSome (demands_at i e).attribute (λ a. (x : ℕ) → In o a x → x < 32)

    -- of whatever object and number come together
    abbrev pub FindsProperty : LoadedStory → Instruction → Shape V → Type 0
    FindsProperty story i e = IfSome (demands_at i e).property (λ p. Finds o story p.asked p.objects p.numbers)

    -- all data of properties that are given a word are open
    abbrev pub PutsOpen : LoadedStory → Instruction → Shape V → Type 0
    PutsOpen story i e = IfSome (demands_at i e).property (λ p. FillsOpen o story (frozen_in claims) p.asked p.objects p.numbers)

    -- each element that is written is open
    abbrev pub WritesOpen : LoadedStory → Instruction → Shape V → Type 0
    WritesOpen story i e = IfSome (demands_at i e).elements (λ x. AreWritten o story (frozen_in claims) x.access x.width x.arrays x.indices)

    -- each element that is read can be
    abbrev pub ReadsElements : LoadedStory → Instruction → Shape V → Type 0
    ReadsElements story i e = IfSome (demands_at i e).elements (λ x. AreRead o story x.access x.width x.arrays x.indices)

    -- the size byte before each address of property data can be read
    abbrev pub ReadsLength : LoadedStory → Instruction → Shape V → Type 0
    ReadsLength story i e = IfSome (demands_at i e).address (λ a. (x : ℕ) → In o a x → IsTrue (is_some (length_before story.memory x)))

    -- all that is read can be
    abbrev pub Reads : LoadedStory → Instruction → Shape V → Type 0
    Reads story i e = ReadsLength story i e × ReadsElements story i e

    -- the text at each address that it prints one of ends in memory, and stays as it is
    abbrev pub PrintsFixed : LoadedStory → Instruction → Shape V → Type 0
    PrintsFixed story i e = IfSome (demands_at i e).texts (λ x. AreFixedTexts o story (frozen_in claims) x.addressing x.places)

    -- the short name of each object that it prints one of is empty, or a text that ends in memory and stays as it is
    abbrev pub NamesFixed : LoadedStory → Instruction → Shape V → Type 0
    NamesFixed story i e = IfSome (demands_at i e).named (AreFixedNames o story (frozen_in claims))

    -- what get_prop and get_prop_addr give is known only where there are objects, and answers
    abbrev pub KnowsAnswers : LoadedStory → Instruction → Shape V → Type 0
    KnowsAnswers story i e = IfSome (demands_at i e).property (λ p. OnTrue (gives_by_property p.asked) (NamesObject story i e × FindsProperty story i e))

    -- it is known what an instruction gives
    abbrev pub GivesKnown : LoadedStory → Instruction → Shape V → Type 0
    GivesKnown story i e = Divides i e × Reads story i e × KnowsAnswers story i e

  -- ---- the rules on a listed place

  -- what a rule asks of an instruction that is there
  abbrev pub Asks : LoadedStory → ℕ → Entry V → Instruction → Rule → Type 0
  Asks story p e i rules.Decodes = Unit {0}
  -- I2: every pop and every use in place finds a slot
  Asks story p e i rules.Height = IsKnown p i e.shape → (pops (inputs i) ≤ length e.shape.slots) × IfSome (demands_at p i e.shape).variable (HasTop (mid_shape o claims.globals i e.shape))
  -- I3: every variable that is named exists
  Asks story p e i rules.Local = IsKnown p i e.shape → AllByRecursion (IsNamed e.shape) (inputs i) × IsVariable e.shape (target i) × IfSome (demands_at p i e.shape).variable (IsVariable e.shape)
  -- I4: each edge that can be taken leads on, and it is known how far a jump goes
  Asks story p e i rules.Successor = Divides p i e.shape → Reads p story i e.shape → KnowsAnswers p story i e.shape → CallsBegin p story i e.shape → IsTrue (demands_at p i e.shape).certain × Whatever p story i e.shape (λ w. IsLow p i e.shape w → OnEdge p w i e.shape (λ f. GoesOn e.routine (target i) (globals_after (globals_at claims p) (target i) w) f (p + i.size) (leading o w i.branch)))
  -- I5: each object is one
  Asks story p e i rules.Object = NamesObject p story i e.shape
  -- I6: each attribute is one
  Asks story p e i rules.Attribute = NamesAttribute p i e.shape
  -- I7: each property that is asked for has an answer, and each that is given a word can be
  Asks story p e i rules.Property = FindsProperty p story i e.shape
  -- I8: nothing is divided by 0
  Asks story p e i rules.Divisor = Divides p i e.shape
  -- I9: each byte of the data of a property that is given a word is open, and so is each byte of an element that is written
  Asks story p e i rules.Write = PutsOpen p story i e.shape × WritesOpen p story i e.shape
  -- I10: each byte of an element, and the size byte before an address of property data, can be read
  Asks story p e i rules.Read = Reads p story i e.shape
  -- I11: the text behind the opcode byte stays as it is, and so does each that is printed by its address, and each short name
  Asks story p e i rules.Text = OnTrue (demands_at p i e.shape).has_text (HasFixedText story (frozen_in claims) (p + 1)) × PrintsFixed p story i e.shape × NamesFixed p story i e.shape
  -- I12: what is called begins as is said
  Asks story p e i rules.Called = CallsBegin p story i e.shape
  -- I13: what is returned lies in the set of the routine
  Asks story p e i rules.Returned = Whatever p story i e.shape (λ w. OnEdge p w i e.shape (λ f. Returns e.routine (leading o w i.branch)))
  -- I14: a line can always be stored in the buffers
  Asks story p e i rules.Buffers = IfSome (demands_at p i e.shape).buffers (λ b. AreBuffers o story (frozen_in claims) b.texts b.parses)
  -- I15: a variable that an operand names is known
  Asks story p e i rules.Known = IsKnown p i e.shape
  -- I16: what is given to a global, at once or by a routine that is called, lies in its set
  Asks story p e i rules.Stored = Whatever p story i e.shape (λ w. OnEdge p w i e.shape (λ f. Takes w.gives (target i) × TakesInPlace w.assigns × TakesBack (target i) (leading o w i.branch)))
  -- I17: the stack stays low
  Asks story p e i rules.High = Whatever p story i e.shape (IsLow p i e.shape)
  -- I18: the object that a status line names is one, or none
  Asks story p e i rules.Status = OnTrue (demands_at p i e.shape).shows_status (HasLineObject story)

  abbrev pub Keeps : LoadedStory → ℕ → Entry V → Rule → Type 0
  -- I1: an instruction is there
  Keeps story p e rules.Decodes = (i : Instruction) × IsThere story p i
  Keeps story p e rule = (i : Instruction) → IsThere story p i → Asks story p e i rule

  -- the rule is broken at a listed place, and none with a lower number is
  pub record IsLowestBroken (story : LoadedStory) (p : ℕ) (e : Entry V) (rule : Rule) : Type 0 where
    pub broken : Keeps story p e rule → ⊥
    pub before : (other : Rule) → number_of other < number_of rule → Keeps story p e other

  -- the claims hold of a story; where a place is marked, no rule is asked
  pub record SupportsWhere (marked : ℕ → Bool) (story : LoadedStory) : Type 0 where
    pub first : HasFirstPlace story
    pub heads : HasHeads story
    pub values : HasGlobals story story.memory
    -- as the format says, no stack is above 64
    pub low : (p : ℕ) (e : Entry V) → claims.entry p ≡ Some e → length e.shape.slots ≤ 64
    -- nor are there more globals than variables for them
    pub few : length claims.globals ≤ 240
    pub properties : HasPropertyTables story
    pub tree : IsTree story.memory story.objects
    pub abbreviations : HasAbbreviations story
    pub tables : HasDisjointTables story (frozen_in claims)
    pub each : (p : ℕ) (e : Entry V) → claims.entry p ≡ Some e → marked p ≡ false → (rule : Rule) → Keeps story p e rule

  -- they hold of it, with each rule asked at each listed place
  abbrev pub Supports : LoadedStory → Type 0
  Supports story = SupportsWhere (λ p. false) story
