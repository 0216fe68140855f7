-- The one spelling of a certificate, and which certificates have one.
use Rattle.std.specs.Prelude.{◌≡◌, ℕ, ◌+◌, ◌<◌, ◌≤◌, Bool, true, false, List, [], ◌∷◌, ◌++◌, length, Option, None, Some, ⊤}
use Rattle.std.specs.List.{flat_map, AllByRecursion}
use Rattle.zstory.specs.declared.identity.Identity.{Identity}
use Rattle.zcert.specs.declared.edition.Edition.{Edition}
use Rattle.zcert.specs.declared.parts.Fact.{Fact}
use Rattle.zcert.specs.declared.parts.Range.{Range}
use Rattle.zcert.specs.declared.parts.Routine.{Routine}
use Rattle.zcert.specs.declared.limits.TheConstants.{MAGIC, GLOBALS, ADDRESS_LIMIT, MAX_LOCALS, MAX_INSTRUCTIONS, MAX_RANGES, MAX_ROUTINES, MAX_HEIGHT, MAX_FRAMES, MAX_FACTS}
use Rattle.zcert.specs.Numbers.{Number, number, HasRoom}
use Rattle.zcert.specs.Numbers as numbers
use Rattle.zcert.specs.Certificate.{Instruction, Certificate, locals_of, edition_of}
use Rattle.zcert.specs.Marks.{height_byte, IsMarkable}
use Rattle.zcert.specs.Facts.{FactsRise, AreStated}
use Rattle.zcert.specs.Format.{Format, version_of}

abbrev pub identity_bytes : Identity → List ℕ
identity_bytes i =
    number numbers.Release i.release ++ i.serial ++ number numbers.Checksum i.checksum ++ number numbers.LoadedLength i.length

-- the limit of frames, where one is named
abbrev pub limit_bytes : Option ℕ → List ℕ
limit_bytes None = []
limit_bytes (Some n) = number numbers.FrameLimit n

abbrev pub range_bytes : Range → List ℕ
range_bytes r = number numbers.RangeFirst r.first ++ number numbers.RangeLast r.last

-- how many there are, and each of them
abbrev pub counted : {A : Type 0} → Number → (A → List ℕ) → List A → List ℕ
counted kind bytes_of xs = number kind (length xs) ++ flat_map bytes_of xs

module _ {V : Type 0} (format : Format V) where
  abbrev pub values_bytes : List V → List ℕ
  values_bytes vs = flat_map format.spelled vs

  abbrev pub routine_bytes : Routine V → List ℕ
  routine_bytes r = number numbers.RoutineAddress r.address ++ number numbers.LocalCount r.locals ++ format.spelled r.result

  abbrev pub instruction_bytes : Instruction V → List ℕ
  instruction_bytes i =
      number numbers.InstructionAddress i.address ++ number numbers.RoutineNumber i.routine ++ number numbers.Height (height_byte i.is_marked (length i.slots)) ++ values_bytes (i.locals ++ i.slots)

  abbrev pub fact_bytes : Fact V → List ℕ
  fact_bytes f = number numbers.FactAddress f.address ++ number numbers.FactGlobal f.global ++ format.spelled f.values

  -- the facts, where they may be stated
  abbrev pub facts_bytes : Bool → List (Fact V) → List ℕ
  facts_bytes false facts = []
  facts_bytes true facts = counted numbers.FactCount fact_bytes facts

  -- what stands before the fields
  abbrev pub heading : Edition → List ℕ
  heading edition = number numbers.Magic MAGIC ++ number numbers.Version (version_of format edition)

  -- the bytes of a certificate, in the order of its fields
  abbrev pub spelling : Certificate V → List ℕ
  spelling c =
      heading (edition_of c)
      ++ identity_bytes c.identity
      ++ limit_bytes c.limit
      ++ counted numbers.RangeCount range_bytes c.ranges
      ++ values_bytes c.globals
      ++ counted numbers.RoutineCount routine_bytes c.routines
      ++ counted numbers.InstructionCount instruction_bytes c.instructions
      ++ facts_bytes c.stating c.facts

-- the numbers of an identity have room
pub record IsIdentity (i : Identity) : Type 0 where
  pub release : HasRoom numbers.Release i.release
  pub serial : length i.serial ≡ 6
  pub serial_bytes : AllByRecursion (λ b. b < 256) i.serial
  pub checksum : HasRoom numbers.Checksum i.checksum
  pub loaded_length : HasRoom numbers.LoadedLength i.length

pub record IsRange (r : Range) : Type 0 where
  pub ordered : r.first ≤ r.last
  pub room : HasRoom numbers.RangeLast r.last

-- each range begins above the byte after the last of the one before it, the first of them at `floor` or above
abbrev pub AreApart : ℕ → List Range → Type 0
AreApart floor [] = ⊤
AreApart floor (r ∷ rs) = (floor ≤ r.first) × AreApart (r.last + 2) rs

-- each address is above the one before it, the first of them at `floor` or above
abbrev pub Rise : {A : Type 0} → (A → ℕ) → ℕ → List A → Type 0
Rise address floor [] = ⊤
Rise address floor (x ∷ xs) = (floor ≤ address x) × Rise address (address x + 1) xs

abbrev pub InstructionsRise : {V : Type 0} → List (Instruction V) → Type 0
InstructionsRise {V} is = Rise (λ (i : Instruction V). i.address) 0 is

-- what may mark instructions names a limit of frames
abbrev pub MayMark : Option ℕ → Bool → Type 0
MayMark None marking = marking ≡ false
MayMark (Some n) marking = ⊤

-- what may state facts may mark instructions
abbrev pub MayState : Bool → Bool → Type 0
MayState true stating = ⊤
MayState false stating = stating ≡ false

module _ {V : Type 0} (format : Format V) where
  pub record IsRoutine (r : Routine V) : Type 0 where
    pub address : r.address < ADDRESS_LIMIT
    pub locals : r.locals ≤ MAX_LOCALS
    pub result : format.Has r.result

  -- it has a set for each local of its routine and for each slot
  pub record IsInstruction (routines : List (Routine V)) (i : Instruction V) : Type 0 where
    pub address : i.address < ADDRESS_LIMIT
    pub routine : i.routine ≤ length routines
    pub locals : length i.locals ≡ locals_of routines i.routine
    pub height : length i.slots ≤ MAX_HEIGHT
    pub local_values : AllByRecursion format.Has i.locals
    pub slot_values : AllByRecursion format.Has i.slots

  -- the global is one, and its set has a spelling
  pub record IsFact (f : Fact V) : Type 0 where
    pub address : f.address < ADDRESS_LIMIT
    pub global : f.global < GLOBALS
    pub values : format.Has f.values

  -- a limit is named where it may be, and isn't above its own limit
  abbrev pub IsLimit : Option ℕ → Type 0
  IsLimit None = ⊤
  IsLimit (Some n) = (format.limited ≡ true) × (n ≤ MAX_FRAMES)

  -- what has a spelling
  pub record HasSpelling (c : Certificate V) : Type 0 where
    pub identity : IsIdentity c.identity
    pub limit : IsLimit c.limit
    pub marking : MayMark c.limit c.marking
    pub stating : MayState c.marking c.stating
    pub few_ranges : length c.ranges ≤ MAX_RANGES
    pub ranges : AllByRecursion IsRange c.ranges
    pub ranges_apart : AreApart 0 c.ranges
    pub globals : length c.globals ≡ GLOBALS
    pub global_values : AllByRecursion format.Has c.globals
    pub few_routines : length c.routines ≤ MAX_ROUTINES
    pub routines : AllByRecursion IsRoutine c.routines
    pub routines_rise : Rise (λ (r : Routine V). r.address) 0 c.routines
    pub few_instructions : length c.instructions ≤ MAX_INSTRUCTIONS
    pub instructions : AllByRecursion (IsInstruction c.routines) c.instructions
    pub instructions_rise : InstructionsRise c.instructions
    pub instructions_markable : AllByRecursion (IsMarkable c.marking) c.instructions
    pub few_facts : length c.facts ≤ MAX_FACTS
    pub facts : AllByRecursion IsFact c.facts
    pub facts_rise : FactsRise 0 0 c.facts
    pub facts_stated : AreStated c.stating c.facts
