-- What showing a certificate comes to: what it says, in words (own).
use Rattle.std.specs.Prelude.{◌≡◌, ◌⊎◌, ◌==◌, ℕ, zero, suc, ◌+◌, pos, negsuc, ◌&&◌, not, int_le, nat_lt, ◌++◌, List, [], ◌∷◌, length, take_while, flat_map, Option, None, Some, MatchOption, unwrap_or, codes, decimal, if◌then◌else◌}
use Rattle.std.specs.Char.{is_digit}
use Rattle.std.specs.Fmt.{signed_decimal}
use Rattle.std.specs.List.{list_all}
use Rattle.std.specs.Io.KnownBytes.{Appends}
use Rattle.std.specs.Str.Parse.{digits_value}
use Rattle.zfault.specs.Devices.{AppendsBeginning}
use Rattle.zstory.specs.LoadedStory.{LoadedStory, identity_of}
use Rattle.zcode.specs.Instruction.{Instruction as Spelled}
use Rattle.zcode.specs.Names.{name_of}
use Rattle.zdomain.specs.Domain.{SetOperations}
use Rattle.zdomain.specs.Interval.{interval_operations, signed}
use Rattle.zdomain.specs.Values.{values_operations}
use Rattle.zdomain.specs.declared.interval.Interval.{Interval}
use Rattle.zdomain.specs.declared.values.Values.{Values}
use Rattle.zdomain.specs.declared.values.Values.TheVariants.{Run, List as AList}
use Rattle.zcert.specs.Certificate.{Certificate, Instruction, edition_of}
use Rattle.zcert.specs.Facts.{facts_at}
use Rattle.zcert.specs.Format.{Format, interval_format, version_of}
use Rattle.zcert.specs.Listed.{listed_at}
use Rattle.zcert.specs.Lists.{values_format}
use Rattle.zcert.specs.declared.parts.Fact.{Fact}
use Rattle.zcert.specs.declared.parts.Range.{Range}
use Rattle.zcert.specs.declared.parts.Routine.{Routine}
use Rattle.zrule.specs.Claims.{claims_of, entry_of}
use Rattle.zrule.specs.Numbers.{number_of as rule_number}
use Rattle.zrule.specs.Rules.{IsLowestBroken, IsThere, Keeps}
use Rattle.zrule.specs.declared.rule.Rule.{Rule}
use Rattle.zcheck.specs.declared.refusal.StoryRule.TheVariants.{Identity}
use Rattle.zexplain.specs.Texts.{explanation_of}
use Rattle.zperform.specs.Accepting.{HoldsCertificate, HoldsStory, IsUnaccepted, Stops}
use Rattle.zperform.specs.Listing.{record_line}
use Rattle.zperform.specs.Numbered.{numbered}
use Rattle.zperform.specs.Operands.{operands_text}
use Rattle.zperform.specs.Report.{place_text}
use Rattle.zperform.specs.declared.outcome.Problem.{Problem}
use Rattle.zperform.specs.declared.outcome.Problem.TheVariants.{BreaksStory, BreaksInstruction}
use Rattle.zperform.specs.declared.outcome.Outcome.{Outcome}
use Rattle.zperform.specs.declared.outcome.Outcome.TheVariants.{NoAddress, Shown, Stopped}

-- ---- words

-- the address that a word says: one to five hexadecimal digits, capitals or not
abbrev pub address_in : List ℕ → Option ℕ
address_in word = if nat_lt 0 (length word) && nat_lt (length word) 6 && list_all (λ d. is_digit d 16) word then Some (digits_value 16 word) else None

-- an interval: any word, or its one number, or its two ends
abbrev pub interval_text : Interval → List ℕ
interval_text i =
    if int_le i.lo (negsuc 32767) && int_le (pos 32767) i.hi then codes "any word"
    else signed_decimal i.lo ++ (if int_le i.hi i.lo then [] else codes " to " ++ signed_decimal i.hi)

-- words as signed numbers, with a comma between two (Z 2.2)
abbrev pub other_text : ℕ → List ℕ
other_text word = codes ", " ++ signed_decimal (signed word)

abbrev pub list_text : List ℕ → List ℕ
list_text [] = []
list_text (word ∷ words) = signed_decimal (signed word) ++ flat_map other_text words

-- an interval, or a list
abbrev pub values_text : Values → List ℕ
values_text (Run i) = interval_text i
values_text (AList s) = list_text s.few

-- what the sets of the two versions are
abbrev pub interval_kind : List ℕ
interval_kind = codes "intervals"

abbrev pub values_kind : List ℕ
values_kind = codes "intervals and lists"

-- ---- lines

-- a range of bytes that stay as they are
abbrev pub range_line : Range → List ℕ
range_line r = codes "frozen " ++ place_text (pos r.first) ++ codes " to " ++ place_text (pos r.last) ++ 10 ∷ []

-- how many frames may stand above the first, where that is named
abbrev pub frames_line : ℕ → List ℕ
frames_line n = codes "frame limit " ++ decimal n ++ 10 ∷ []

abbrev pub limit_line : Option ℕ → List ℕ
limit_line None = []
limit_line (Some n) = frames_line n

-- the version, and what its sets are
abbrev pub heading_text : ℕ → List ℕ → List ℕ
heading_text version kind = codes "version " ++ decimal version ++ codes ", " ++ kind ++ 10 ∷ []

-- where a routine is: its number, and its address
abbrev pub routine_place : ℕ → ℕ → List ℕ
routine_place n address = codes "routine " ++ decimal n ++ codes " at " ++ place_text (pos address)

module _ {V : Type 0} (set_text : V → List ℕ) where
  -- a set: what it is of, its number, and its words
  abbrev pub set_line : List ℕ → ℕ → V → List ℕ
  set_line name n set = name ++ decimal n ++ codes ": " ++ set_text set ++ 10 ∷ []

  -- a routine: where it is, how many locals it has, and what it may give
  abbrev pub routine_line : ℕ → Routine V → List ℕ
  routine_line n r = routine_place n r.address ++ codes ", locals " ++ decimal r.locals ++ codes ", result " ++ set_text r.result ++ 10 ∷ []

  -- what a certificate says beside its instructions; a global has the number of its variable, from 16 on (Z 6.2)
  abbrev pub claims_text : ℕ → List ℕ → Certificate V → List ℕ
  claims_text version kind c =
      heading_text version kind ++ limit_line c.limit ++ flat_map range_line c.ranges ++ numbered (set_line (codes "global ")) 16 c.globals
      ++ numbered routine_line 1 c.routines

  -- what it says of an instruction's frame: the height of the stack, each local, and each slot, the bottom first
  abbrev pub frame_text : Instruction V → List ℕ
  frame_text i = codes "height " ++ decimal (length i.slots) ++ 10 ∷ [] ++ numbered (set_line (codes "local ")) 1 i.locals ++ numbered (set_line (codes "slot ")) 1 i.slots

module _ {V : Type 0} (set_text : V → List ℕ) where
  -- what it says of a global at one place: the number of its variable, from 16 on (Z 6.2), and the words
  abbrev pub fact_line : Fact V → List ℕ
  fact_line f = set_line set_text (codes "global ") (16 + f.global) f.values

-- how many facts are stated, where any are
abbrev pub facts_line : ℕ → List ℕ
facts_line zero = []
facts_line (suc n) = codes "facts " ++ decimal (suc n) ++ 10 ∷ []

-- ---- one instruction

-- an address with no instruction, and the number of its routine
abbrev pub bare_line : ℕ → ℕ → List ℕ
bare_line address routine = place_text (pos address) ++ codes " " ++ decimal routine ++ (codes " no instruction" ++ 10 ∷ [])

-- the instruction as `list` writes it, where one stands there
abbrev pub spelled_line : {V : Type 0} → Instruction V → Option Spelled → List ℕ
spelled_line i (Some instruction) = record_line (record { address = i.address; routine = i.routine; instruction = instruction })
spelled_line i None = bare_line i.address i.routine

-- an instruction with its operands: its address, its routine's number, the name of its opcode, and these
abbrev pub whole_line : ℕ → ℕ → Spelled → List ℕ
whole_line address routine instruction =
    place_text (pos address) ++ codes " " ++ decimal routine ++ codes " " ++ name_of instruction.opcode ++ operands_text instruction.opcode instruction.operands ++ 10 ∷ []

-- the instruction so, where one stands there
abbrev pub told_line : {V : Type 0} → Instruction V → Option Spelled → List ℕ
told_line i (Some instruction) = whole_line i.address i.routine instruction
told_line i None = bare_line i.address i.routine

-- the first line of a text, without its end
abbrev pub first_line : List ℕ → List ℕ
first_line text = take_while (λ byte. not (byte == 10)) text

-- the code of a rule, and the first line that `explain` writes of it, which begins with the code
abbrev pub code_text : Rule → List ℕ
code_text rule = codes "I" ++ decimal (rule_number rule)

abbrev pub explained_text : Rule → List ℕ
explained_text rule = first_line (unwrap_or (explanation_of (code_text rule)) (code_text rule))

-- what is answered of the rules: that they hold, or which is broken
abbrev pub answer_line : Option Rule → List ℕ
answer_line None = codes "its rule holds" ++ 10 ∷ []
answer_line (Some rule) = codes "broken: " ++ explained_text rule ++ 10 ∷ []

-- an address at which nothing is listed
abbrev pub unlisted_line : ℕ → List ℕ
unlisted_line address = place_text (pos address) ++ codes " isn't listed" ++ 10 ∷ []

module _ {V : Type 0} (o : SetOperations V) (story : LoadedStory) (c : Certificate V) where
  -- what stands at an address
  abbrev pub IsSpelled : ℕ → Option Spelled → Type 0
  IsSpelled address spelled = MatchOption spelled ((i : Spelled) → IsThere story address i → ⊥) (IsThere story address)

  -- what the rules of the checker answer there: the lowest that is broken, and nothing where each is kept
  abbrev pub IsAnswer : ℕ → Instruction V → Option Rule → Type 0
  IsAnswer address i answer = MatchOption answer ((rule : Rule) → Keeps o (claims_of o c) story address (entry_of i) rule) (IsLowestBroken o (claims_of o c) story address (entry_of i))

module _ {V : Type 0} (o : SetOperations V) (set_text : V → List ℕ) (story : LoadedStory) (c : Certificate V) where
  -- an instruction that is listed at an address: as the story spells it, what is said of its frame and of globals there, and whether that holds
  pub record IsTold (address : ℕ) (i : Instruction V) (text : List ℕ) : Type 0 where
    pub spelled : Option Spelled
    pub there : IsSpelled o story c address spelled
    pub answer : Option Rule
    pub judged : IsAnswer o story c address i answer
    pub lines : text ≡ told_line i spelled ++ frame_text set_text i ++ flat_map (fact_line set_text) (facts_at c.facts address) ++ answer_line answer

  -- what is said of an address
  abbrev pub IsToldOf : ℕ → Option (Instruction V) → List ℕ → Type 0
  IsToldOf address None text = text ≡ unlisted_line address
  IsToldOf address (Some i) text = IsTold address i text

  -- the last lines: of an address, or how many instructions are listed, and how many facts are stated
  abbrev pub IsEnd : Option ℕ → List ℕ → Type 0
  IsEnd None text = text ≡ (codes "instructions " ++ decimal (length c.instructions) ++ 10 ∷ []) ++ facts_line (length c.facts)
  IsEnd (Some address) text = IsToldOf address (listed_at c.instructions address) text

  -- all lines
  pub record IsShown (version : ℕ) (kind : List ℕ) (address : Option ℕ) (text : List ℕ) : Type 0 where
    pub end : List ℕ
    pub ends : IsEnd address end
    pub lines : text ≡ claims_text set_text version kind c ++ end

-- ---- files

module _ {V : Type 0} (o : SetOperations V) (format : Format V) (kind : List ℕ) (set_text : V → List ℕ) (story_known certificate_known : Option (List ℕ)) where
  -- two files hold a story and a certificate of it, accepted or not, which is shown so
  pub record HoldsShownBy (address : Option ℕ) (text : List ℕ) : Type 0 where
    pub story : LoadedStory
    pub certificate : Certificate V
    pub held : HoldsStory story_known story
    pub read : HoldsCertificate format certificate_known certificate
    pub own : certificate.identity ≡ identity_of story
    pub shown : IsShown o set_text story certificate (version_of format (edition_of certificate)) kind address text

module _ {V : Type 0} (o : SetOperations V) (format : Format V) (story_known certificate_known : Option (List ℕ)) where
  -- Why a certificate isn't shown: it isn't read, or it is of another story. Whether it holds else isn't asked.
  abbrev pub IsUnshown : Problem → Type 0
  IsUnshown (BreaksStory Identity) = IsUnaccepted o format story_known certificate_known (BreaksStory Identity)
  IsUnshown (BreaksStory rule) = ⊥
  IsUnshown (BreaksInstruction address rule) = ⊥
  IsUnshown problem = IsUnaccepted o format story_known certificate_known problem

-- the certificate being of either version
abbrev pub HoldsShown : Option (List ℕ) → Option (List ℕ) → Option ℕ → List ℕ → Type 0
HoldsShown story_known certificate_known address text =
    HoldsShownBy interval_operations interval_format interval_kind interval_text story_known certificate_known address text
    ⊎ HoldsShownBy values_operations values_format values_kind values_text story_known certificate_known address text

abbrev pub IsUnshownStory : Option (List ℕ) → Option (List ℕ) → Problem → Type 0
IsUnshownStory story_known certificate_known problem =
    IsUnshown interval_operations interval_format story_known certificate_known problem ⊎ IsUnshown values_operations values_format story_known certificate_known problem

-- what showing comes to with an address or without, with what the writer took before and has taken now
abbrev pub ShowEnds : Option (List ℕ) → Option (List ℕ) → Option ℕ → Option (List ℕ) → Option (List ℕ) → Outcome → Type 0
ShowEnds story_known certificate_known address before now Shown = (text : List ℕ) × HoldsShown story_known certificate_known address text × Appends before now text
ShowEnds story_known certificate_known address before now (Stopped problem) =
    Stops ((text : List ℕ) × HoldsShown story_known certificate_known address text × AppendsBeginning before now text) (IsUnshownStory story_known certificate_known) before now problem
ShowEnds story_known certificate_known address before now outcome = ⊥

-- with a word for the address: where it says none, nothing is read or written
abbrev pub ShowEndsBy : Option (List ℕ) → Option (List ℕ) → Option ℕ → Option (List ℕ) → Option (List ℕ) → Outcome → Type 0
ShowEndsBy story_known certificate_known None before now outcome = (outcome ≡ NoAddress) × (now ≡ before)
ShowEndsBy story_known certificate_known (Some address) before now outcome = ShowEnds story_known certificate_known (Some address) before now outcome

-- what showing comes to, with a word for the address or without
abbrev pub ShowComesTo : Option (List ℕ) → Option (List ℕ) → Option (List ℕ) → Option (List ℕ) → Option (List ℕ) → Outcome → Type 0
ShowComesTo story_known certificate_known None before now outcome = ShowEnds story_known certificate_known None before now outcome
ShowComesTo story_known certificate_known (Some word) before now outcome = ShowEndsBy story_known certificate_known (address_in word) before now outcome
