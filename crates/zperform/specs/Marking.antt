-- The instructions of a certificate as lines that tell which it marks, and why (own).
use Rattle.std.specs.Prelude.{◌≡◌, ◌⊎◌, ◌||◌, ℕ, Bool, true, false, not, ◌++◌, List, [], ◌∷◌, filter, Option, None, Some, option_map, pos, codes}
use Rattle.std.specs.Io.KnownBytes.{Appends}
use Rattle.zfault.specs.Devices.{AppendsBeginning}
use Rattle.zstory.specs.LoadedStory.{LoadedStory}
use Rattle.zcode.specs.Instruction.{Instruction as Spelled}
use Rattle.zcode.specs.Names.{name_of}
use Rattle.zjson.specs.Answers.{listed_line}
use Rattle.zdomain.specs.Domain.{SetOperations}
use Rattle.zdomain.specs.Interval.{interval_operations}
use Rattle.zdomain.specs.Values.{values_operations}
use Rattle.zcert.specs.Certificate.{Certificate, Instruction}
use Rattle.zcert.specs.Format.{Format, interval_format}
use Rattle.zcert.specs.Lists.{values_format}
use Rattle.zrule.specs.declared.rule.Rule.{Rule}
use Rattle.zcheck.specs.Judged.{JudgedOver}
use Rattle.zcheck.specs.declared.judged.Judged.TheVariants as judged
use Rattle.zfind.specs.declared.found.Found.{Found as FoundCertificate}
use Rattle.zfind.specs.declared.found.Found.TheVariants as founds
use Rattle.zperform.specs.Accepting.{IsJudgedOf, IsUnacceptedStory, Stops}
use Rattle.zperform.specs.Listing.{listed_text}
use Rattle.zperform.specs.Report.{place_text}
use Rattle.zperform.specs.declared.outcome.Outcome.{Outcome}
use Rattle.zperform.specs.declared.outcome.Outcome.TheVariants.{Listed, Stopped}
use Rattle.zperform.specs.Showing.{IsAnswer, IsSpelled, code_text, explained_text, spelled_line, told_line}

-- why an instruction is marked, if it is: which of its rules is broken first, if one is
abbrev pub reason_line : Bool → Option Rule → List ℕ
reason_line false answer = []
reason_line true None = codes "marked: its rule holds" ++ 10 ∷ []
reason_line true (Some rule) = codes "marked: " ++ explained_text rule ++ 10 ∷ []

-- whether an instruction is told of: each is, or the marked ones alone
abbrev pub is_chosen : {V : Type 0} → Bool → Instruction V → Bool
is_chosen marked_alone i = i.is_marked || not marked_alone

-- an instruction as an object: where it stands, what it is, whether it is marked, and which of its rules is broken first
abbrev pub listed_object : {V : Type 0} → Instruction V → Option Spelled → Option Rule → List ℕ
listed_object i spelled answer = listed_line (place_text (pos i.address)) i.routine (option_map (λ instruction. name_of instruction.opcode) spelled) i.is_marked (option_map code_text answer)

-- its own line, with its operands where it is marked
abbrev pub own_line : {V : Type 0} → Bool → Instruction V → Option Spelled → List ℕ
own_line false i spelled = spelled_line i spelled
own_line true i spelled = told_line i spelled

-- what is told of it: lines, or an object
abbrev pub mark_text : {V : Type 0} → Bool → Instruction V → Option Spelled → Option Rule → List ℕ
mark_text false i spelled answer = own_line i.is_marked i spelled ++ reason_line i.is_marked answer
mark_text true i spelled answer = listed_object i spelled answer

module _ {V : Type 0} (o : SetOperations V) (story : LoadedStory) (c : Certificate V) (json : Bool) where
  -- an instruction as the story spells it, and why it is marked
  pub record IsLineOf (i : Instruction V) (text : List ℕ) : Type 0 where
    pub spelled : Option Spelled
    pub there : IsSpelled o story c i.address spelled
    pub answer : Option Rule
    pub judged : IsAnswer o story c i.address i answer
    pub lines : text ≡ mark_text json i spelled answer

  -- the lines of some, in order
  abbrev pub AreLinesOf : List (Instruction V) → List ℕ → Type 0
  AreLinesOf [] text = text ≡ []
  AreLinesOf (i ∷ is) text = (first : List ℕ) × (rest : List ℕ) × IsLineOf i first × AreLinesOf is rest × (text ≡ first ++ rest)

  -- those of all that the certificate lists, or of the marked ones alone
  abbrev pub AreMarksOf : Bool → List ℕ → Type 0
  AreMarksOf marked_alone text = AreLinesOf (filter (is_chosen marked_alone) c.instructions) text

-- the lines of what is marked by a certificate that was found
abbrev pub ArePlacesOf : Bool → LoadedStory → FoundCertificate → List ℕ → Type 0
ArePlacesOf json story (founds.Intervals c) text = AreMarksOf interval_operations story c json true text
ArePlacesOf json story (founds.Lists c) text = AreMarksOf values_operations story c json true text
ArePlacesOf json story (founds.Marked c) text = AreMarksOf values_operations story c json true text

-- ---- the listing of a certificate's file

-- the instructions of a certificate that is accepted, each as the story spells it, and which are marked, if some are, and why
abbrev pub IsListedBy : {V : Type 0} → Bool → SetOperations V → JudgedOver V → List ℕ → Type 0
IsListedBy json o (judged.Whole a) text = text ≡ listed_text json a.listing.records
IsListedBy json o (judged.Marked m) text = AreMarksOf o m.story m.certificate json false text

-- two files hold a story and a certificate that is accepted with it, whose instructions have these lines
abbrev pub HoldsListedBy : {V : Type 0} → Bool → SetOperations V → Format V → Option (List ℕ) → Option (List ℕ) → List ℕ → Type 0
HoldsListedBy json o format story_known certificate_known text = (j : JudgedOver _) × IsJudgedOf o format story_known certificate_known j × IsListedBy json o j text

-- the certificate being of either kind of sets
abbrev pub HoldsListedByEither : Bool → Option (List ℕ) → Option (List ℕ) → List ℕ → Type 0
HoldsListedByEither json story_known certificate_known text =
    HoldsListedBy json interval_operations interval_format story_known certificate_known text ⊎ HoldsListedBy json values_operations values_format story_known certificate_known text

-- What listing a certificate comes to, which is judged first, with what the writer took before and has taken now.
abbrev pub ListByComesTo : Bool → Option (List ℕ) → Option (List ℕ) → Option (List ℕ) → Option (List ℕ) → Outcome → Type 0
ListByComesTo json story_known certificate_known before now Listed = (text : List ℕ) × HoldsListedByEither json story_known certificate_known text × Appends before now text
ListByComesTo json story_known certificate_known before now (Stopped problem) =
    Stops ((text : List ℕ) × HoldsListedByEither json story_known certificate_known text × AppendsBeginning before now text) (IsUnacceptedStory story_known certificate_known) before now problem
ListByComesTo json story_known certificate_known before now outcome = ⊥
