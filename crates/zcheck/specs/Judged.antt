-- A story that is accepted with a certificate, whether that marks instructions or not, and why one isn't (own).
use Rattle.std.specs.Prelude.{◌≡◌, ◌≢◌, ◌⊎◌, ℕ, ⊤, List, Ok}
use Rattle.zstory.specs.LoadedStory.{LoadedStory}
use Rattle.zdomain.specs.Domain.{SetOperations}
use Rattle.zcert.specs.Certificate.{Certificate}
use Rattle.zcert.specs.Format.{Format}
use Rattle.zcert.specs.Marks.{marks}
use Rattle.zcert.specs.Reading.{reading}
use Rattle.zcert.specs.Streaming.{IsUnread}
use Rattle.zcheck.specs.Acceptance.{AcceptanceOver, IsListingOf}
use Rattle.zcheck.specs.Marks.{FaultsAtMarksAlone, IsRefusedWhereUnmarked, MarkedOver, PassesWhereUnmarked}
use Rattle.zcheck.specs.Passes.{IsRefused, Passes}
use Rattle.zcheck.specs.declared.judged.Judged.{Judged}
use Rattle.zcheck.specs.declared.judged.Judged.TheVariants.{Whole, Marked}
use Rattle.zcheck.specs.declared.refusal.Refusal.{Refusal}
use Rattle.zcheck.specs.declared.refusal.StreamRefusal.{StreamRefusal}
use Rattle.zcheck.specs.declared.refusal.StreamRefusal.TheVariants.{Cert, Check}

-- a story that is accepted with a certificate over a type of sets
abbrev pub JudgedOver : Type 0 → Type 0
JudgedOver V = Judged (AcceptanceOver V) (MarkedOver V)

module _ {V : Type 0} where
  -- its story
  abbrev pub story_of : JudgedOver V → LoadedStory
  story_of (Whole a) = a.story
  story_of (Marked m) = m.story

  -- its certificate
  abbrev pub certificate_of : JudgedOver V → Certificate V
  certificate_of (Whole a) = a.certificate
  certificate_of (Marked m) = m.certificate

  -- something is so of a story that is accepted with a certificate that marks nothing
  abbrev pub OfWhole : (AcceptanceOver V → Type 0) → JudgedOver V → Type 0
  OfWhole P (Whole a) = P a
  OfWhole P (Marked m) = ⊤

  -- how many instructions a certificate marks
  abbrev pub marks_in : Certificate V → ℕ
  marks_in c = marks c.instructions

module _ {V : Type 0} (o : SetOperations V) where
  -- the certificate marks nothing, and passes; or it marks something, passes but where it marks, and faults are there or behind it
  abbrev pub IsJudged : JudgedOver V → Type 0
  IsJudged (Whole a) = (marks_in a.certificate ≡ 0) × Passes o a.story a.certificate × IsListingOf a.story a.certificate a.listing
  IsJudged (Marked m) = (marks_in m.certificate ≢ 0) × PassesWhereUnmarked o m.story m.certificate × FaultsAtMarksAlone o m

  -- why a certificate isn't accepted: what is wrong first, but at marks
  abbrev pub IsUnjudged : LoadedStory → Certificate V → Refusal → Type 0
  IsUnjudged story c refusal = ((marks_in c ≡ 0) × IsRefused o story c refusal) ⊎ ((marks_in c ≢ 0) × IsRefusedWhereUnmarked o story c refusal)

module _ {V : Type 0} (o : SetOperations V) (format : Format V) where
  -- the bytes spell a certificate that isn't accepted for this
  pub record SpellsUnjudged (story : LoadedStory) (bytes : List ℕ) (refusal : Refusal) : Type 0 where
    pub certificate : Certificate V
    pub read : reading format bytes ≡ Ok certificate
    pub refused : IsUnjudged o story certificate refusal

  -- why a story isn't accepted with the certificate that bytes spell: they aren't read as one, or it isn't accepted
  abbrev pub IsUnjudgedWith : LoadedStory → List ℕ → StreamRefusal → Type 0
  IsUnjudgedWith story bytes (Cert error) = IsUnread format bytes error
  IsUnjudgedWith story bytes (Check refusal) = SpellsUnjudged story bytes refusal
