-- What telling of a story file comes to, and of the certificate beside it (own).
use Rattle.std.specs.Prelude.{◌≡◌, ◌≢◌, ◌⊎◌, ⊤, ℕ, Bool, true, false, List, ◌++◌, Option, None, Result, Ok, Err, codes, length}
use Rattle.std.specs.Io.KnownBytes.{Appends}
use Rattle.zfault.specs.Devices.{AppendsBeginning}
use Rattle.zstory.specs.LoadedStory.{LoadedStory, identity_of}
use Rattle.zcert.specs.Certificate.{Certificate, edition_of}
use Rattle.zcert.specs.Format.{Format, interval_format, version_of}
use Rattle.zcert.specs.Lists.{values_format}
use Rattle.zcert.specs.Refusal.{number_of}
use Rattle.zcert.specs.declared.error.CertError.{CertError}
use Rattle.zcheck.specs.Judged.{marks_in}
use Rattle.zcheck.specs.declared.refusal.StoryRule.TheVariants.{Identity}
use Rattle.zbatch.specs.Naming.{name_beside}
use Rattle.zinfo.specs.Beside.{text_of_beside}
use Rattle.zinfo.specs.Info.{IsInfoOf}
use Rattle.zinfo.specs.Object.{object_of_info}
use Rattle.zinfo.specs.Text.{text_of_info}
use Rattle.zinfo.specs.declared.facts.Beside.{Beside}
use Rattle.zinfo.specs.declared.facts.Beside.TheVariants.{Nothing, Unreadable as NoCertificate, OfAnother, Closed, Own}
use Rattle.zinfo.specs.declared.facts.Info.{Info}
use Rattle.zinfo.specs.declared.facts.Kept.{Kept}
use Rattle.zjson.specs.Digest.{digest_text}
use Rattle.zperform.specs.Accepting.{HoldsCertificate, IsNoStory, IsUnread, Stops}
use Rattle.zperform.specs.Playing.{Holds, Reads}
use Rattle.zperform.specs.declared.outcome.Failure.TheVariants.{File, Memory}
use Rattle.zperform.specs.declared.outcome.Problem.{Problem}
use Rattle.zperform.specs.declared.outcome.Problem.TheVariants.{Unreadable, BreaksStory, Failed}
use Rattle.zperform.specs.declared.outcome.Outcome.{Outcome}
use Rattle.zperform.specs.declared.outcome.Outcome.TheVariants.{Informed, Stopped}

-- the name of the certificate's file beside a story's: the story's with `.cert` for `.z3`
abbrev pub name_of_certificate : List ℕ → List ℕ
name_of_certificate story = name_beside story (codes "cert")

-- ---- what stands beside a story

-- what a certificate has
abbrev pub kept_of : {V : Type 0} → Format V → Certificate V → Kept
kept_of format c =
    record { version = version_of format (edition_of c); frames = c.limit; routines = length c.routines; instructions = length c.instructions; marks = marks_in c; facts = length c.facts }

module _ {V : Type 0} (format : Format V) (known : Option (List ℕ)) (story : LoadedStory) where
  -- a file spells a certificate of the story, accepted or not, that has this
  pub record IsKeptOf (kept : Kept) : Type 0 where
    pub certificate : Certificate V
    pub read : HoldsCertificate format known certificate
    pub own : certificate.identity ≡ identity_of story
    pub has : kept ≡ kept_of format certificate

  -- it spells one of another story
  pub record IsOfAnother : Type 0 where
    pub certificate : Certificate V
    pub read : HoldsCertificate format known certificate
    pub other : certificate.identity ≢ identity_of story

  -- why it has none of the story: its bytes are refused, or are of another
  abbrev pub IsNotKept : Problem → Type 0
  IsNotKept (Unreadable error) = Reads known (λ file. IsUnread format file error)
  IsNotKept (BreaksStory Identity) = IsOfAnother
  IsNotKept (Failed File) = ⊤
  IsNotKept (Failed Memory) = ⊤
  IsNotKept problem = ⊥

  -- what it is
  abbrev pub IsBesideBy : Beside → Type 0
  IsBesideBy Nothing = ⊥
  IsBesideBy (NoCertificate number) = (error : CertError) × (number ≡ number_of error) × Reads known (λ file. IsUnread format file error)
  IsBesideBy OfAnother = IsOfAnother
  IsBesideBy Closed = ⊤
  IsBesideBy (Own kept) = IsKeptOf kept

-- what stands beside a story: no file of which anything is known, one that can't be read, or one that is read by either kind of sets
abbrev pub IsBeside : Option (List ℕ) → LoadedStory → Beside → Type 0
IsBeside known story Nothing = known ≡ None
IsBeside known story beside = IsBesideBy interval_format known story beside ⊎ IsBesideBy values_format known story beside

-- that isn't known where memory is wanting
abbrev pub IsUntold : Problem → Type 0
IsUntold problem = problem ≡ Failed Memory

-- for a private clause: what is told of what a certificate has, or of why there is none
abbrev pub beside_by : Result Kept Problem → Result Beside Problem
beside_by (Ok kept) = Ok (Own kept)
beside_by (Err (Unreadable error)) = Ok (NoCertificate (number_of error))
beside_by (Err (BreaksStory rule)) = Ok OfAnother
beside_by (Err (Failed File)) = Ok Closed
beside_by (Err problem) = Err problem

-- ---- what is told

-- a file holds a story, and has this digest
abbrev pub HoldsDigested : Option (List ℕ) → LoadedStory → List ℕ → Type 0
HoldsDigested known story digest = Reads known (λ file. Holds file story × (digest ≡ digest_text file))

-- the facts of a story, and what stands beside it, as lines
abbrev pub lines_of : Info → Beside → List ℕ
lines_of info beside = text_of_info info ++ text_of_beside beside

-- or as an object of JSON, with the name of the story's file, its digest, and the name of the certificate's
abbrev pub info_text : Bool → List ℕ → List ℕ → Info → List ℕ → Beside → List ℕ
info_text true name digest info certificate beside = object_of_info name digest info certificate beside
info_text false name digest info certificate beside = lines_of info beside

-- the text tells of the story of a file of a name, and of what stands beside it
pub record HoldsInfo (json : Bool) (name : List ℕ) (held : List ℕ → Option (List ℕ)) (text : List ℕ) : Type 0 where
  pub story : LoadedStory
  pub digest : List ℕ
  pub holds : HoldsDigested (held name) story digest
  pub facts : Info
  pub are : IsInfoOf story facts
  pub beside : Beside
  pub stands : IsBeside (held (name_of_certificate name)) story beside
  pub lines : text ≡ info_text json name digest facts (name_of_certificate name) beside

-- why nothing is told of a file: it holds no story, or memory is wanting; or a file couldn't be read
abbrev pub IsNoInfo : Option (List ℕ) → Problem → Type 0
IsNoInfo known problem = IsNoStory known problem ⊎ (problem ≡ Failed Memory)

-- What telling comes to, with what the writer took before and has taken now.
abbrev pub InfoComesTo : Bool → List ℕ → (List ℕ → Option (List ℕ)) → Option (List ℕ) → Option (List ℕ) → Outcome → Type 0
InfoComesTo json name held before now Informed = (text : List ℕ) × HoldsInfo json name held text × Appends before now text
InfoComesTo json name held before now (Stopped problem) =
    Stops ((text : List ℕ) × HoldsInfo json name held text × AppendsBeginning before now text) (IsNoInfo (held name)) before now problem
InfoComesTo json name held before now outcome = ⊥
