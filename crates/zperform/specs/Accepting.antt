-- What the files of a story and of a certificate come to (own).
use Rattle.std.specs.Prelude.{◌≡◌, ◌≢◌, ◌⊎◌, ⊤, ℕ, ℤ, true, [], ◌==◌, ◌||◌, List, Option, Result, Ok, Err, IfOk, IfSome, if◌then◌else◌, length}
use Rattle.std.specs.Io.KnownBytes.{Appends}
use Rattle.zfault.specs.Devices.{AppendsBeginning}
use Rattle.zfault.specs.declared.fault.Fault.{Fault}
use Rattle.zquetzal.specs.declared.error.SaveError.{SaveError}
use Rattle.zstory.specs.Bytes.{byte_at}
use Rattle.zstory.specs.LoadedStory.{LoadedStory}
use Rattle.zstate.specs.State.{State, opening}
use Rattle.zplay.specs.Session.{setting_of}
use Rattle.zplayer.specs.declared.end.End.{End}
use Rattle.zplayer.specs.declared.end.End.TheVariants as ends
use Rattle.zprompt.specs.declared.manner.Manner.{Manner}
use Rattle.zplayer.specs.declared.end.PlayError.{PlayError}
use Rattle.zplayer.specs.declared.end.PlayError.TheVariants as errors
use Rattle.zplayer.specs.Outside.{Coming}
use Rattle.zplayer.specs.Playing.{GivesOrSaves, WantsOrSaves}
use Rattle.zprompt.specs.Manners.{ComesTo as PlayComes}
use Rattle.zref.specs.Machine.{setting_of as setting_within}
use Rattle.zref.specs.declared.scope.Scope.TheVariants.{Within}
use Rattle.zplayer.specs.Stories.{Describes}
use Rattle.zplayer.specs.World.{Store, World}
use Rattle.zdomain.specs.Domain.{SetOperations}
use Rattle.zdomain.specs.Interval.{interval_operations}
use Rattle.zdomain.specs.Values.{values_operations}
use Rattle.zcert.specs.Certificate.{Certificate, frame_limit}
use Rattle.zcert.specs.Format.{Format, interval_format}
use Rattle.zcert.specs.Lists.{values_format}
use Rattle.zcert.specs.Reading.{reading}
use Rattle.zcert.specs.Streaming.{Stream, IsFed}
use Rattle.zcert.specs.declared.error.CertError.{CertError}
use Rattle.zcert.specs.declared.limits.TheConstants.{VERSION, LIST_VERSION, LIMIT_VERSION, MARK_VERSION, FACT_VERSION}
use Rattle.zcheck.specs.Acceptance.{AcceptanceOver, IsListingOf}
use Rattle.zcheck.specs.Judged.{JudgedOver, IsUnjudged, certificate_of, marks_in}
use Rattle.zcheck.specs.Marks.{FaultsAtMarksAlone, MarkedOver, PassesWhereUnmarked}
use Rattle.zcheck.specs.Passes.{Passes}
use Rattle.zcheck.specs.declared.judged.Judged.TheVariants.{Whole, Marked}
use Rattle.zcheck.specs.declared.refusal.Refusal.{Refusal}
use Rattle.zcheck.specs.declared.refusal.Refusal.TheVariants.{Story, Instruction}
use Rattle.zperform.specs.Contents.{HasBytes, IsBeginning}
use Rattle.zperform.specs.Devices.{Held}
use Rattle.zperform.specs.declared.accepting.AcceptedStory.{AcceptedStory}
use Rattle.zperform.specs.declared.accepting.AcceptedStory.TheVariants.{Intervals, Lists}
use Rattle.zperform.specs.declared.outcome.Failure.TheVariants.{File, Read, Write, Memory}
use Rattle.zperform.specs.declared.outcome.Problem.{Problem}
use Rattle.zperform.specs.declared.outcome.Problem.TheVariants.{Refused, Unreadable, BreaksStory, BreaksInstruction, Unlisted, Unfound, Occupied, Failed, Packed}
use Rattle.zperform.specs.declared.outcome.Outcome.{Outcome}
use Rattle.zperform.specs.declared.outcome.Outcome.TheVariants.{Listed, Found, Accepted, Through, Shown, NoAddress, Informed, Explained, NoSuchCode, OneForMany, Played, Stopped, Unpacked}
use Rattle.zperform.specs.Playing.{Holds, IsRefused, Reads, StaysEmpty}
use Rattle.zperform.specs.Report.{accepted_line}

-- the story that a file holds
abbrev pub HoldsStory : Option (List ℕ) → LoadedStory → Type 0
HoldsStory known story = Reads known (λ file. Holds file story)

-- the story that a file holds is such a one
abbrev pub HoldsSuch : Option (List ℕ) → (LoadedStory → Type 0) → Type 0
HoldsSuch known IsSuch = (story : LoadedStory) × HoldsStory known story × IsSuch story

-- why no story is loaded from a file
abbrev pub IsNoStory : Option (List ℕ) → Problem → Type 0
IsNoStory known (Refused error) = Reads known (λ file. IsRefused file error)
IsNoStory known (Failed File) = ⊤
IsNoStory known (Failed Memory) = HasBytes known
IsNoStory known problem = ⊥

-- why nothing comes of a story's file: it holds no story, or one of which this is why
abbrev pub IsWhyNone : (LoadedStory → Problem → Type 0) → Option (List ℕ) → Problem → Type 0
IsWhyNone IsWhy known problem = IsNoStory known problem ⊎ HoldsSuch known (λ story. IsWhy story problem)

-- By which sets a certificate's file is read, as its fifth byte says, told by the version that has them, names no limit of frames, marks
-- nothing and states no facts: by those of version 2 where that is 2, 3, 4 or 5, and else by those of version 1, by which every other
-- number than 1 is refused, and a file that is cut off before it.
abbrev pub version_by : ℕ → ℕ
version_by byte = if (byte == LIST_VERSION) || (byte == LIMIT_VERSION) || (byte == MARK_VERSION) || (byte == FACT_VERSION) then LIST_VERSION else VERSION

abbrev pub version_of : List ℕ → ℕ
version_of file = version_by (byte_at file 4)

module _ {V : Type 0} (format : Format V) where
  -- the certificate that a file spells
  abbrev pub HoldsCertificate : Option (List ℕ) → Certificate V → Type 0
  HoldsCertificate known c = Reads known (λ file. reading format file ≡ Ok c)

  -- a file is read by the format's sets, and its bytes are refused
  abbrev pub IsUnread : List ℕ → CertError → Type 0
  IsUnread file error = (version_of file ≡ format.version) × (reading format file ≡ Err error)

  -- why no certificate is read from a file: memory is wanted only for one that has bytes
  abbrev pub IsNoCertificate : Option (List ℕ) → Problem → Type 0
  IsNoCertificate known (Unreadable error) = Reads known (λ file. IsUnread file error)
  IsNoCertificate known (Failed File) = ⊤
  IsNoCertificate known (Failed Memory) = HasBytes known
  IsNoCertificate known problem = ⊥

  -- a stream was fed so many bytes of a file that is read by the format's sets, which are its first, where its bytes are known
  pub record IsFedTo (known : Option (List ℕ)) (count : ℕ) (stream : Stream V) : Type 0 where
    pub fed : List ℕ
    pub version : version_of fed ≡ format.version
    pub first : IfSome known (IsBeginning fed)
    pub counted : length fed ≡ count
    pub came : IsFed format stream fed

  -- it was fed all of them
  abbrev pub IsFedWhole : Option (List ℕ) → Stream V → Type 0
  IsFedWhole known stream = Reads known (λ file. (version_of file ≡ format.version) × IsFed format stream file)

-- What two files come to with one kind of sets: how a version of the format writes them, and what is computed with them.
module _ {V : Type 0} (o : SetOperations V) (format : Format V) (story_known certificate_known : Option (List ℕ)) where
  -- what two files hold, and the checker accepts; nothing is marked
  pub record IsAccepted (a : AcceptanceOver V) : Type 0 where
    pub story : HoldsStory story_known a.story
    pub certificate : HoldsCertificate format certificate_known a.certificate
    pub unmarked : marks_in a.certificate ≡ 0
    pub passes : Passes o a.story a.certificate
    pub lists : IsListingOf a.story a.certificate a.listing

  abbrev pub Accepts : (AcceptanceOver V → Type 0) → Type 0
  Accepts property = (a : AcceptanceOver V) × IsAccepted a × property a

  -- what two files hold, and the checker accepts but where it is marked; something is, and a fault is there or behind it
  pub record IsMarkedOf (m : MarkedOver V) : Type 0 where
    pub story : HoldsStory story_known m.story
    pub certificate : HoldsCertificate format certificate_known m.certificate
    pub marked : marks_in m.certificate ≢ 0
    pub passes : PassesWhereUnmarked o m.story m.certificate
    pub faults : FaultsAtMarksAlone o m

  abbrev pub Marks : (MarkedOver V → Type 0) → Type 0
  Marks property = (m : MarkedOver V) × IsMarkedOf m × property m

  -- the one or the other
  abbrev pub IsJudgedOf : JudgedOver V → Type 0
  IsJudgedOf (Whole a) = IsAccepted a
  IsJudgedOf (Marked m) = IsMarkedOf m

  -- a certificate that is refused for a story
  pub record Breaks (refusal : Refusal) : Type 0 where
    pub story : LoadedStory
    pub certificate : Certificate V
    pub held : HoldsStory story_known story
    pub read : HoldsCertificate format certificate_known certificate
    pub why : IsUnjudged o story certificate refusal

  -- Why a story with a certificate isn't accepted: the story is looked at first, then the certificate's file, then whether
  -- it holds. Memory is wanted only where the story's file has bytes.
  abbrev pub IsUnaccepted : Problem → Type 0
  IsUnaccepted (Refused error) = Reads story_known (λ file. IsRefused file error)
  IsUnaccepted (Unreadable error) = ((story : LoadedStory) × HoldsStory story_known story) × Reads certificate_known (λ file. IsUnread format file error)
  IsUnaccepted (BreaksStory rule) = Breaks (Story rule)
  IsUnaccepted (BreaksInstruction address rule) = Breaks (Instruction address rule)
  IsUnaccepted (Unlisted error) = ⊥
  IsUnaccepted (Unfound error broken) = ⊥
  IsUnaccepted (Occupied purpose) = ⊥
  IsUnaccepted (Packed error) = ⊥
  IsUnaccepted (Failed File) = ⊤
  IsUnaccepted (Failed Memory) = HasBytes story_known
  IsUnaccepted (Failed Read) = ⊥
  IsUnaccepted (Failed Write) = ⊥

-- which file a failure is of: the story's, or the certificate's, which is read once there is a story
abbrev pub IsOfEither : Held → List ℕ → List ℕ → Type 0
IsOfEither files story certificate = (files.can_fail story ≡ true) ⊎ (((loaded : LoadedStory) × HoldsStory (files.known story) loaded) × (files.can_fail certificate ≡ true))

-- What a problem that stops a command says: where writing failed, this was begun; else why, and that nothing was written.
abbrev pub Stops : Type 0 → (Problem → Type 0) → Option (List ℕ) → Option (List ℕ) → Problem → Type 0
Stops begun IsWhy before now (Failed Write) = begun
Stops begun IsWhy before now problem = IsWhy problem × (now ≡ before)

-- what was accepted was played from its opening, of which the certificate's listing bounds the scope, and came to this, with no
-- fault; the saves that were refused were so for these causes, the newest first
pub record IsPlayedBy {V : Type 0} (o : SetOperations V) (a : AcceptanceOver V) (manner : Manner) (given : World) (refusals : List SaveError) (before now : Option (List ℕ)) (result : Result End PlayError) : Type 0 where
  pub state : State
  pub words : Option Coming
  pub store : Store
  pub comes : PlayComes (setting_of a) (Describes o a) (GivesOrSaves (setting_of a)) manner given (opening a.story) state words store before now result
  pub unsaved : StaysEmpty given.store store
  pub refused : store.refusals ≡ refusals
  pub safe : IfOk result (λ end. (fault : Fault) (place : ℤ) → end ≢ ends.Fault fault place)

-- what is accepted but where it is marked was played from its opening by the checked machine, with every place in scope and as many frames as
-- its certificate says, and came to this; the saves that were refused were so for these causes, the newest first
pub record IsPlayedMarked {V : Type 0} (m : MarkedOver V) (manner : Manner) (given : World) (refusals : List SaveError) (before now : Option (List ℕ)) (result : Result End PlayError) : Type 0 where
  pub state : State
  pub words : Option Coming
  pub store : Store
  pub comes : PlayComes (setting_within m.story (Within (frame_limit m.certificate))) (λ _. ⊤) (WantsOrSaves (setting_within m.story (Within (frame_limit m.certificate)))) manner given (opening m.story) state words store before now result
  pub unsaved : StaysEmpty given.store store
  pub refused : store.refusals ≡ refusals

-- What playing by a certificate comes to with one kind of sets, with why saves were refused, the newest first.
module _ {V : Type 0} (o : SetOperations V) (format : Format V) (story_known certificate_known : Option (List ℕ)) where
  -- with marks or without
  abbrev pub Plays : Manner → World → List SaveError → Option (List ℕ) → Option (List ℕ) → Result End PlayError → Type 0
  Plays manner given refusals before now result =
      Accepts o format story_known certificate_known (λ a. IsPlayedBy o a manner given refusals before now result) ⊎ Marks o format story_known certificate_known (λ m. IsPlayedMarked m manner given refusals before now result)

  abbrev pub PlayEnds : Manner → World → List SaveError → Option (List ℕ) → Option (List ℕ) → Outcome → Type 0
  PlayEnds manner given refusals before now Listed = ⊥
  PlayEnds manner given refusals before now Found = ⊥
  PlayEnds manner given refusals before now Shown = ⊥
  PlayEnds manner given refusals before now NoAddress = ⊥
  PlayEnds manner given refusals before now Informed = ⊥
  PlayEnds manner given refusals before now Explained = ⊥
  PlayEnds manner given refusals before now Unpacked = ⊥
  PlayEnds manner given refusals before now NoSuchCode = ⊥
  PlayEnds manner given refusals before now OneForMany = ⊥
  PlayEnds manner given refusals before now Accepted = ⊥
  PlayEnds manner given refusals before now (Through tally) = ⊥
  PlayEnds manner given refusals before now (Played end) = Plays manner given refusals before now (Ok end)
  PlayEnds manner given refusals before now (Stopped (Failed Read)) = Plays manner given refusals before now (Err errors.Read)
  PlayEnds manner given refusals before now (Stopped (Failed Write)) = Plays manner given refusals before now (Err errors.Write)
  PlayEnds manner given refusals before now (Stopped (Failed Memory)) = ((now ≡ before) × (refusals ≡ []) × HasBytes story_known) ⊎ Plays manner given refusals before now (Err errors.OutOfMemory)
  PlayEnds manner given refusals before now (Stopped problem) = IsUnaccepted o format story_known certificate_known problem × (now ≡ before) × (refusals ≡ [])

-- ---- with a certificate of either kind of sets, as its file says

-- what two files hold, and the checker accepts, with marks or without
abbrev pub IsAcceptedStory : Option (List ℕ) → Option (List ℕ) → AcceptedStory → Type 0
IsAcceptedStory story_known certificate_known (Intervals j) = IsJudgedOf interval_operations interval_format story_known certificate_known j
IsAcceptedStory story_known certificate_known (Lists j) = IsJudgedOf values_operations values_format story_known certificate_known j

-- the story of it
abbrev pub story_in : {V : Type 0} → JudgedOver V → LoadedStory
story_in (Whole a) = a.story
story_in (Marked m) = m.story

abbrev pub story_of : AcceptedStory → LoadedStory
story_of (Intervals j) = story_in j
story_of (Lists j) = story_in j

-- how many marks it has
abbrev pub marks_of : AcceptedStory → ℕ
marks_of (Intervals j) = marks_in (certificate_of j)
marks_of (Lists j) = marks_in (certificate_of j)

-- why a story with a certificate isn't accepted
abbrev pub IsUnacceptedStory : Option (List ℕ) → Option (List ℕ) → Problem → Type 0
IsUnacceptedStory story_known certificate_known problem =
    IsUnaccepted interval_operations interval_format story_known certificate_known problem ⊎ IsUnaccepted values_operations values_format story_known certificate_known problem

-- What checking comes to, with what the writer took before and has taken now.
abbrev pub CheckComesTo : Option (List ℕ) → Option (List ℕ) → Option (List ℕ) → Option (List ℕ) → Outcome → Type 0
CheckComesTo story_known certificate_known before now Accepted = (a : AcceptedStory) × IsAcceptedStory story_known certificate_known a × Appends before now (accepted_line (marks_of a))
CheckComesTo story_known certificate_known before now (Through tally) = ⊥
CheckComesTo story_known certificate_known before now Listed = ⊥
CheckComesTo story_known certificate_known before now Found = ⊥
CheckComesTo story_known certificate_known before now Shown = ⊥
CheckComesTo story_known certificate_known before now NoAddress = ⊥
CheckComesTo story_known certificate_known before now Informed = ⊥
CheckComesTo story_known certificate_known before now Explained = ⊥
CheckComesTo story_known certificate_known before now Unpacked = ⊥
CheckComesTo story_known certificate_known before now NoSuchCode = ⊥
CheckComesTo story_known certificate_known before now OneForMany = ⊥
CheckComesTo story_known certificate_known before now (Played end) = ⊥
CheckComesTo story_known certificate_known before now (Stopped problem) =
    Stops ((a : AcceptedStory) × IsAcceptedStory story_known certificate_known a × AppendsBeginning before now (accepted_line (marks_of a))) (IsUnacceptedStory story_known certificate_known) before now problem

-- What playing by a certificate comes to, with why saves were refused, the newest first.
abbrev pub PlayComesTo : Option (List ℕ) → Option (List ℕ) → Manner → World → List SaveError → Option (List ℕ) → Option (List ℕ) → Outcome → Type 0
PlayComesTo story_known certificate_known manner given refusals before now outcome =
    PlayEnds interval_operations interval_format story_known certificate_known manner given refusals before now outcome ⊎ PlayEnds values_operations values_format story_known certificate_known manner given refusals before now outcome
