-- What the words of a command line come to: what is done, what is said of it, and the exit status (own).
use Rattle.std.specs.Prelude.{◌≡◌, ◌⊎◌, ℕ, Bool, true, false, List, [], ◌∷◌, Option, None, Some, MatchBool}
use Rattle.clap.specs.Kinds.{IsAmong, Kinds}
use Rattle.clap.specs.Words.{Row, Text, subcommand_of}
use Rattle.clap.specs.declared.error.kind.ErrorKind.{ErrorKind}
use Rattle.clap.specs.declared.error.kind.ErrorKind.TheVariants.{DisplayHelp, DisplayVersion}
use Rattle.zcommand.specs.CommandLine.{Asks, Request, ListStory, Find, FindEach, OneForMany as NotOne, Check, CheckEach, Show, Play, Info, Explain, Unpack, zpc_app}
use Rattle.zquetzal.specs.declared.error.SaveError.{SaveError}
use Rattle.zplayer.specs.Outside.{Blames, words_of}
use Rattle.zplayer.specs.World.{Store, World, world}
use Rattle.zprompt.specs.declared.manner.Manner.{Manner}
use Rattle.zscreen.specs.declared.status_lines.StatusLines.{StatusLines}
use Rattle.zperform.specs.Beside.{Aside, Unsought, PlaysBeside, SaysAll, spared_beside}
use Rattle.zperform.specs.Blaming.{IsUnread, IsUnreadOf, IsUnreadOrUnwritten}
use Rattle.zperform.specs.Devices.{Breaks, Devices, FlushesUnless, Held, Says, Seen, Takes, UsesUnless}
use Rattle.zperform.specs.Checking.{CheckEachComesTo}
use Rattle.zperform.specs.Accepting.{CheckComesTo, IsOfEither, PlayComesTo}
use Rattle.zperform.specs.Excusing.{PlaysExcused, SaysExcused}
use Rattle.zperform.specs.Finding.{ExplainComesTo}
use Rattle.zperform.specs.Informing.{InfoComesTo, name_of_certificate}
use Rattle.zperform.specs.Keeping.{IsOccupied, MayWrite}
use Rattle.zperform.specs.Listing.{ListComesTo}
use Rattle.zperform.specs.Marking.{ListByComesTo}
use Rattle.zperform.specs.Seeking.{FindEachComesTo, FindOneComesTo, IsOfOne}
use Rattle.zperform.specs.Showing.{ShowComesTo}
use Rattle.zperform.specs.Report.{status_of}
use Rattle.zperform.specs.Unpacking.{IsOfThree, IsUnreadOfThree, UnpackComesTo}
use Rattle.zperform.specs.Wording.{IsSaidSo}
use Rattle.zperform.specs.declared.blame.Blame.{Blame}
use Rattle.zperform.specs.declared.wording.Speech.{Speech}
use Rattle.zperform.specs.declared.wording.Speech.TheVariants.{Codes, Words}
use Rattle.zperform.specs.Telling.{SaysEach, said_of}
use Rattle.zperform.specs.declared.finding.Search.{Search}
use Rattle.zperform.specs.declared.outcome.Failure.TheVariants.{File, Read, Write, Memory}
use Rattle.zperform.specs.declared.outcome.Problem.{Problem}
use Rattle.zperform.specs.declared.outcome.Problem.TheVariants.{Failed}
use Rattle.zperform.specs.declared.outcome.Outcome.{Outcome}
use Rattle.zperform.specs.declared.outcome.Outcome.TheVariants.{OneForMany, Stopped}

-- an outcome's lines are said, by codes or in words, with the file that failed last
abbrev pub SaysOutcome : Speech → Option Blame → Outcome → Seen → Seen → Type 0
SaysOutcome speech blame outcome old new = (text : List ℕ) × IsSaidSo speech blame outcome text × Says old new text

-- an outcome's exit status, and its lines
pub record Reports (speech : Speech) (blame : Option Blame) (outcome : Outcome) (status : ℕ) (old new : Seen) : Type 0 where
  pub status_is : status ≡ status_of outcome
  pub said : SaysOutcome speech blame outcome old new

-- ---- words that name no command

-- help and the version are asked for; any other kind is a mistake in the words
abbrev pub is_request : ErrorKind → Bool
is_request DisplayHelp = true
is_request DisplayVersion = true
is_request _ = false

-- what was asked for goes to the writer, and only a failure there is reported
abbrev pub Shows : List ℕ → ℕ → Devices → Devices → Type 0
Shows text status old new =
    (Takes old.writer new.writer text × (status ≡ 0) × (new.errors ≡ old.errors))
    ⊎ (Breaks old.writer new.writer text × Reports Codes None (Stopped (Failed Write)) status old.errors new.errors)

-- a mistake is told on the errors
abbrev pub Tells : List ℕ → ℕ → Devices → Devices → Type 0
Tells text status old new = Says old.errors new.errors text × (status ≡ 2) × (new.writer ≡ old.writer)

-- memory was refused while the words were read, and nothing was shown, nor a file or any input read
pub record Lacks (status : ℕ) (old new : Devices) : Type 0 where
  pub reported : Reports Codes None (Stopped (Failed Memory)) status old.errors new.errors
  pub writer : new.writer ≡ old.writer
  pub files : new.files ≡ old.files
  pub reader : new.reader ≡ old.reader

-- words with an answer of one of these kinds in place of a command get its text, which is clap's
abbrev pub Explains : Kinds → ℕ → Devices → Devices → Type 0
Explains kinds status old new =
    Lacks status old new
    ⊎ ((kind : ErrorKind) × (text : List ℕ) × IsAmong kind kinds × MatchBool (is_request kind) (Shows text status old new) (Tells text status old new) × (new.files ≡ old.files) × (new.reader ≡ old.reader))

-- ---- words that name one

-- where saves are kept at first: in a file, of which nothing is told, or nowhere
abbrev pub store_of : Option Text → Store
store_of None = record { kept = Some None; failures = 0; refusals = [] }
store_of (Some name) = record { kept = None; failures = 0; refusals = [] }

-- what a play is given: the input, the words of a seed, and a store
abbrev pub given : Option (List ℕ) → ℕ → Store → World
given input seed store = world input (Some (words_of seed)) store

-- how a play is done: in so many steps, with status lines so, and with the player's own commands or with none
abbrev pub manner_of : ℕ → StatusLines → Bool → Manner
manner_of budget status commands = record { options = record { budget = budget; status = status }; commands = commands }

-- what is looked for
abbrev pub sought : Option ℕ → Bool → Bool → Bool → Search
sought frames strict places json = record { frames = frames; strict = strict; places = places; json = json }

-- nothing is done of words that name one certificate for more stories than one
pub record RefusesMany (held holds : List ℕ → Option (List ℕ)) (before now : Option (List ℕ)) (outcome : Outcome) : Type 0 where
  pub outcome_is : outcome ≡ OneForMany
  pub files_stay : holds ≡ held
  pub nothing_said : now ≡ before

-- What comes of a request, where a play has the player's own commands or none, with the files before and now, with the input, with what became
-- of the certificate beside a story that is played with none named, with why saves were refused, the newest first, and with what the writer
-- took before and has taken now. A lenient play has no commands.
abbrev pub Comes : Bool → Request → Held → Held → Option (List ℕ) → Aside → List SaveError → Option (List ℕ) → Option (List ℕ) → Outcome → Type 0
Comes commands (ListStory story None json) files later input aside refusals before now outcome = ListComesTo json (files.known story) before now outcome
Comes commands (ListStory story (Some certificate) json) files later input aside refusals before now outcome = ListByComesTo json (files.known story) (files.known certificate) before now outcome
Comes commands (Find story certificate frames strict places force json) files later input aside refusals before now outcome =
    FindOneComesTo (sought frames strict places json) force story certificate files later before now outcome
Comes commands (FindEach stories frames strict places force json) files later input aside refusals before now outcome =
    FindEachComesTo (sought frames strict places json) force None stories files later before now outcome
Comes commands NotOne files later input aside refusals before now outcome = RefusesMany files.known later.known before now outcome
Comes commands (Check story certificate false) files later input aside refusals before now outcome = CheckComesTo (files.known story) (files.known certificate) before now outcome
Comes commands (Check story certificate true) files later input aside refusals before now outcome = CheckEachComesTo true (Some certificate) (story ∷ []) files later before now outcome
Comes commands (CheckEach stories json) files later input aside refusals before now outcome = CheckEachComesTo json None stories files later before now outcome
Comes commands (Show story certificate address) files later input aside refusals before now outcome = ShowComesTo (files.known story) (files.known certificate) address before now outcome
Comes commands (Play story certificate seed budget status save tell force true) files later input aside refusals before now outcome =
    PlaysExcused files story certificate aside (record { budget = budget; status = status }) (given input seed (store_of save)) refusals before now outcome
Comes commands (Play story None seed budget status save tell force false) files later input aside refusals before now outcome =
    PlaysBeside files later story save aside (manner_of budget status commands) (given input seed (store_of save)) refusals before now outcome
Comes commands (Play story (Some certificate) seed budget status save tell force false) files later input aside refusals before now outcome =
    PlayComesTo (files.known story) (files.known certificate) (manner_of budget status commands) (given input seed (store_of save)) refusals before now outcome
Comes commands (Info story json) files later input aside refusals before now outcome = InfoComesTo json story files.known before now outcome
Comes commands (Explain code json) files later input aside refusals before now outcome = ExplainComesTo code json before now outcome
Comes commands (Unpack story save out force) files later input aside refusals before now outcome = UnpackComesTo story save out files.known later.known before now outcome

-- A request is done where its file may be written over. Else that is told, and nothing is done.
abbrev pub Begins : Bool → Request → Held → Held → Option (List ℕ) → Aside → List SaveError → Option (List ℕ) → Option (List ℕ) → Outcome → Type 0
Begins commands request files later input aside refusals before now outcome =
    (MayWrite request files.known × Comes commands request files later input aside refusals before now outcome)
    ⊎ ((problem : Problem) × (outcome ≡ Stopped problem) × IsOccupied request files.known problem × (aside ≡ Unsought) × (later.known ≡ files.known) × (now ≡ before))

-- a request whose answer needs no input
abbrev pub is_quiet : Request → Bool
is_quiet (Play story certificate seed budget status save tell force lenient) = false
is_quiet _ = true

-- a request that goes through stories one after another, and tells of each what it comes to
abbrev pub is_each : Request → Bool
is_each (Find story certificate frames strict places force json) = json
is_each (FindEach stories frames strict places force json) = true
is_each (Check story certificate json) = json
is_each (CheckEach stories json) = true
is_each request = false

-- the name of a file of which a failure needn't end a request, if there is one: that for saves, or a certificate beside a story
abbrev pub spared_in : Request → Option Text
spared_in (Play story certificate seed budget status save tell force true) = save
spared_in (Play story None seed budget status save tell force false) = spared_beside save story
spared_in (Play story (Some certificate) seed budget status save tell force false) = save
spared_in (Info story json) = Some (name_of_certificate story)
spared_in request = None

-- the name of the file that saves are kept in, if a request has one
abbrev pub save_in : Request → Option Text
save_in (Play story certificate seed budget status save tell force lenient) = save
save_in _ = None

-- the name of the file that a request may write
abbrev pub written_by : Request → Option Text
written_by (Find story certificate frames strict places force json) = Some certificate
written_by (Unpack story save out force) = Some out
written_by request = save_in request

-- the refusals that are said of those that a request met, the newest first
abbrev pub said_by : Request → List SaveError → List SaveError
said_by (Play story certificate seed budget status save tell force lenient) refusals = said_of tell save refusals
said_by _ refusals = []

-- what became of the certificate beside a story that is played with none named is told, and then each save that is refused; of a lenient
-- play each of these, and then the faults that were answered
abbrev pub SaysFor : Request → Aside → List SaveError → Seen → Seen → Type 0
SaysFor (Play story certificate seed budget status save tell force true) aside refusals old new = SaysExcused aside (said_of tell save refusals) old new
SaysFor (Play story None seed budget status save tell force false) aside refusals old new = SaysAll story aside (said_of tell save refusals) old new
SaysFor request aside refusals old new = SaysEach (said_by request refusals) old new

-- which file a failure of files is of, by what is asked for
abbrev pub IsBlamed : Request → Held → Type 0
IsBlamed (ListStory story None json) files = files.can_fail story ≡ true
IsBlamed (ListStory story (Some certificate) json) files = IsOfEither files story certificate
IsBlamed (Find story certificate frames strict places force json) files = IsOfOne (sought frames strict places json) files story certificate
IsBlamed (FindEach stories frames strict places force json) files = ⊥
IsBlamed NotOne files = ⊥
IsBlamed (Check story certificate false) files = IsOfEither files story certificate
IsBlamed (Check story certificate true) files = ⊥
IsBlamed (CheckEach stories json) files = ⊥
IsBlamed (Show story certificate address) files = IsOfEither files story certificate
IsBlamed (Play story None seed budget status save tell force lenient) files = files.can_fail story ≡ true
IsBlamed (Play story (Some certificate) seed budget status save tell force lenient) files = IsOfEither files story certificate
IsBlamed (Info story json) files = files.can_fail story ≡ true
IsBlamed (Explain code json) files = ⊥
IsBlamed (Unpack story save out force) files = IsOfThree files story save out

-- which file is told of where one failed, by what is asked for: one that was to be read, or to be written
abbrev pub IsToldOf : Request → Option Blame → Type 0
IsToldOf (ListStory story None json) blamed = IsUnread story blamed
IsToldOf (ListStory story (Some certificate) json) blamed = IsUnreadOf story certificate blamed
IsToldOf (Find story certificate frames strict places force json) blamed = IsUnreadOrUnwritten story certificate blamed
IsToldOf (FindEach stories frames strict places force json) blamed = ⊥
IsToldOf NotOne blamed = ⊥
IsToldOf (Check story certificate json) blamed = IsUnreadOf story certificate blamed
IsToldOf (CheckEach stories json) blamed = ⊥
IsToldOf (Show story certificate address) blamed = IsUnreadOf story certificate blamed
IsToldOf (Play story None seed budget status save tell force lenient) blamed = IsUnread story blamed
IsToldOf (Play story (Some certificate) seed budget status save tell force lenient) blamed = IsUnreadOf story certificate blamed
IsToldOf (Info story json) blamed = IsUnread story blamed
IsToldOf (Explain code json) blamed = ⊥
IsToldOf (Unpack story save out force) blamed = IsUnreadOfThree story save out blamed

-- what is done of a request: where words are told, as on a terminal, a play tells of each save that is refused, asked for or not
abbrev pub spoken : Speech → Request → Request
spoken Words (Play story certificate seed budget status save tell force lenient) = Play story certificate seed budget status save true force lenient
spoken speech request = request

-- A request, with the values among clap's matches: what it comes to, with the player's own commands or with none if it is a play, is reported,
-- if its file may be written over, behind what is said of a certificate that stands beside a story and isn't used, and a line of each save that was
-- refused, where those are asked for. The writer is blamed just where it failed, and so are the reader, which isn't asked but for a play, and the
-- files, unless saves are kept in one, or a certificate beside a story: then they may fail, and the play goes on. A failure of files is one of a file
-- that the request names, and it is the one that is told of. No file is written but the one for saves or for a certificate that is found. What was
-- written is flushed unless the writer failed.
pub record Does (words : List Text) (speech : Speech) (commands : Bool) (status : ℕ) (old new : Devices) : Type 0 where
  pub matches : Text × List Row
  pub named : subcommand_of zpc_app words ≡ Some matches
  pub asked : Request
  pub asks : Asks matches asked
  pub request : Request
  pub is_spoken : request ≡ spoken speech asked
  pub outcome : Outcome
  pub aside : Aside
  pub refusals : List SaveError
  pub comes : Begins commands request old.files new.files old.reader.remaining aside refusals old.writer.contents new.writer.contents outcome
  pub writer : FlushesUnless (λ (s : Seen). s.failures) (λ (s : Seen). s.waits) old.writer new.writer (outcome ≡ Stopped (Failed Write))
  pub files : is_each request ≡ false → UsesUnless (λ (f : Held). f.known) (λ (f : Held). f.failures) old.files new.files (spared_in request) (written_by request) (outcome ≡ Stopped (Failed File))
  pub could : outcome ≡ Stopped (Failed File) → IsBlamed request old.files
  pub blamed : outcome ≡ Stopped (Failed File) → IsToldOf request new.files.blamed
  pub reader : Blames (outcome ≡ Stopped (Failed Read)) old.reader.failures new.reader.failures
  pub unasked : is_quiet request ≡ true → new.reader ≡ old.reader
  pub between : Seen
  pub told : SaysFor request aside refusals old.errors between
  pub reported : Reports speech new.files.blamed outcome status between new.errors

-- the request of the words was done, as far as there was memory to read them
abbrev pub Performs : List Text → Speech → Bool → ℕ → Devices → Devices → Type 0
Performs words speech commands status old new = Does words speech commands status old new ⊎ Lacks status old new
