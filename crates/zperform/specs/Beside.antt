-- A story played with no certificate named: by the one beside it, where it is accepted with that (own).
use Rattle.std.specs.Prelude.{◌≡◌, ◌≢◌, ◌⊎◌, ℕ, Bool, true, false, List, [], ◌∷◌, ◌++◌, Option, None, Some, string_bytes}
use Rattle.zquetzal.specs.declared.error.SaveError.{SaveError}
use Rattle.zfault.specs.Devices.{RisesByOne}
use Rattle.zplayer.specs.Leniently.{Noted}
use Rattle.zplayer.specs.World.{World}
use Rattle.zprompt.specs.declared.manner.Manner.{Manner}
use Rattle.zperform.specs.Accepting.{IsAcceptedStory, IsNoStory, IsUnacceptedStory, PlayComesTo}
use Rattle.zperform.specs.Blaming.{IsUnread}
use Rattle.zperform.specs.Devices.{Held, Says, Seen}
use Rattle.zperform.specs.Each.{heading_text}
use Rattle.zperform.specs.Informing.{name_of_certificate}
use Rattle.zperform.specs.Playing.{ComesTo}
use Rattle.zperform.specs.Report.{line_of, text_of}
use Rattle.zperform.specs.Telling.{SaysEach}
use Rattle.zperform.specs.Wording.{first_words}
use Rattle.zperform.specs.declared.accepting.AcceptedStory.{AcceptedStory}
use Rattle.zperform.specs.declared.beside.CertificateBeside.{CertificateBeside}
use Rattle.zperform.specs.declared.beside.CertificateBeside.TheVariants as besides
use Rattle.zperform.specs.declared.blame.Blame.{Blame}
use Rattle.zperform.specs.declared.outcome.Failure.TheVariants.{File, Memory}
use Rattle.zperform.specs.declared.outcome.Problem.{Problem}
use Rattle.zperform.specs.declared.outcome.Problem.TheVariants.{Failed}
use Rattle.zperform.specs.declared.outcome.Outcome.{Outcome}
use Rattle.zperform.specs.declared.outcome.Outcome.TheVariants.{Stopped}

-- What became of the certificate beside a story: it wasn't looked for, or there is none, or the story is played by it, or it isn't, since it
-- isn't accepted with it, with the file that failed last; or it wasn't looked for, since play was lenient, with the faults that were answered.
pub data Aside : Type 0 where
  Unsought : Aside
  Absent : Aside
  Used : Aside
  Unused : (blame : Option Blame) (problem : Problem) → Aside
  Excused : (noted : Noted) → Aside

-- memory is wanting
abbrev pub wants_memory : Problem → Bool
wants_memory (Failed Memory) = true
wants_memory problem = false

-- a story isn't accepted with the certificate beside it, and not for want of memory: that a file failed is told only of that one, if it can
-- fail
pub record IsUnused (files : Held) (story : List ℕ) (blame : Option Blame) (problem : Problem) : Type 0 where
  pub why : IsUnacceptedStory (files.known story) (files.known (name_of_certificate story)) problem
  pub meant : wants_memory problem ≡ false
  pub could : problem ≡ Failed File → files.can_fail (name_of_certificate story) ≡ true
  pub blamed : problem ≡ Failed File → IsUnread (name_of_certificate story) blame

-- the line of a certificate that isn't used, as `zork.cert: refused: K1: ..`; where memory for that is wanting, what it came to by codes
abbrev pub IsUnusedLine : List ℕ → Option Blame → Problem → List ℕ → Type 0
IsUnusedLine certificate blame problem text =
    (text ≡ heading_text certificate ++ (first_words blame problem ++ 10 ∷ [])) ⊎ (text ≡ line_of (text_of (Stopped problem)))

-- it is said, as far as the sink took it
abbrev pub SaysUnused : List ℕ → Option Blame → Problem → Seen → Seen → Type 0
SaysUnused certificate blame problem old new = (text : List ℕ) × IsUnusedLine certificate blame problem text × Says old new text

-- nothing is said but of one that isn't used
abbrev pub SaysAside : List ℕ → Aside → Seen → Seen → Type 0
SaysAside story Unsought old new = new ≡ old
SaysAside story Absent old new = new ≡ old
SaysAside story Used old new = new ≡ old
SaysAside story (Excused noted) old new = new ≡ old
SaysAside story (Unused blame problem) old new = SaysUnused (name_of_certificate story) blame problem old new

-- its file failed
abbrev pub is_failing : Aside → Bool
is_failing (Unused blame (Failed File)) = true
is_failing aside = false

-- what is found beside a story is so
abbrev pub IsFoundBeside : Held → List ℕ → Option Blame → CertificateBeside → Type 0
IsFoundBeside files story blame besides.Absent = files.known (name_of_certificate story) ≡ None
IsFoundBeside files story blame (besides.Accepted a) = IsAcceptedStory (files.known story) (files.known (name_of_certificate story)) a
IsFoundBeside files story blame (besides.Unaccepted certificate problem) = (string_bytes certificate ≡ name_of_certificate story) × IsUnused files story blame problem

-- files were blamed just where one failed
abbrev pub CountsUnread : ℕ → ℕ → Problem → Type 0
CountsUnread old new (Failed File) = RisesByOne old new
CountsUnread old new problem = new ≡ old

-- that of the certificate
abbrev pub CountsBeside : ℕ → ℕ → CertificateBeside → Type 0
CountsBeside old new besides.Absent = new ≡ old
CountsBeside old new (besides.Accepted a) = new ≡ old
CountsBeside old new (besides.Unaccepted certificate problem) = CountsUnread old new problem

-- What a play comes to, by what became of the certificate: it is one by that, or one with everything tested, or none.
abbrev pub ComesAside : Held → List ℕ → Aside → Manner → World → List SaveError → Option (List ℕ) → Option (List ℕ) → Outcome → Type 0
ComesAside files story Unsought manner given refusals before now outcome =
    (problem : Problem) × (outcome ≡ Stopped problem) × IsNoStory (files.known story) problem × (now ≡ before) × (refusals ≡ [])
ComesAside files story Absent manner given refusals before now outcome =
    (files.known (name_of_certificate story) ≡ None) × ComesTo (files.known story) manner given refusals before now outcome
ComesAside files story Used manner given refusals before now outcome =
    ((a : AcceptedStory) × IsAcceptedStory (files.known story) (files.known (name_of_certificate story)) a)
    × PlayComesTo (files.known story) (files.known (name_of_certificate story)) manner given refusals before now outcome
ComesAside files story (Unused blame problem) manner given refusals before now outcome =
    IsUnused files story blame problem × ComesTo (files.known story) manner given refusals before now outcome
ComesAside files story (Excused noted) manner given refusals before now outcome = ⊥

-- so it comes out; with no file for saves, files fail in no other way than is told
pub record PlaysBeside (files later : Held) (story : List ℕ) (save : Option (List ℕ)) (aside : Aside) (manner : Manner) (given : World) (refusals : List SaveError) (before now : Option (List ℕ)) (outcome : Outcome) : Type 0 where
  pub comes : ComesAside files story aside manner given refusals before now outcome
  pub unfailed : is_failing aside ≡ false → save ≡ None → outcome ≢ Stopped (Failed File) → later.failures ≡ files.failures

-- the certificate is told of, and then each save that is refused
abbrev pub SaysAll : List ℕ → Aside → List SaveError → Seen → Seen → Type 0
SaysAll story aside refusals old new = (between : Seen) × SaysAside story aside old between × SaysEach refusals between new

-- the name of a file of which a failure needn't end a play: that for saves, or the certificate beside the story
abbrev pub spared_beside : Option (List ℕ) → List ℕ → Option (List ℕ)
spared_beside None story = Some (name_of_certificate story)
spared_beside (Some save) story = Some save
