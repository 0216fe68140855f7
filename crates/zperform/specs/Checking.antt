-- The certificates of many stories checked: what is told of each (own).
use Rattle.std.specs.Prelude.{◌≡◌, ◌⊎◌, ℕ, Bool, true, false, List, [], ◌∷◌, ◌++◌, Option, None, Some, Result, Ok, Err, IsErrOf, codes}
use Rattle.zbatch.specs.declared.summary.Wording.TheVariants.{Accepted as AsAccepted}
use Rattle.zbatch.specs.declared.work.Ended.{Ended}
use Rattle.zperform.specs.Accepting.{IsAcceptedStory, IsOfEither, IsUnacceptedStory, marks_of}
use Rattle.zperform.specs.Blaming.{IsUnreadOf}
use Rattle.zperform.specs.Devices.{Held}
use Rattle.zperform.specs.Each.{EachComesTo, certificate_for, ended_of, heading_text, last_text}
use Rattle.zperform.specs.Report.{accepted_line}
use Rattle.zperform.specs.Verdicts.{AreFactsOf, IsVerdictText}
use Rattle.zperform.specs.Wording.{first_words}
use Rattle.zperform.specs.declared.accepting.AcceptedStory.{AcceptedStory}
use Rattle.zperform.specs.declared.blame.Blame.{Blame}
use Rattle.zperform.specs.declared.outcome.Failure.TheVariants.{File, Memory}
use Rattle.zperform.specs.declared.outcome.Problem.{Problem}
use Rattle.zperform.specs.declared.outcome.Problem.TheVariants.{Failed}
use Rattle.zperform.specs.declared.outcome.Outcome.{Outcome}
use Rattle.zperform.specs.declared.verdict.Facts.{Facts}

-- what two files come to: the story of the one is accepted with the certificate of the other, which marks so many instructions, or why it
-- isn't; memory may be wanting for the name of the certificate's
abbrev pub Judges : Option (List ℕ) → Option (List ℕ) → Result ℕ Problem → Type 0
Judges story certificate (Ok marks) = (a : AcceptedStory) × IsAcceptedStory story certificate a × (marks ≡ marks_of a)
Judges story certificate (Err problem) = IsUnacceptedStory story certificate problem ⊎ (problem ≡ Failed Memory)

-- what is said of it behind the story's name
abbrev pub answer_text : Option Blame → Result ℕ Problem → List ℕ
answer_text blame (Ok marks) = accepted_line marks
answer_text blame (Err problem) = first_words blame problem ++ 10 ∷ []

-- the line of a story, as `zork.z3: accepted`
abbrev pub check_line : List ℕ → Option Blame → Result ℕ Problem → List ℕ
check_line name blame answer = heading_text name ++ answer_text blame answer

-- what is told of a story: a line, or an object
abbrev pub IsCheckText : Bool → List ℕ → Option (List ℕ) → Bool → Option Blame → Result ℕ Problem → List ℕ → Type 0
IsCheckText false name known can_fail blame answer text = text ≡ check_line name blame answer
IsCheckText true name known can_fail blame answer text = (facts : Facts) × AreFactsOf known can_fail facts × IsVerdictText name facts (codes "accepted") answer blame text

-- the files stay as they are, and this is told: that a file failed is told only of one of the two that can fail, by its name
pub record Checks (json : Bool) (certificate : Option (List ℕ)) (files later : Held) (name : List ℕ) (ended : Ended) (text : List ℕ) : Type 0 where
  pub kept : later.known ≡ files.known
  pub alike : later.can_fail ≡ files.can_fail
  pub answer : Result ℕ Problem
  pub judges : Judges (files.known name) (files.known (certificate_for certificate name)) answer
  pub could : IsErrOf answer (Failed File) → IsOfEither files name (certificate_for certificate name)
  pub blamed : IsErrOf answer (Failed File) → IsUnreadOf name (certificate_for certificate name) later.blamed
  pub ended_is : ended ≡ ended_of answer
  pub told : IsCheckText json name (files.known name) (files.can_fail name) later.blamed answer text

abbrev pub TellsCheck : Bool → Option (List ℕ) → Held → Held → List ℕ → Option (Ended × List ℕ) → Type 0
TellsCheck json certificate files later name None = (later.known ≡ files.known) × (later.can_fail ≡ files.can_fail)
TellsCheck json certificate files later name (Some told) = Checks json certificate files later name told.0 told.1

-- what checking many stories comes to
abbrev pub CheckEachComesTo : Bool → Option (List ℕ) → List (List ℕ) → Held → Held → Option (List ℕ) → Option (List ℕ) → Outcome → Type 0
CheckEachComesTo json certificate names files later before now outcome =
    EachComesTo (TellsCheck json certificate) json (last_text json AsAccepted) names files later before now outcome
