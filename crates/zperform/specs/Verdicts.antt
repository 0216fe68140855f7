-- What came of a story's file, as an object of JSON (own).
use Rattle.std.specs.Prelude.{◌≡◌, ◌⊎◌, ◌<◌, ℕ, pos, Bool, true, List, length, ◌++◌, Option, None, Some, IfSome, Result, Ok, Err, codes, decimal, drop, option_map, string_bytes}
use Rattle.zstory.specs.Refusal.{number_of as refusal_number}
use Rattle.zcert.specs.Refusal.{number_of as reading_number}
use Rattle.zunpack.specs.Refusal.{number_of as unpack_number}
use Rattle.zrule.specs.Numbers.{number_of as rule_number}
use Rattle.zcheck.specs.Numbers.{number_of as story_rule_number}
use Rattle.zlist.specs.Listed.{number_of as list_number, place_of as list_place}
use Rattle.zfind.specs.Finding.{number_of as find_number}
use Rattle.zfind.specs.declared.error.FindError.{FindError}
use Rattle.zfind.specs.declared.error.FindError.TheVariants.{NotFound, RoundLimit, OutOfMemory as NoMemoryToFind}
use Rattle.zfind.specs.declared.error.Obstacle.TheVariants as obstacles
use Rattle.zinfo.specs.Info.{heading_of}
use Rattle.zinfo.specs.Shown.{shown}
use Rattle.zinfo.specs.Text.{place_text}
use Rattle.zjson.specs.Answers.{verdict_line}
use Rattle.zjson.specs.Digest.{digest_text}
use Rattle.zjson.specs.declared.answers.Verdict.{Verdict}
use Rattle.zstory.specs.declared.load_error.LoadError.{LoadError}
use Rattle.zperform.specs.Accepting.{HoldsSuch, IsNoStory}
use Rattle.zperform.specs.Keeping.{purpose_number}
use Rattle.zperform.specs.Playing.{Reads}
use Rattle.zperform.specs.Wording.{words_text}
use Rattle.zperform.specs.declared.blame.Blame.{Blame}
use Rattle.zperform.specs.declared.outcome.Failure.{Failure}
use Rattle.zperform.specs.declared.outcome.Failure.TheVariants.{File, Read, Write, Memory}
use Rattle.zperform.specs.declared.outcome.Problem.{Problem}
use Rattle.zperform.specs.declared.outcome.Problem.TheVariants.{Refused, Unreadable, BreaksStory, BreaksInstruction, Unlisted, Unfound, Occupied, Failed, Packed}
use Rattle.zperform.specs.declared.verdict.Facts.{Facts}

-- What is known of a file, which may fail or not: the digest of its bytes, unless it failed or is longer than a story may be; and what the
-- header of its story says, unless it failed or holds none.
pub record AreFactsOf (known : Option (List ℕ)) (can_fail : Bool) (facts : Facts) : Type 0 where
  pub digest_is : IfSome facts.digest (λ digest. Reads known (λ file. string_bytes digest ≡ digest_text file))
  pub heading_is : IfSome facts.heading (λ heading. HoldsSuch known (λ story. heading ≡ heading_of story))
  pub undigested : facts.digest ≡ None → (can_fail ≡ true) ⊎ Reads known (λ file. 131072 < length file)
  pub unheaded : facts.heading ≡ None → (can_fail ≡ true) ⊎ ((error : LoadError) × IsNoStory known (Refused error))

abbrev pub failure_word : Failure → List ℕ
failure_word File = codes "file"
failure_word Read = codes "read"
failure_word Write = codes "write"
failure_word Memory = codes "memory"

-- the code of a problem, as `I5`, or the word of a failure
abbrev pub code_text : Problem → List ℕ
code_text (Refused error) = codes "L" ++ decimal (refusal_number error)
code_text (Unreadable error) = codes "K" ++ decimal (reading_number error)
code_text (BreaksStory rule) = codes "S" ++ decimal (story_rule_number rule)
code_text (BreaksInstruction address rule) = codes "I" ++ decimal (rule_number rule)
code_text (Unlisted error) = codes "U" ++ decimal (list_number error)
code_text (Unfound error broken) = codes "G" ++ decimal (find_number error)
code_text (Occupied purpose) = codes "N" ++ decimal (purpose_number purpose)
code_text (Packed error) = codes "C" ++ decimal (unpack_number error)
code_text (Failed failure) = failure_word failure

-- where a search stopped, if that is a place
abbrev pub stopped_place : FindError → Option (List ℕ)
stopped_place (NotFound (obstacles.Place place rule)) = Some (place_text place)
stopped_place (NotFound (obstacles.Story rule)) = None
stopped_place RoundLimit = None
stopped_place NoMemoryToFind = None

-- where a problem is, if it has a place
abbrev pub address_text : Problem → Option (List ℕ)
address_text (BreaksInstruction address rule) = Some (place_text (pos address))
address_text (Unlisted error) = Some (place_text (list_place error))
address_text (Unfound error broken) = stopped_place error
address_text problem = None

-- what it came to, in a word
abbrev pub outcome_word : List ℕ → Result ℕ Problem → List ℕ
outcome_word well (Ok marks) = well
outcome_word well (Err (Failed failure)) = codes "failed"
outcome_word well (Err problem) = codes "refused"

-- how many instructions are marked, where it went well
abbrev pub marks_in : Result ℕ Problem → Option ℕ
marks_in (Ok marks) = Some marks
marks_in (Err problem) = None

-- what there is of a problem, and nothing where there is none
abbrev pub of_problem : {A : Type 0} → (Problem → Option A) → Result ℕ Problem → Option A
of_problem part (Ok marks) = None
of_problem part (Err problem) = part problem

-- the object's members
pub record IsVerdictOf (name : List ℕ) (facts : Facts) (well : List ℕ) (answer : Result ℕ Problem) (blame : Option Blame) (verdict : Verdict) : Type 0 where
  pub file_is : verdict.file.now ≡ name
  pub digest_is : option_map (λ text. text.now) verdict.digest ≡ option_map string_bytes facts.digest
  pub release_is : verdict.release ≡ option_map (λ heading. heading.release) facts.heading
  pub serial_is : option_map (λ text. text.now) verdict.serial ≡ option_map (λ heading. shown heading.serial) facts.heading
  pub checksum_is : verdict.checksum ≡ option_map (λ heading. heading.checksum) facts.heading
  pub outcome_is : verdict.outcome.now ≡ outcome_word well answer
  pub marks_are : verdict.marks ≡ marks_in answer
  pub code_is : option_map (λ text. text.now) verdict.code ≡ of_problem (λ problem. Some (code_text problem)) answer
  pub address_is : option_map (λ text. text.now) verdict.address ≡ of_problem address_text answer
  pub text_is : option_map (λ text. text.now) verdict.text ≡ of_problem (λ problem. Some (shown (drop 2 (words_text blame problem)))) answer

-- the text is the object of that
abbrev pub IsVerdictText : List ℕ → Facts → List ℕ → Result ℕ Problem → Option Blame → List ℕ → Type 0
IsVerdictText name facts well answer blame text = (verdict : Verdict) × IsVerdictOf name facts well answer blame verdict × (text ≡ verdict_line verdict)
