-- What is said in words: behind a code what it means (own).
use Rattle.std.specs.Prelude.{◌≡◌, ◌⊎◌, ℕ, ℤ, List, [], ◌∷◌, ◌++◌, Option, None, Some, codes, decimal}
use Rattle.zfault.specs.Fault.{number_of as fault_number}
use Rattle.zfault.specs.declared.fault.Fault.{Fault}
use Rattle.zstory.specs.Refusal.{number_of as refusal_number}
use Rattle.zcert.specs.Refusal.{number_of as reading_number}
use Rattle.zunpack.specs.Refusal.{number_of as unpack_number}
use Rattle.zrule.specs.Numbers.{number_of as rule_number}
use Rattle.zcheck.specs.Numbers.{number_of as story_rule_number}
use Rattle.zlist.specs.Listed.{number_of as list_number}
use Rattle.zfind.specs.Finding.{number_of as find_number}
use Rattle.zfind.specs.declared.error.FindError.{FindError}
use Rattle.zfind.specs.declared.error.FindError.TheVariants.{NotFound, RoundLimit, OutOfMemory as NoMemoryToFind}
use Rattle.zfind.specs.declared.error.Obstacle.TheVariants as obstacles
use Rattle.zexplain.specs.Short.{in_short_of}
use Rattle.zplayer.specs.declared.end.End.TheVariants as ends
use Rattle.zperform.specs.Blaming.{blame_text}
use Rattle.zperform.specs.Keeping.{purpose_number}
use Rattle.zperform.specs.Report.{end_text, first_text, line_of, rest_text, text_of}
use Rattle.zperform.specs.declared.blame.Blame.{Blame}
use Rattle.zperform.specs.declared.outcome.Failure.TheVariants.{File, Read, Write, Memory}
use Rattle.zperform.specs.declared.outcome.Problem.{Problem}
use Rattle.zperform.specs.declared.outcome.Problem.TheVariants.{Refused, Unreadable, BreaksStory, BreaksInstruction, Unlisted, Unfound, Occupied, Failed, Packed}
use Rattle.zperform.specs.declared.outcome.Outcome.{Outcome}
use Rattle.zperform.specs.declared.outcome.Outcome.TheVariants.{Played, Stopped}
use Rattle.zperform.specs.declared.wording.Speech.{Speech}
use Rattle.zperform.specs.declared.wording.Speech.TheVariants.{Codes, Words}

-- words behind a colon, if there are some
abbrev pub behind_colon : Option (List ℕ) → List ℕ
behind_colon None = []
behind_colon (Some words) = codes ": " ++ words

-- what a code means, in a few words
abbrev pub short_text : List ℕ → List ℕ
short_text code = behind_colon (in_short_of code)

-- which file failed, if that is known
abbrev pub blamed_text : Option Blame → List ℕ
blamed_text None = []
blamed_text (Some blame) = codes ": " ++ blame_text blame

-- why no certificate was found: the rule that is broken, if that ended the search
abbrev pub unfound_words : FindError → List ℕ
unfound_words (NotFound (obstacles.Place place rule)) = short_text (codes "I" ++ decimal (rule_number rule))
unfound_words (NotFound (obstacles.Story rule)) = short_text (codes "S" ++ decimal (story_rule_number rule))
unfound_words RoundLimit = short_text (codes "G" ++ decimal (find_number RoundLimit))
unfound_words NoMemoryToFind = short_text (codes "G" ++ decimal (find_number NoMemoryToFind))

-- what a problem's code means, or which file failed
abbrev pub words_text : Option Blame → Problem → List ℕ
words_text blame (Refused error) = short_text (codes "L" ++ decimal (refusal_number error))
words_text blame (Unreadable error) = short_text (codes "K" ++ decimal (reading_number error))
words_text blame (BreaksStory rule) = short_text (codes "S" ++ decimal (story_rule_number rule))
words_text blame (BreaksInstruction address rule) = short_text (codes "I" ++ decimal (rule_number rule))
words_text blame (Unlisted error) = short_text (codes "U" ++ decimal (list_number error))
words_text blame (Unfound error broken) = unfound_words error
words_text blame (Occupied purpose) = short_text (codes "N" ++ decimal (purpose_number purpose))
words_text blame (Packed error) = short_text (codes "C" ++ decimal (unpack_number error))
words_text blame (Failed File) = blamed_text blame
words_text blame (Failed Read) = short_text (codes "P" ++ decimal 1)
words_text blame (Failed Write) = short_text (codes "P" ++ decimal 2)
words_text blame (Failed Memory) = []

-- a problem's first line with its words, as `refused: I5 at 00387: an operand that has to be an object may be none, most often 0`
abbrev pub first_words : Option Blame → Problem → List ℕ
first_words blame problem = first_text problem ++ words_text blame problem

-- its lines
abbrev pub problem_line : Option Blame → Problem → List ℕ
problem_line blame problem = first_words blame problem ++ rest_text problem ++ 10 ∷ []

-- the line of a fault
abbrev pub fault_line : Fault → ℤ → List ℕ
fault_line fault place = end_text (ends.Fault fault place) ++ short_text (codes "F" ++ decimal (fault_number fault)) ++ 10 ∷ []

-- the lines of an outcome
abbrev pub worded_line : Option Blame → Outcome → List ℕ
worded_line blame (Stopped problem) = problem_line blame problem
worded_line blame (Played (ends.Fault fault place)) = fault_line fault place
worded_line blame outcome = line_of (text_of outcome)

-- what is said of an outcome: its lines by codes alone, or in words; where memory for words is wanting, by codes too
abbrev pub IsSaidSo : Speech → Option Blame → Outcome → List ℕ → Type 0
IsSaidSo Codes blame outcome said = said ≡ line_of (text_of outcome)
IsSaidSo Words blame outcome said = (said ≡ worded_line blame outcome) ⊎ (said ≡ line_of (text_of outcome))
