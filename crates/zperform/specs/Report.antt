-- What the program says of what a command came to, and its exit status (own).
use Rattle.std.specs.Prelude.{Result, Ok, Err, Option, None, Some, ℕ, ◌/◌, ◌%◌, ◌++◌, List, [], ◌∷◌, ℤ, pos, negsuc, codes, decimal, if◌then◌else◌, nat_lt, slice_index}
use Rattle.std.specs.Fmt.{signed_decimal}
use Rattle.zfault.specs.Fault.{number_of as fault_number}
use Rattle.zstory.specs.Refusal.{number_of as refusal_number}
use Rattle.zstory.specs.declared.load_error.LoadError.{LoadError}
use Rattle.zstory.specs.declared.load_error.LoadError.TheVariants.{OutOfMemory as NoMemoryToLoad}
use Rattle.zcert.specs.Refusal.{number_of as reading_number}
use Rattle.zcert.specs.declared.error.CertError.{CertError}
use Rattle.zcert.specs.declared.error.CertError.TheVariants.{OutOfMemory as NoMemoryToRead}
use Rattle.zrule.specs.Numbers.{number_of as rule_number}
use Rattle.zcheck.specs.Numbers.{number_of as story_rule_number}
use Rattle.zcheck.specs.declared.refusal.Refusal.{Refusal}
use Rattle.zcheck.specs.declared.refusal.StoryRule.{StoryRule}
use Rattle.zcheck.specs.declared.refusal.Refusal.TheVariants as refusals
use Rattle.zcheck.specs.declared.refusal.StreamRefusal.{StreamRefusal}
use Rattle.zcheck.specs.declared.refusal.StreamRefusal.TheVariants.{Cert, Check}
use Rattle.zlist.specs.Listed.{number_of as list_number, place_of as list_place}
use Rattle.zlist.specs.declared.list_error.ListError.{ListError}
use Rattle.zlist.specs.declared.list_error.ListError.TheVariants.{OutOfMemory as NoMemoryToList}
use Rattle.zfind.specs.Finding.{number_of as find_number}
use Rattle.zfind.specs.declared.error.FindError.{FindError}
use Rattle.zfind.specs.declared.error.FindError.TheVariants.{NotFound, RoundLimit, OutOfMemory as NoMemoryToFind}
use Rattle.zfind.specs.declared.error.Obstacle.{Obstacle}
use Rattle.zfind.specs.declared.error.Obstacle.TheVariants as obstacles
use Rattle.zunpack.specs.Refusal.{number_of as unpack_number}
use Rattle.zunpack.specs.declared.error.UnpackError.{UnpackError}
use Rattle.zunpack.specs.declared.error.UnpackError.TheVariants.{OutOfMemory as NoMemoryToUnpack}
use Rattle.zplayer.specs.declared.end.End.{End}
use Rattle.zplayer.specs.declared.end.End.TheVariants as ends
use Rattle.zplayer.specs.declared.end.PlayError.{PlayError}
use Rattle.zplayer.specs.declared.end.PlayError.TheVariants as errors
use Rattle.zbatch.specs.Summary.{status_of as tally_status}
use Rattle.zperform.specs.Keeping.{purpose_number}
use Rattle.zperform.specs.declared.outcome.Failure.{Failure}
use Rattle.zperform.specs.declared.outcome.Failure.TheVariants.{File, Read, Write, Memory}
use Rattle.zperform.specs.declared.outcome.Problem.{Problem}
use Rattle.zperform.specs.declared.outcome.Problem.TheVariants.{Refused, Unreadable, BreaksStory, BreaksInstruction, Unlisted, Unfound, Occupied, Failed, Packed}
use Rattle.zperform.specs.declared.outcome.Outcome.{Outcome}
use Rattle.zperform.specs.declared.outcome.Outcome.TheVariants.{Listed, Found, Accepted, Through, Shown, NoAddress, Informed, Explained, NoSuchCode, OneForMany, Played, Stopped, Unpacked}

-- a story that isn't loaded is refused, but for want of memory
abbrev pub problem_of_load : LoadError → Problem
problem_of_load NoMemoryToLoad = Failed Memory
problem_of_load error = Refused error

-- a file that isn't read as a certificate is refused, but for want of memory
abbrev pub problem_of_reading : CertError → Problem
problem_of_reading NoMemoryToRead = Failed Memory
problem_of_reading error = Unreadable error

-- a certificate that doesn't hold is refused, but for want of memory
abbrev pub problem_of_checking : Refusal → Problem
problem_of_checking (refusals.Story rule) = BreaksStory rule
problem_of_checking (refusals.Instruction address rule) = BreaksInstruction address rule
problem_of_checking refusals.OutOfMemory = Failed Memory

-- nor is a story accepted with a certificate that isn't read, or that doesn't hold
abbrev pub problem_of_stream : StreamRefusal → Problem
problem_of_stream (Cert error) = problem_of_reading error
problem_of_stream (Check refusal) = problem_of_checking refusal

-- a story that isn't listed is refused, but for want of memory
abbrev pub problem_of_listing : ListError → Problem
problem_of_listing NoMemoryToList = Failed Memory
problem_of_listing error = Unlisted error

-- a save that isn't unpacked is refused, but for want of memory
abbrev pub problem_of_unpack : UnpackError → Problem
problem_of_unpack NoMemoryToUnpack = Failed Memory
problem_of_unpack error = Packed error

-- what breaks playing off is a failure
abbrev pub problem_of_play : PlayError → Problem
problem_of_play errors.Read = Failed Read
problem_of_play errors.Write = Failed Write
problem_of_play errors.OutOfMemory = Failed Memory

-- the exit status: 1 for a refusal, 2 for what is no code, 3 for a fault, 4 for a failure, and else 0
abbrev pub status_of : Outcome → ℕ
status_of (Played (ends.Fault fault place)) = 3
status_of (Played end) = 0
status_of Listed = 0
status_of Found = 0
status_of Accepted = 0
status_of (Through tally) = tally_status tally
status_of Shown = 0
status_of NoAddress = 2
status_of Informed = 0
status_of Explained = 0
status_of Unpacked = 0
status_of NoSuchCode = 2
status_of OneForMany = 2
status_of (Stopped (Failed failure)) = 4
status_of (Stopped problem) = 1

-- the lower-case hexadecimal digit of a number below 16
abbrev pub hex_digit : ℕ → ℕ
hex_digit n = slice_index (codes "0123456789abcdef") n

-- the five digits of a number below 0x100000
abbrev pub address_text : ℕ → List ℕ
address_text n = hex_digit (n / 65536) ∷ hex_digit (n / 4096 % 16) ∷ hex_digit (n / 256 % 16) ∷ hex_digit (n / 16 % 16) ∷ hex_digit (n % 16) ∷ []

-- a place: an address from 0 to 0xfffff, and any other number in decimal
abbrev pub place_text : ℤ → List ℕ
place_text (pos n) = if nat_lt n 1048576 then address_text n else decimal n
place_text (negsuc n) = signed_decimal (negsuc n)

abbrev pub failure_text : Failure → List ℕ
failure_text File = codes "failed: file"
failure_text Read = codes "failed: read"
failure_text Write = codes "failed: write"
failure_text Memory = codes "failed: memory"

abbrev pub end_text : End → List ℕ
end_text ends.Quit = []
end_text ends.NoInput = codes "end: no input"
end_text ends.Budget = codes "end: budget"
end_text ends.FrameLimit = codes "end: frame limit"
end_text (ends.Fault fault place) = codes "fault: F" ++ decimal (fault_number fault) ++ codes " at " ++ place_text place

-- where a search stopped, if it was at a place
abbrev pub stopped_text : FindError → List ℕ
stopped_text (NotFound (obstacles.Place place rule)) = codes " at " ++ place_text place
stopped_text (NotFound (obstacles.Story rule)) = []
stopped_text RoundLimit = []
stopped_text NoMemoryToFind = []

-- what is broken in every certificate, if that is known
abbrev pub broken_text : Option Obstacle → List ℕ
broken_text None = codes "not found"
broken_text (Some (obstacles.Story rule)) = codes "no certificate: S" ++ decimal (story_rule_number rule)
broken_text (Some (obstacles.Place place rule)) = codes "no certificate: I" ++ decimal (rule_number rule) ++ codes " at " ++ place_text place

-- how many instructions are marked, if any are
abbrev pub marks_text : ℕ → List ℕ
marks_text n = if nat_lt 0 n then codes ", marked: " ++ decimal n else []

-- what `check` writes where it accepts, and `find` where it found one, with so many marks
abbrev pub accepted_line : ℕ → List ℕ
accepted_line n = codes "accepted" ++ marks_text n ++ 10 ∷ []

abbrev pub found_line : ℕ → List ℕ
found_line n = codes "found" ++ marks_text n ++ 10 ∷ []

-- what is said of a code that there isn't, as clap says it of words: three lines with empty ones between
abbrev pub no_code : List ℕ
no_code =
    codes "error: no such code; there are L1 to L12, K1 to K9, S1 to S8, I1 to I18, U1 to U4, G1 to G3, F1 to F16, J1 to J5, E1 to E3, Q1 to Q11, C1 to C9, P1 to P3, N1 to N2 and B1 to B10"
    ++ 10 ∷ 10 ∷ codes "Usage: zpc explain [OPTIONS] [CODE]" ++ 10 ∷ 10 ∷ codes "For more information, try '--help'."

-- what is said of a word that is no address, in the same form
abbrev pub no_address : List ℕ
no_address =
    codes "error: an address has one to five hexadecimal digits, as 00325" ++ 10 ∷ 10 ∷ codes "Usage: zpc show [OPTIONS] <STORY> <CERT> [ADDRESS]" ++ 10 ∷ 10 ∷ codes "For more information, try '--help'."

-- what is said where one certificate is named for more stories than one
abbrev pub one_for_many : List ℕ
one_for_many =
    codes "error: '--output' names the certificate of one story, and there isn't just one" ++ 10 ∷ 10 ∷ codes "Usage: zpc find [OPTIONS] <FILE>..." ++ 10 ∷ 10 ∷ codes "For more information, try '--help'."

-- a problem's first line
abbrev pub first_text : Problem → List ℕ
first_text (Refused error) = codes "refused: L" ++ decimal (refusal_number error)
first_text (Unreadable error) = codes "refused: K" ++ decimal (reading_number error)
first_text (BreaksStory rule) = codes "refused: S" ++ decimal (story_rule_number rule)
first_text (BreaksInstruction address rule) = codes "refused: I" ++ decimal (rule_number rule) ++ codes " at " ++ place_text (pos address)
first_text (Unlisted error) = codes "refused: U" ++ decimal (list_number error) ++ codes " at " ++ place_text (list_place error)
first_text (Unfound error broken) = codes "refused: G" ++ decimal (find_number error) ++ stopped_text error
first_text (Occupied purpose) = codes "refused: N" ++ decimal (purpose_number purpose)
first_text (Packed error) = codes "refused: C" ++ decimal (unpack_number error)
first_text (Failed failure) = failure_text failure

-- a rule of the story ended a search: that one is told, unless one is broken in every certificate
abbrev pub story_text : StoryRule → Option Obstacle → List ℕ
story_text rule None = codes "broken: S" ++ decimal (story_rule_number rule)
story_text rule (Some (obstacles.Place place other)) = codes "broken: S" ++ decimal (story_rule_number rule)
story_text rule (Some (obstacles.Story other)) = broken_text (Some (obstacles.Story other))

-- what is told of why no certificate was found
abbrev pub why_text : FindError → Option Obstacle → List ℕ
why_text (NotFound (obstacles.Story rule)) broken = story_text rule broken
why_text (NotFound (obstacles.Place place rule)) broken = broken_text broken
why_text RoundLimit broken = broken_text broken
why_text NoMemoryToFind broken = broken_text broken

-- the lines behind the first, each with the end of the line before it
abbrev pub rest_text : Problem → List ℕ
rest_text (Unfound error broken) = 10 ∷ why_text error broken
rest_text problem = []

abbrev pub text_of : Outcome → List ℕ
text_of Listed = []
text_of Found = []
text_of Accepted = []
text_of (Through tally) = []
text_of Shown = []
text_of NoAddress = no_address
text_of Informed = []
text_of Explained = []
text_of Unpacked = []
text_of NoSuchCode = no_code
text_of OneForMany = one_for_many
text_of (Played end) = end_text end
text_of (Stopped problem) = first_text problem ++ rest_text problem

-- what comes of playing, or of what kept it from being done
abbrev pub outcome_of : Result End Problem → Outcome
outcome_of (Ok end) = Played end
outcome_of (Err problem) = Stopped problem

-- what is said of arguments that are no text, as clap says it of words: three lines with empty ones between
abbrev pub no_text : List ℕ
no_text =
    codes "error: invalid UTF-8 was detected in one or more arguments" ++ 10 ∷ 10 ∷ codes "Usage: zpc <COMMAND>"
    ++ 10 ∷ 10 ∷ codes "For more information, try '--help'." ++ 10 ∷ []

-- a text as a line, and none where it is empty
abbrev pub line_of : List ℕ → List ℕ
line_of [] = []
line_of (byte ∷ bytes) = (byte ∷ bytes) ++ 10 ∷ []
