-- The command line: which words the program takes, in the terms of clap's definitions, and what the matches that clap
-- makes of them ask for (own).
use Rattle.std.specs.Prelude.{◌≡◌, ◌⊎◌, ◌≤◌, ⊤, ℕ, ◌^◌, ◌&&◌, Bool, true, false, List, [], ◌∷◌, IfSome, Option, None, Some, nat_le, option_map, map, is_some, length, codes, if◌then◌else◌, nat_lt, pos, unwrap_or}
use Rattle.std.specs.List.{list_all}
use Rattle.std.specs.Option.{option_map_or}
use Rattle.std.specs.Char.{digit_value}
use Rattle.std.specs.Str.{bytes_eq}
use Rattle.std.specs.Str.Parse.{digits_value, without_leading_plus}
use Rattle.clap.specs.Words.{App, Row, Rule, Text, all_of, first_of, new_app, new_rule, one_of, with_rule, with_subcommand}
use Rattle.clap.specs.declared.builder.action.ArgAction.TheVariants.{Append, SetTrue}
use Rattle.clap.specs.declared.builder.value_parser.ValueParser.TheVariants as parsers
use Rattle.zbatch.specs.Naming.{is_story_name}
use Rattle.zcommand.specs.declared.words.Command.{Command}
use Rattle.zcommand.specs.declared.words.Command.TheVariants as commands
use Rattle.zcommand.specs.declared.words.Front.{Front as NamedFront}
use Rattle.zscreen.specs.declared.status_lines.StatusLines.{StatusLines}
use Rattle.zscreen.specs.declared.status_lines.StatusLines.TheVariants.{Hidden, Bracketed, Framed}

-- a word without a name before it, which has to be there or may be
abbrev pub word_rule : Text → Bool → Rule
word_rule name required = record (new_rule name) { required = required }

-- `STORY`, which has to be there
abbrev pub story_rule : Rule
story_rule = word_rule (codes "STORY") true

-- `--seed N`, where N is a u64
abbrev pub seed_rule : Rule
seed_rule = record (new_rule (codes "seed")) {
  long = Some (codes "seed");
  value_names = 1;
  defaults = codes "1" ∷ [];
  parser = Some (parsers.Unsigned 0 18446744073709551615);
}

-- `--budget N`, where N is a u32
abbrev pub budget_rule : Rule
budget_rule = record (new_rule (codes "budget")) {
  long = Some (codes "budget");
  value_names = 1;
  defaults = codes "1000000000" ∷ [];
  parser = Some (parsers.Signed (pos 0) (pos 4294967295));
}

-- `--frames N`, where N is at most the greatest limit of frames
abbrev pub frames_rule : Rule
frames_rule = record (new_rule (codes "frames")) { long = Some (codes "frames"); value_names = 1; parser = Some (parsers.Signed (pos 0) (pos 4096)) }

-- `--strict`, a flag
abbrev pub strict_rule : Rule
strict_rule = record (new_rule (codes "strict")) { long = Some (codes "strict"); action = Some SetTrue }

-- `--places`, a flag
abbrev pub places_rule : Rule
places_rule = record (new_rule (codes "places")) { long = Some (codes "places"); action = Some SetTrue }

-- `--status`, a flag
abbrev pub status_rule : Rule
status_rule = record (new_rule (codes "status")) { long = Some (codes "status"); action = Some SetTrue }

-- `--framed-status`, a flag
abbrev pub framed_status_rule : Rule
framed_status_rule = record (new_rule (codes "framed-status")) { long = Some (codes "framed-status"); action = Some SetTrue }

-- `--tell`, a flag
abbrev pub tell_rule : Rule
tell_rule = record (new_rule (codes "tell")) { long = Some (codes "tell"); action = Some SetTrue }

-- `--lenient`, a flag
abbrev pub lenient_rule : Rule
lenient_rule = record (new_rule (codes "lenient")) { long = Some (codes "lenient"); action = Some SetTrue }

-- `--force`, a flag
abbrev pub force_rule : Rule
force_rule = record (new_rule (codes "force")) { long = Some (codes "force"); action = Some SetTrue }

-- `--json`, a flag
abbrev pub json_rule : Rule
json_rule = record (new_rule (codes "json")) { long = Some (codes "json"); action = Some SetTrue }

-- `--NAME FILE`, where FILE isn't empty
abbrev pub file_rule : Text → Rule
file_rule name = record (new_rule name) { long = Some name; value_names = 1; parser = Some parsers.NonEmptyString }

-- `--save FILE`
abbrev pub save_rule : Rule
save_rule = file_rule (codes "save")

-- `--width N`, where N is from 1 to 1000
abbrev pub width_rule : Rule
width_rule = record (new_rule (codes "width")) { long = Some (codes "width"); value_names = 1; parser = Some (parsers.Signed (pos 1) (pos 1000)) }

-- `--plain`, a flag
abbrev pub plain_rule : Rule
plain_rule = record (new_rule (codes "plain")) { long = Some (codes "plain"); action = Some SetTrue }

-- `--transcript FILE`
abbrev pub transcript_rule : Rule
transcript_rule = file_rule (codes "transcript")

-- `--record FILE`
abbrev pub record_rule : Rule
record_rule = file_rule (codes "record")

-- `--replay FILE`
abbrev pub replay_rule : Rule
replay_rule = file_rule (codes "replay")

-- `--no-save`, a flag
abbrev pub no_save_rule : Rule
no_save_rule = record (new_rule (codes "no-save")) { long = Some (codes "no-save"); action = Some SetTrue }

-- `--commands`, a flag
abbrev pub commands_rule : Rule
commands_rule = record (new_rule (codes "commands")) { long = Some (codes "commands"); action = Some SetTrue }

-- `--debug FILE`
abbrev pub debug_rule : Rule
debug_rule = file_rule (codes "debug")

-- `CERT`, which has to be there or may be
abbrev pub certificate_rule : Bool → Rule
certificate_rule required = word_rule (codes "CERT") required

-- `FILE..`, of which at least one has to be there
abbrev pub files_rule : Rule
files_rule = record (word_rule (codes "FILE") true) { action = Some Append }

-- `-o CERT`, or `--output CERT`
abbrev pub output_rule : Rule
output_rule = record (file_rule (codes "output")) { short = Some 111 }

-- `CODE`, which may be there
abbrev pub code_rule : Rule
code_rule = word_rule (codes "CODE") false

-- `SAVE`, which has to be there
abbrev pub packed_rule : Rule
packed_rule = word_rule (codes "SAVE") true

-- `OUT`, which has to be there
abbrev pub out_rule : Rule
out_rule = word_rule (codes "OUT") true

-- `ADDRESS`, which may be there
abbrev pub address_rule : Rule
address_rule = word_rule (codes "ADDRESS") false

-- a command on a story, and on a certificate, which has to be there or may be
abbrev pub files_app : Text → Bool → App
files_app name required = with_rule (with_rule (new_app name) story_rule) (certificate_rule required)

-- `list STORY [CERT] --json --debug FILE`
abbrev pub list_app : App
list_app = with_rule (with_rule (files_app (codes "list") false) json_rule) debug_rule

-- a command on FILE..
abbrev pub many_app : Text → App
many_app name = with_rule (new_app name) files_rule

-- `find FILE.. -o CERT --frames N`
abbrev pub framing_app : App
framing_app = with_rule (with_rule (many_app (codes "find")) output_rule) frames_rule

-- the same with `--strict --places`
abbrev pub marking_app : App
marking_app = with_rule (with_rule framing_app strict_rule) places_rule

-- the same with `--force --json --debug FILE`
abbrev pub find_app : App
find_app = with_rule (with_rule (with_rule marking_app force_rule) json_rule) debug_rule

-- `check FILE.. --json --debug FILE`
abbrev pub check_app : App
check_app = with_rule (with_rule (many_app (codes "check")) json_rule) debug_rule

-- `show STORY CERT [ADDRESS] --debug FILE`
abbrev pub show_app : App
show_app = with_rule (with_rule (files_app (codes "show") true) address_rule) debug_rule

-- `play STORY [CERT] --seed N --budget N`
abbrev pub counted_app : App
counted_app = with_rule (with_rule (files_app (codes "play") false) seed_rule) budget_rule

-- the same with `--status --framed-status`
abbrev pub saveless_app : App
saveless_app = with_rule (with_rule counted_app status_rule) framed_status_rule

-- the same with `--save FILE --tell --force`
abbrev pub strict_app : App
strict_app = with_rule (with_rule (with_rule saveless_app save_rule) tell_rule) force_rule

-- the same with `--lenient`
abbrev pub frontless_app : App
frontless_app = with_rule strict_app lenient_rule

-- the same with `--width N --plain --transcript FILE`
abbrev pub showing_app : App
showing_app = with_rule (with_rule (with_rule frontless_app width_rule) plain_rule) transcript_rule

-- the same with `--record FILE --replay FILE`
abbrev pub recording_app : App
recording_app = with_rule (with_rule showing_app record_rule) replay_rule

-- the same with `--no-save --commands --debug FILE`
abbrev pub play_app : App
play_app = with_rule (with_rule (with_rule recording_app no_save_rule) commands_rule) debug_rule

-- `info STORY --json`
abbrev pub info_app : App
info_app = with_rule (with_rule (new_app (codes "info")) story_rule) json_rule

-- `explain [CODE] --json`
abbrev pub explain_app : App
explain_app = with_rule (with_rule (new_app (codes "explain")) code_rule) json_rule

-- `unpack STORY SAVE`
abbrev pub naming_app : App
naming_app = with_rule (with_rule (new_app (codes "unpack")) story_rule) packed_rule

-- the same with `OUT --force`
abbrev pub unpack_app : App
unpack_app = with_rule (with_rule naming_app out_rule) force_rule

-- the program, before its commands: its words don't begin with its name, and one of them is a command
abbrev pub bare_app : App
bare_app =
    record (new_app (codes "zpc")) { top = record (new_app (codes "zpc")).top { no_binary_name = true; has_version = true; subcommand_required = true } }

-- the program, with its commands on listings and certificates
abbrev pub certifying_app : App
certifying_app = with_subcommand (with_subcommand (with_subcommand bare_app list_app.top) find_app.top) check_app.top

-- with those on what a certificate says, and on stories
abbrev pub playing_app : App
playing_app = with_subcommand (with_subcommand (with_subcommand certifying_app show_app.top) play_app.top) info_app.top

-- the program
abbrev pub zpc_app : App
zpc_app = with_subcommand (with_subcommand playing_app explain_app.top) unpack_app.top

-- the name of one of its commands
abbrev pub IsCommand : Text → Type 0
IsCommand name = (name ≡ codes "list") ⊎ (name ≡ codes "find") ⊎ (name ≡ codes "check") ⊎ (name ≡ codes "show") ⊎ (name ≡ codes "play") ⊎ (name ≡ codes "info") ⊎ (name ≡ codes "explain") ⊎ (name ≡ codes "unpack")

-- the number that a text says in decimal digits, with or without a plus before them, where it has at most so many bits; else 0
abbrev pub number_in : ℕ → Text → ℕ
number_in bits text =
    let digits = without_leading_plus text in
    if nat_lt 0 (length digits) && list_all (λ d. nat_lt (digit_value d) 10) digits && nat_lt (digits_value 10 digits) (2 ^ bits)
    then digits_value 10 digits else 0

-- the name of the story among the matches of a command; without one clap makes no matches
abbrev pub story_of : List Row → Text
story_of rows = unwrap_or (first_of (codes "STORY") rows) []

-- the number of an option among the matches of `play`; one with more bits isn't among them
abbrev pub number_of : ℕ → Text → List Row → ℕ
number_of bits name rows = option_map_or (number_in bits) (one_of name rows) 0

-- the seed is a u64, and the budget a u32
abbrev pub seed_of : List Row → ℕ
seed_of rows = number_of 64 (codes "seed") rows

abbrev pub budget_of : List Row → ℕ
budget_of rows = number_of 32 (codes "budget") rows

-- a limit of frames isn't above the greatest
abbrev pub is_limit : ℕ → Bool
is_limit n = nat_le n 4096

-- a width is of one column at least, and of a thousand at most
abbrev pub is_width : ℕ → Bool
is_width n = nat_lt 0 n && nat_le n 1000

-- a number, if it fits
abbrev pub fitting : (ℕ → Bool) → ℕ → Option ℕ
fitting fits n = if fits n then Some n else None

-- a limit that isn't above the greatest
abbrev pub low_limit : ℕ → Option ℕ
low_limit = fitting is_limit

-- the number that a text says so, if it says one and that fits
abbrev pub fitting_in : (ℕ → Bool) → Text → Option ℕ
fitting_in fits text =
    let digits = without_leading_plus text in
    if nat_lt 0 (length digits) && list_all (λ d. nat_lt (digit_value d) 10) digits && fits (digits_value 10 digits)
    then Some (digits_value 10 digits) else None

-- the limit of frames among the matches of `find`, if there is one
abbrev pub frames_of : List Row → Option ℕ
frames_of rows = option_map_or (fitting_in is_limit) (one_of (codes "frames") rows) None

-- the width of the text among the matches of `play`, if there is one
abbrev pub width_of : List Row → Option ℕ
width_of rows = option_map_or (fitting_in is_width) (one_of (codes "width") rows) None

-- whether a flag is given among the matches: clap has `true` there where it is, and else `false`
abbrev pub is_asked : Text → List Row → Bool
is_asked name rows = option_map_or (λ text. bytes_eq text (codes "true")) (one_of name rows) false

-- so how status lines are to be shown: where both ways are asked for, in frames
abbrev pub status_lines_of : List Row → StatusLines
status_lines_of rows = if is_asked (codes "framed-status") rows then Framed else if is_asked (codes "status") rows then Bracketed else Hidden

-- and whether each save that is refused is to be told
abbrev pub is_tell_asked : List Row → Bool
is_tell_asked rows = is_asked (codes "tell") rows

-- and whether only a certificate is asked for that marks nothing
abbrev pub is_strict_asked : List Row → Bool
is_strict_asked rows = is_asked (codes "strict") rows

-- and whether what is marked is to be told
abbrev pub is_places_asked : List Row → Bool
is_places_asked rows = is_asked (codes "places") rows

-- and whether a file may be written over that holds something else
abbrev pub is_force_asked : List Row → Bool
is_force_asked rows = is_asked (codes "force") rows

-- and whether play is to go on after faults as interpreters do
abbrev pub is_lenient_asked : List Row → Bool
is_lenient_asked rows = is_asked (codes "lenient") rows

-- and whether nothing is to be wrapped
abbrev pub is_plain_asked : List Row → Bool
is_plain_asked rows = is_asked (codes "plain") rows

-- and whether no saves are to be kept
abbrev pub is_no_save_asked : List Row → Bool
is_no_save_asked rows = is_asked (codes "no-save") rows

-- and whether the player has commands of its own
abbrev pub is_commands_asked : List Row → Bool
is_commands_asked rows = is_asked (codes "commands") rows

-- and whether an object of JSON is to be answered
abbrev pub is_json_asked : List Row → Bool
is_json_asked rows = is_asked (codes "json") rows

-- the name of the certificate among the matches of a command, if there is one
abbrev pub certificate_of : List Row → Option Text
certificate_of rows = first_of (codes "CERT") rows

-- the files among the matches of `check` or `find`; without one clap makes no matches
abbrev pub files_of : List Row → List Text
files_of rows = unwrap_or (all_of (codes "FILE") rows) []

-- the name that `-o` gives among the matches of `find`, if it is there
abbrev pub output_of : List Row → Option Text
output_of rows = first_of (codes "output") rows

-- two files are a story and its certificate's, unless the second is named as a story
abbrev pub pair_of : List Text → Option (Text × Text)
pair_of (story ∷ certificate ∷ []) = if is_story_name certificate then None else Some (story, certificate)
pair_of files = None

-- the one story and its certificate's file that files and an `-o` name, if they do: the file that `-o` names is that of one story
abbrev pub target_of : List Text → Option Text → Option (Text × Text)
target_of files None = pair_of files
target_of (story ∷ []) (Some certificate) = Some (story, certificate)
target_of files (Some certificate) = None

-- the address among the matches of `show`, if there is one
abbrev pub address_of : List Row → Option Text
address_of rows = first_of (codes "ADDRESS") rows

-- the name of the file for saves among the matches of `play`, if there is one
abbrev pub save_of : List Row → Option Text
save_of rows = first_of (codes "save") rows

-- the name of the file that the text and the lines typed are kept in, if there is one
abbrev pub transcript_of : List Row → Option Text
transcript_of rows = first_of (codes "transcript") rows

-- of the one that the lines typed alone are kept in
abbrev pub record_of : List Row → Option Text
record_of rows = first_of (codes "record") rows

-- and of the one whose lines are read before those
abbrev pub replay_of : List Row → Option Text
replay_of rows = first_of (codes "replay") rows

-- how a play shows its text, and which files lines and text go to and come from
pub record Front : Type 0 where
  -- text is wrapped at so many columns
  pub width : Option ℕ
  -- nothing is wrapped, on a terminal too
  pub plain : Bool
  -- the file that the text and the lines typed are kept in
  pub transcript : Option Text
  -- the file that the lines typed are kept in
  pub typed_to : Option Text
  -- a file whose lines are read before those typed
  pub typed_before : Option Text
  -- no saves are kept, on a terminal too
  pub no_save : Bool
  -- the player has commands of its own
  pub commands : Bool

-- what the matches of `play` say of it
abbrev pub front_of : List Row → Front
front_of rows =
    record {
      width = width_of rows;
      plain = is_plain_asked rows;
      transcript = transcript_of rows;
      typed_to = record_of rows;
      typed_before = replay_of rows;
      no_save = is_no_save_asked rows;
      commands = is_commands_asked rows;
    }

-- a front that asks for nothing
abbrev pub no_front : Front
no_front = record { width = None; plain = false; transcript = None; typed_to = None; typed_before = None; no_save = false; commands = false }

-- what the matches of a command say of it: those of another than `play` ask for nothing
abbrev pub front_asked : Option (Text × List Row) → Front
front_asked (Some matches) = if bytes_eq matches.0 (codes "play") then front_of matches.1 else no_front
front_asked None = no_front

-- what a front says, by the names of files
abbrev pub front_named : NamedFront → Front
front_named front =
    record {
      width = front.width;
      plain = front.plain;
      transcript = option_map (λ f. f.now) front.transcript;
      typed_to = option_map (λ f. f.now) front.record;
      typed_before = option_map (λ f. f.now) front.replay;
      no_save = front.no_save;
      commands = front.commands;
    }

-- the name of the file of debug information among the matches of a command, if there is one
abbrev pub debug_of : List Row → Option Text
debug_of rows = first_of (codes "debug") rows

-- what the matches name so: of a command without `--debug` clap has none among its matches
abbrev pub debug_asked : Option (Text × List Row) → Option Text
debug_asked (Some matches) = debug_of matches.1
debug_asked None = None

-- the code among the matches of `explain`, if there is one
abbrev pub code_of : List Row → Option Text
code_of rows = first_of (codes "CODE") rows

-- the name of the file that has a save among the matches of `unpack`; without one clap makes no matches
abbrev pub packed_of : List Row → Text
packed_of rows = unwrap_or (first_of (codes "SAVE") rows) []

-- and of the one that the plain save goes to
abbrev pub out_of : List Row → Text
out_of rows = unwrap_or (first_of (codes "OUT") rows) []

-- what is asked for, by the names of files
pub data Request : Type 0 where
  ListStory : (story : Text) (certificate : Option Text) (json : Bool) → Request
  Find : (story certificate : Text) (frames : Option ℕ) (strict places force json : Bool) → Request
  FindEach : (stories : List Text) (frames : Option ℕ) (strict places force json : Bool) → Request
  OneForMany : Request
  Check : (story certificate : Text) (json : Bool) → Request
  CheckEach : (stories : List Text) (json : Bool) → Request
  Show : (story certificate : Text) (address : Option Text) → Request
  Play : (story : Text) (certificate : Option Text) (seed budget : ℕ) (status : StatusLines) (save : Option Text) (tell force lenient : Bool) → Request
  Info : (story : Text) (json : Bool) → Request
  Explain : (code : Option Text) (json : Bool) → Request
  Unpack : (story save out : Text) (force : Bool) → Request

-- what is asked of `find` beside its files
abbrev pub AsksToFind : List Row → Option ℕ → Bool → Bool → Bool → Bool → Type 0
AsksToFind rows frames strict places force json =
    (frames ≡ frames_of rows) × (strict ≡ is_strict_asked rows) × (places ≡ is_places_asked rows) × (force ≡ is_force_asked rows) × (json ≡ is_json_asked rows)

-- the request is the one that clap's matches name, with the values among them
abbrev pub Asks : Text × List Row → Request → Type 0
Asks matches (ListStory story certificate json) =
    (matches.0 ≡ codes "list") × (story ≡ story_of matches.1) × (certificate ≡ certificate_of matches.1) × (json ≡ is_json_asked matches.1)
Asks matches (Find story certificate frames strict places force json) =
    (matches.0 ≡ codes "find") × (target_of (files_of matches.1) (output_of matches.1) ≡ Some (story, certificate)) × AsksToFind matches.1 frames strict places force json
Asks matches (FindEach stories frames strict places force json) =
    (matches.0 ≡ codes "find") × (target_of (files_of matches.1) (output_of matches.1) ≡ None) × (output_of matches.1 ≡ None) × (stories ≡ files_of matches.1)
    × AsksToFind matches.1 frames strict places force json
Asks matches OneForMany = (matches.0 ≡ codes "find") × (target_of (files_of matches.1) (output_of matches.1) ≡ None) × (is_some (output_of matches.1) ≡ true)
Asks matches (Check story certificate json) = (matches.0 ≡ codes "check") × (pair_of (files_of matches.1) ≡ Some (story, certificate)) × (json ≡ is_json_asked matches.1)
Asks matches (CheckEach stories json) =
    (matches.0 ≡ codes "check") × (pair_of (files_of matches.1) ≡ None) × (stories ≡ files_of matches.1) × (json ≡ is_json_asked matches.1)
Asks matches (Show story certificate address) =
    (matches.0 ≡ codes "show") × (story ≡ story_of matches.1) × (certificate ≡ unwrap_or (certificate_of matches.1) []) × (address ≡ address_of matches.1)
Asks matches (Play story certificate seed budget status save tell force lenient) =
    (matches.0 ≡ codes "play") × (story ≡ story_of matches.1) × (certificate ≡ certificate_of matches.1) × (seed ≡ seed_of matches.1) × (budget ≡ budget_of matches.1)
    × (status ≡ status_lines_of matches.1) × (save ≡ save_of matches.1) × (tell ≡ is_tell_asked matches.1) × (force ≡ is_force_asked matches.1)
    × (lenient ≡ is_lenient_asked matches.1)
Asks matches (Info story json) = (matches.0 ≡ codes "info") × (story ≡ story_of matches.1) × (json ≡ is_json_asked matches.1)
Asks matches (Explain code json) = (matches.0 ≡ codes "explain") × (code ≡ code_of matches.1) × (json ≡ is_json_asked matches.1)
Asks matches (Unpack story save out force) =
    (matches.0 ≡ codes "unpack") × (story ≡ story_of matches.1) × (save ≡ packed_of matches.1) × (out ≡ out_of matches.1) × (force ≡ is_force_asked matches.1)

-- what a command asks for
abbrev pub request_of : Command → Request
request_of (commands.List story certificate json) = ListStory story.now (option_map (λ c. c.now) certificate) json
request_of (commands.Find story certificate frames strict places force json) = Find story.now certificate.now frames strict places force json
request_of (commands.FindEach stories frames strict places force json) = FindEach (map (λ s. s.now) stories.now) frames strict places force json
request_of commands.OneForMany = OneForMany
request_of (commands.Check story certificate json) = Check story.now certificate.now json
request_of (commands.CheckEach stories json) = CheckEach (map (λ s. s.now) stories.now) json
request_of (commands.Show story certificate address) = Show story.now certificate.now (option_map (λ a. a.now) address)
request_of (commands.Play story certificate seed budget status save tell force lenient) =
    Play story.now (option_map (λ c. c.now) certificate) seed budget status (option_map (λ f. f.now) save) tell force lenient
request_of (commands.Info story json) = Info story.now json
request_of (commands.Explain code json) = Explain (option_map (λ c. c.now) code) json
request_of (commands.Unpack story save out force) = Unpack story.now save.now out.now force

-- the command is the one that clap's matches name
abbrev pub IsReadFrom : Text × List Row → Command → Type 0
IsReadFrom matches command = Asks matches (request_of command)

-- it asks for no certificate with a limit of frames above the greatest
abbrev pub IsLow : Command → Type 0
IsLow (commands.Find story certificate frames strict places force json) = IfSome frames (λ n. n ≤ 4096)
IsLow (commands.FindEach stories frames strict places force json) = IfSome frames (λ n. n ≤ 4096)
IsLow _ = ⊤
