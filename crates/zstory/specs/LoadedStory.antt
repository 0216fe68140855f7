-- A loaded story: its memory, with the number of its objects. All other numbers are those of the header (Z 11.1).
use Rattle.std.specs.Prelude.{◌≡◌, ℕ, ◌+◌, ◌%◌, ◌<◌, ◌≤◌, Bool, ◌==◌, if◌then◌else◌, List, length, drop, sum}
use Rattle.zstory.specs.declared.identity.Identity.{Identity}
use Rattle.zstory.specs.Bytes.{AreBytes, readable_end}
use Rattle.zstory.specs.Header as header
use Rattle.zstory.specs.Dictionary.{dictionary_end, entry_length, IsOrdered}

pub record LoadedStory : Type 0 where
  -- the file cut at its stated length, with bits 4, 5 and 6 of Flags 1 cleared
  pub memory : List ℕ
  pub objects : ℕ

abbrev pub release : LoadedStory → ℕ
release story = header.release story.memory

-- the byte address where the first instruction stands
abbrev pub first_instruction : LoadedStory → ℕ
first_instruction story = header.first_instruction story.memory

abbrev pub dictionary : LoadedStory → ℕ
dictionary story = header.dictionary story.memory

abbrev pub object_table : LoadedStory → ℕ
object_table story = header.object_table story.memory

-- where the 240 globals begin
abbrev pub globals : LoadedStory → ℕ
globals story = header.globals story.memory

-- where dynamic memory ends
abbrev pub static_base : LoadedStory → ℕ
static_base story = header.static_base story.memory

-- the six bytes of the serial number
abbrev pub serial : LoadedStory → List ℕ
serial story = header.serial story.memory

abbrev pub abbreviations : LoadedStory → ℕ
abbreviations story = header.abbreviations story.memory

-- the checksum as it stands in the header, which may be 0
abbrev pub checksum : LoadedStory → ℕ
checksum story = header.checksum story.memory

-- the status line shows a time of day and not a score
abbrev pub is_time_game : LoadedStory → Bool
is_time_game story = header.is_time_game story.memory

-- what tells a story from others
abbrev pub identity_of : LoadedStory → Identity
identity_of story = record { release = release story; serial = serial story; checksum = checksum story; length = length story.memory }

-- the sum that `verify` compares with the header's checksum: of all bytes behind the header, which stand in memory as
-- they stand in the file (Z 15)
abbrev pub file_sum : LoadedStory → ℕ
file_sum story = sum (drop 0x40 story.memory) % 65536

-- what a save says of its story: the header's checksum, or the sum in its place where the header has none (own)
abbrev pub save_checksum : LoadedStory → ℕ
save_checksum story = if checksum story == 0 then file_sum story else checksum story

-- what holds of the memory of every loaded story, for the layers above to rely on
pub record IsSound (memory : List ℕ) : Type 0 where
  pub bytes : AreBytes memory
  pub least_length : 64 ≤ length memory
  pub greatest_length : length memory ≤ 131072
  pub version : header.version memory ≡ 3
  pub static_base_above : 64 ≤ header.static_base memory
  pub static_base_within : header.static_base memory ≤ length memory
  pub globals_above : 64 ≤ header.globals memory
  pub globals_within : header.globals memory + 480 ≤ header.static_base memory
  pub defaults_above : 64 ≤ header.object_table memory
  pub defaults_within : header.object_table memory + 62 ≤ header.static_base memory
  pub dictionary_above : header.static_base memory ≤ header.dictionary memory
  pub dictionary_within : dictionary_end memory ≤ readable_end memory
  pub entries_long : 4 ≤ entry_length memory
  pub entries_ordered : IsOrdered memory
  pub first_instruction_above : 64 ≤ header.first_instruction memory
  pub first_instruction_within : header.first_instruction memory < length memory
