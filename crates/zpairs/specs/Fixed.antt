-- Which bytes are closed, and which stay as they are, as questions that can be answered (own). What they mean are the sets of zplace.
use Rattle.std.specs.Prelude.{◌≡◌, ◌<◌, ◌≤◌, true, ℕ, zero, suc, ◌+◌, ◌*◌, Bool, false, ◌&&◌, ◌||◌, not, ◌==◌, nat_le, nat_lt, List, length, Option, Some, None}
use Rattle.zstory.specs.Bytes.{byte_at}
use Rattle.zstory.specs.LoadedStory.{LoadedStory, globals, object_table, static_base, abbreviations}
use Rattle.zstory.specs.Objects.{object_place, property_table}
use Rattle.ztext.specs.Abbreviations.{readable_word}
use Rattle.ztext.specs.Local.{read_length}
use Rattle.zobj.specs.Properties.{list_place, data_end}
use Rattle.zdomain.specs.Marks.{is_marked}
use Rattle.zpairs.specs.Frozen.{FrozenStory, frozen_by}

-- a place is one of so many from another on
abbrev pub is_within : ℕ → ℕ → ℕ → Bool
is_within from size p = nat_le from p && nat_lt p (from + size)

-- something holds of a number below another
unfoldable pub any_below : ℕ → (ℕ → Bool) → Bool
any_below zero holds = false
any_below (suc n) holds = any_below n holds || holds n

-- one of the first size bytes of the list of properties from a place on, the zero byte at its end among them
unfoldable pub is_size_place : ℕ → List ℕ → ℕ → ℕ → Bool
is_size_place zero memory at p = false
is_size_place (suc n) memory at p = ((p == at) && nat_lt p (length memory)) || (not (byte_at memory at == 0) && is_size_place n memory (data_end memory at) p)

-- what a property table is beside its data; a list has fewer properties than memory has bytes
abbrev pub is_in_frame : List ℕ → ℕ → ℕ → Bool
is_in_frame memory table p = is_within table (1 + 2 * byte_at memory table) p || is_size_place (length memory) memory (list_place memory table) p

abbrev pub is_in_text : List ℕ → Option ℕ → ℕ → Bool
is_in_text memory None p = false
is_in_text memory (Some word) p = is_within (2 * word) (read_length memory (2 * word)) p

-- the word of the table that leads to an abbreviation, or what a reading of its text goes over
abbrev pub is_in_abbreviation : List ℕ → ℕ → ℕ → ℕ → Bool
is_in_abbreviation memory table n p = is_within (table + 2 * n) 2 p || is_in_text memory (readable_word memory (table + 2 * n)) p

abbrev pub is_flags : ℕ → Bool
is_flags p = is_within 0x10 2 p

-- what the story's own tables take up, what is frozen, and all that lies outside dynamic memory
abbrev pub is_closed : FrozenStory → ℕ → Bool
is_closed told p =
    (nat_lt p 64 && not (is_flags p))
    || is_within (globals told.story) 480 p
    || is_within (object_table told.story) (62 + 9 * told.story.objects) p
    || any_below told.story.objects (λ below. is_in_frame told.story.memory (property_table told.story.memory (below + 1)) p)
    || any_below 96 (λ n. is_in_abbreviation told.story.memory (abbreviations told.story) n p)
    || frozen_by told.ranges p
    || nat_le (static_base told.story) p

-- Flags 2, the globals, and the attributes and the tree of objects
abbrev pub is_changing : LoadedStory → ℕ → Bool
is_changing story p =
    is_flags p
    || is_within (globals story) 480 p
    || any_below story.objects (λ below. is_within (object_place story.memory (below + 1)) 7 p)

-- no play changes it
abbrev pub is_fixed : FrozenStory → ℕ → Bool
is_fixed told p = is_closed told p && not (is_changing told.story p)

-- marks tell of each byte of dynamic memory whether it is closed; all behind it are, and never change
pub record AreClosed (told : FrozenStory) (marks : List ℕ) : Type 0 where
  pub each : (p : ℕ) → p < static_base told.story → is_marked marks p ≡ is_closed told p
  pub behind : (p : ℕ) → static_base told.story ≤ p → is_closed told p ≡ true
  pub still : (p : ℕ) → static_base told.story ≤ p → is_changing told.story p ≡ false

-- of the bytes of dynamic memory that are marked as closed, those that no instruction changes without asking are marked here
abbrev pub AreFixed : LoadedStory → List ℕ → List ℕ → Type 0
AreFixed story closed marks = (p : ℕ) → p < static_base story → is_marked marks p ≡ (is_marked closed p && not (is_changing story p))

-- marks with those of more places, up to an end; and of all places
abbrev pub AreMarkedBelow : ℕ → List ℕ → List ℕ → (ℕ → Bool) → Type 0
AreMarkedBelow end before after holds = (p : ℕ) → p < end → is_marked after p ≡ (is_marked before p || holds p)

abbrev pub AreMarkedToo : List ℕ → List ℕ → (ℕ → Bool) → Type 0
AreMarkedToo before after holds = AreMarkedBelow 65536 before after holds
