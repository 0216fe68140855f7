-- The properties of an object by their numbers (own).
use Rattle.std.specs.Prelude.{◌≡◌, ℕ, ◌+◌, ◌*◌, ◌/◌, ◌%◌, ◌<◌, List, Option, Some, None, if◌then◌else◌, slice_index_or}
use Rattle.std.specs.List.{find}
use Rattle.zstory.specs.LoadedStory.{LoadedStory}
use Rattle.zobj.specs.declared.property.Property.{Property}
use Rattle.zobj.specs.Properties.{properties_from, property_of, has_number}

-- the first answer, where there is one
abbrev pub first_of : Option Property → Option Property → Option Property
first_of None later = later
first_of (Some property) later = Some property

-- the property, where it has the number
abbrev pub if_number : ℕ → Property → Option Property
if_number number property = if has_number number property then Some property else None

-- each number has its first property of the list from a place on
abbrev pub IsRow : List ℕ → ℕ → List (Option Property) → Type 0
IsRow memory first row = (n : ℕ) → n < 33 → slice_index_or row n None ≡ find (has_number n) (properties_from memory first)

-- a row of the object behind so many others, if the story has it
abbrev pub IsObjectRow : LoadedStory → ℕ → List (Option Property) → Type 0
IsObjectRow story below row = below < story.objects → (n : ℕ) → n < 33 → slice_index_or row n None ≡ property_of story.memory (below + 1) n

-- a table of each object's property of each number
abbrev pub AreFound : LoadedStory → List (Option Property) → Type 0
AreFound story found = (k : ℕ) → k < 33 * story.objects → slice_index_or found k None ≡ property_of story.memory (k / 33 + 1) (k % 33)
