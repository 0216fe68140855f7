-- What is known of an object and the number of a property, and of several objects with the same number (own).
use Rattle.std.specs.Prelude.{ℕ, zero, suc, ◌+◌, Bool, true, false, ◌&&◌, ◌||◌, not, ◌==◌, nat_le, if◌then◌else◌, List, Option, Some, None, is_some}
use Rattle.zobj.specs.declared.property.Property.{Property}
use Rattle.zobj.specs.declared.answers.PropertyQuestion.TheVariants.{Value, Address, Next}
use Rattle.zobj.specs.Properties.{property_of}
use Rattle.zobj.specs.Answers.{is_property_number}
use Rattle.zpairs.specs.declared.cell.Cell.{Cell}
use Rattle.zpairs.specs.declared.cell.Test.{Test}
use Rattle.zpairs.specs.declared.cell.Test.TheVariants.{Answered, Put, Open}
use Rattle.zpairs.specs.declared.ends.Ends.{Ends}
use Rattle.zpairs.specs.Frozen.{FrozenStory}
use Rattle.zpairs.specs.Fixed.{is_closed, is_fixed}
use Rattle.zpairs.specs.Ends.{value_ends, address_ends, joined, no_word}

-- none of so many places from one on is one of some
unfoldable pub has_none : (ℕ → Bool) → ℕ → ℕ → Bool
has_none holds place zero = true
has_none holds place (suc k) = has_none holds place k && not (holds (place + k))

-- at most two bytes; no closed byte
abbrev pub is_short : Option Property → Bool
is_short None = true
is_short (Some property) = nat_le property.length 2

abbrev pub has_open_data : (ℕ → Bool) → Option Property → Bool
has_open_data closed None = true
has_open_data closed (Some property) = has_none closed property.place property.length

-- what its value may be; that is asked of the numbers of properties alone
abbrev pub asked_values : (ℕ → Bool) → List ℕ → ℕ → Option Property → Ends
asked_values fixed memory number property = if is_property_number number then value_ends fixed memory number property else no_word

-- what is known of an object's property of a number, by the closed bytes and by the fixed ones
abbrev pub cell_of : (ℕ → Bool) → (ℕ → Bool) → List ℕ → ℕ → Option Property → Cell
cell_of closed fixed memory number property = record {
  has = is_some property;
  short = is_short property;
  is_open = has_open_data closed property;
  values = asked_values fixed memory number property;
  addresses = address_ends property;
}

abbrev pub cell_at : FrozenStory → ℕ → ℕ → Cell
cell_at told object number = cell_of (is_closed told) (is_fixed told) told.story.memory number (property_of told.story.memory object number)

-- what stands where nothing is told yet
abbrev pub blank_cell : Cell
blank_cell = record {
  has = false;
  short = false;
  is_open = false;
  values = record { least = 0; greatest = 0 };
  addresses = record { least = 0; greatest = 0 };
}

-- what is known of none of the objects, and of those of either
abbrev pub no_cell : Cell
no_cell = record { has = true; short = true; is_open = true; values = no_word; addresses = no_word }

abbrev pub merged : Cell → Cell → Cell
merged a b = record {
  has = a.has && b.has;
  short = a.short && b.short;
  is_open = a.is_open && b.is_open;
  values = joined a.values b.values;
  addresses = joined a.addresses b.addresses;
}

-- each of the objects passes a test with the number
abbrev pub passes : Test → ℕ → Cell → Bool
passes (Answered Value) number cell = is_property_number number && cell.short
passes (Answered Address) number cell = true
passes (Answered Next) number cell = (number == 0) || cell.has
passes Put number cell = cell.has && cell.short
passes Open number cell = cell.is_open

-- with a number that no property has, all objects pass a test or none does
abbrev pub absent_passes : Test → Bool
absent_passes (Answered Value) = false
absent_passes (Answered Address) = true
absent_passes (Answered Next) = false
absent_passes Put = false
absent_passes Open = true
