-- What is known of the elements at any array and any index of two sets (own).
use Rattle.std.specs.Prelude.{ℕ, zero, suc, ◌+◌, ◌-◌, ◌*◌, ◌%◌, ◌<◌, ◌≤◌, min, Bool, true, ◌&&◌, not, if◌then◌else◌, IsTrue, Option, Some, None, List, [], ◌∷◌, ◌++◌, map}
use Rattle.std.specs.List.{list_all}
use Rattle.zstory.specs.Bytes.{readable_end}
use Rattle.zstory.specs.LoadedStory.{LoadedStory}
use Rattle.zdomain.specs.Domain.{SetOperations}
use Rattle.zarray.specs.declared.width.Width.{Width}
use Rattle.zarray.specs.declared.width.Width.TheVariants.{Byte, Word}
use Rattle.zarray.specs.Arrays.{span, place_of, value_at}
use Rattle.zdomain.specs.Few.{turned, is_among, gathered}
use Rattle.zpairs.specs.Ends.{exactly, joined, no_word}
use Rattle.zpairs.specs.Pairs.{between_ends}
use Rattle.zpairs.specs.Frozen.{FrozenStory}
use Rattle.zpairs.specs.Members.{members}
use Rattle.zplace.specs.Bytes.{IsOpen}
use Rattle.zruns.specs.declared.run.Run.{Run}
use Rattle.zruns.specs.declared.cell.Cell.{Cell}
use Rattle.zpairs.specs.Fixed.{is_closed, is_fixed}

-- ---- runs of addresses

-- a place in the order of signed readings, of an element: that of the array and so many times that of the index
abbrev pub summed : Width → ℕ → ℕ → ℕ
summed width array index = turned array + span width * turned index

-- the word with the signed reading of a number: that of 65,535 for all that are no words
abbrev pub as_word : ℕ → ℕ
as_word x = min x 65535

module _ {V : Type 0} (o : SetOperations V) (width : Width) (arrays indices : V) where
  abbrev pub lowest_sum : ℕ
  lowest_sum = summed width (as_word (o.lowest arrays)) (as_word (o.lowest indices))

  abbrev pub highest_sum : ℕ
  highest_sum = summed width (as_word (o.highest arrays)) (as_word (o.highest indices))

  -- The addresses of all sums of signed readings from the least to the greatest, modulo 65,536: whether one of them is even isn't
  -- asked
  abbrev pub run_of : Run
  run_of = record { first = place_of width (as_word (o.lowest arrays)) (as_word (o.lowest indices)); more = min 65535 (highest_sum - lowest_sum) }

-- the address so many behind the first
abbrev pub address : Run → ℕ → ℕ
address run k = (run.first + k) % 65536

-- something holds of each address of a run
abbrev pub EachAddress : Run → (ℕ → Type 0) → Type 0
EachAddress run Holds = (k : ℕ) → k ≤ run.more → Holds (address run k)

-- ---- wherever the elements may lie

-- something holds of the place of each array and each index of two lists
abbrev pub EachSum : Width → List ℕ → List ℕ → (ℕ → Type 0) → Type 0
EachSum width arrays indices Holds = (a i : ℕ) → IsTrue (is_among a arrays) → IsTrue (is_among i indices) → Holds (place_of width a i)

abbrev pub EachOf : Width → Run → Option (List ℕ × List ℕ) → (ℕ → Type 0) → Type 0
EachOf width run (Some words) Holds = EachSum width words.0 words.1 Holds
EachOf width run None Holds = EachAddress run Holds

module _ {V : Type 0} (o : SetOperations V) where
  -- Something holds of each place where an element may lie: the sums themselves, where both sets tell their words, and else all addresses of
  -- the run
  abbrev pub EachPlace : Width → V → V → (ℕ → Type 0) → Type 0
  EachPlace width arrays indices Holds = EachOf width (run_of o width arrays indices) (members o arrays indices) Holds

  -- each byte of each element can be read
  abbrev pub AreReadable : LoadedStory → Width → V → V → Type 0
  AreReadable story width arrays indices = EachPlace width arrays indices (λ p. p + span width ≤ readable_end story.memory)

  -- each byte of each element is open
  abbrev pub AreOpen : LoadedStory → (ℕ → Bool) → Width → V → V → Type 0
  AreOpen story is_frozen width arrays indices = EachPlace width arrays indices (λ p. (j : ℕ) → j < span width → IsOpen story is_frozen (p + j))

-- ---- what is known of the element at an address

-- it holds of each byte of an element
abbrev pub each_byte : Width → (ℕ → Bool) → ℕ → Bool
each_byte Byte holds p = holds p
each_byte Word holds p = holds p && holds (p + 1)

-- the element at a place, if no play changes a byte of it
abbrev pub fixed_value : (ℕ → Bool) → Width → List ℕ → ℕ → Option ℕ
fixed_value fixed width memory p = if each_byte width fixed p then Some (value_at width memory p) else None

abbrev pub cell_at : FrozenStory → Width → ℕ → Cell
cell_at told width p = record {
  is_open = each_byte width (λ q. not (is_closed told q)) p;
  fixed = each_byte width (is_fixed told) p;
  ends = exactly (value_at width told.story.memory p);
}

-- of none, and of those of either
abbrev pub no_cell : Cell
no_cell = record { is_open = true; fixed = true; ends = no_word }

abbrev pub merged : Cell → Cell → Cell
merged a b = record { is_open = a.is_open && b.is_open; fixed = a.fixed && b.fixed; ends = joined a.ends b.ends }

-- of all of which a function tells, below a number
unfoldable pub merged_below : ℕ → (ℕ → Cell) → Cell
merged_below zero f = no_cell
merged_below (suc k) f = merged (merged_below k f) (f k)

-- of the elements of a run
abbrev pub run_cell : FrozenStory → Width → Run → Cell
run_cell told width run = merged_below (run.more + 1) (λ k. cell_at told width (address run k))

-- ---- what is read

-- what may be read where that isn't known
abbrev pub any_element : {V : Type 0} → SetOperations V → Width → V
any_element o Byte = o.between 0 255
any_element o Word = o.any

abbrev pub elements_in : {V : Type 0} → SetOperations V → Width → Cell → V
elements_in o width cell = if cell.fixed then between_ends o cell.ends else any_element o width

-- ---- sums

-- the places of an array and each index of a list, and of each array of another
unfoldable pub sums : Width → List ℕ → List ℕ → List ℕ
sums width [] indices = []
sums width (a ∷ arrays) indices = map (place_of width a) indices ++ sums width arrays indices

-- of so many places: the elements themselves, where no play changes a byte of any
abbrev pub elements_at : {V : Type 0} → SetOperations V → FrozenStory → Width → List ℕ → V
elements_at o told width places = if list_all (each_byte width (is_fixed told)) places then o.packed (gathered (map (value_at width told.story.memory) places)) else any_element o width

abbrev pub elements_of : {V : Type 0} → SetOperations V → FrozenStory → Width → Run → Option (List ℕ × List ℕ) → V
elements_of o told width run (Some words) = elements_at o told width (sums width words.0 words.1)
elements_of o told width run None = elements_in o width (run_cell told width run)

-- A set of whatever may be read: what stands at each sum, where both sets tell their words; and else, from the least of the run to the
-- greatest, by signed readings
abbrev pub elements : {V : Type 0} → SetOperations V → FrozenStory → Width → V → V → V
elements o told width arrays indices = elements_of o told width (run_of o width arrays indices) (members o arrays indices)
