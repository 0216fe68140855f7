-- What comes of asking any object of a set for the property of any number of a set (own).
use Rattle.std.specs.Prelude.{ℕ, zero, suc, ◌+◌, ◌≤◌, min, nat_le, Bool, ◌&&◌, ◌||◌, ◌==◌, if◌then◌else◌, is_some, IfSome, IsTrue, Option, Some, None, unwrap_or, List, [], ◌∷◌, ◌++◌, map}
use Rattle.std.specs.List.{list_all}
use Rattle.std.specs.Result.{IsOk}
use Rattle.zstory.specs.LoadedStory.{LoadedStory}
use Rattle.zdomain.specs.Domain.{SetOperations, In}
use Rattle.zobj.specs.declared.answers.PropertyQuestion.{PropertyQuestion}
use Rattle.zobj.specs.declared.answers.PropertyQuestion.TheVariants.{Value, Address, Next}
use Rattle.zobj.specs.Properties.{property_of}
use Rattle.zobj.specs.Values.{IsDataByte, with_property}
use Rattle.zobj.specs.Answers.{answer_of}
use Rattle.zplace.specs.Bytes.{IsOpen}
use Rattle.zpairs.specs.declared.ends.Ends.{Ends}
use Rattle.zpairs.specs.declared.cell.Cell.{Cell}
use Rattle.zpairs.specs.Frozen.{FrozenStory}
use Rattle.zdomain.specs.Few.{turned, is_among, gathered}
use Rattle.zpairs.specs.Ends.{no_word, joined}
use Rattle.zpairs.specs.Cells.{cell_at}
use Rattle.zpairs.specs.Members.{members}

module _ {V : Type 0} (o : SetOperations V) where
  module _ (story : LoadedStory) where
    -- something holds of whatever object of the story and whatever number may be asked for together
    abbrev pub EachPair : V → V → (ℕ → ℕ → Type 0) → Type 0
    EachPair objects numbers Holds = (x n : ℕ) → 1 ≤ x → x ≤ story.objects → In o objects x → In o numbers n → Holds x n

    -- a question has an answer (Z 15 get_prop, get_prop_addr, get_next_prop)
    abbrev pub AreAnswered : PropertyQuestion → V → V → Type 0
    AreAnswered question objects numbers = EachPair objects numbers (λ x n. IsOk (answer_of question story.memory x n))

    -- the property can be given a word: the object has it, with at most two bytes of data (Z 15 put_prop)
    abbrev pub CanBePut : V → V → Type 0
    CanBePut objects numbers = EachPair objects numbers (λ x n. IsOk (with_property x n 0 story.memory))

    -- each byte of the property's data is open, where the object has it
    abbrev pub HaveOpenData : (ℕ → Bool) → V → V → Type 0
    HaveOpenData is_frozen objects numbers = EachPair objects numbers (λ x n. IfSome (property_of story.memory x n) (λ property. (p : ℕ) → IsDataByte property p → IsOpen story is_frozen p))

  -- the set may have the word: for intervals, it has it
  abbrev pub may_have : V → ℕ → Bool
  may_have a x = is_some (o.meet a (o.single x))

  -- it may have a number above those of all properties: by signed readings, these are two runs of words
  abbrev pub may_exceed : V → Bool
  may_exceed a = is_some (o.meet a (o.between 32 32767)) || is_some (o.meet a (o.between 32768 65535))

  -- the numbers of properties that may be asked for. 32 stands for all that no property has
  abbrev pub is_asked : V → ℕ → Bool
  is_asked numbers n = if n == 32 then may_exceed numbers else may_have numbers n

-- what may be answered of the objects and the number of a cell: a value, or an address
abbrev pub answer_ends : PropertyQuestion → Cell → Ends
answer_ends Value cell = cell.values
answer_ends Address cell = cell.addresses
answer_ends Next cell = no_word

-- the ends of all the words whose ends a function gives, below a number
unfoldable pub ends_below : ℕ → (ℕ → Ends) → Ends
ends_below zero f = no_word
ends_below (suc k) f = joined (ends_below k f) (f k)

module _ {V : Type 0} (o : SetOperations V) (told : FrozenStory) (question : PropertyQuestion) where
  -- the ends of what is answered of an object and a number, where they may be asked for
  abbrev pub pair_ends : V → ℕ → ℕ → Ends
  pair_ends numbers x n = if is_asked o numbers n then answer_ends question (cell_at told x n) else no_word

  abbrev pub number_ends : V → ℕ → Ends
  number_ends numbers x = ends_below 33 (pair_ends numbers x)

  abbrev pub object_ends : V → V → ℕ → Ends
  object_ends objects numbers x = if may_have o objects x then number_ends numbers x else no_word

  -- of whatever objects may be asked
  abbrev pub all_ends : V → V → Ends
  all_ends objects numbers = ends_below told.story.objects (λ below. object_ends objects numbers (below + 1))

-- the words between two ends
abbrev pub between_ends : {V : Type 0} → SetOperations V → Ends → V
between_ends o ends = o.between (turned ends.least) (turned ends.greatest)

-- from the least word of a set to its greatest
abbrev pub hull : {V : Type 0} → SetOperations V → V → V
hull o a = o.between (o.lowest a) (o.highest a)

-- all words between the least and the greatest, by signed readings, of what the objects of a hull answer with the numbers of another
abbrev pub hull_answers : {V : Type 0} → SetOperations V → FrozenStory → PropertyQuestion → V → V → V
hull_answers o told question objects numbers = between_ends o (all_ends o told question (hull o objects) (hull o numbers))

-- ---- objects and numbers of lists

-- the number by which one is asked for
abbrev pub column : ℕ → ℕ
column n = min n 32

-- those of a list, each once
abbrev pub columns : List ℕ → Option (List ℕ)
columns numbers = (gathered (map column numbers)).few

-- something holds of each object of a list that the story has and each number of another
abbrev pub EachWord : LoadedStory → List ℕ → List ℕ → (ℕ → ℕ → Type 0) → Type 0
EachWord story objects numbers Holds = (x n : ℕ) → 1 ≤ x → x ≤ story.objects → IsTrue (is_among x objects) → IsTrue (is_among n numbers) → Holds x n

module _ (told : FrozenStory) (question : PropertyQuestion) where
  abbrev pub ends_of : ℕ → ℕ → Ends
  ends_of x n = answer_ends question (cell_at told x (column n))

  -- the ends of what an object answers with each number of a list, if the story has it, and each object of another
  abbrev pub row : ℕ → List ℕ → List Ends
  row x numbers = if nat_le 1 x && nat_le x told.story.objects then map (ends_of x) numbers else []

  unfoldable pub pairs : List ℕ → List ℕ → List Ends
  pairs [] numbers = []
  pairs (x ∷ objects) numbers = row x numbers ++ pairs objects numbers

-- one word is answered, and which it is
abbrev pub is_exact : Ends → Bool
is_exact ends = ends.least == ends.greatest

abbrev pub word_of : Ends → ℕ
word_of ends = turned ends.least

module _ {V : Type 0} (o : SetOperations V) where
  -- the words that are answered, where each pair answers one
  abbrev pub words_if : List Ends → Option V
  words_if all = if list_all is_exact all then Some (o.packed (gathered (map word_of all))) else None

  module _ (told : FrozenStory) (question : PropertyQuestion) where
    abbrev pub column_words : List ℕ → Option (List ℕ) → Option V
    column_words objects (Some numbers) = words_if (pairs told question objects numbers)
    column_words objects None = None

    abbrev pub told_words : Option (List ℕ × List ℕ) → Option V
    told_words (Some words) = column_words words.0 (columns words.1)
    told_words None = None

-- the words that are answered of all pairs, where both sets tell their own and each pair answers one; and else those between
abbrev pub known_answers : {V : Type 0} → SetOperations V → FrozenStory → PropertyQuestion → V → V → V
known_answers o told question objects numbers = unwrap_or (told_words o told question (members o objects numbers)) (hull_answers o told question objects numbers)

-- A set of whatever may be answered: values, or addresses. A number behind a number is that of a property, or 0
abbrev pub answers : {V : Type 0} → SetOperations V → FrozenStory → PropertyQuestion → V → V → V
answers o told Value objects numbers = known_answers o told Value objects numbers
answers o told Address objects numbers = known_answers o told Address objects numbers
answers o told Next objects numbers = o.between 0 31
