-- The ends of what an answer may be, in the order of signed readings (own).
use Rattle.std.specs.Prelude.{ℕ, ◌+◌, Bool, ◌&&◌, ◌==◌, if◌then◌else◌, min, max, List, Option, Some, None}
use Rattle.zstory.specs.Bytes.{byte_at, word_at}
use Rattle.zobj.specs.declared.property.Property.{Property}
use Rattle.zobj.specs.Values.{default_word}
use Rattle.zobj.specs.Answers.{address_of}
use Rattle.zdomain.specs.Few.{turned}
use Rattle.zpairs.specs.declared.ends.Ends.{Ends}

-- the ends of one word, of the words below 256, of all words, and of none
abbrev pub exactly : ℕ → Ends
exactly word = record { least = turned word; greatest = turned word }

abbrev pub a_byte : Ends
a_byte = record { least = 32768; greatest = 33023 }

abbrev pub any_word : Ends
any_word = record { least = 0; greatest = 65535 }

abbrev pub no_word : Ends
no_word = record { least = 65535; greatest = 0 }

-- of the words of either
abbrev pub joined : Ends → Ends → Ends
joined a b = record { least = min a.least b.least; greatest = max a.greatest b.greatest }

-- of what a byte may be, and a word: it is known where no play changes a byte of it
abbrev pub byte_ends : (ℕ → Bool) → List ℕ → ℕ → Ends
byte_ends fixed memory at = if fixed at then exactly (byte_at memory at) else a_byte

abbrev pub word_ends : (ℕ → Bool) → List ℕ → ℕ → Ends
word_ends fixed memory at = if fixed at && fixed (at + 1) then exactly (word_at memory at) else any_word

-- of what data of one or two bytes may be; longer data have no value, and these ends no meaning
abbrev pub data_ends : (ℕ → Bool) → List ℕ → Property → Ends
data_ends fixed memory property =
    if property.length == 1 then byte_ends fixed memory property.place
    else (if property.length == 2 then word_ends fixed memory property.place else any_word)

-- of what the value of a property may be: the default where the object has none of the number
abbrev pub value_ends : (ℕ → Bool) → List ℕ → ℕ → Option Property → Ends
value_ends fixed memory number None = exactly (default_word memory number)
value_ends fixed memory number (Some property) = data_ends fixed memory property

-- what its address is
abbrev pub address_ends : Option Property → Ends
address_ends property = exactly (address_of property)
