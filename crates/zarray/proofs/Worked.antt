-- Values of the definitions, worked by hand.
use Rattle.std.specs.Prelude.{◌≡◌, ℕ, List, [], ◌∷◌, Some, None, refl}
use Rattle.zarray.specs.declared.width.Width.TheVariants.{Byte, Word}
use Rattle.zarray.specs.Arrays.{place_of, element_at, with_element}

-- elements are counted from 0, and sums wrap
word_behind : place_of Word 1000 3 ≡ 1006
word_behind = refl

word_before : place_of Word 1000 65535 ≡ 998
word_before = refl

byte_before : place_of Byte 4 65531 ≡ 65535
byte_before = refl

-- an index from 32,768 on leads as far as one that is 32,768 less
word_half_way : place_of Word 7 32768 ≡ 7
word_half_way = refl

abbrev memory : List ℕ
memory = 1 ∷ 2 ∷ 255 ∷ []

first_word : element_at Word memory 0 ≡ Some 258
first_word = refl

-- the high byte is the first, and a word is at any place
second_word : element_at Word memory 1 ≡ Some 767
second_word = refl

last_byte : element_at Byte memory 2 ≡ Some 255
last_byte = refl

-- the last byte begins no word
word_cut : element_at Word memory 2 ≡ None
word_cut = refl

byte_outside : element_at Byte memory 3 ≡ None
byte_outside = refl

word_put : with_element Word 1 0xF1F0 memory ≡ 1 ∷ 0xF1 ∷ 0xF0 ∷ []
word_put = refl

-- of a word, the low byte is put
byte_put : with_element Byte 0 0x12FF memory ≡ 255 ∷ 2 ∷ 255 ∷ []
byte_put = refl
