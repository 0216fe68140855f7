-- What is asked of two words (Z 15 je, jl, jg, test). Numbers are compared as signed ones (Z 2.2).
use Rattle.std.specs.Prelude.{ℕ, Bool, ◌==◌, int_lt, bit_and}
use Rattle.zword.specs.Binary.{signed}
use Rattle.zword.specs.declared.question.Question.{Question}
use Rattle.zword.specs.declared.question.Question.TheVariants.{Equal, Less, Greater, Test}

-- they are one word; the first is less; it is greater; it has all bits of the second
abbrev pub holds : Question → ℕ → ℕ → Bool
holds Equal x y = x == y
holds Less x y = int_lt (signed x) (signed y)
holds Greater x y = int_lt (signed y) (signed x)
holds Test x y = bit_and x y == y
