-- How a variable is counted (Z 15 inc, dec, inc_chk, dec_chk).
use Rattle.std.specs.Prelude.{ℕ}
use Rattle.zword.specs.Binary.{apply}
use Rattle.zword.specs.declared.binary.BinaryOp.{BinaryOp}
use Rattle.zword.specs.declared.binary.BinaryOp.TheVariants.{Add, Sub}
use Rattle.zword.specs.declared.count.CountOp.{CountOp}
use Rattle.zword.specs.declared.count.CountOp.TheVariants.{Up, Down}

-- the operation that counts, by a second word of 1
abbrev pub counting : CountOp → BinaryOp
counting Up = Add
counting Down = Sub

-- the word one on, or one back
abbrev pub counted : CountOp → ℕ → ℕ
counted c x = apply (counting c) x 1
