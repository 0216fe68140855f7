-- What is read of an array is a word.
use Rattle.std.proofs.Common.{ℕ, ◌+◌, ◌<◌, nat_le, Bool, true, false, if◌then◌else◌, List, Some, None, arith}
use Rattle.std.specs.Prelude.{IfSome}
use Rattle.zstory.specs.Bytes.{AreBytes, readable_end}
use Rattle.zarray.specs.declared.width.Width.{Width}
use Rattle.zarray.specs.declared.width.Width.TheVariants.{Byte, Word}
use Rattle.zarray.specs.Arrays.{span, value_at, element_at}

value_word : (width : Width) (memory : List ℕ) (p : ℕ) → AreBytes memory → value_at width memory p < 65536
value_word Byte memory p are = let byte = are p in omega (arith, byte)
value_word Word memory p are = let high = are p in let low = are (p + 1) in omega (arith, high, low)

pub element_word : (width : Width) (memory : List ℕ) (p : ℕ) → AreBytes memory → IfSome (element_at width memory p) (λ x. x < 65536)
element_word width memory p are = by (nat_le (p + span width) (readable_end memory))
  where
    by : (b : Bool) → IfSome (if b then Some (value_at width memory p) else None) (λ x. x < 65536)
    by true = value_word width memory p are
    by false = tt
