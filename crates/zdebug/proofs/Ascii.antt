-- What is pushed as a character is one byte.
use Rattle.std.proofs.Common.{◌≡◌, ◌<◌, ◌==◌, ◌&&◌, ℕ, true, [], ◌∷◌, refl, arith}
use Rattle.std.specs.Prelude.{nat_le, nat_lt, not}
use Rattle.std.specs.Char.{encode_utf8}
use Rattle.std.proofs.lemmas.Bool.{agree_below_at, and_parts, leb-true, ltb-true}
use Rattle.std.proofs.lemmas.Str.{encode_ascii}
use Rattle.zdebug.specs.Shown.{hex_digit, is_plain}

digit_below : (n : ℕ) → n < 16 → hex_digit n < 128
digit_below n below = ltb-true (hex_digit n) 128 (agree_below_at (λ d. nat_lt (hex_digit d) 128) (λ d. true) 16 n refl below)

pub digit : (n : ℕ) → n < 16 → encode_utf8 (hex_digit n) ≡ hex_digit n ∷ []
digit n below = encode_ascii (hex_digit n) (digit_below n below)

pub plain : (byte : ℕ) → is_plain byte ≡ true → encode_utf8 byte ≡ byte ∷ []
plain byte is = encode_ascii byte (omega (arith, leb-true byte 126 (and_parts (nat_le 32 byte) (nat_le byte 126) (and_parts (nat_le 32 byte && nat_le byte 126) (not (byte == 92)) is).0).1))
