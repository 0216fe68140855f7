-- What is pushed as a character is one byte.
use Rattle.std.proofs.Common.{◌≡◌, ◌<◌, ◌+◌, ◌/◌, ◌%◌, ◌==◌, ◌&&◌, ℕ, zero, suc, true, List, [], ◌∷◌, ◌++◌, refl, sym, ap, ◌∙◌, subst, arith, append_assoc, length, slice_index_or, take}
use Rattle.std.specs.Prelude.{nat_le, nat_lt, not}
use Rattle.std.specs.Char.{encode_utf8}
use Rattle.std.proofs.lemmas.Bool.{agree_below_at, and_parts, leb-true, ltb-true}
use Rattle.std.proofs.lemmas.List.{take_more}
use Rattle.std.proofs.lemmas.Str.{encode_ascii}
use Rattle.zinfo.specs.Shown.{five_digits, hex_digit, is_plain}

digit_below : (n : ℕ) → n < 16 → hex_digit n < 128
digit_below n below = ltb-true (hex_digit n) 128 (agree_below_at (λ d. nat_lt (hex_digit d) 128) (λ d. true) 16 n refl below)

pub digit : (n : ℕ) → n < 16 → encode_utf8 (hex_digit n) ≡ hex_digit n ∷ []
digit n below = encode_ascii (hex_digit n) (digit_below n below)

pub plain : (byte : ℕ) → is_plain byte ≡ true → encode_utf8 byte ≡ byte ∷ []
plain byte is = encode_ascii byte (omega (arith, leb-true byte 126 (and_parts (nat_le 32 byte) (nat_le byte 126) (and_parts (nat_le 32 byte && nat_le byte 126) (not (byte == 92)) is).0).1))

-- each digit of an address
of_address : (n k d : ℕ) → n < 1048576 → k < 5 → encode_utf8 (slice_index_or (five_digits n) k d) ≡ slice_index_or (five_digits n) k d ∷ []
of_address n zero d below within = digit (n / 65536) (omega arith)
of_address n (suc zero) d below within = digit (n / 4096 % 16) (omega arith)
of_address n (suc (suc zero)) d below within = digit (n / 256 % 16) (omega arith)
of_address n (suc (suc (suc zero))) d below within = digit (n / 16 % 16) (omega arith)
of_address n (suc (suc (suc (suc zero)))) d below within = digit (n % 16) (omega arith)
of_address n (suc (suc (suc (suc (suc k))))) d below within = let none : ⊥ = omega (arith, within) in absurd none

-- one digit of an address more
pub one_more : (digits old was now : List ℕ) (n ch address d : ℕ) → address < 1048576 → digits ≡ five_digits address → n < length digits → ch ≡ slice_index_or digits n d → was ≡ old ++ take n digits
    → now ≡ was ++ encode_utf8 ch → now ≡ old ++ take (n + 1) digits
one_more digits old was now n ch address d below is within same before pushed =
    let plain = subst (λ (l : List ℕ). encode_utf8 (slice_index_or l n d) ≡ slice_index_or l n d ∷ []) (sym is) (of_address address n d below (omega (arith, within, ap length is))) in
    pushed ∙ ap (λ (l : List ℕ). l ++ encode_utf8 ch) before ∙ ap (λ (l : List ℕ). (old ++ take n digits) ++ l) (ap encode_utf8 same ∙ plain)
    ∙ append_assoc old (take n digits) (slice_index_or digits n d ∷ []) ∙ ap (λ (l : List ℕ). old ++ l) (sym (take_more digits n d within))
