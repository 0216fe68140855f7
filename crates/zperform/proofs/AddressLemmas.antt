-- The address that a word of at most five bytes says.
use Rattle.std.proofs.Common.{◌≡◌, ◌≢◌, ◌==◌, ◌<◌, ◌≤◌, ◌^◌, ◌&&◌, ℕ, Bool, true, false, refl, ap, subst, List, [], ◌∷◌, length, get_or, Some, None, Result, Ok, Err, lt-ltb, ltb-true, nat_lt, arith}
use Rattle.std.specs.List.{list_all}
use Rattle.std.specs.Char.{is_digit}
use Rattle.std.specs.Result.{OkIff, result_ok}
use Rattle.std.specs.Str.Parse.{AllDigits, IsNumeral, ParsesUnsigned, digits_value}
use Rattle.std.proofs.Math.Nat.{pow-le-pow_right}
use Rattle.std.proofs.lemmas.Int.Digits.{digits_value-lt}
use Rattle.std.proofs.lemmas.Str.Parse.{without_leading_plus_none}
use Rattle.clap.proofs.WalkLemmas.{both}
use Rattle.zperform.specs.Showing.{address_in}

digits_pass : (word : List ℕ) → AllDigits 16 word → list_all (λ d. is_digit d 16) word ≡ true
digits_pass [] h = refl
digits_pass (d ∷ word) h = rw (lt-ltb _ 16 h.0) (digits_pass word h.1)

digits_from : (word : List ℕ) → list_all (λ d. is_digit d 16) word ≡ true → AllDigits 16 word
digits_from [] e = tt
digits_from (d ∷ word) e = let parts = both _ _ e in (ltb-true _ _ parts.0, digits_from word parts.1)

-- five digits are a number of 32 bits
five_digits : (word : List ℕ) → AllDigits 16 word → length word ≤ 5 → digits_value 16 word < 2 ^ 32
five_digits word all few = omega (arith, digits_value-lt 16 word all, pow-le-pow_right {n = 16} (omega arith) few)

-- what parsing it makes of it, without a sign
plain_read : {E : Type 0} (word : List ℕ) (r : Result ℕ E) → length word ≤ 5 → OkIff r (IsNumeral 16 word × (digits_value 16 word < 2 ^ 32)) (digits_value 16 word) → result_ok r ≡ address_in word
plain_read word (Ok n) few h =
    let short : length word < 6 = omega (arith, few) in
    rw (lt-ltb 0 (length word) h.0.0.0, lt-ltb (length word) 6 short, digits_pass word h.0.0.1) (ap Some h.1)
plain_read word (Err e) few h = go (nat_lt 0 (length word) && nat_lt (length word) 6 && list_all (λ d. is_digit d 16) word) refl
  where
    go : (b : Bool) → (nat_lt 0 (length word) && nat_lt (length word) 6 && list_all (λ d. is_digit d 16) word) ≡ b → None ≡ address_in word
    go false t = rw t refl
    go true t =
        let outer = both _ _ t in
        let all = digits_from word outer.1 in
        absurd (h ((ltb-true _ _ (both _ _ outer.0).0, all), five_digits word all few))

-- no plus stands first
pub address_read : {E : Type 0} (word : List ℕ) (r : Result ℕ E) → length word ≤ 5 → (get_or word 0 0 == 43) ≡ false → ParsesUnsigned 32 16 word r → result_ok r ≡ address_in word
address_read word r few plain h =
    let other : get_or word 0 0 ≢ 43 = λ e. (let is : (get_or word 0 0 == 43) ≡ true = ap (λ (byte : ℕ). byte == 43) e in cc) in
    plain_read word r few (subst (λ (ds : List ℕ). OkIff r (IsNumeral 16 ds × (digits_value 16 ds < 2 ^ 32)) (digits_value 16 ds)) (without_leading_plus_none word other) h)
