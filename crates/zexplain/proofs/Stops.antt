-- A text that ends with no full stop stays as it is.
use Rattle.std.proofs.Common.{◌≡◌, ◌≢◌, ◌<◌, ◌-◌, ◌+◌, ◌==◌, ℕ, Bool, true, false, List, [], ◌∷◌, ◌++◌, refl, sym, ap, ◌∙◌, arith, length, take}
use Rattle.std.specs.Io.BufRead.{ends_with_byte, strip_last}
use Rattle.std.specs.Prelude.{nat_lt, slice_index, if◌then◌else◌}
use Rattle.std.proofs.lemmas.Bool.{and_parts, eqb-true, ltb-true}
use Rattle.std.proofs.lemmas.List.{take_all, take_more}

last : (xs : List ℕ) → ends_with_byte 46 xs ≡ true → xs ≡ take (length xs - 1) xs ++ 46 ∷ []
last xs ends =
    let both = and_parts (nat_lt 0 (length xs)) (slice_index xs (length xs - 1) == 46) ends in
    let some : 0 < length xs = ltb-true 0 (length xs) both.0 in
    let stop : slice_index xs (length xs - 1) ≡ 46 = eqb-true (slice_index xs (length xs - 1)) 46 both.1 in
    sym (take_all (length xs - 1 + 1) xs (omega (arith, some))) ∙ take_more xs (length xs - 1) 0 (omega (arith, some)) ∙ ap (λ (x : ℕ). take (length xs - 1) xs ++ x ∷ []) stop

pub kept : (xs : List ℕ) → ((front : List ℕ) → xs ≢ front ++ 46 ∷ []) → xs ≡ strip_last 46 xs
kept xs never = go (ends_with_byte 46 xs) refl
  where
    go : (b : Bool) → ends_with_byte 46 xs ≡ b → xs ≡ (if b then take (length xs - 1) xs else xs)
    go false ends = refl
    go true ends = absurd (never (take (length xs - 1) xs) (last xs ends))
