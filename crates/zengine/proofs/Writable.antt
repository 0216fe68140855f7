-- Which runs of bytes may be written.
use Rattle.std.proofs.Common.{◌≡◌, ℕ, zero, suc, nat_le, nat_lt, ◌+◌, ◌<◌, ◌≤◌, Bool, true, ap, ◌∙◌, inl, inr, arith}
use Rattle.std.specs.Prelude.{◌==◌, ◌&&◌, ◌||◌}
use Rattle.std.proofs.lemmas.Bool.{cases_lt}
use Rattle.std.proofs.lemmas.Int.{ints}
use Rattle.zstory.specs.LoadedStory.{LoadedStory, static_base}
use Rattle.zstate.specs.Step.{are_writable, is_writable}

-- of the header, what lies in Flags 2
one_in_header : (base p : ℕ) → 64 ≤ base → p < 64 → ((nat_lt p base && (nat_le 64 p || (p == 16 || p == 17))) && true) ≡ (nat_le 16 p && nat_le (p + 1) 18)
one_in_header base p least low = grind (arith, ints, least, low)

more_in_header : (base p n : ℕ) → 64 ≤ base → p < 64 → ((nat_lt p base && (nat_le 64 p || (p == 16 || p == 17))) && (nat_le 16 (p + 1) && nat_le (p + 1 + suc n) 18)) ≡ (nat_le 16 p && nat_le (p + suc (suc n)) 18)
more_in_header base p n least low = grind (arith, ints, least, low)

last_of_header : (base p n : ℕ) (b : Bool) → p ≡ 63 → ((nat_lt p base && (nat_le 64 p || (p == 16 || p == 17))) && b) ≡ (nat_le 16 p && nat_le (p + suc (suc n)) 18)
last_of_header base p n b last = grind (arith, ints, last)

pub header_writable : (story : LoadedStory) (p n : ℕ) → 64 ≤ static_base story → 1 ≤ n → p < 64 → are_writable story p n ≡ (nat_le 16 p && nat_le (p + n) 18)
unfolding are_writable
header_writable story p zero least some low = absurd (omega (arith, some))
header_writable story p (suc zero) least some low = one_in_header (static_base story) p least low
header_writable story p (suc (suc n)) least some low = elim (cases_lt (p + 1) 64) [
  | inl inside ↦ ap (λ (b : Bool). is_writable story p && b) (header_writable story (p + 1) (suc n) least (omega arith) inside) ∙ more_in_header (static_base story) p n least low
  | inr outside ↦ last_of_header (static_base story) p n (are_writable story (p + 1) (suc n)) (omega (arith, low, outside))
]

-- behind it, what ends by the static base
one_behind : (base p : ℕ) → 64 ≤ p → ((nat_lt p base && (nat_le 64 p || (p == 16 || p == 17))) && true) ≡ nat_le (p + 1) base
one_behind base p high = grind (arith, ints, high)

more_behind : (base p n : ℕ) → 64 ≤ p → ((nat_lt p base && (nat_le 64 p || (p == 16 || p == 17))) && nat_le (p + 1 + suc n) base) ≡ nat_le (p + suc (suc n)) base
more_behind base p n high = grind (arith, ints, high)

pub behind_writable : (story : LoadedStory) (p n : ℕ) → 1 ≤ n → 64 ≤ p → are_writable story p n ≡ nat_le (p + n) (static_base story)
unfolding are_writable
behind_writable story p zero some high = absurd (omega (arith, some))
behind_writable story p (suc zero) some high = one_behind (static_base story) p high
behind_writable story p (suc (suc n)) some high = ap (λ (b : Bool). is_writable story p && b) (behind_writable story (p + 1) (suc n) (omega arith) (omega (arith, high))) ∙ more_behind (static_base story) p n high
