-- Marks as bits.
use Rattle.std.proofs.Common.{◌≡◌, ◌≢◌, ◌⊎◌, inl, inr, ℕ, ◌+◌, ◌*◌, ◌/◌, ◌%◌, ◌^◌, ◌<◌, ◌≤◌, Bool, true, false, ◌&&◌, ◌||◌, ◌==◌, not, min, List, length, replicate, w8, refl, sym, ap, ◌∙◌, arith}
use Rattle.std.specs.Prelude.{bit_or, nat_lt, if◌then◌else◌, slice_index_or, slice_set}
use Rattle.std.specs.Int.{bit_at}
use Rattle.std.specs.Int.Bits.{bit_and, bit_xor}
use Rattle.std.proofs.lemmas.Nat.{and_mask, shr-shr}
use Rattle.std.proofs.lemmas.Nat.Bits.{bit_at_and, bit_at_xor, bit_at-lt, bit_at-zero, bit_at_lowest, bit_at_cat_low, bit_at_cat_high, bit_at_set_same, bit_at_set_other}
use Rattle.std.proofs.lemmas.Bool.{cases_lt, eq-eqb, lt-ltb, le-ltb}
use Rattle.std.proofs.lemmas.Bool.Decides.{eqb_tells}
use Rattle.std.proofs.lemmas.List.{get_or-set_same, get_or-set_other, get_or-replicate, get_or_past, length-replicate}
use Rattle.zdomain.specs.Marks.{is_marked, rest_of}

pub unmarked : (long p : ℕ) → is_marked (replicate long 0) p ≡ false
unmarked long p = let byte = zero_there (cases_lt (p / 8) long) in let bit = bit_at-zero (p % 8) in rw byte (rw bit refl)
  where
    zero_there : (p / 8 < long) ⊎ (long ≤ p / 8) → slice_index_or {A = ℕ} (replicate long 0) (p / 8) 0 ≡ 0
    zero_there (inl inside) = get_or-replicate long (p / 8) 0 0 inside
    zero_there (inr outside) = get_or_past {X = ℕ} (replicate long 0) (p / 8) 0 (let size = length-replicate {A = ℕ} long 0 in omega (arith, size, outside))

or_true : (b : Bool) → (b || true) ≡ true
or_true true = refl
or_true false = refl

or_false : (b : Bool) → b ≡ (b || false)
or_false true = refl
or_false false = refl

-- the byte of a place, and all bytes, with the place marked
abbrev pub with_mark : List ℕ → ℕ → List ℕ
with_mark marks place = slice_set marks (place / 8) (bit_or (slice_index_or marks (place / 8) 0) (1 * 2 ^ (place % 8) % 256))

module _ (marks : List ℕ) (place : ℕ) (inside : place / 8 < length marks) where
  abbrev byte : ℕ
  byte = bit_or (slice_index_or marks (place / 8) 0) (1 * 2 ^ (place % 8) % 256)

  here : is_marked (with_mark marks place) place ≡ true
  here =
      ap (λ (b : ℕ). bit_at b (place % 8) == 1) (get_or-set_same marks (place / 8) byte 0 inside)
      ∙ eq-eqb _ 1 (bit_at_set_same w8 (slice_index_or marks (place / 8) 0) (place % 8) (omega arith))

  elsewhere : (p : ℕ) → p ≢ place → is_marked (with_mark marks place) p ≡ is_marked marks p
  elsewhere p other = by_byte (eqb_tells (p / 8) (place / 8))
    where
      by_byte : ((p / 8 == place / 8) ≡ true) × (p / 8 ≡ place / 8) ⊎ ((p / 8 == place / 8) ≡ false) × (p / 8 ≢ place / 8) → is_marked (with_mark marks place) p ≡ is_marked marks p
      by_byte (inr apart) = ap (λ (b : ℕ). bit_at b (p % 8) == 1) (get_or-set_other marks (place / 8) (p / 8) byte 0 apart.1)
      by_byte (inl together) =
          let same = together.1 in
          ap (λ (k : ℕ). bit_at (slice_index_or (with_mark marks place) k 0) (p % 8) == 1) same
          ∙ ap (λ (b : ℕ). bit_at b (p % 8) == 1) (get_or-set_same marks (place / 8) byte 0 inside)
          ∙ ap (λ (b : ℕ). b == 1) (bit_at_set_other w8 (slice_index_or marks (place / 8) 0) (place % 8) (omega arith) (p % 8) (λ e. other (omega (arith, e, same))))
          ∙ ap (λ (k : ℕ). bit_at (slice_index_or marks k 0) (p % 8) == 1) (sym same)

  pub one_more : (p : ℕ) → is_marked (with_mark marks place) p ≡ (is_marked marks p || (p == place))
  one_more p = by_place (eqb_tells p place)
    where
      by_place : ((p == place) ≡ true) × (p ≡ place) ⊎ ((p == place) ≡ false) × (p ≢ place) → is_marked (with_mark marks place) p ≡ (is_marked marks p || (p == place))
      by_place (inl same) = ap (λ (q : ℕ). is_marked (with_mark marks place) q) same.1 ∙ here ∙ sym (let e = same.0 in rw e (or_true (is_marked marks p)))
      by_place (inr other) = let e = other.0 in elsewhere p other.1 ∙ or_false (is_marked marks p) ∙ rw e refl

-- ---- marks of a whole that others haven't

two_bits : (a b : ℕ) → a < 2 → b < 2 → (min a ((a + b) % 2) == 1) ≡ ((a == 1) && not (b == 1))
two_bits a b low small = grind (arith, low, small)

rest_bit : (whole byte i : ℕ) → (bit_at (rest_of whole byte) i == 1) ≡ ((bit_at whole i == 1) && not (bit_at byte i == 1))
rest_bit whole byte i =
    ap (λ (b : ℕ). b == 1) (bit_at_and whole (bit_xor whole byte) i ∙ ap (λ (b : ℕ). min (bit_at whole i) b) (bit_at_xor whole byte i))
    ∙ two_bits (bit_at whole i) (bit_at byte i) (bit_at-lt whole i) (bit_at-lt byte i)

pub turned_within : (whole before after : List ℕ) → ((k : ℕ) → slice_index_or after k 0 ≡ rest_of (slice_index_or whole k 0) (slice_index_or before k 0)) → (p : ℕ) → is_marked after p ≡ (is_marked whole p && not (is_marked before p))
turned_within whole before after each p =
    ap (λ (byte : ℕ). bit_at byte (p % 8) == 1) (each (p / 8))
    ∙ rest_bit (slice_index_or whole (p / 8) 0) (slice_index_or before (p / 8) 0) (p % 8)

-- ---- a mark and the next

last_two : (n : ℕ) → (n % 4 == 3) ≡ ((n % 2 == 1) && (n / 2 % 2 == 1))
last_two n = grind (arith)

two_ones : (n : ℕ) → (bit_and n 3 == 3) ≡ ((bit_at n 0 == 1) && (bit_at n 1 == 1))
two_ones n =
    ap (λ (b : ℕ). b == 3) (and_mask n 2)
    ∙ last_two n
    ∙ ap (λ (b : ℕ). (b == 1) && (bit_at n 1 == 1)) (sym (bit_at_lowest n))

shifted : (n k i : ℕ) → bit_at (n / 2 ^ k) i ≡ bit_at n (k + i)
shifted n k i = ap (λ (b : ℕ). b % 2) (shr-shr n k i)

module _ (first second bit : ℕ) (small : first < 256) where
  abbrev both : ℕ
  both = second * 2 ^ 8 + first

  lower : bit < 8 → bit_at both bit ≡ bit_at first bit
  lower inside = bit_at_cat_low second 8 first bit inside

  upper : bit < 8 → (bit < 7) ⊎ (7 ≤ bit) → bit_at both (bit + 1) ≡ bit_at (if nat_lt bit 7 then first else second) ((bit + 1) % 8)
  upper inside (inl more) =
      bit_at_cat_low second 8 first (bit + 1) (omega (arith, more))
      ∙ ap (λ (i : ℕ). bit_at first i) (omega (arith, more))
      ∙ ap (λ (b : Bool). bit_at (if b then first else second) ((bit + 1) % 8)) (sym (lt-ltb bit 7 more))
  upper inside (inr last) =
      bit_at_cat_high second 8 first (bit + 1) small (omega (arith, last))
      ∙ ap (λ (i : ℕ). bit_at second i) (omega (arith, inside, last))
      ∙ ap (λ (b : Bool). bit_at (if b then first else second) ((bit + 1) % 8)) (sym (le-ltb bit 7 last))

  pub both_set : bit < 8 → (bit_and (both / 2 ^ bit) 3 == 3) ≡ ((bit_at first bit == 1) && (bit_at (if nat_lt bit 7 then first else second) ((bit + 1) % 8) == 1))
  both_set inside =
      two_ones (both / 2 ^ bit)
      ∙ ap (λ (b : ℕ). (b == 1) && (bit_at (both / 2 ^ bit) 1 == 1)) (shifted both bit 0 ∙ ap (bit_at both) (omega arith) ∙ lower inside)
      ∙ ap (λ (b : ℕ). (bit_at first bit == 1) && (b == 1)) (shifted both bit 1 ∙ upper inside (cases_lt bit 7))

pub both_marked : (marks : List ℕ) (p : ℕ) → (p % 8 < 7) ⊎ (7 ≤ p % 8) → bit_at (if nat_lt (p % 8) 7 then slice_index_or marks (p / 8) 0 else slice_index_or marks (p / 8 + 1) 0) ((p % 8 + 1) % 8) ≡ bit_at (slice_index_or marks ((p + 1) / 8) 0) ((p + 1) % 8)
both_marked marks p (inl more) =
    ap (λ (b : Bool). bit_at (if b then slice_index_or marks (p / 8) 0 else slice_index_or marks (p / 8 + 1) 0) ((p % 8 + 1) % 8)) (lt-ltb (p % 8) 7 more)
    ∙ ap (λ (k : ℕ). bit_at (slice_index_or marks k 0) ((p % 8 + 1) % 8)) (omega (arith, more))
    ∙ ap (λ (i : ℕ). bit_at (slice_index_or marks ((p + 1) / 8) 0) i) (omega arith)
both_marked marks p (inr last) =
    ap (λ (b : Bool). bit_at (if b then slice_index_or marks (p / 8) 0 else slice_index_or marks (p / 8 + 1) 0) ((p % 8 + 1) % 8)) (le-ltb (p % 8) 7 last)
    ∙ ap (λ (k : ℕ). bit_at (slice_index_or marks k 0) ((p % 8 + 1) % 8)) (omega (arith, last))
    ∙ ap (λ (i : ℕ). bit_at (slice_index_or marks ((p + 1) / 8) 0) i) (omega arith)
