-- Attributes as bits.
use Rattle.std.proofs.Common.{◌≡◌, ◌≢◌, ◌⊎◌, inl, inr, ℕ, ◌+◌, ◌-◌, ◌*◌, ◌/◌, ◌%◌, ◌^◌, ◌<◌, Bool, true, false, List, w8, refl, ap, sym, ◌∙◌, arith, lit<}
use Rattle.std.specs.Prelude.{◌==◌, ◌&&◌, if◌then◌else◌, bit_and, bit_or}
use Rattle.std.specs.Int.{bit_at, bit_not}
use Rattle.std.proofs.lemmas.Nat.Bits.{bit_at_set_same, bit_at_set_other, bit_at_clear_same, bit_at_clear_other}
use Rattle.std.proofs.lemmas.Nat.{one_shl, or_of_8, and_le_l, pow_below}
use Rattle.std.proofs.lemmas.Bool.{eq-eqb}
use Rattle.std.proofs.lemmas.Bool.Decides.{eqb_tells}
use Rattle.zobj.specs.Entries.{HasEntry, entry_byte}
use Rattle.zobj.specs.Attributes.{attribute_bit, has_attribute, with_bit, with_attribute}
use Rattle.zstory.specs.Bytes.{AreBytes, byte_at}
use Rattle.zstory.specs.Objects.{object_place}
use Rattle.zobj.proofs.Bytes.{bytes_entry, entry_byte_same, entry_byte_other}

-- a bit as std's lemmas spell it
one_bit : (k : ℕ) → k < 8 → 2 ^ k ≡ 1 * 2 ^ k % 2 ^ 8
one_bit k small = sym (one_shl k 8 small)

mask : (k : ℕ) → k < 8 → 255 - 2 ^ k ≡ bit_not w8 (1 * 2 ^ k % 2 ^ 8)
mask k small = ap (λ (n : ℕ). 255 - n) (one_bit k small)

pub with_bit_same : (on : Bool) (byte k : ℕ) → k < 8 → (bit_at (with_bit on k byte) k == 1) ≡ on
with_bit_same true byte k small = eq-eqb _ 1 (ap (λ (b : ℕ). bit_at (bit_or byte b) k) (one_bit k small) ∙ bit_at_set_same w8 byte k small)
with_bit_same false byte k small =
    let zero : bit_at (with_bit false k byte) k ≡ 0 = ap (λ (b : ℕ). bit_at (bit_and byte b) k) (mask k small) ∙ bit_at_clear_same w8 byte k small in
    rw zero refl

pub with_bit_other : (on : Bool) (byte k i : ℕ) → k < 8 → i < 8 → i ≢ k → bit_at (with_bit on k byte) i ≡ bit_at byte i
with_bit_other true byte k i small within other = ap (λ (b : ℕ). bit_at (bit_or byte b) i) (one_bit k small) ∙ bit_at_set_other w8 byte k small i other
with_bit_other false byte k i small within other = ap (λ (b : ℕ). bit_at (bit_and byte b) i) (mask k small) ∙ bit_at_clear_other w8 byte k small i within other

-- a pair is put into the set of attributes or taken out of it, and no other is
pub attribute_set : (memory : List ℕ) (on : Bool) (object attribute other number : ℕ) → HasEntry memory object → attribute < 32 → HasEntry memory other → number < 32 → has_attribute (with_attribute on object attribute memory) other number ≡ (if (other == object) && (number == attribute) then on else has_attribute memory other number)
attribute_set memory on object attribute other number has few there small = by (eqb_tells other object) (eqb_tells number attribute) (eqb_tells (number / 8) (attribute / 8))
  where
    new : ℕ
    new = with_bit on (attribute_bit attribute) (entry_byte memory object (attribute / 8))

    elsewhere : (other ≡ object → number / 8 ≡ attribute / 8 → ⊥) → has_attribute (with_attribute on object attribute memory) other number ≡ has_attribute memory other number
    elsewhere apart = ap (λ (b : ℕ). bit_at b (attribute_bit number) == 1) (entry_byte_other memory object (attribute / 8) new other (number / 8) has.above has.first there.first (omega (arith, few)) (omega (arith, small)) apart)

    here : other ≡ object → number / 8 ≡ attribute / 8 → entry_byte (with_attribute on object attribute memory) other (number / 8) ≡ new
    here e f = ap (λ (o : ℕ). entry_byte (with_attribute on object attribute memory) o (number / 8)) e ∙ ap (entry_byte (with_attribute on object attribute memory) object) f ∙ entry_byte_same memory object (attribute / 8) new has (omega (arith, few))

    by : ((other == object) ≡ true) × (other ≡ object) ⊎ ((other == object) ≡ false) × (other ≢ object) → ((number == attribute) ≡ true) × (number ≡ attribute) ⊎ ((number == attribute) ≡ false) × (number ≢ attribute) → ((number / 8 == attribute / 8) ≡ true) × (number / 8 ≡ attribute / 8) ⊎ ((number / 8 == attribute / 8) ≡ false) × (number / 8 ≢ attribute / 8)
        → has_attribute (with_attribute on object attribute memory) other number ≡ (if (other == object) && (number == attribute) then on else has_attribute memory other number)
    by (inr o) n k = rw o.0 (elsewhere (λ e f. o.1 e))
    by (inl o) (inl n) k =
        let same : number / 8 ≡ attribute / 8 = ap (λ (a : ℕ). a / 8) n.1 in
        rw (o.0, n.0) (ap (λ (b : ℕ). bit_at b (attribute_bit number) == 1) (here o.1 same) ∙ ap (λ (a : ℕ). bit_at new (attribute_bit a) == 1) n.1 ∙ with_bit_same on (entry_byte memory object (attribute / 8)) (attribute_bit attribute) (omega arith))
    by (inl o) (inr n) (inr k) = rw (o.0, n.0) (elsewhere (λ e f. k.1 f))
    by (inl o) (inr n) (inl k) =
        let differs : attribute_bit number ≢ attribute_bit attribute = λ e. n.1 (omega (arith, e, k.1)) in
        let same : bit_at new (attribute_bit number) ≡ bit_at (entry_byte memory object (attribute / 8)) (attribute_bit number) = with_bit_other on (entry_byte memory object (attribute / 8)) (attribute_bit attribute) (attribute_bit number) (omega arith) (omega arith) differs in
        let old : entry_byte memory object (attribute / 8) ≡ entry_byte memory other (number / 8) = ap (λ (o : ℕ). entry_byte memory o (attribute / 8)) (sym o.1) ∙ ap (entry_byte memory other) (sym k.1) in
        rw (o.0, n.0) (ap (λ (b : ℕ). bit_at b (attribute_bit number) == 1) (here o.1 k.1) ∙ ap (λ (b : ℕ). b == 1) (same ∙ ap (λ (b : ℕ). bit_at b (attribute_bit number)) old))

-- a byte with a bit set or cleared is one
with_bit_small : (on : Bool) (byte k : ℕ) → k < 8 → byte < 256 → with_bit on k byte < 256
with_bit_small true byte k small is = or_of_8 byte (2 ^ k) is (pow_below k 8 small)
with_bit_small false byte k small is = omega (arith, is, and_le_l byte (255 - 2 ^ k))

pub attribute_bytes : (memory : List ℕ) (on : Bool) (object attribute : ℕ) → AreBytes memory → AreBytes (with_attribute on object attribute memory)
attribute_bytes memory on object attribute are =
    bytes_entry memory object (attribute / 8) (with_bit on (attribute_bit attribute) (entry_byte memory object (attribute / 8))) are (with_bit_small on (entry_byte memory object (attribute / 8)) (attribute_bit attribute) (omega arith) (by (object == 0)))
  where
    by : (b : Bool) → (if b then 0 else byte_at memory (object_place memory object + attribute / 8)) < 256
    by true = lit< tt
    by false = are (object_place memory object + attribute / 8)
