-- Bytes of entries, after one of them was written.
use Rattle.std.proofs.Common.{◌≡◌, ◌≢◌, inl, inr, ℕ, ◌+◌, ◌-◌, ◌*◌, ◌<◌, ◌≤◌, Bool, true, false, List, length, drop, refl, ap, sym, ◌∙◌, arith}
use Rattle.std.specs.Prelude.{slice_set, ◌==◌, if◌then◌else◌}
use Rattle.std.proofs.lemmas.List.{get_or-set_same, get_or_past, length-set, get_or-drop, length-drop}
use Rattle.std.proofs.lemmas.Grind.{same_number_lists}
use Rattle.std.proofs.lemmas.Bool.{ne_eqb, cases_lt}
use Rattle.std.proofs.lemmas.Bool.Decides.{eqb_tells}
use Rattle.zstory.specs.Bytes.{AreBytes, byte_at}
use Rattle.zstory.specs.Header.{object_table}
use Rattle.zstory.specs.Objects.{object_place}
use Rattle.zobj.specs.Entries.{HasTable, HasEntry, IsEntryByte, entry_byte, with_entry_byte}
use Rattle.zobj.specs.Kept.{DiffersOnly}
use Rattle.zobj.proofs.Tables.{byte_elsewhere, table_stays, table_kept, length_kept}

-- an object isn't number 0
pub no_zero : (object : ℕ) → 1 ≤ object → (object == 0) ≡ false
no_zero object least = ne_eqb object 0 (λ e. omega (arith, e, least))

pub entry_byte_is : (memory : List ℕ) (object k : ℕ) → 1 ≤ object → entry_byte memory object k ≡ byte_at memory (object_place memory object + k)
entry_byte_is memory object k least = rw (no_zero object least) refl

pub with_entry_byte_is : (memory : List ℕ) (object k byte : ℕ) → 1 ≤ object → with_entry_byte object k byte memory ≡ slice_set memory (object_place memory object + k) byte
with_entry_byte_is memory object k byte least = rw (no_zero object least) refl

-- the byte that was written
pub entry_byte_same : (memory : List ℕ) (object k byte : ℕ) → HasEntry memory object → k < 9 → entry_byte (with_entry_byte object k byte memory) object k ≡ byte
entry_byte_same memory object k byte has inside =
    let place = object_place memory object + k in
    let here : object_place memory object + k < length memory = omega (arith, has.within, inside) in
    let table = table_stays memory (object_place memory object + k) byte (omega (arith, has.above)) in
    let same : object_place (slice_set memory (object_place memory object + k) byte) object + k ≡ object_place memory object + k = omega (arith, table) in
    rw (no_zero object has.first) (ap (byte_at (slice_set memory (object_place memory object + k) byte)) same ∙ get_or-set_same memory (object_place memory object + k) byte 0 here)

-- a byte that stands elsewhere
pub byte_rests : (memory : List ℕ) (object k byte p : ℕ) → 1 ≤ object → p ≢ object_place memory object + k → byte_at (with_entry_byte object k byte memory) p ≡ byte_at memory p
byte_rests memory object k byte p least other = rw (no_zero object least) (byte_elsewhere memory (object_place memory object + k) byte p other)

-- another byte of an entry
pub entry_byte_other : (memory : List ℕ) (object k byte other j : ℕ) → 64 ≤ object_table memory → 1 ≤ object → 1 ≤ other → k < 9 → j < 9 → (other ≡ object → j ≡ k → ⊥) → entry_byte (with_entry_byte object k byte memory) other j ≡ entry_byte memory other j
entry_byte_other memory object k byte other j above least first inside within differs =
    let table = table_kept memory object k byte above in
    let same : object_place (with_entry_byte object k byte memory) other + j ≡ object_place memory other + j = omega (arith, table) in
    let apart : object_place memory other + j ≢ object_place memory object + k = λ e. differs (omega (arith, e, least, first, inside, within)) (omega (arith, e, least, first, inside, within)) in
    entry_byte_is (with_entry_byte object k byte memory) other j first
    ∙ ap (byte_at (with_entry_byte object k byte memory)) same
    ∙ byte_rests memory object k byte (object_place memory other + j) least apart
    ∙ sym (entry_byte_is memory other j first)

-- the object table stays where only bytes of entries differ
pub table_rests : (memory after : List ℕ) (objects first size : ℕ) → HasTable memory objects → DiffersOnly (IsEntryByte memory objects first size) memory after → object_table after ≡ object_table memory
table_rests memory after objects first size has d =
    let high : byte_at after 0x0A ≡ byte_at memory 0x0A = elim (d.rest 0x0A) [ inl e ↦ e | inr is ↦ absurd (omega (arith, is.from, has.above)) ] in
    let low : byte_at after 0x0B ≡ byte_at memory 0x0B = elim (d.rest 0x0B) [ inl e ↦ e | inr is ↦ absurd (omega (arith, is.from, has.above)) ] in
    omega (arith, high, low)

pub all_rest : (memory after : List ℕ) (objects first size : ℕ) → HasTable memory objects → DiffersOnly (IsEntryByte memory objects first size) memory after → HasTable after objects
all_rest memory after objects first size has d =
    let table = table_rests memory after objects first size has d in
    record { few = has.few; above = omega (arith, table, has.above); within = omega (arith, table, d.size, has.within) }

-- what lies behind the entries
pub behind_rests : (memory after : List ℕ) (objects first size base : ℕ) → DiffersOnly (IsEntryByte memory objects first size) memory after → first + size ≤ 9 → object_table memory + 62 + 9 * objects ≤ base → drop base after ≡ drop base memory
behind_rests memory after objects first size base d inside above =
    same_number_lists _ _ (length-drop base after ∙ ap (λ (n : ℕ). n - base) d.size ∙ sym (length-drop base memory)) (λ k below.
    get_or-drop base after k 0 ∙ same k ∙ sym (get_or-drop base memory k 0))
  where
    same : (k : ℕ) → byte_at after (base + k) ≡ byte_at memory (base + k)
    same k = elim (d.rest (base + k)) [ inl e ↦ e | inr is ↦ absurd (omega (arith, is.least, is.most, is.below, inside, above)) ]

-- and so do bytes of entries outside of what differs
pub entry_byte_rests : (memory after : List ℕ) (objects first size : ℕ) → HasTable memory objects → DiffersOnly (IsEntryByte memory objects first size) memory after → first + size ≤ 9 → (object j : ℕ) → 1 ≤ object → j < 9 → (first ≤ j → j < first + size → ⊥) → byte_at after (object_place after object + j) ≡ byte_at memory (object_place memory object + j)
entry_byte_rests memory after objects first size has d whole object j least inside outside =
    let table = table_rests memory after objects first size has d in
    let same : object_place after object + j ≡ object_place memory object + j = omega (arith, table) in
    ap (byte_at after) same ∙ elim (d.rest (object_place memory object + j)) [ inl e ↦ e | inr is ↦ absurd (outside (omega (arith, is.from, is.below, is.least, least, inside, whole)) (omega (arith, is.from, is.below, is.least, least, inside, whole))) ]

-- one written byte of an entry is the only one that differs
pub differs_there : (memory : List ℕ) (objects first size object k byte : ℕ) → HasTable memory objects → 1 ≤ object → object ≤ objects → first ≤ k → k < first + size → DiffersOnly (IsEntryByte memory objects first size) memory (with_entry_byte object k byte memory)
differs_there memory objects first size object k byte has least most from below = record {
  size = length_kept memory object k byte has.above;
  rest = λ p. elim (eqb_tells p (object_place memory object + k)) [
    | inl e ↦ inr (record { object = object; least = least; most = most; from = omega (arith, e.1, from); below = omega (arith, e.1, below) })
    | inr e ↦ inl (byte_rests memory object k byte p least e.1)
  ];
}

-- bytes stay bytes where bytes are written
pub bytes_set : (memory : List ℕ) (place byte : ℕ) → AreBytes memory → byte < 256 → AreBytes (slice_set memory place byte)
bytes_set memory place byte are small p = elim (eqb_tells p place) [
  | inr other ↦ let e = byte_elsewhere memory place byte p other.1 in omega (arith, e, are p)
  | inl same ↦ elim (cases_lt place (length memory)) [
    | inl inside ↦ let e : byte_at (slice_set memory place byte) p ≡ byte = ap (byte_at (slice_set memory place byte)) same.1 ∙ get_or-set_same memory place byte 0 inside in omega (arith, e, small)
    | inr outside ↦ let e : byte_at (slice_set memory place byte) p ≡ 0 = get_or_past (slice_set memory place byte) p 0 (let size : length (slice_set memory place byte) ≡ length memory = length-set memory place byte in omega (arith, size, same.1, outside)) in omega (arith, e)
  ]
]

pub bytes_entry : (memory : List ℕ) (object k byte : ℕ) → AreBytes memory → byte < 256 → AreBytes (with_entry_byte object k byte memory)
bytes_entry memory object k byte are small = by (object == 0)
  where
    by : (b : Bool) → AreBytes (if b then memory else slice_set memory (object_place memory object + k) byte)
    by true = are
    by false = bytes_set memory (object_place memory object + k) byte are small
