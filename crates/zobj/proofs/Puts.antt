-- A word put into the data of a property.
use Rattle.std.proofs.Common.{◌≡◌, inl, inr, ℕ, ◌+◌, ◌/◌, ◌%◌, ◌<◌, Bool, true, false, List, Ok, Err, refl, sym, subst, ◌∙◌, arith}
use Rattle.std.specs.Prelude.{◌==◌, if◌then◌else◌, IfOk, slice_set}
use Rattle.std.proofs.lemmas.Bool.{eqb-true}
use Rattle.std.proofs.lemmas.Bool.Decides.{eqb_tells}
use Rattle.std.proofs.lemmas.List.{length-set}
use Rattle.zobj.specs.declared.error.ObjectError.TheVariants.{PropertyTooLong}
use Rattle.zobj.specs.declared.property.Property.{Property}
use Rattle.zobj.specs.Values.{with_value, IsDataByte}
use Rattle.zstory.specs.Bytes.{AreBytes}
use Rattle.zobj.specs.Kept.{DiffersOnly}
use Rattle.zobj.proofs.Tables.{byte_elsewhere}
use Rattle.zobj.proofs.Bytes.{bytes_set}

-- one byte
differs_set : (IsChanged : ℕ → Type 0) (memory : List ℕ) (place byte : ℕ) → IsChanged place → DiffersOnly IsChanged memory (slice_set memory place byte)
differs_set IsChanged memory place byte there = record {
  size = length-set memory place byte;
  rest = λ p. elim (eqb_tells p place) [ inl e ↦ inr (let same : place ≡ p = sym e.1 in subst IsChanged same there) | inr e ↦ inl (byte_elsewhere memory place byte p e.1) ];
}

differs_more : (IsChanged : ℕ → Type 0) (memory between after : List ℕ) → DiffersOnly IsChanged memory between → DiffersOnly IsChanged between after → DiffersOnly IsChanged memory after
differs_more IsChanged memory between after one two = record {
  size = two.size ∙ one.size;
  rest = λ p. elim (two.rest p) [ inr there ↦ inr there | inl e ↦ elim (one.rest p) [ inr before ↦ inr before | inl f ↦ inl (e ∙ f) ] ];
}

pub value_differs : (memory : List ℕ) (word : ℕ) (property : Property) → IfOk (with_value word memory property) (DiffersOnly (IsDataByte property) memory)
value_differs memory word property = by (property.length == 1) (property.length == 2) refl refl
  where
    by : (one two : Bool) → (property.length == 1) ≡ one → (property.length == 2) ≡ two → IfOk (if one then Ok (slice_set memory property.place (word % 256)) else (if two then Ok (slice_set (slice_set memory property.place (word / 256)) (property.place + 1) (word % 256)) else Err PropertyTooLong)) (DiffersOnly (IsDataByte property) memory)
    by true two e f = let size = eqb-true property.length 1 e in differs_set (IsDataByte property) memory property.place (word % 256) (omega arith, omega (arith, size))
    by false true e f =
        let size = eqb-true property.length 2 f in
        differs_more (IsDataByte property) memory (slice_set memory property.place (word / 256)) _ (differs_set (IsDataByte property) memory property.place (word / 256) (omega arith, omega (arith, size))) (differs_set (IsDataByte property) (slice_set memory property.place (word / 256)) (property.place + 1) (word % 256) (omega arith, omega (arith, size)))
    by false false e f = tt

pub value_bytes : (memory : List ℕ) (word : ℕ) (property : Property) → AreBytes memory → word < 65536 → IfOk (with_value word memory property) AreBytes
value_bytes memory word property are small = by (property.length == 1) (property.length == 2)
  where
    by : (one two : Bool) → IfOk (if one then Ok (slice_set memory property.place (word % 256)) else (if two then Ok (slice_set (slice_set memory property.place (word / 256)) (property.place + 1) (word % 256)) else Err PropertyTooLong)) AreBytes
    by true two = bytes_set memory property.place (word % 256) are (omega arith)
    by false true = bytes_set (slice_set memory property.place (word / 256)) (property.place + 1) (word % 256) (bytes_set memory property.place (word / 256) are (omega (arith, small))) (omega arith)
    by false false = tt
