-- What is shown of bytes, escaped, stands in a string of JSON.
use Rattle.std.proofs.Common.{◌≡◌, ◌∙◌, ◌==◌, ◌&&◌, ◌||◌, ◌++◌, ℕ, Bool, true, false, cond, inl, inr, List, [], ◌∷◌, not, refl, ap}
use Rattle.std.specs.List.{list_all}
use Rattle.std.proofs.lemmas.Bool.{and_parts, cases_Bool, or_parts}
use Rattle.zdebug.specs.Shown.{escaped, escaped_byte, is_byte, is_printable, is_string, shown}
use Rattle.zdebug.proofs.Printable.{printable}

front : (byte : ℕ) (bytes : List ℕ) → is_printable byte ≡ true → is_string false (escaped_byte byte ++ bytes) ≡ is_string false bytes
front byte bytes prints = elim (cases_Bool (byte == 34 || byte == 92)) [
  | inl is ↦
      ap (λ (b : Bool). is_string false (cond b (92 ∷ byte ∷ []) (byte ∷ []) ++ bytes)) is
      ∙ ap (λ (b : Bool). b && is_string false bytes) is
  | inr is ↦
      let both = or_parts (byte == 34) (byte == 92) is in
      ap (λ (b : Bool). is_string false (cond b (92 ∷ byte ∷ []) (byte ∷ []) ++ bytes)) is
      ∙ (ap (λ (b : Bool). cond b (is_string true bytes) (is_printable byte && not (byte == 34) && is_string false bytes)) both.1
      ∙ (ap (λ (b : Bool). b && not (byte == 34) && is_string false bytes) prints ∙ ap (λ (b : Bool). not b && is_string false bytes) both.0))
]

of_printable : (text : List ℕ) → list_all is_printable text ≡ true → is_string false (escaped text) ≡ true
of_printable [] are = refl
of_printable (byte ∷ text) are =
    let both = and_parts (is_printable byte) (list_all is_printable text) are in
    front byte (escaped text) both.0 ∙ of_printable text both.1

pub strings : (bytes : List ℕ) → list_all is_byte bytes ≡ true → is_string false (escaped (shown bytes)) ≡ true
strings bytes are = of_printable (shown bytes) (printable bytes are)
