-- What is shown of a byte is escaped by what stands in front of it, if anything.
use Rattle.std.proofs.Common.{◌≡◌, ◌<◌, ◌==◌, ◌||◌, ◌∙◌, ℕ, Bool, true, false, cond, List, ◌∷◌, not, refl, ap}
use Rattle.std.specs.Str.{bytes_eq}
use Rattle.std.proofs.lemmas.Bool.{agree_below_at}
use Rattle.std.proofs.lemmas.Slice.Eq.{bytes_eq-Decides}
use Rattle.zdebug.specs.Shown.{escaped, is_plain, shown_byte}

abbrev begun : ℕ → List ℕ
begun byte = cond (byte == 34 || not (is_plain byte)) (92 ∷ shown_byte byte) (shown_byte byte)

of_byte : (byte : ℕ) → byte < 256 → escaped (shown_byte byte) ≡ begun byte
of_byte byte below =
    (bytes_eq-Decides (escaped (shown_byte byte)) (begun byte)).0 (agree_below_at (λ b. bytes_eq (escaped (shown_byte b)) (begun b)) (λ b. true) 256 byte refl below)

pub with_backslash : (byte : ℕ) → byte < 256 → (byte == 34 || not (is_plain byte)) ≡ true → escaped (shown_byte byte) ≡ 92 ∷ shown_byte byte
with_backslash byte below is = of_byte byte below ∙ ap (λ (b : Bool). cond b (92 ∷ shown_byte byte) (shown_byte byte)) is

pub as_it_is : (byte : ℕ) → byte < 256 → (byte == 34 || not (is_plain byte)) ≡ false → escaped (shown_byte byte) ≡ shown_byte byte
as_it_is byte below is = of_byte byte below ∙ ap (λ (b : Bool). cond b (92 ∷ shown_byte byte) (shown_byte byte)) is
