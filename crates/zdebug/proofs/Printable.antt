-- What is shown of bytes is printable.
use Rattle.std.proofs.Common.{◌≡◌, ◌∙◌, ◌&&◌, ℕ, Bool, true, List, [], ◌∷◌, refl, ap}
use Rattle.std.specs.List.{list_all}
use Rattle.std.proofs.lemmas.Bool.{agree_below_at, and_parts, ltb-true}
use Rattle.std.proofs.lemmas.List.Folds.{list_all-append}
use Rattle.zdebug.specs.Shown.{is_byte, is_printable, shown, shown_byte}

of_byte : (byte : ℕ) → is_byte byte ≡ true → list_all is_printable (shown_byte byte) ≡ true
of_byte byte is = agree_below_at (λ b. list_all is_printable (shown_byte b)) (λ b. true) 256 byte refl (ltb-true byte 256 is)

pub printable : (bytes : List ℕ) → list_all is_byte bytes ≡ true → list_all is_printable (shown bytes) ≡ true
printable [] are = refl
printable (byte ∷ bytes) are =
    let both = and_parts (is_byte byte) (list_all is_byte bytes) are in
    list_all-append is_printable (shown_byte byte) (shown bytes)
    ∙ (ap (λ (b : Bool). b && list_all is_printable (shown bytes)) (of_byte byte both.0) ∙ printable bytes both.1)
