-- Laws of frames and of the line at the top.
use Rattle.std.proofs.Common.{◌≡◌, ℕ, zero, suc, ◌+◌, ◌-◌, ◌≤◌, Bool, true, false, List, [], ◌∷◌, ◌++◌, length, length-append, refl, sym, ap, ◌∙◌, append_assoc, arith}
use Rattle.std.specs.Prelude.{◌==◌, ◌||◌, All, if◌then◌else◌, map, nat_lt, replicate}
use Rattle.std.proofs.lemmas.Bool.{ltb-false}
use Rattle.std.proofs.lemmas.List.{length-replicate, length-take}
use Rattle.std.proofs.lemmas.List.Elements.{All-append, All-cons, All-nil, All-take}
use Rattle.std.specs.List.{list_any}
use Rattle.zfront.specs.declared.place.Place.{Place}
use Rattle.zfront.specs.declared.place.Place.TheVariants.{Outside, Name, Right}
use Rattle.zfront.specs.Frames.{Frame, behind_byte, byte_outside, frame_behind, is_outside, outside, place_behind}
use Rattle.zfront.specs.Headings.{both_shown, heading_line, name_shown, printable, right_shown}

-- ---- pieces

pub outside_join : (frame : Frame) (piece text : List ℕ) → outside frame (piece ++ text) ≡ outside frame piece ++ outside (frame_behind frame piece) text
outside_join frame [] text = refl
outside_join frame (byte ∷ rest) text =
    ap (λ (b : List ℕ). byte_outside frame.place byte ++ b) (outside_join (behind_byte frame byte) rest text)
    ∙ sym (append_assoc (byte_outside frame.place byte) (outside (behind_byte frame byte) rest) (outside (frame_behind (behind_byte frame byte) rest) text))

pub frame_join : (frame : Frame) (piece text : List ℕ) → frame_behind frame (piece ++ text) ≡ frame_behind (frame_behind frame piece) text
frame_join frame [] text = refl
frame_join frame (byte ∷ rest) text = frame_join (behind_byte frame byte) rest text

-- ---- a text and a frame

two_tests : (a b : Bool) → (a || b) ≡ false → (a ≡ false) × (b ≡ false)
two_tests true b e = absurd cc
two_tests false b e = (refl, e)

pub text_outside : (frame : Frame) (text : List ℕ) → is_outside frame.place ≡ true → list_any (λ byte. byte == 2) text ≡ false → outside frame text ≡ text
text_outside frame [] out none = refl
text_outside frame (byte ∷ rest) out none =
    let tests : ((byte == 2) ≡ false) × (list_any (λ byte. byte == 2) rest ≡ false) = two_tests (byte == 2) (list_any (λ byte. byte == 2) rest) none in
    let here : (byte_outside frame.place byte ≡ byte ∷ []) × (is_outside (place_behind frame.place byte) ≡ true) = one frame.place out tests.0 in
    ap (λ (b : List ℕ). b ++ outside (behind_byte frame byte) rest) here.0 ∙ ap (λ (b : List ℕ). byte ∷ b) (text_outside (behind_byte frame byte) rest here.1 tests.1)
  where
    one : (place : Place) → is_outside place ≡ true → (byte == 2) ≡ false → (byte_outside place byte ≡ byte ∷ []) × (is_outside (place_behind place byte) ≡ true)
    one Outside out e = (rw e refl, rw e refl)
    one Name out e = absurd cc
    one Right out e = absurd cc

-- up to its end, which is byte 3
inside_end : (frame : Frame) (inner : List ℕ) → is_outside frame.place ≡ false → list_any (λ byte. byte == 3) inner ≡ false → (outside frame (inner ++ 3 ∷ []) ≡ []) × (is_outside (frame_behind frame (inner ++ 3 ∷ [])).place ≡ true)
inside_end frame [] inside none = last frame.place inside
  where
    last : (place : Place) → is_outside place ≡ false → (byte_outside place 3 ++ [] ≡ []) × (is_outside (place_behind place 3) ≡ true)
    last Outside inside = absurd cc
    last Name inside = (refl, refl)
    last Right inside = (refl, refl)
inside_end frame (byte ∷ rest) inside none =
    let tests : ((byte == 3) ≡ false) × (list_any (λ byte. byte == 3) rest ≡ false) = two_tests (byte == 3) (list_any (λ byte. byte == 3) rest) none in
    let here : (byte_outside frame.place byte ≡ []) × (is_outside (place_behind frame.place byte) ≡ false) = one frame.place inside tests.0 in
    let more : (outside (behind_byte frame byte) (rest ++ 3 ∷ []) ≡ []) × (is_outside (frame_behind (behind_byte frame byte) (rest ++ 3 ∷ [])).place ≡ true) = inside_end (behind_byte frame byte) rest here.1 tests.1 in
    (ap (λ (b : List ℕ). b ++ outside (behind_byte frame byte) (rest ++ 3 ∷ [])) here.0 ∙ more.0, more.1)
  where
    half : (t : Bool) → is_outside (if t then Right else Name) ≡ false
    half true = refl
    half false = refl

    one : (place : Place) → is_outside place ≡ false → (byte == 3) ≡ false → (byte_outside place byte ≡ []) × (is_outside (place_behind place byte) ≡ false)
    one Outside inside e = absurd cc
    one Name inside e = (refl, rw e (half (byte == 31)))
    one Right inside e = (refl, rw e refl)

pub frame_inside : (frame : Frame) (inner : List ℕ) → is_outside frame.place ≡ true → list_any (λ byte. byte == 3) inner ≡ false → (outside frame (2 ∷ (inner ++ 3 ∷ [])) ≡ []) × (is_outside (frame_behind frame (2 ∷ (inner ++ 3 ∷ []))).place ≡ true)
frame_inside frame inner out none =
    let here : (byte_outside frame.place 2 ≡ []) × (is_outside (place_behind frame.place 2) ≡ false) = one frame.place out in
    let more : (outside (behind_byte frame 2) (inner ++ 3 ∷ []) ≡ []) × (is_outside (frame_behind (behind_byte frame 2) (inner ++ 3 ∷ [])).place ≡ true) = inside_end (behind_byte frame 2) inner here.1 none in
    (ap (λ (b : List ℕ). b ++ outside (behind_byte frame 2) (inner ++ 3 ∷ [])) here.0 ∙ more.0, more.1)
  where
    one : (place : Place) → is_outside place ≡ true → (byte_outside place 2 ≡ []) × (is_outside (place_behind place 2) ≡ false)
    one Outside out = (refl, refl)
    one Name out = absurd cc
    one Right out = absurd cc

-- ---- the line

abbrev IsCharacter : ℕ → Type 0
IsCharacter byte = (32 ≤ byte) × (byte ≤ 126)

printable_is : (byte : ℕ) → IsCharacter (printable byte)
printable_is byte = low (nat_lt byte 32) (ltb-false byte 32)
  where
    high : 32 ≤ byte → (t : Bool) → (t ≡ false → byte ≤ 126) → IsCharacter (if t then 32 else byte)
    high above true few = (omega arith, omega arith)
    high above false few = (above, few refl)

    low : (t : Bool) → (t ≡ false → 32 ≤ byte) → IsCharacter (if t then 32 else if nat_lt 126 byte then 32 else byte)
    low true above = (omega arith, omega arith)
    low false above = high (above refl) (nat_lt 126 byte) (ltb-false 126 byte)

all_printable : (bytes : List ℕ) → All IsCharacter (map printable bytes)
all_printable [] = All-nil IsCharacter
all_printable (byte ∷ rest) = All-cons IsCharacter (printable byte) (map printable rest) (printable_is byte) (all_printable rest)

all_spaces : (count : ℕ) → All IsCharacter (replicate {A = ℕ} count 32)
all_spaces zero = All-nil IsCharacter
all_spaces (suc count) = All-cons IsCharacter 32 (replicate {A = ℕ} count 32) (omega arith, omega arith) (all_spaces count)

pub line_bytes : (name right : List ℕ) (width : ℕ) → All (λ byte. (32 ≤ byte) × (byte ≤ 126)) (heading_line name right width)
line_bytes name right width =
    let gap : ℕ = width - 2 - length (name_shown name right width) - length (right_shown right width) in
    All-cons IsCharacter 32 (both_shown name right width ++ 32 ∷ []) (omega arith, omega arith)
    (All-append IsCharacter (both_shown name right width) (32 ∷ [])
    (All-append IsCharacter (name_shown name right width) (replicate {A = ℕ} gap 32 ++ right_shown right width) (All-take IsCharacter (width - 3 - length (right_shown right width)) (map printable name) (all_printable name))
    (All-append IsCharacter (replicate {A = ℕ} gap 32) (right_shown right width) (all_spaces gap) (All-take IsCharacter (width - 2) (map printable right) (all_printable right))))
    (all_spaces 1))

pub line_length : (name right : List ℕ) (width : ℕ) → 2 ≤ width → length (heading_line name right width) ≡ width
line_length name right width wide =
    let gap : ℕ = width - 2 - length (name_shown name right width) - length (right_shown right width) in
    sum (length (name_shown name right width)) (length (right_shown right width)) (length (both_shown name right width)) (length (heading_line name right width))
    (omega (arith, length-take (width - 2) (map printable right))) (omega (arith, length-take (width - 3 - length (right_shown right width)) (map printable name)))
    (length-append (name_shown name right width) (replicate {A = ℕ} gap 32 ++ right_shown right width) ∙ ap (λ (n : ℕ). length (name_shown name right width) + n) (length-append (replicate {A = ℕ} gap 32) (right_shown right width) ∙ ap (λ (n : ℕ). n + length (right_shown right width)) (length-replicate gap 32)))
    (ap suc (length-append (both_shown name right width) (32 ∷ [])))
  where
    sum : (n r both all : ℕ) → r ≤ width - 2 → n ≤ width - 3 - r → both ≡ n + (width - 2 - n - r + r) → all ≡ suc (both + 1) → all ≡ width
    sum n r both all right_fits name_fits e f = omega (arith, wide, right_fits, name_fits, e, f)
