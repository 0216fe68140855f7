-- Texts with frames, byte by byte.
use Rattle.std.proofs.Common.{◌≡◌, ℕ, zero, suc, ◌+◌, ◌<◌, ◌≤◌, Bool, true, false, List, [], ◌∷◌, ◌++◌, length, get_or, take, drop, refl, sym, ap, ◌∙◌, subst, append_assoc, append-nil, arith}
use Rattle.std.specs.Prelude.{◌==◌, cond, not, Option}
use Rattle.std.specs.List.{position_or_len}
use Rattle.std.specs.Io.KnownBytes.{Appends}
use Rattle.std.proofs.lemmas.List.{length-take}
use Rattle.zfront.proofs.Paging.{take_short}
use Rattle.zfront.specs.declared.place.Place.{Place}
use Rattle.zfront.specs.declared.place.Place.TheVariants.{Outside, Name, Right}
use Rattle.zfront.specs.Frames.{BeginsFrame, Frame, LeavesFrames, behind_byte, byte_outside, frame_behind, is_outside, outside}

-- one byte more
pub frame_more : (frame : Frame) (bytes : List ℕ) (at : ℕ) → at < length bytes → frame_behind frame (take (at + 1) bytes) ≡ behind_byte (frame_behind frame (take at bytes)) (get_or bytes at 0)
frame_more frame [] at within = absurd (omega (arith, within))
frame_more frame (byte ∷ rest) zero within = refl
frame_more frame (byte ∷ rest) (suc at) within = subst (λ (n : ℕ). frame_behind frame (take n (byte ∷ rest)) ≡ behind_byte (frame_behind frame (take (suc at) (byte ∷ rest))) (get_or rest at 0)) (next at) (frame_more (behind_byte frame byte) rest at (omega (arith, within)))
  where
    next : (n : ℕ) → suc (n + 1) ≡ suc n + 1
    next n = omega arith

pub outside_more : (frame : Frame) (bytes : List ℕ) (at : ℕ) → at < length bytes → outside frame (take (at + 1) bytes) ≡ outside frame (take at bytes) ++ byte_outside (frame_behind frame (take at bytes)).place (get_or bytes at 0)
outside_more frame [] at within = absurd (omega (arith, within))
outside_more frame (byte ∷ rest) zero within = append-nil (byte_outside frame.place byte)
outside_more frame (byte ∷ rest) (suc at) within =
    subst (λ (n : ℕ). outside frame (take n (byte ∷ rest)) ≡ outside frame (take (suc at) (byte ∷ rest)) ++ byte_outside (frame_behind frame (take (suc at) (byte ∷ rest))).place (get_or rest at 0)) (next at)
    (ap (λ (b : List ℕ). byte_outside frame.place byte ++ b) (outside_more (behind_byte frame byte) rest at (omega (arith, within)))
    ∙ sym (append_assoc (byte_outside frame.place byte) (outside (behind_byte frame byte) (take at rest)) (byte_outside (frame_behind (behind_byte frame byte) (take at rest)).place (get_or rest at 0))))
  where
    next : (n : ℕ) → suc (n + 1) ≡ suc n + 1
    next n = omega arith

-- what comes in a frame is in it
pub inside_begins : (frame : Frame) (bytes : List ℕ) → is_outside frame.place ≡ false → BeginsFrame frame bytes
inside_begins frame [] inside = tt
inside_begins frame (byte ∷ rest) inside = cases frame.place inside
  where
    cases : (place : Place) → is_outside place ≡ false → byte_outside place byte ≡ []
    cases Outside inside = absurd cc
    cases Name inside = refl
    cases Right inside = refl

begun : (frame : Frame) (bytes : List ℕ) (at : ℕ) → at < length bytes → BeginsFrame frame (drop at bytes) → byte_outside frame.place (get_or bytes at 0) ≡ []
begun frame [] at within begins = absurd (omega (arith, within))
begun frame (byte ∷ rest) zero within begins = begins
begun frame (byte ∷ rest) (suc at) within begins = begun frame rest at (omega (arith, within)) begins

-- a byte of a frame is none of the text outside
pub none_more : (old now : Frame) (bytes : List ℕ) (at : ℕ) → at < length bytes → now ≡ frame_behind old (take at bytes) → outside old (take at bytes) ≡ [] → BeginsFrame now (drop at bytes) → outside old (take (at + 1) bytes) ≡ []
none_more old now bytes at within same none begins =
    outside_more old bytes at within ∙ ap (λ (b : List ℕ). b ++ byte_outside (frame_behind old (take at bytes)).place (get_or bytes at 0)) none
    ∙ ap (λ (frame : Frame). byte_outside frame.place (get_or bytes at 0)) (sym same) ∙ begun now bytes at within begins

-- a text before its first frame is as it is
pub record Passes (frame : Frame) (bytes : List ℕ) : Type 0 where
  pub same : outside frame bytes ≡ bytes
  pub behind : frame_behind frame bytes ≡ frame

none_passes : (frame : Frame) → Passes frame []
none_passes frame = record { same = refl; behind = refl }

pub text_passes : (frame : Frame) (bytes : List ℕ) (k : ℕ) → is_outside frame.place ≡ true → k ≤ position_or_len (λ byte. byte == 2) bytes → Passes frame (take k bytes)
text_passes frame [] zero out within = none_passes frame
text_passes frame [] (suc k) out within = none_passes frame
text_passes frame (byte ∷ rest) zero out within = none_passes frame
text_passes frame (byte ∷ rest) (suc k) out within = cases (byte == 2) refl within (λ w. text_passes frame rest k out w)
  where
    here : (place : Place) (name right : List ℕ) → is_outside place ≡ true → (byte == 2) ≡ false → (byte_outside place byte ≡ byte ∷ []) × (behind_byte (record { place = place; name = name; right = right }) byte ≡ record { place = place; name = name; right = right })
    here Outside name right out e = (rw e refl, rw e refl)
    here Name name right out e = absurd cc
    here Right name right out e = absurd cc

    cases : (t : Bool) → (byte == 2) ≡ t → suc k ≤ cond (not t) (1 + position_or_len (λ byte. byte == 2) rest) 0 → (k ≤ position_or_len (λ byte. byte == 2) rest → Passes frame (take k rest)) → Passes frame (byte ∷ take k rest)
    cases true e within more = absurd (omega (arith, within))
    cases false e within more =
        let now = here frame.place frame.name frame.right out e in
        let next = more (omega (arith, within)) in
        record {
          same = ap (λ (b : List ℕ). b ++ outside (behind_byte frame byte) (take k rest)) now.0 ∙ ap (λ (f : Frame). byte ∷ outside f (take k rest)) now.1 ∙ ap (λ (b : List ℕ). byte ∷ b) next.same;
          behind = ap (λ (f : Frame). frame_behind f (take k rest)) now.1 ∙ next.behind;
        }

-- so many bytes of a text before its first frame were written
pub leaves_text : (a b : Option (List ℕ)) (frame : Frame) (piece : List ℕ) (n count : ℕ) → is_outside frame.place ≡ true → n ≡ position_or_len (λ byte. byte == 2) piece → count ≤ length (take n piece) → Appends a b (take count (take n piece)) → LeavesFrames a b frame frame (take count piece)
leaves_text a b frame piece n count out number within grown =
    let short : count ≤ n = omega (arith, within, length-take n piece) in
    let passes : Passes frame (take count piece) = text_passes frame piece count out (omega (arith, short, number)) in
    record { grown = subst (λ (given : List ℕ). Appends a b given) (take_short count n piece short ∙ sym passes.same) grown; frame = sym passes.behind }
