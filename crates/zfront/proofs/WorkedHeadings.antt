-- Values of the definitions of frames and of the line at the top, computed.
use Rattle.std.proofs.Common.{◌≡◌, ℕ, Bool, true, false, Some, None, inl, inr, [], length, refl, ap, arith}
use Rattle.std.specs.Prelude.{codes, replicate}
use Rattle.zfront.specs.declared.place.Place.TheVariants.{Outside, Name, Right}
use Rattle.zfront.specs.FramedSinks.{LeavesAllHere, LeavesHere}
use Rattle.zfront.specs.FramedSinks.{known_bytes as known_frames}
use Rattle.zfront.specs.Frames.{BeginsFrame, Frame, LeavesAll, LeavesFrames, cut, frame_behind, no_frame, outside}
use Rattle.zfront.specs.HeadedSinks.{ClosesHere, ClosesShortHere, FlushesHere, FlushesShortHere, TopsHere, TopsNoneHere, begins_with, known_bytes}
use Rattle.zfront.specs.Headings.{Closes, ClosesShort, FlushesTop, FlushesTopShort, MayOpen, Top, Tops, TopsNone, closing_of, drawing, heading_line, opened_so, opening_of, printable}

-- ---- frames

-- what a frame says
abbrev said : Frame
said = record { place = Outside; name = codes "hall"; right = codes "9" }

-- each frame is taken out, and what it says is there behind it; one that isn't whole waits
frames : (outside no_frame (codes "a\u{2}hall\u{1f}9\u{3}b") ≡ codes "ab") × (frame_behind no_frame (codes "a\u{2}hall\u{1f}9\u{3}b") ≡ said) × (outside no_frame (codes "a\u{2}ha") ≡ codes "a") × (frame_behind no_frame (codes "a\u{2}ha") ≡ record { place = Name; name = codes "ha"; right = [] })
frames = (refl, refl, refl, refl)

-- of the marks that stand elsewhere each is a byte as others; a name with nothing behind it is one
marks : (outside no_frame (codes "\u{3}\u{1f}") ≡ codes "\u{3}\u{1f}") × (frame_behind no_frame (codes "\u{2}a\u{2}\u{3}") ≡ record { place = Outside; name = codes "a\u{2}"; right = [] }) × (frame_behind no_frame (codes "\u{2}\u{1f}\u{1f}\u{2}") ≡ record { place = Right; name = []; right = codes "\u{1f}\u{2}" }) × (frame_behind said (codes "\u{2}") ≡ record { place = Name; name = []; right = [] })
marks = (refl, refl, refl, refl)

cuts : (length (cut (replicate {A = ℕ} 255 97)) ≡ 255) × (length (cut (replicate {A = ℕ} 256 97)) ≡ 255)
cuts = (refl, refl)

begins : BeginsFrame no_frame (codes "\u{2}a") × (BeginsFrame no_frame (codes "a") → ⊥)
begins = (refl, λ e. omega (arith, ap length e))

leaves : LeavesFrames (Some []) (Some (codes "a")) no_frame (record { place = Name; name = []; right = [] }) (codes "a\u{2}") × LeavesAll (Some []) (Some []) said said × (LeavesAllHere (Some []) (Some (codes "a")) None None → ⊥) × LeavesHere (Some []) (Some (codes "\u{2}")) None None (codes "\u{2}") × (known_frames (Some said) (Some []) ≡ None) × (known_frames None (Some []) ≡ Some [])
leaves = (record { grown = refl; frame = refl }, record { kept = refl; frame = refl }, λ e. omega (arith, ap length e), refl, refl, refl)

-- ---- the line

shown_bytes : (printable 31 ≡ 32) × (printable 32 ≡ 32) × (printable 33 ≡ 33) × (printable 126 ≡ 126) × (printable 127 ≡ 32)
shown_bytes = (refl, refl, refl, refl, refl)

-- with room for both; with less the name is cut, and then the right side
lines : (heading_line (codes "hall") (codes "9") 12 ≡ codes " hall     9 ") × (heading_line (codes "hall") (codes "9") 8 ≡ codes " hall 9 ") × (heading_line (codes "hall") (codes "9") 7 ≡ codes " hal 9 ") × (heading_line (codes "hall") (codes "95") 5 ≡ codes "  95 ") × (heading_line (codes "hall") (codes "95") 3 ≡ codes " 9 ") × (heading_line (codes "hall") (codes "95") 2 ≡ codes "  ") × (heading_line (codes "a\nb") [] 7 ≡ codes " a b   ")
lines = (refl, refl, refl, refl, refl, refl, refl)

drawn : drawing (codes "a") (codes "9") 5 ≡ codes "\u{1b}7\u{1b}[2r\u{1b}[1;1H\u{1b}[7m a 9 \u{1b}[0m\u{1b}8"
drawn = refl

-- ---- a screen

abbrev screen : Bool → Top
screen opened = record { width = 5; opened = opened }

opens : (opening_of (screen false) ≡ codes "\u{1b}[H\u{1b}[2J\u{1b}[2r\u{1b}[2;1H") × (opening_of (screen true) ≡ []) × (closing_of (screen false) ≡ []) × (closing_of (screen true) ≡ codes "\u{1b}[r\u{1b}[999;1H\n") × (opened_so (screen false) true ≡ screen true)
opens = (refl, refl, refl, refl, refl)

written : Tops (Some []) (Some (codes "\u{1b}[H\u{1b}[2J\u{1b}[2r\u{1b}[2;1Ha")) (screen false) (screen true) (codes "a") × Tops (Some []) (Some (codes "a")) (screen true) (screen true) (codes "a")
written = (record { grown = refl; opened = refl }, record { grown = refl; opened = refl })

broken : TopsNone (Some []) (Some (codes "\u{1b}[")) (screen false) (screen false) × (MayOpen (screen true) (screen false) → ⊥)
broken = (record { begun = record { taken = 2; grown = refl }; opened = inl refl }, not)
  where
    not : MayOpen (screen true) (screen false) → ⊥
    not (inl e) = let closed : false ≡ true = ap (λ (top : Top). top.opened) e in absurd cc
    not (inr e) = let closed : false ≡ true = ap (λ (top : Top). top.opened) e in absurd cc

-- a flush draws the line, or nothing
flushed : FlushesTop (Some []) (Some (drawing (codes "a") (codes "9") 5)) (screen true) (screen true) × FlushesTop (Some []) (Some []) (screen true) (screen true) × FlushesTopShort (Some []) (Some (codes "\u{1b}7")) (screen true) (screen true)
flushed = (record { drawn = drawing (codes "a") (codes "9") 5; may = inr (record { name = codes "a"; right = codes "9"; line = refl }); grown = refl; opened = refl }, record { drawn = []; may = inl refl; grown = refl; opened = refl }, record { drawn = drawing [] [] 5; may = inr (record { name = []; right = []; line = refl }); begun = record { taken = 2; grown = refl }; opened = inl refl })

closed : Closes (Some []) (Some (codes "\u{1b}[r\u{1b}[999;1H\n")) (screen true) (screen false) × Closes (Some []) (Some []) (screen false) (screen false) × ClosesShort (Some []) (Some (codes "\u{1b}")) (screen true) (screen true)
closed = (record { grown = refl; closed = refl }, record { grown = refl; closed = refl }, record { begun = record { taken = 1; grown = refl }; closed = inl refl })

-- ---- a sink that draws a line, or none

begins_so : (begins_with None ≡ None) × (begins_with (Some 1) ≡ None) × (begins_with (Some 2) ≡ Some (record { width = 2; opened = false })) × (known_bytes None (Some []) ≡ Some []) × (known_bytes (Some (screen true)) (Some []) ≡ None)
begins_so = (refl, refl, refl, refl, refl)

here : TopsHere (Some []) (Some (codes "a")) None None (codes "a") × (TopsHere (Some []) (Some []) None None (codes "a") → ⊥) × (TopsNoneHere (Some []) (Some (codes "a")) None None → ⊥) × (FlushesHere (Some []) (Some (codes "a")) None None → ⊥) × (FlushesShortHere (Some []) (Some (codes "a")) None None → ⊥) × (ClosesHere (Some []) (Some (codes "a")) None None → ⊥) × (ClosesShortHere (Some []) (Some (codes "a")) None None → ⊥)
here = (refl, λ e. omega (arith, ap length e), λ e. omega (arith, ap length e), λ e. omega (arith, ap length e), λ e. omega (arith, ap length e), λ e. omega (arith, ap length e), λ e. omega (arith, ap length e))
