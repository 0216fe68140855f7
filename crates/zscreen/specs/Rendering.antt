-- The bytes that a player sees of what a machine gives out.
use Rattle.std.specs.Prelude.{ℕ, ℤ, ◌-◌, if◌then◌else◌, List, [], ◌∷◌, ◌++◌, codes, flat_map, length, replicate}
use Rattle.std.specs.Fmt.{signed_decimal}
use Rattle.zfault.specs.declared.item.Item.{Item}
use Rattle.zfault.specs.declared.item.Item.TheVariants as items
use Rattle.zfault.specs.declared.item.Status.{Status}
use Rattle.zscreen.specs.declared.status_lines.StatusLines.{StatusLines}
use Rattle.zscreen.specs.declared.status_lines.StatusLines.TheVariants.{Hidden, Bracketed, Framed}

-- the zeros before minutes, which have two places at least; a minus is a place (own)
abbrev pub leading_zeros : ℤ → List ℕ
leading_zeros past = replicate (2 - length (signed_decimal past)) 48

-- a time of day, by hours and minutes
abbrev pub time_of_day : ℤ → ℤ → List ℕ
time_of_day hours past = codes "Time: " ++ signed_decimal hours ++ (58 ∷ leading_zeros past) ++ signed_decimal past

abbrev pub score_and_moves : ℤ → ℤ → List ℕ
score_and_moves score moves = codes "Score: " ++ signed_decimal score ++ codes " | Moves: " ++ signed_decimal moves

-- what a status line shows behind the name (Z 8.2.3)
abbrev pub numbers : Status → List ℕ
numbers status = if status.time then time_of_day status.first status.second else score_and_moves status.first status.second

-- a status line, in brackets, with an end of line behind it (own)
abbrev pub status_line : Status → List ℕ
status_line status = codes "[" ++ status.name ++ codes " | " ++ numbers status ++ codes "]\n"

-- a status line between bytes that no text has: 2, the name, 31, what stands behind it, 3 (own)
abbrev pub status_frame : Status → List ℕ
status_frame status = (2 ∷ []) ++ status.name ++ (31 ∷ []) ++ numbers status ++ (3 ∷ [])

-- how a status line is shown
abbrev pub status_shown : StatusLines → Status → List ℕ
status_shown Hidden status = []
status_shown Bracketed status = status_line status
status_shown Framed status = status_frame status

-- an item's bytes: a byte of text is itself, and a status line is shown as status lines are asked for
abbrev pub shown : StatusLines → Item → List ℕ
shown asked (items.Text byte) = byte ∷ []
shown asked (items.Status status) = status_shown asked status

-- each item's bytes, in order
abbrev pub render : StatusLines → List Item → List ℕ
render asked given = flat_map (shown asked) given
