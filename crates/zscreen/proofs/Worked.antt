-- Values of the definitions, computed.
use Rattle.std.proofs.Common.{◌≡◌, true, false, [], ◌∷◌, ◌++◌, refl}
use Rattle.std.specs.Prelude.{pos, negsuc, codes}
use Rattle.std.specs.Fmt.{digits}
use Rattle.zfault.specs.declared.item.Item.TheVariants.{Text, Status}
use Rattle.zscreen.specs.declared.status_lines.StatusLines.TheVariants.{Hidden, Bracketed, Framed}
use Rattle.zscreen.specs.Rendering.{leading_zeros, time_of_day, score_and_moves, render, shown}

-- one zero before a digit, and none where a digit more or a minus takes its place
zeros : (leading_zeros (pos 5) ≡ 48 ∷ []) × (leading_zeros (pos 0) ≡ 48 ∷ []) × (leading_zeros (pos 59) ≡ []) × (leading_zeros (pos 100) ≡ []) × (leading_zeros (negsuc 4) ≡ [])
unfolding digits
zeros = (refl, refl, refl, refl, refl)

-- hours aren't filled up
times : (time_of_day (pos 9) (pos 5) ≡ codes "Time: 9:05") × (time_of_day (pos 23) (pos 59) ≡ codes "Time: 23:59") × (time_of_day (negsuc 0) (negsuc 4) ≡ codes "Time: -1:-5") × (time_of_day (pos 0) (pos 120) ≡ codes "Time: 0:120")
unfolding digits
times = (refl, refl, refl, refl)

-- score and moves are signed, and score comes first
scores : (score_and_moves (pos 9) (pos 5) ≡ codes "Score: 9 | Moves: 5") × (score_and_moves (negsuc 32767) (pos 32767) ≡ codes "Score: -32768 | Moves: 32767") × (score_and_moves (pos 0) (negsuc 0) ≡ codes "Score: 0 | Moves: -1")
unfolding digits
scores = (refl, refl, refl)

-- a line of its own, with score, with a time, and with no name
lines : (shown Bracketed (Status (record { name = codes "b"; first = pos 9; second = pos 5; time = false })) ≡ codes "[b | Score: 9 | Moves: 5]" ++ 10 ∷ []) × (shown Bracketed (Status (record { name = codes "b"; first = pos 9; second = pos 5; time = true })) ≡ codes "[b | Time: 9:05]" ++ 10 ∷ []) × (shown Bracketed (Status (record { name = []; first = pos 0; second = pos 0; time = false })) ≡ codes "[ | Score: 0 | Moves: 0]" ++ 10 ∷ [])
unfolding digits
lines = (refl, refl, refl)

-- nothing, where no status lines are asked for
not_asked : (shown Hidden (Status (record { name = codes "b"; first = pos 9; second = pos 5; time = false })) ≡ []) × (render Hidden (Text 104 ∷ Status (record { name = []; first = pos 23; second = pos 59; time = true }) ∷ Text 105 ∷ []) ≡ 104 ∷ 105 ∷ [])
not_asked = (refl, refl)

-- bytes of text as they are, and each item in its place
in_order : (render Bracketed [] ≡ []) × (render Hidden (Text 104 ∷ Text 10 ∷ Text 0 ∷ []) ≡ 104 ∷ 10 ∷ 0 ∷ []) × (render Bracketed (Text 62 ∷ Status (record { name = codes "hall"; first = negsuc 6; second = pos 12; time = false }) ∷ Text 104 ∷ []) ≡ codes ">[hall | Score: -7 | Moves: 12]\nh")
unfolding digits
in_order = (refl, refl, refl)

-- in a frame: the bytes 2, 31 and 3 stand before the name, behind it and at the end
frames : (shown Framed (Status (record { name = codes "b"; first = pos 9; second = pos 5; time = false })) ≡ 2 ∷ 98 ∷ 31 ∷ codes "Score: 9 | Moves: 5" ++ 3 ∷ []) × (render Framed (Text 104 ∷ Status (record { name = []; first = pos 23; second = pos 59; time = true }) ∷ Text 105 ∷ []) ≡ 104 ∷ 2 ∷ 31 ∷ codes "Time: 23:59" ++ 3 ∷ 105 ∷ [])
unfolding digits
frames = (refl, refl)
