-- Values of the definitions of lists, computed.
use Rattle.std.proofs.Common.{◌≡◌, ℕ, pos, negsuc, Bool, true, false, Option, Some, None, List, [], ◌∷◌, option_map, refl}
use Rattle.zdomain.specs.declared.interval.Interval.{Interval}
use Rattle.zdomain.specs.declared.values.Values.{Values}
use Rattle.zdomain.specs.declared.values.Values.TheVariants.{Run, List as AList}
use Rattle.zword.specs.declared.unary.UnaryOp.TheVariants.{Not}
use Rattle.zword.specs.declared.binary.BinaryOp.TheVariants.{Add, Div, Mod}
use Rattle.zword.specs.declared.question.Question.TheVariants.{Equal, Less}
use Rattle.zdomain.specs.Few.{turned, words_from, place_in, with_words, gathered, rises_behind, last_behind, is_scattered, first_of, last_of}
use Rattle.zdomain.specs.Interval.{point}
use Rattle.zdomain.specs.Marks.{is_marked}
use Rattle.zdomain.specs.Values.{has, lowest, highest, hull, members, packed, found, row, rows, unary, binary, join, meet, narrow, known}

-- words stand from -32,768 to 32,767
places : (turned 32768 ≡ 0) × (turned 65535 ≡ 32767) × (turned 0 ≡ 32768) × (turned 32767 ≡ 65535)
places = (refl, refl, refl, refl)

-- -1, 0 and 1
around_nothing : words_from 65535 3 ≡ 65535 ∷ 0 ∷ 1 ∷ []
unfolding place_in words_from with_words rises_behind last_behind is_scattered rows
around_nothing = refl

-- 0 belongs behind -1 and before 1
belongs : (place_in 0 (65535 ∷ 1 ∷ []) ≡ 1) × (place_in 2 (65535 ∷ 1 ∷ []) ≡ 2) × (place_in 65534 (65535 ∷ 1 ∷ []) ≡ 0)
unfolding place_in words_from with_words rises_behind last_behind is_scattered rows
belongs = (refl, refl, refl)

-- the second place has the second lowest bit of the first byte, the ninth the lowest of the second
marked : (is_marked (2 ∷ 1 ∷ []) 1 ≡ true) × (is_marked (2 ∷ 1 ∷ []) 0 ≡ false) × (is_marked (2 ∷ 1 ∷ []) 8 ≡ true) × (is_marked (2 ∷ 1 ∷ []) 9 ≡ false)
marked = (refl, refl, refl, refl)

-- lists have two words at least, rise, and are no interval
lists : (is_scattered (411 ∷ 413 ∷ []) ≡ true) × (is_scattered (411 ∷ 412 ∷ []) ≡ false) × (is_scattered (5 ∷ []) ≡ false) × (is_scattered (413 ∷ 411 ∷ []) ≡ false) × (is_scattered (65535 ∷ 1 ∷ []) ≡ true) × (is_scattered (1 ∷ 65535 ∷ []) ≡ false)
unfolding place_in words_from with_words rises_behind last_behind is_scattered rows
lists = (refl, refl, refl, refl, refl, refl)

-- the set of these words
abbrev of : List ℕ → Values
of words = packed (gathered words)

-- told: the members, and whether it is a list
abbrev told : Values → Option (List ℕ) × Bool
told (Run i) = (members (Run i), false)
told (AList s) = (members (AList s), true)

-- words come in order, each once; those that fill what is between are an interval
packs : (told (of (7 ∷ 5 ∷ 7 ∷ [])) ≡ (Some (5 ∷ 7 ∷ []), true)) × (told (of (6 ∷ 5 ∷ 7 ∷ [])) ≡ (Some (5 ∷ 6 ∷ 7 ∷ []), false)) × (told (of (1 ∷ 65535 ∷ [])) ≡ (Some (65535 ∷ 1 ∷ []), true))
unfolding place_in words_from with_words rises_behind last_behind is_scattered rows
packs = (refl, refl, refl)

-- 64 words are told, 65 aren't, and then the set goes from the least to the greatest
many : (option_map first_of (members (of (100 ∷ words_from 0 63))) ≡ Some 0) × (option_map last_of (members (of (100 ∷ words_from 0 63))) ≡ Some 100) × ((hull (of (100 ∷ words_from 0 64))).lo ≡ pos 0) × ((hull (of (100 ∷ words_from 0 64))).hi ≡ pos 100) × (members (of (100 ∷ words_from 0 64)) ≡ None)
unfolding place_in words_from with_words rises_behind last_behind is_scattered rows
many = (refl, refl, refl, refl, refl)

-- of nothing it is all words, and nothing is found
nothing : ((hull (of [])).lo ≡ negsuc 32767) × ((hull (of [])).hi ≡ pos 32767) × (found (gathered []) ≡ None)
unfolding place_in words_from with_words rises_behind last_behind is_scattered rows
nothing = (refl, refl, refl)

ends : (lowest (of (3 ∷ 65531 ∷ [])) ≡ 65531) × (highest (of (3 ∷ 65531 ∷ [])) ≡ 3) × (known (of (3 ∷ 65531 ∷ [])) ≡ None) × (has (of (3 ∷ 65531 ∷ [])) 3 ≡ true) × (has (of (3 ∷ 65531 ∷ [])) 0 ≡ false)
unfolding place_in words_from with_words rises_behind last_behind is_scattered rows
ends = (refl, refl, refl, refl, refl)

-- a result for each two words; a divisor of 0 is left out
results : (rows Add (1 ∷ 2 ∷ []) (10 ∷ 20 ∷ []) ≡ 11 ∷ 21 ∷ 12 ∷ 22 ∷ []) × (row Mod 7 (0 ∷ 2 ∷ []) ≡ 1 ∷ [])
unfolding place_in words_from with_words rises_behind last_behind is_scattered rows
results = (refl, refl)

sums : told (binary Add (of (1 ∷ 2 ∷ [])) (of (10 ∷ 20 ∷ []))) ≡ (Some (11 ∷ 12 ∷ 21 ∷ 22 ∷ []), true)
unfolding place_in words_from with_words rises_behind last_behind is_scattered rows
sums = refl

-- -10, 10 and 2 of 10 by -1, 1 and 5; by 0 alone it is any word
quotients : (told (binary Div (Run (point 10)) (of (65535 ∷ 1 ∷ 5 ∷ []))) ≡ (Some (65526 ∷ 2 ∷ 10 ∷ []), true)) × ((hull (binary Div (Run (point 10)) (Run (point 0)))).lo ≡ negsuc 32767) × (told (binary Mod (Run (point 7)) (of (0 ∷ 1 ∷ []))) ≡ (Some (0 ∷ []), false))
unfolding place_in words_from with_words rises_behind last_behind is_scattered rows
quotients = (refl, refl, refl)

abbrev thousand : Interval
thousand = record { lo = pos 0; hi = pos 1000; ordered = record { le = tt } }

-- from 0 to 1,000 by -5, -1 and 5: from -5 to 5 there is 0, so it is any word
wide_quotients : ((hull (binary Div (Run thousand) (of (65531 ∷ 65535 ∷ 5 ∷ [])))).lo ≡ negsuc 32767) × ((hull (binary Div (Run thousand) (of (65531 ∷ 65535 ∷ 5 ∷ [])))).hi ≡ pos 32767)
unfolding place_in words_from with_words rises_behind last_behind is_scattered rows
wide_quotients = (refl, refl)

-- 0 and 5 denied are -1 and -6
denied : told (unary Not (of (0 ∷ 5 ∷ []))) ≡ (Some (65530 ∷ 65535 ∷ []), true)
unfolding place_in words_from with_words rises_behind last_behind is_scattered rows
denied = refl

joins : (told (join (of (1 ∷ 5 ∷ [])) (Run (point 3))) ≡ (Some (1 ∷ 3 ∷ 5 ∷ []), true)) × (told (join (of (1 ∷ 3 ∷ [])) (Run (point 2))) ≡ (Some (1 ∷ 2 ∷ 3 ∷ []), false)) × ((hull (join (of (65535 ∷ 2000 ∷ [])) (Run thousand))).lo ≡ negsuc 0) × ((hull (join (of (65535 ∷ 2000 ∷ [])) (Run thousand))).hi ≡ pos 2000)
unfolding place_in words_from with_words rises_behind last_behind is_scattered rows
joins = (refl, refl, refl, refl)

meets : (option_map told (meet (of (1 ∷ 3 ∷ 5 ∷ [])) (of (3 ∷ 5 ∷ 9 ∷ []))) ≡ Some (Some (3 ∷ 5 ∷ []), true)) × (option_map told (meet (Run thousand) (of (65535 ∷ 3 ∷ 1001 ∷ []))) ≡ Some (Some (3 ∷ []), false)) × (meet (of (1 ∷ 3 ∷ [])) (Run (point 2)) ≡ None)
unfolding place_in words_from with_words rises_behind last_behind is_scattered rows
meets = (refl, refl, refl)

-- which of 1 and 5 are below 3, and that neither is 3
edges : (option_map (λ p. told p.0) (narrow Less true (of (1 ∷ 5 ∷ [])) (Run (point 3))) ≡ Some (Some (1 ∷ []), false)) × (option_map (λ p. told p.0) (narrow Equal true (of (1 ∷ 5 ∷ [])) (Run (point 3))) ≡ None) × (option_map (λ p. told p.0) (narrow Equal false (of (1 ∷ 5 ∷ 7 ∷ [])) (Run (point 1))) ≡ Some (Some (5 ∷ 7 ∷ []), true))
unfolding place_in words_from with_words rises_behind last_behind is_scattered rows
edges = (refl, refl, refl)
