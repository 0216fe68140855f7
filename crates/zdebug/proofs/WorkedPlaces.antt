-- Values of the definitions, computed: what the records of a file answer.
use Rattle.std.proofs.Common.{◌≡◌, ℕ, List, [], ◌∷◌, None, Some, refl}
use Rattle.std.specs.Prelude.{codes}
use Rattle.zdebug.specs.Records.{Found, nothing}
use Rattle.zdebug.specs.declared.place.Place.{Place}
use Rattle.zdebug.specs.Spots.{spot_of_place}
use Rattle.zdebug.specs.Places.{global_in, last_between, last_of, name_at, place_in, routine_in}

-- two routines with a byte between them, and a third one behind; the second begins without a point, and points name two files, one of which
-- isn't there
abbrev said : Found
said = record nothing {
  sources = (1, codes "a.inf") ∷ (3, codes "c.inf") ∷ [];
  routines = (16, record { length = 8; name = codes "Main" }) ∷ (25, record { length = 5; name = codes "Next" }) ∷ (30, record { length = 1; name = codes "Last" }) ∷ [];
  points = (17, record { file = 1; line = 3 }) ∷ (20, record { file = 3; line = 6 }) ∷ (27, record { file = 2; line = 9 }) ∷ (29, record { file = 1; line = 9 }) ∷ [];
  objects = (1, codes "Class") ∷ (5, codes "a<b") ∷ [];
  globals = (102, codes "noun") ∷ (104, codes "second") ∷ [];
  first_global = Some 100;
}

-- ---- places

in_main : (place_in said 15 ≡ None) × (place_in said 16 ≡ None) × (place_in said 17 ≡ Some (record { file = codes "a.inf"; line = 3; routine = codes "Main" })) × (place_in said 19 ≡ Some (record { file = codes "a.inf"; line = 3; routine = codes "Main" })) × (place_in said 20 ≡ Some (record { file = codes "c.inf"; line = 6; routine = codes "Main" })) × (place_in said 23 ≡ Some (record { file = codes "c.inf"; line = 6; routine = codes "Main" })) × (place_in said 24 ≡ None)
in_main = (refl, refl, refl, refl, refl, refl, refl)

-- no point of the routine before it, and none of a file that isn't there
in_next : (place_in said 25 ≡ None) × (place_in said 26 ≡ None) × (place_in said 27 ≡ None) × (place_in said 29 ≡ Some (record { file = codes "a.inf"; line = 9; routine = codes "Next" })) × (place_in said 30 ≡ None) × (place_in said 31 ≡ None)
in_next = (refl, refl, refl, refl, refl, refl)

-- ---- routines

in_routines : (routine_in said 15 ≡ None) × (routine_in said 16 ≡ Some (16, record { length = 8; name = codes "Main" })) × (routine_in said 23 ≡ Some (16, record { length = 8; name = codes "Main" })) × (routine_in said 24 ≡ None) × (routine_in said 25 ≡ Some (25, record { length = 5; name = codes "Next" })) × (routine_in said 30 ≡ Some (30, record { length = 1; name = codes "Last" })) × (routine_in said 31 ≡ None) × (routine_in nothing 16 ≡ None)
in_routines = (refl, refl, refl, refl, refl, refl, refl, refl)

-- from 0 on
from_nothing : routine_in (record nothing { routines = (0, record { length = 3; name = codes "Gone" }) ∷ [] }) 0 ≡ Some (0, record { length = 3; name = codes "Gone" })
from_nothing = refl

-- ---- lists

abbrev marks : List (ℕ × ℕ)
marks = (2, 7) ∷ (4, 8) ∷ (6, 9) ∷ []

lasts : (last_of {A = ℕ} [] ≡ None) × (last_of {A = ℕ} (1 ∷ []) ≡ Some 1) × (last_of {A = ℕ} (1 ∷ 2 ∷ 3 ∷ []) ≡ Some 3)
lasts = (refl, refl, refl)

lasts_between : (last_between 2 6 marks ≡ Some (6, 9)) × (last_between 2 5 marks ≡ Some (4, 8)) × (last_between 4 4 marks ≡ Some (4, 8)) × (last_between 5 5 marks ≡ None) × (last_between 7 9 marks ≡ None) × (last_between 0 1 marks ≡ None)
lasts_between = (refl, refl, refl, refl, refl, refl)

-- ---- names

numbered : (name_at said.objects 5 ≡ Some (codes "a<b")) × (name_at said.objects 4 ≡ None) × (name_at said.objects 6 ≡ None) × (name_at [] 0 ≡ None)
numbered = (refl, refl, refl, refl)

-- each takes two bytes
of_globals : (global_in said 0 ≡ None) × (global_in said 1 ≡ Some (codes "noun")) × (global_in said 2 ≡ Some (codes "second")) × (global_in said 3 ≡ None) × (global_in (record said { first_global = Some 102 }) 0 ≡ Some (codes "noun")) × (global_in (record said { first_global = None }) 1 ≡ None)
of_globals = (refl, refl, refl, refl, refl, refl)

-- a place has to be below 2 ^ 32
abbrev last_globals : Found
last_globals = record nothing { globals = (4294967294, codes "last") ∷ (4294967296, codes "past") ∷ []; first_global = Some 4294967290 }

of_last_globals : (global_in last_globals 2 ≡ Some (codes "last")) × (global_in last_globals 3 ≡ None)
of_last_globals = (refl, refl)

-- ---- what is seen of a place

seen : (p : Place) → ((spot_of_place p).file ≡ p.file.now) × ((spot_of_place p).line ≡ p.line) × ((spot_of_place p).routine ≡ p.routine.now)
seen p = (refl, refl, refl)
