-- Values of what may be written and of property tables, on both sides of each bound.
use Rattle.std.proofs.Common.{Bool, ◌≡◌, ◌↔◌, ◌⊎◌, inl, inr, ℕ, ◌+◌, ◌<◌, ◌≤◌, List, [], ◌∷◌, ◌++◌, replicate, Some, None, refl, sym, subst, arith, ◌*◌}
use Rattle.zstory.specs.Objects.{object_place, property_table}
use Rattle.zstory.specs.LoadedStory.{LoadedStory, abbreviations, globals, object_table, static_base}
use Rattle.ztext.specs.Abbreviations.{readable_word}
use Rattle.ztext.specs.Local.{read_length}
use Rattle.zobj.specs.Properties.{list_place}
use Rattle.zplace.specs.declared.places.Places.TheVariants.{Run, Sizes}
use Rattle.zplace.specs.Apart.{AreApart, HasNoObjectState}
use Rattle.zplace.specs.Bytes.{IsWithin, IsChanging, IsObjectEntry, IsObjectState, IsUnchanging, IsSizePlace, here, behind, IsOpen, IsClosed, header, a_global, a_default, an_entry, a_property, an_abbreviation, frozen, static}
use Rattle.zplace.specs.Tables.{none_frozen, ended, longer, IsDataPlace, in_data, in_rest, IsPropertyTable, IsPropertyData, HasPropertyTables}
use Rattle.zplace.specs.Places.{IsAmong}
use Rattle.zplace.proofs.Worked.{memory, table, story, of_two, no_word, same_table, size_places}

-- ---- bytes

-- the nine bytes of each entry
entries : (p : ℕ) → IsObjectEntry story p ↔ (IsWithin 126 9 p ⊎ IsWithin 135 9 p)
unfolding story memory table
entries p = (λ entry. of_object entry.object entry.first entry.last entry.inside, back)
  where
    of_object : (object : ℕ) → 1 ≤ object → object ≤ 2 → IsWithin (object_place memory object) 9 p → IsWithin 126 9 p ⊎ IsWithin 135 9 p
    of_object = of_two (λ k. IsWithin (object_place memory k) 9 p → IsWithin 126 9 p ⊎ IsWithin 135 9 p) inl inr

    back : IsWithin 126 9 p ⊎ IsWithin 135 9 p → IsObjectEntry story p
    back (inl one) = record { object = 1; first = omega arith; last = omega arith; inside = one }
    back (inr two) = record { object = 2; first = omega arith; last = omega arith; inside = two }

-- the same memory with no objects: defaults from 64 to 125, globals from 160 to 639, the static base at 656
bare : LoadedStory
bare = record { memory = memory; objects = 0 }

bare_places : (object_table bare ≡ 64) × (globals bare ≡ 160) × (static_base bare ≡ 656) × (abbreviations bare ≡ 65535) × (bare.objects ≡ 0)
unfolding bare memory table
bare_places = (refl, refl, refl, refl, refl)

closed : IsClosed bare none_frozen 64 × IsClosed bare none_frozen 125 × IsClosed bare none_frozen 160 × IsClosed bare none_frozen 639 × IsClosed bare none_frozen 656
closed =
    let t = bare_places.0 in let g = bare_places.1 in let s = bare_places.2 in
    (a_default (omega (arith, t), omega (arith, t)), a_default (omega (arith, t), omega (arith, t)), a_global (omega (arith, g), omega (arith, g)), a_global (omega (arith, g), omega (arith, g)), static (omega (arith, s)))

-- what lies beside the tables of the story
beside : (p : ℕ) → 126 ≤ p → p < 656 → (p < 160) ⊎ (640 ≤ p) → IsOpen bare none_frozen p
unfolding bare
beside p low high away cause = by_cause cause
  where
    globals_away : (p < 160) ⊎ (640 ≤ p) → IsWithin (globals bare) 480 p → ⊥
    globals_away (inl before) inside = let g = bare_places.1 in omega (arith, g, before, inside.0)
    globals_away (inr after) inside = let g = bare_places.1 in omega (arith, g, after, inside.1)

    by_half : (n : ℕ) → IsWithin (abbreviations bare + 2 * n) 2 p ⊎ ((word : ℕ) × (readable_word memory (abbreviations bare + 2 * n) ≡ Some word) × IsWithin (2 * word) (read_length memory (2 * word)) p) → ⊥
    by_half n (inl word) = let at = bare_places.3 in omega (arith, at, word.0, high)
    by_half n (inr (word, found, inside)) = let none = subst (λ (from : ℕ). readable_word memory (from + 2 * n) ≡ None) (sym bare_places.3) (no_word n) in absurd cc

    by_cause : IsClosed bare none_frozen p → ⊥
    by_cause (header before) = omega (arith, before.0, low)
    by_cause (a_global inside) = globals_away away inside
    by_cause (a_default inside) = let t = bare_places.0 in omega (arith, t, inside.1, low)
    by_cause (an_entry entry) = let none = bare_places.4 in omega (arith, none, entry.first, entry.last)
    by_cause (a_property frame) = let none = bare_places.4 in omega (arith, none, frame.first, frame.last)
    by_cause (an_abbreviation part) = by_half part.number part.inside
    by_cause (frozen e) = absurd cc
    by_cause (static above) = let s = bare_places.2 in omega (arith, s, above, high)

free : IsOpen bare none_frozen 126 × IsOpen bare none_frozen 159 × IsOpen bare none_frozen 640 × IsOpen bare none_frozen 655
free = (
  beside 126 (omega arith) (omega arith) (inl (omega arith)),
  beside 159 (omega arith) (omega arith) (inl (omega arith)),
  beside 640 (omega arith) (omega arith) (inr (omega arith)),
  beside 655 (omega arith) (omega arith) (inr (omega arith)),
)

-- ---- property tables

-- the data of each object's properties
data_of_each : (p : ℕ) → (IsPropertyData story p → IsDataPlace memory p 147) × (IsDataPlace memory p 147 → IsPropertyData story p × IsPropertyData story p)
unfolding story memory table
data_of_each p = (
  λ its. subst (λ (t : ℕ). IsDataPlace memory p (list_place memory t)) (same_table its.object its.first its.last) its.inside,
  λ inside. (
    record { object = 1; first = omega arith; last = omega arith; inside = subst (λ (t : ℕ). IsDataPlace memory p (list_place memory t)) (sym (same_table 1 (omega arith) (omega arith))) inside },
    record { object = 2; first = omega arith; last = omega arith; inside = subst (λ (t : ℕ). IsDataPlace memory p (list_place memory t)) (sym (same_table 2 (omega arith) (omega arith))) inside },
  ),
)

-- a size byte of 1 is that of property 1, and ends nothing
ones : List ℕ
ones = 0x01 ∷ 0x07 ∷ 0x01 ∷ 0x08 ∷ 0x00 ∷ []

of_ones : IsSizePlace ones 2 0 × IsDataPlace ones 1 0 × IsDataPlace ones 3 0
unfolding ones
of_ones = (
  behind 0 (λ e. absurd cc) (here 2 refl (omega arith)),
  in_data 0 (λ e. absurd cc) (omega arith, omega arith),
  in_rest 0 (λ e. absurd cc) (in_data 2 (λ e. absurd cc) (omega arith, omega arith)),
)

-- a table at 64, without a name, with property 31 and then property 1; and none before it
first_table : LoadedStory
first_table = record { memory = replicate 14 0 ++ 0 ∷ 80 ∷ replicate 48 0 ++ 0 ∷ 0x1F ∷ 7 ∷ 0x01 ∷ 8 ∷ replicate 20 0; objects = 0 }

-- the header's own bytes on both sides of Flags 2 are closed as such
around_flags : (story : LoadedStory) (is_frozen : ℕ → Bool) → IsClosed story is_frozen 15 × IsClosed story is_frozen 18
around_flags story is_frozen = (header (omega arith, λ flags. omega (arith, flags.0)), header (omega arith, λ flags. omega (arith, flags.1)))

above_header : IsPropertyTable first_table 64 × (IsPropertyTable first_table 63 → ⊥)
unfolding first_table
above_header = (
  record { above = omega arith; named = inl refl; listed = longer 32 65 (omega arith) (omega arith) (longer 31 67 (omega arith) (omega arith) (ended 1 69 (omega arith) refl)) },
  λ there. (let low = there.above in omega (arith, low)),
)

-- a story without objects has all that is asked; one with an object has a table of it, and so the last of two
no_objects : HasPropertyTables bare
no_objects =
    let none = bare_places.4 in
    record {
      tables = λ object some few. absurd (omega (arith, none, some, few));
      frames_still = λ p frame c. omega (arith, none, frame.first, frame.last);
      data_still = λ p its c. omega (arith, none, its.first, its.last);
      data_open = λ p its c. omega (arith, none, its.first, its.last);
    }

-- whose objects' tables all lie at 0
tableless : ℕ → LoadedStory
tableless objects = record { memory = []; objects = objects }

each_has_one : (HasPropertyTables (tableless 1) → ⊥) × (HasPropertyTables (tableless 2) → IsPropertyTable (tableless 2) (property_table [] 2))
unfolding tableless
each_has_one = (λ tables. (let low = (tables.tables 1 (omega arith) (omega arith)).above in omega (arith, low)), λ tables. tables.tables 2 (omega arith) (omega arith))

-- ---- what lies apart

-- two bytes from 4 on, and those from 6 on; a byte at 9, and five from 4 on; not the second of two, from either side
apart : AreApart 4 2 6 2 × AreApart 9 1 4 5 × (AreApart 4 2 5 2 → ⊥) × (AreApart 5 1 4 2 → ⊥)
apart = (
  λ p left right. omega (arith, left.1, right.0),
  λ p left right. omega (arith, left.0, right.1),
  λ are. are 5 (omega arith, omega arith) (omega arith, omega arith),
  λ are. are 5 (omega arith, omega arith) (omega arith, omega arith),
)

-- of the entry from 126 on the last two of nine bytes are no state, and the seventh is
state_at : IsObjectState story 132
unfolding story memory table
state_at = record { object = 1; first = omega arith; last = omega arith; inside = (omega arith, omega arith) }

stateless : HasNoObjectState story 133 2 × (HasNoObjectState story 132 1 → ⊥) × (IsUnchanging story 132 1 → ⊥)
unfolding story memory table
stateless = (
  λ p within state. of_object p within state.object state.first state.last state.inside,
  λ none. none 132 (omega arith, omega arith) state_at,
  λ unchanging. unchanging.still 132 (omega arith, omega arith) (inr (inr state_at)),
)
  where
    of_object : (p : ℕ) → IsWithin 133 2 p → (object : ℕ) → 1 ≤ object → object ≤ 2 → IsWithin (object_place memory object) 7 p → ⊥
    of_object p within = of_two (λ k. IsWithin (object_place memory k) 7 p → ⊥) (λ one. omega (arith, within.0, one.1)) (λ two. omega (arith, within.1, two.0))

-- so these two don't change, and the globals behind them do
unchanging : IsUnchanging story 133 2 × (IsUnchanging story 133 28 → ⊥)
unfolding story memory table
unchanging = (record { still = λ p within. by_cause p within }, λ more. more.still 160 (omega arith, omega arith) (inr (inl (omega arith, omega arith))))
  where
    by_cause : (p : ℕ) → IsWithin 133 2 p → IsChanging story p → ⊥
    by_cause p within (inl flags) = omega (arith, within.0, flags.1)
    by_cause p within (inr (inl global)) = omega (arith, within.1, global.0)
    by_cause p within (inr (inr state)) = stateless.0 p within state

-- what a run names, and what a list's size bytes are
among : IsAmong memory (Run 4 2) 5 × (IsAmong memory (Run 4 2) 6 → ⊥) × (IsAmong memory (Run 4 2) 3 → ⊥) × IsAmong memory (Sizes 147) 149
among = ((omega arith, omega arith), (λ is. omega (arith, is.1)), (λ is. omega (arith, is.0)), size_places.1)
