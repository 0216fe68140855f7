-- Values of the definitions, computed.
use Rattle.std.proofs.Common.{◌≡◌, ◌↔◌, ◌⊎◌, inl, inr, ℕ, zero, suc, ◌+◌, ◌*◌, ◌<◌, ◌≤◌, Bool, false, List, [], ◌∷◌, ◌++◌, replicate, Some, None, refl, sym, ap, subst, arith, nat_lt, if◌then◌else◌}
use Rattle.std.proofs.lemmas.Bool.{cases_lt, le-ltb}
use Rattle.std.proofs.lemmas.Option.{same_Some}
use Rattle.zstory.specs.Bytes.{word_at}
use Rattle.zstory.specs.Objects.{object_place, property_table}
use Rattle.zstory.specs.Header as headers
use Rattle.zstory.specs.LoadedStory.{LoadedStory, abbreviations}
use Rattle.ztext.specs.Abbreviations.{readable_word}
use Rattle.ztext.specs.Local.{read_length}
use Rattle.zobj.specs.Properties.{data_end, data_length}
use Rattle.zplace.specs.Bytes.{IsHeader, IsWithin, IsChanging, IsSizePlace, here, behind, IsTableFrame, IsOpen, IsClosed, header, a_global, a_default, an_entry, a_property, an_abbreviation, frozen, static}
use Rattle.zplace.specs.Tables.{none_frozen, IsList, ended, longer, IsDataPlace, in_data, in_rest, HasName}
use Rattle.zplace.proofs.Lists.{size_split, one_size_at_end, size_from, size_inside, data_split, no_data_at_end, list_split}

-- ---- bytes

-- the header ends before 64, and both bytes of Flags 2 are none of it
headers_end : IsHeader 15 × IsHeader 18 × IsHeader 63 × (IsHeader 64 → ⊥) × (IsHeader 16 → ⊥) × (IsHeader 17 → ⊥)
headers_end = ((omega arith, λ flags. omega (arith, flags.0)), (omega arith, λ flags. omega (arith, flags.1)), (omega arith, λ flags. omega (arith, flags.1)), (λ inside. omega (arith, inside.0)), (λ inside. inside.1 (omega arith, omega arith)), λ inside. inside.1 (omega arith, omega arith))

none_is_frozen : (none_frozen 0 ≡ false) × (none_frozen 64 ≡ false)
none_is_frozen = (refl, refl)

-- a name of one word, a property of one byte, a property of two, and the end
unfoldable pub table : List ℕ
table = 0x01 ∷ 0x98 ∷ 0xA5 ∷ 0x05 ∷ 0x07 ∷ 0x23 ∷ 0x12 ∷ 0x34 ∷ 0x00 ∷ []

-- The object table is at 64, the globals are at 160, and static memory begins at 656. Both objects have the property table
-- at 144, and there are no abbreviations.
unfoldable pub memory : List ℕ
memory = replicate 10 0 ++ 0 ∷ 64 ∷ 0 ∷ 160 ∷ 2 ∷ 144 ∷ replicate 8 0 ++ 255 ∷ 255 ∷ replicate 107 0 ++ 0 ∷ 144 ∷ replicate 7 0 ++ 0 ∷ 144 ∷ table ++ replicate 7 0 ++ 1 ∷ 2 ∷ 3 ∷ 4 ∷ replicate 596 0

-- two objects, whose entries begin at 126 and at 135
unfoldable pub story : LoadedStory
story = record { memory = memory; objects = 2 }

places : (headers.object_table memory ≡ 64) × (headers.globals memory ≡ 160) × (headers.static_base memory ≡ 656) × (headers.abbreviations memory ≡ 65535) × (object_place memory 1 ≡ 126) × (object_place memory 2 ≡ 135)
unfolding memory table
places = (refl, refl, refl, refl, refl, refl)

-- what holds of both objects
pub of_two : (P : ℕ → Type 0) → P 1 → P 2 → (object : ℕ) → 1 ≤ object → object ≤ 2 → P object
of_two P one two zero some few = absurd (omega (arith, some))
of_two P one two (suc zero) some few = one
of_two P one two (suc (suc zero)) some few = two
of_two P one two (suc (suc (suc k))) some few = absurd (omega (arith, few))

-- what instructions change: Flags 2, the first seven of the nine bytes of each entry, and the globals
changing : (p : ℕ) → IsChanging story p ↔ (IsWithin 16 2 p ⊎ (IsWithin 126 7 p ⊎ (IsWithin 135 7 p ⊎ IsWithin 160 480 p)))
unfolding story memory table
changing p = (there, back)
  where
    of_object : (object : ℕ) → 1 ≤ object → object ≤ 2 → IsWithin (object_place memory object) 7 p → IsWithin 126 7 p ⊎ IsWithin 135 7 p
    of_object = of_two (λ k. IsWithin (object_place memory k) 7 p → IsWithin 126 7 p ⊎ IsWithin 135 7 p) inl inr

    of_either : IsWithin 126 7 p ⊎ IsWithin 135 7 p → IsWithin 16 2 p ⊎ (IsWithin 126 7 p ⊎ (IsWithin 135 7 p ⊎ IsWithin 160 480 p))
    of_either (inl one) = inr (inl one)
    of_either (inr two) = inr (inr (inl two))

    there : IsChanging story p → IsWithin 16 2 p ⊎ (IsWithin 126 7 p ⊎ (IsWithin 135 7 p ⊎ IsWithin 160 480 p))
    there (inl flags) = inl flags
    there (inr (inl within)) = inr (inr (inr within))
    there (inr (inr state)) = of_either (of_object state.object state.first state.last state.inside)

    back : IsWithin 16 2 p ⊎ (IsWithin 126 7 p ⊎ (IsWithin 135 7 p ⊎ IsWithin 160 480 p)) → IsChanging story p
    back (inl flags) = inl flags
    back (inr (inl one)) = inr (inr (record { object = 1; first = omega arith; last = omega arith; inside = one }))
    back (inr (inr (inl two))) = inr (inr (record { object = 2; first = omega arith; last = omega arith; inside = two }))
    back (inr (inr (inr within))) = inr (inl within)

-- ---- property tables

lengths : (data_length 0x05 ≡ 1) × (data_length 0x23 ≡ 2) × (data_length 0xFF ≡ 8)
lengths = (refl, refl, refl)

pub size_places : IsSizePlace memory 147 147 × IsSizePlace memory 149 147 × IsSizePlace memory 152 147
unfolding memory table
size_places = (
  here 147 refl (omega arith),
  behind 147 (λ e. absurd cc) (here 149 refl (omega arith)),
  behind 147 (λ e. absurd cc) (behind 149 (λ e. absurd cc) (here 152 refl (omega arith))),
)

-- there is no other
no_others : (p : ℕ) → IsSizePlace memory p 147 → (p ≡ 147) ⊎ ((p ≡ 149) ⊎ (p ≡ 152))
unfolding memory table
no_others p first = from_second (size_split memory p 147 first)
  where
    from_third : (p ≡ 149) ⊎ IsSizePlace memory p (data_end memory 149) → (p ≡ 147) ⊎ ((p ≡ 149) ⊎ (p ≡ 152))
    from_third (inl e) = inr (inl e)
    from_third (inr more) = inr (inr (one_size_at_end memory p 152 refl more))

    from_second : (p ≡ 147) ⊎ IsSizePlace memory p (data_end memory 147) → (p ≡ 147) ⊎ ((p ≡ 149) ⊎ (p ≡ 152))
    from_second (inl e) = inl e
    from_second (inr more) = from_third (size_split memory p 149 more)

-- the name, the size bytes and the end are its frame, and the data isn't
framed : (p : ℕ) → IsTableFrame memory 144 p ↔ (IsWithin 144 4 p ⊎ ((p ≡ 149) ⊎ (p ≡ 152)))
unfolding memory table
framed p = (there, back)
  where
    there : IsTableFrame memory 144 p → IsWithin 144 4 p ⊎ ((p ≡ 149) ⊎ (p ≡ 152))
    there (inl name) = inl (name.0, omega (arith, name.1))
    there (inr size) = by_place (no_others p size)
      where
        by_place : (p ≡ 147) ⊎ ((p ≡ 149) ⊎ (p ≡ 152)) → IsWithin 144 4 p ⊎ ((p ≡ 149) ⊎ (p ≡ 152))
        by_place (inl e) = inl (omega (arith, e), omega (arith, e))
        by_place (inr later) = inr later

    back : IsWithin 144 4 p ⊎ ((p ≡ 149) ⊎ (p ≡ 152)) → IsTableFrame memory 144 p
    back (inl name) = by_order (cases_lt p 147)
      where
        by_order : (p < 147) ⊎ (147 ≤ p) → IsTableFrame memory 144 p
        by_order (inl low) = inl (name.0, omega (arith, low))
        by_order (inr high) = let same : 147 ≡ p = omega (arith, high, name.1) in inr (subst (λ (k : ℕ). IsSizePlace memory k 147) same size_places.0)
    back (inr (inl e)) = inr (subst (λ (k : ℕ). IsSizePlace memory k 147) (sym e) size_places.1)
    back (inr (inr e)) = inr (subst (λ (k : ℕ). IsSizePlace memory k 147) (sym e) size_places.2)

-- a name of three words, behind which the list ends at once; and of none, where memory does
long_name : List ℕ
long_name = 3 ∷ replicate 7 0 ++ 9 ∷ []

names_framed : IsTableFrame long_name 0 6 × (IsTableFrame long_name 0 8 → ⊥) × (IsTableFrame (0 ∷ []) 0 1 → ⊥)
unfolding long_name
names_framed = (inl (omega arith, omega arith), behind_list, behind_memory)
  where
    behind_list : IsTableFrame long_name 0 8 → ⊥
    behind_list (inl name) = omega (arith, name.1)
    behind_list (inr size) = omega (arith, one_size_at_end long_name 8 7 refl size)

    behind_memory : IsTableFrame (0 ∷ []) 0 1 → ⊥
    behind_memory (inl name) = omega (arith, name.1)
    behind_memory (inr size) = omega (arith, size_inside (0 ∷ []) 1 1 size)

-- nothing is behind a property that memory cuts off
cut : List ℕ
cut = 0x00 ∷ 0x45 ∷ 0x07 ∷ []

cut_places : (p : ℕ) → IsSizePlace cut p 1 → p ≡ 1
unfolding cut
cut_places p first = by_part (size_split cut p 1 first)
  where
    by_part : (p ≡ 1) ⊎ IsSizePlace cut p (data_end cut 1) → p ≡ 1
    by_part (inl e) = e
    by_part (inr more) = let from = size_from cut p 5 more in let inside = size_inside cut p 5 more in absurd (omega (arith, from, inside))

-- ---- what stores may write

pub no_word : (n : ℕ) → readable_word memory (65535 + 2 * n) ≡ None
unfolding memory table
no_word n =
    let outside : nat_lt (65535 + 2 * n + 1) 760 ≡ false = le-ltb (65535 + 2 * n + 1) 760 (omega arith) in
    ap (λ (b : Bool). if b then Some (word_at memory (65535 + 2 * n)) else None) outside

pub same_table : (object : ℕ) → 1 ≤ object → object ≤ 2 → property_table memory object ≡ 144
unfolding memory table
same_table = of_two (λ k. property_table memory k ≡ 144) refl refl

-- in the property table, the data and nothing else
writable : (p : ℕ) → IsWithin 144 9 p → IsOpen story (λ q. false) p ↔ ((p ≡ 148) ⊎ IsWithin 150 2 p)
unfolding story
writable p within = (there, back)
  where
    by_part : (IsWithin 144 4 p ⊎ ((p ≡ 149) ⊎ (p ≡ 152))) ⊎ ((p ≡ 148) ⊎ IsWithin 150 2 p)
    by_part = by_order (cases_lt p 148) (cases_lt p 149) (cases_lt p 150) (cases_lt p 152)
      where
        by_order : (p < 148) ⊎ (148 ≤ p) → (p < 149) ⊎ (149 ≤ p) → (p < 150) ⊎ (150 ≤ p) → (p < 152) ⊎ (152 ≤ p) → (IsWithin 144 4 p ⊎ ((p ≡ 149) ⊎ (p ≡ 152))) ⊎ ((p ≡ 148) ⊎ IsWithin 150 2 p)
        by_order (inl a) b c d = inl (inl (within.0, omega (arith, a)))
        by_order (inr a) (inl b) c d = inr (inl (omega (arith, a, b)))
        by_order (inr a) (inr b) (inl c) d = inl (inr (inl (omega (arith, b, c))))
        by_order (inr a) (inr b) (inr c) (inl d) = inr (inr (c, omega (arith, d)))
        by_order (inr a) (inr b) (inr c) (inr d) = inl (inr (inr (omega (arith, d, within.1))))

    there : IsOpen story (λ q. false) p → (p ≡ 148) ⊎ IsWithin 150 2 p
    there free = by_case by_part
      where
        by_case : (IsWithin 144 4 p ⊎ ((p ≡ 149) ⊎ (p ≡ 152))) ⊎ ((p ≡ 148) ⊎ IsWithin 150 2 p) → (p ≡ 148) ⊎ IsWithin 150 2 p
        by_case (inl frame) =
            let inside = subst (λ (t : ℕ). IsTableFrame memory t p) (sym (same_table 1 (omega arith) (omega arith))) ((framed p).1 frame) in
            absurd (free (a_property (record { object = 1; first = omega arith; last = omega arith; inside = inside })))
        by_case (inr its_data) = its_data

    unframed : (p ≡ 148) ⊎ IsWithin 150 2 p → IsWithin 144 4 p ⊎ ((p ≡ 149) ⊎ (p ≡ 152)) → ⊥
    unframed (inl e) (inl low) = omega (arith, e, low.1)
    unframed (inl e) (inr (inl f)) = omega (arith, e, f)
    unframed (inl e) (inr (inr f)) = omega (arith, e, f)
    unframed (inr w) (inl low) = omega (arith, w.0, low.1)
    unframed (inr w) (inr (inl f)) = omega (arith, w.0, f)
    unframed (inr w) (inr (inr f)) = omega (arith, w.1, f)

    back : (p ≡ 148) ⊎ IsWithin 150 2 p → IsOpen story (λ q. false) p
    back its_data closed = by_cause closed
      where
        by_cause : IsClosed story (λ q. false) p → ⊥
        by_cause (header low) = omega (arith, low.0, within.0)
        by_cause (a_global inside) = let at = places.1 in omega (arith, at, inside.0, within.1)
        by_cause (a_default inside) = let at = places.0 in omega (arith, at, inside.1, within.0)
        by_cause (an_entry entry) = let at = places.0 in omega (arith, at, entry.last, entry.inside.1, within.0)
        by_cause (a_property frame) = unframed its_data ((framed p).0 (subst (λ (t : ℕ). IsTableFrame memory t p) (same_table frame.object frame.first frame.last) frame.inside))
        by_cause (an_abbreviation part) = by_half part.number part.inside
          where
            by_half : (n : ℕ) → IsWithin (abbreviations story + 2 * n) 2 p ⊎ ((word : ℕ) × (readable_word memory (abbreviations story + 2 * n) ≡ Some word) × IsWithin (2 * word) (read_length memory (2 * word)) p) → ⊥
            by_half n (inl word) = let at = places.3 in omega (arith, at, word.0, within.1)
            by_half n (inr (word, found, inside)) = let none = subst (λ (table : ℕ). readable_word memory (table + 2 * n) ≡ None) (sym places.3) (no_word n) in absurd cc
        by_cause (frozen e) = absurd cc
        by_cause (static above) = let at = places.2 in omega (arith, at, above, within.1)

-- ---- property tables that a story may have

-- a list ends below an end, its numbers fall, and none is 0
lists : IsList memory 153 32 147 × (IsList memory 152 32 147 → ⊥) × (IsList memory 153 5 147 → ⊥)
unfolding memory table
lists = (
  longer 32 147 (omega arith) (omega arith) (longer 5 149 (omega arith) (omega arith) (ended 3 152 (omega arith) refl)),
  λ list. of_end (list_split memory 152 5 149 (λ e. absurd cc) (list_split memory 152 32 147 (λ e. absurd cc) list).2).2,
  λ list. let less = (list_split memory 153 5 147 (λ e. absurd cc) list).1 in omega (arith, less),
)
  where
    of_end : IsList memory 152 3 152 → ⊥
    of_end (ended _ _ inside zero_there) = omega (arith, inside)
    of_end (longer _ _ some less rest) = omega (arith, some)

-- a property whose number is 0 isn't one, nor is one with the number of the one before
rising : List ℕ
rising = 0x03 ∷ 0x00 ∷ 0x03 ∷ 0x00 ∷ 0x20 ∷ 0x00 ∷ 0x00 ∷ 0x00 ∷ []

no_lists : (IsList rising 8 32 0 → ⊥) × (IsList rising 8 3 2 → ⊥) × (IsList rising 8 32 4 → ⊥)
unfolding rising
no_lists = (
  λ list. let less = (list_split rising 8 3 2 (λ e. absurd cc) (list_split rising 8 32 0 (λ e. absurd cc) list).2).1 in omega (arith, less),
  λ list. let less = (list_split rising 8 3 2 (λ e. absurd cc) list).1 in omega (arith, less),
  λ list. let some = (list_split rising 8 32 4 (λ e. absurd cc) list).0 in omega (arith, some),
)

-- the data of both properties, and no other byte
its_data : (p : ℕ) → IsDataPlace memory p 147 ↔ ((p ≡ 148) ⊎ IsWithin 150 2 p)
unfolding memory table
its_data p = (λ there. from_first (data_split memory p 147 there), back)
  where
    from_second : IsWithin 150 2 p ⊎ IsDataPlace memory p 152 → (p ≡ 148) ⊎ IsWithin 150 2 p
    from_second (inl inside) = inr inside
    from_second (inr more) = absurd (no_data_at_end memory p 152 refl more)

    from_first : IsWithin 148 1 p ⊎ IsDataPlace memory p 149 → (p ≡ 148) ⊎ IsWithin 150 2 p
    from_first (inl inside) = inl (omega (arith, inside.0, inside.1))
    from_first (inr more) = from_second (data_split memory p 149 more)

    back : (p ≡ 148) ⊎ IsWithin 150 2 p → IsDataPlace memory p 147
    back (inl e) = in_data 147 (λ f. absurd cc) (omega (arith, e), omega (arith, e))
    back (inr inside) = in_rest 147 (λ f. absurd cc) (in_data 149 (λ f. absurd cc) inside)

-- a name of one word ends with it, and one that goes on isn't told so
names : HasName memory 144 × (HasName (1 ∷ 0 ∷ 0 ∷ 0x80 ∷ 0 ∷ []) 0 → ⊥) × HasName (0 ∷ []) 0
unfolding memory table
names = (inr refl, no_name, inl refl)
  where
    no_name : HasName (1 ∷ 0 ∷ 0 ∷ 0x80 ∷ 0 ∷ []) 0 → ⊥
    no_name (inl e) = absurd cc
    no_name (inr e) = let same : 4 ≡ 2 = same_Some 4 2 e in omega (arith, same)
