-- Which bytes of a save are as loaded, part by part.
use Rattle.std.proofs.Common.{◌≡◌, ◌↔◌, ◌⊎◌, inl, inr, ℕ, zero, suc, ◌+◌, ◌*◌, ◌-◌, ◌/◌, ◌<◌, ◌≤◌, Bool, true, false, List, [], ◌∷◌, length, Option, Some, None, refl, sym, subst, arith}
use Rattle.std.specs.Prelude.{All, ◌||◌, ◌≢◌, slice_get, slice_index_or}
use Rattle.std.specs.List.{list_any, AllByRecursion}
use Rattle.std.proofs.lemmas.Bool.{cases_lt}
use Rattle.std.proofs.lemmas.Option.{get_or_from_slice_get, same_Some, slice_get_within}
use Rattle.zstory.specs.Bytes.{byte_at}
use Rattle.zstory.specs.LoadedStory.{LoadedStory, object_table, static_base, abbreviations}
use Rattle.zstory.specs.Objects.{object_place, property_table}
use Rattle.ztext.specs.Abbreviations.{readable_word}
use Rattle.ztext.specs.Local.{read_length}
use Rattle.zobj.specs.Properties.{list_place, data_end}
use Rattle.zcert.specs.declared.parts.Range.{Range}
use Rattle.zplace.specs.Bytes.{IsWithin, IsChanging, IsSizePlace, here, behind, IsTableFrame, IsPropertyFrame, IsAbbreviation, IsClosed, header, a_global, a_default, an_entry, a_property, an_abbreviation, frozen, static}
use Rattle.zplace.proofs.Each.{one_more_below}
use Rattle.zpairs.specs.Frozen.{is_inside, frozen_by}
use Rattle.zobj.specs.declared.tree.Link.TheVariants.{Parent, Sibling, Child}
use Rattle.zjudge.specs.Memory.{IsKept, AreKept, HasLinks}
use Rattle.zjudge.specs.Parts.{IsInText, IsLedTo, IsRangeKept}

pub through : {A B C : Type 0} → A ↔ B → B ↔ C → A ↔ C
through f g = (λ a. g.0 (f.0 a), λ c. f.1 (g.1 c))

-- of each element, by their places and by recursion
each_of : {A : Type 0} (P : A → Type 0) (xs : List A) → All P xs ↔ AllByRecursion P xs
each_of P [] = (λ all. tt, λ each k d less. absurd (omega (arith, less)))
each_of P (x ∷ xs) =
    let rest = each_of P xs in
    (λ all. (all 0 x (omega arith), rest.0 (λ k d less. all (suc k) d (omega (arith, less)))), λ each k d less. by_place (rest.1 each.1) each.0 k d less)
  where
    by_place : All P xs → P x → (k : ℕ) (d : _) → k < length (x ∷ xs) → P (slice_index_or (x ∷ xs) k d)
    by_place all first zero d less = first
    by_place all first (suc k) d less = all k d (omega (arith, less))

-- ---- lists of size bytes

size_split : (memory : List ℕ) (p at : ℕ) → IsSizePlace memory p at → (p ≡ at) ⊎ IsSizePlace memory p (data_end memory at)
size_split memory p at (here _ is inside) = inl is
size_split memory p at (behind _ some rest) = inr rest

one_at_end : (memory : List ℕ) (p at : ℕ) → byte_at memory at ≡ 0 → IsSizePlace memory p at → p ≡ at
one_at_end memory p at end (here _ is inside) = is
one_at_end memory p at end (behind _ some rest) = absurd (some end)

module _ (story : LoadedStory) (saved : List ℕ) where
  -- a byte that differs is one that instructions change
  pub kept_where : (p : ℕ) (changes : Bool) → (changes ≡ true) ↔ IsChanging story p → 64 ≤ p → p < static_base story → (byte_at saved p ≡ byte_at story.memory p → ⊥) → (changes ≡ true) ↔ IsKept story saved p
  kept_where p true is above below differs = (λ t. λ a b unchanging. absurd (unchanging (is.0 t)), λ kept. refl)
  kept_where p false is above below differs = (λ t. absurd cc, λ kept. absurd (differs (kept above below (λ changing. let f = is.1 changing in cc))))

  -- the three bytes of an object's links
  pub links_where : {A : Type 0} (object place : ℕ) → place ≡ object_place story.memory object + 4 → A ↔ ((byte_at saved place ≤ story.objects) × (byte_at saved (place + 1) ≤ story.objects) × (byte_at saved (place + 2) ≤ story.objects)) → A ↔ HasLinks story saved object
  links_where {A} object place at parts = (λ a. each (parts.0 a), λ all. parts.1 (moved (omega (arith, at)) (all Parent), moved (omega (arith, at)) (all Sibling), moved (omega (arith, at)) (all Child)))
    where
      moved : {p q : ℕ} → p ≡ q → byte_at saved p ≤ story.objects → byte_at saved q ≤ story.objects
      moved {p} {q} e small = subst (λ (k : ℕ). byte_at saved k ≤ story.objects) e small

      each : (byte_at saved place ≤ story.objects) × (byte_at saved (place + 1) ≤ story.objects) × (byte_at saved (place + 2) ≤ story.objects) → HasLinks story saved object
      each small Parent = moved (omega (arith, at)) small.0
      each small Sibling = moved (omega (arith, at)) small.1
      each small Child = moved (omega (arith, at)) small.2

  -- so many bytes from a place on, one by one
  pub run_more : (from at : ℕ) → ((p : ℕ) → from ≤ p → p < at → IsKept story saved p) → IsKept story saved at → (p : ℕ) → from ≤ p → p < at + 1 → IsKept story saved p
  run_more from at each next p low high = by_order (cases_lt p at)
    where
      by_order : (p < at) ⊎ (at ≤ p) → IsKept story saved p
      by_order (inl l) = each p low l
      by_order (inr g) = let same : at ≡ p = omega (arith, g, high) in subst (IsKept story saved) same next

  pub sizes_more : (at end : ℕ) → byte_at story.memory at ≢ 0 → end ≡ data_end story.memory at → at < length story.memory → AreKept story saved (λ p. IsSizePlace story.memory p at) ↔ (IsKept story saved at × AreKept story saved (λ p. IsSizePlace story.memory p end))
  sizes_more at end some is inside = (
    λ all. (all at (here at refl inside), λ p there. all p (behind at some (subst (IsSizePlace story.memory p) is there))),
    λ parts p there. by parts p (size_split story.memory p at there),
  )
    where
      by : IsKept story saved at × AreKept story saved (λ p. IsSizePlace story.memory p end) → (p : ℕ) → (p ≡ at) ⊎ IsSizePlace story.memory p (data_end story.memory at) → IsKept story saved p
      by parts p (inl same) = subst (IsKept story saved) (sym same) parts.0
      by parts p (inr rest) = parts.1 p (subst (IsSizePlace story.memory p) (sym is) rest)

  pub sizes_last : (at : ℕ) → byte_at story.memory at ≡ 0 → static_base story ≤ length story.memory → AreKept story saved (λ p. IsSizePlace story.memory p at) ↔ IsKept story saved at
  sizes_last at end within = (
    λ all. by (cases_lt at (length story.memory)) all,
    λ one p there. subst (IsKept story saved) (sym (one_at_end story.memory p at end there)) one,
  )
    where
      by : (at < length story.memory) ⊎ (length story.memory ≤ at) → AreKept story saved (λ p. IsSizePlace story.memory p at) → IsKept story saved at
      by (inl inside) all = all at (here at refl inside)
      by (inr outside) all = λ above below unchanging. absurd (omega (arith, outside, below, within))

  -- ---- tables

  pub frames_where : AreKept story saved (IsPropertyFrame story) ↔ ((object : ℕ) → 1 ≤ object → object ≤ story.objects → AreKept story saved (IsTableFrame story.memory (property_table story.memory object)))
  frames_where = (
    λ all object first last p inside. all p (record { object = object; first = first; last = last; inside = inside }),
    λ each p frame. each frame.object frame.first frame.last p frame.inside,
  )

  pub frame_where : (table : ℕ) → AreKept story saved (IsTableFrame story.memory table) ↔ (AreKept story saved (IsWithin table (1 + 2 * byte_at story.memory table)) × AreKept story saved (λ p. IsSizePlace story.memory p (list_place story.memory table)))
  frame_where table = ((λ all. (λ p inside. all p (inl inside), λ p there. all p (inr there))), by)
    where
      by : AreKept story saved (IsWithin table (1 + 2 * byte_at story.memory table)) × AreKept story saved (λ p. IsSizePlace story.memory p (list_place story.memory table)) → AreKept story saved (IsTableFrame story.memory table)
      by both p (inl inside) = both.0 p inside
      by both p (inr there) = both.1 p there

  -- the same, by what is read of a memory that is the same
  pub frame_read : (read : List ℕ) (table words list : ℕ) → read ≡ story.memory → words ≡ byte_at read table → list ≡ list_place read table → AreKept story saved (IsTableFrame story.memory table) ↔ (AreKept story saved (IsWithin table (1 + 2 * words)) × AreKept story saved (λ p. IsSizePlace story.memory p list))
  frame_read read table words list same counted at =
      let here : words ≡ byte_at story.memory table = subst (λ (m : List ℕ). words ≡ byte_at m table) same counted in
      let there : list ≡ list_place story.memory table = subst (λ (m : List ℕ). list ≡ list_place m table) same at in
      let parts = frame_where table in (
        λ all. (λ p inside. (parts.0 all).0 p (inside.0, omega (arith, inside.1, here)), λ p size. (parts.0 all).1 p (subst (IsSizePlace story.memory p) there size)),
        λ both. parts.1 (λ p inside. both.0 p (inside.0, omega (arith, inside.1, here)), λ p size. both.1 p (subst (IsSizePlace story.memory p) (sym there) size)),
      )

  -- ---- abbreviations

  in_text : (found : Option ℕ) (p word : ℕ) → found ≡ Some word → IsWithin (2 * word) (read_length story.memory (2 * word)) p → IsInText story.memory found p
  in_text None p word e inside = absurd cc
  in_text (Some w) p word e inside = subst (λ (v : ℕ). IsWithin (2 * v) (read_length story.memory (2 * v)) p) (sym (same_Some w word e)) inside

  led : (found : Option ℕ) (p : ℕ) → IsInText story.memory found p → (word : ℕ) × (found ≡ Some word) × IsWithin (2 * word) (read_length story.memory (2 * word)) p
  led None p h = absurd h
  led (Some w) p h = (w, refl, h)

  pub abbreviations_where : AreKept story saved (IsAbbreviation story) ↔ ((number : ℕ) → number < 96 → AreKept story saved (IsLedTo story.memory (abbreviations story + 2 * number)))
  abbreviations_where = (there, λ each p its. back each p its.number its.last its.inside)
    where
      there : AreKept story saved (IsAbbreviation story) → (number : ℕ) → number < 96 → AreKept story saved (IsLedTo story.memory (abbreviations story + 2 * number))
      there all number few p (inl inside) = all p (record { number = number; last = few; inside = inl inside })
      there all number few p (inr inside) = all p (record { number = number; last = few; inside = inr (led (readable_word story.memory (abbreviations story + 2 * number)) p inside) })

      back : ((number : ℕ) → number < 96 → AreKept story saved (IsLedTo story.memory (abbreviations story + 2 * number))) → (p number : ℕ) → number < 96 → (IsWithin (abbreviations story + 2 * number) 2 p ⊎ ((word : ℕ) × (readable_word story.memory (abbreviations story + 2 * number) ≡ Some word) × IsWithin (2 * word) (read_length story.memory (2 * word)) p)) → IsKept story saved p
      back each p number few (inl inside) = each number few p (inl inside)
      back each p number few (inr (word, found, inside)) = each number few p (inr (in_text (readable_word story.memory (abbreviations story + 2 * number)) p word found inside))

  pub text_where : (word place size : ℕ) → place ≡ 2 * word → size ≡ read_length story.memory place → AreKept story saved (IsWithin place size) ↔ AreKept story saved (IsInText story.memory (Some word))
  text_where word place size at long =
      let same : size ≡ read_length story.memory (2 * word) = subst (λ (p : ℕ). size ≡ read_length story.memory p) at long in (
        λ all p inside. all p (omega (arith, at, inside.0), omega (arith, at, same, inside.1)),
        λ all p inside. all p (omega (arith, at, inside.0), omega (arith, at, same, inside.1)),
      )

  pub led_where : (entry : ℕ) → AreKept story saved (IsLedTo story.memory entry) ↔ (AreKept story saved (IsWithin entry 2) × AreKept story saved (IsInText story.memory (readable_word story.memory entry)))
  led_where entry = ((λ all. (λ p inside. all p (inl inside), λ p there. all p (inr there))), by)
    where
      by : AreKept story saved (IsWithin entry 2) × AreKept story saved (IsInText story.memory (readable_word story.memory entry)) → AreKept story saved (IsLedTo story.memory entry)
      by both p (inl inside) = both.0 p inside
      by both p (inr there) = both.1 p there

  -- ---- ranges

  or_left : (a b : Bool) → a ≡ true → (a || b) ≡ true
  or_left true b e = refl
  or_left false b e = absurd cc

  or_right : (a b : Bool) → b ≡ true → (a || b) ≡ true
  or_right true b e = refl
  or_right false b e = e

  none_in : (p : ℕ) → list_any (is_inside p) [] ≡ true → ⊥
  none_in p e = cc

  each_range : (ranges : List Range) → AllByRecursion (IsRangeKept story saved) ranges ↔ AreKept story saved (λ p. list_any (is_inside p) ranges ≡ true)
  each_range [] = (λ t p e. absurd (none_in p e), λ all. tt)
  each_range (r ∷ ranges) =
      let rest = each_range ranges in (
        λ each p e. by_first p (rest.0 each.1 p) each.0 (is_inside p r) refl e,
        λ all. (record { kept = λ p e. all p (or_left (is_inside p r) (list_any (is_inside p) ranges) e) }, rest.1 (λ p e. all p (or_right (is_inside p r) (list_any (is_inside p) ranges) e))),
      )
    where
      by_first : (p : ℕ) → (list_any (is_inside p) ranges ≡ true → IsKept story saved p) → IsRangeKept story saved r → (b : Bool) → is_inside p r ≡ b → (b || list_any (is_inside p) ranges) ≡ true → IsKept story saved p
      by_first p rest own true is e = own.kept p is
      by_first p rest own false is e = rest e

  pub ranges_where : (ranges : List Range) → All (IsRangeKept story saved) ranges ↔ AreKept story saved (λ p. frozen_by ranges p ≡ true)
  ranges_where ranges = through (each_of (IsRangeKept story saved) ranges) (each_range ranges)

  -- one range after another
  pub ranges_more : (ranges : List Range) (n : ℕ) → ((k : ℕ) → k < n → (d : Range) → IsRangeKept story saved (slice_index_or ranges k d)) → {r : Range} → IsRangeKept story saved r → slice_get ranges n ≡ Some r → (k : ℕ) → k < n + 1 → (d : Range) → IsRangeKept story saved (slice_index_or ranges k d)
  ranges_more ranges n each {r} own found =
      one_more_below (λ k. (d : Range) → IsRangeKept story saved (slice_index_or ranges k d)) n each (λ d. subst (IsRangeKept story saved) (sym (get_or_from_slice_get ranges n r d found)) own)

  pub range_at : (ranges : List Range) (n : ℕ) {r : Range} → slice_get ranges n ≡ Some r → All (IsRangeKept story saved) ranges → IsRangeKept story saved r
  range_at ranges n {r} found all = subst (IsRangeKept story saved) (get_or_from_slice_get ranges n r r found) (all n r (slice_get_within ranges n r found))

  -- ---- all that is closed

  pub closed_where : (ranges : List Range) → AreKept story saved (IsClosed story (frozen_by ranges)) ↔ (AreKept story saved (IsWithin (object_table story) (62 + 9 * story.objects)) × AreKept story saved (IsPropertyFrame story) × AreKept story saved (IsAbbreviation story) × AreKept story saved (λ p. frozen_by ranges p ≡ true))
  closed_where ranges = (
    λ all. (λ p inside. all p (in_table p inside), λ p frame. all p (a_property frame), λ p text. all p (an_abbreviation text), λ p is. all p (frozen is)),
    λ parts p closed. by parts p closed,
  )
    where
      in_table : (p : ℕ) → IsWithin (object_table story) (62 + 9 * story.objects) p → IsClosed story (frozen_by ranges) p
      in_table p inside = by_order (cases_lt p (object_table story + 62))
        where
          by_order : (p < object_table story + 62) ⊎ (object_table story + 62 ≤ p) → IsClosed story (frozen_by ranges) p
          by_order (inl low) = a_default (inside.0, low)
          by_order (inr high) = an_entry (record { object = (p - (object_table story + 62)) / 9 + 1; first = omega arith; last = omega (arith, inside.1, high); inside = (omega (arith, high), omega (arith, high)) })

      by : AreKept story saved (IsWithin (object_table story) (62 + 9 * story.objects)) × AreKept story saved (IsPropertyFrame story) × AreKept story saved (IsAbbreviation story) × AreKept story saved (λ p. frozen_by ranges p ≡ true) → (p : ℕ) → IsClosed story (frozen_by ranges) p → IsKept story saved p
      by parts p (header h) = λ above below unchanging. absurd (omega (arith, h.0, above))
      by parts p (a_global within) = λ above below unchanging. absurd (unchanging (inr (inl within)))
      by parts p (a_default within) = parts.0 p (within.0, omega (arith, within.1))
      by parts p (an_entry entry) = parts.0 p (omega (arith, entry.inside.0, entry.first), omega (arith, entry.inside.1, entry.first, entry.last))
      by parts p (a_property frame) = parts.1 p frame
      by parts p (an_abbreviation text) = parts.2 p text
      by parts p (frozen is) = parts.3 p is
      by parts p (static from) = λ above below unchanging. absurd (omega (arith, from, below))
