-- What holds of each object, of each part of a table and of each abbreviation.
use Rattle.std.proofs.Common.{◌≡◌, ◌↔◌, ◌⊎◌, inl, inr, ℕ, ◌+◌, ◌*◌, ◌-◌, ◌/◌, ◌<◌, ◌≤◌, List, length, Some, None, refl, sym, subst, ◌∙◌, arith}
use Rattle.std.specs.Prelude.{min}
use Rattle.std.proofs.lemmas.Bool.{cases_lt, lt-ltb, le-ltb}
use Rattle.std.proofs.lemmas.Option.{same_Some}
use Rattle.zstory.specs.Bytes.{byte_at, word_at}
use Rattle.zstory.specs.LoadedStory.{LoadedStory, object_table, static_base, abbreviations}
use Rattle.zstory.specs.Objects.{property_table}
use Rattle.ztext.specs.Abbreviations.{readable_word}
use Rattle.ztext.specs.Local.{read_length}
use Rattle.zobj.specs.Properties.{list_place}
use Rattle.zplace.specs.Bytes.{IsWithin, IsChanging, IsSizePlace, IsTableFrame, IsPropertyFrame, IsAbbreviation, IsClosed, header, a_global, a_default, an_entry, a_property, an_abbreviation, frozen, static}
use Rattle.zplace.specs.Tables.{IsPropertyTable, IsPropertyData, HasPropertyTables, none_frozen}
use Rattle.zplace.specs.declared.places.Places.{Places}
use Rattle.zplace.specs.declared.places.Places.TheVariants.{Run}
use Rattle.zplace.specs.Places.{MeetsNoData, LeavesData, TextLeavesData, AbbreviationLeavesData, AreDataApart}
use Rattle.zplace.proofs.Lists.{data_behind, data_inside}

-- of one more
pub one_more : (P : ℕ → Type 0) (below : ℕ) → ((object : ℕ) → 1 ≤ object → object ≤ below → P object) → P (below + 1) → (object : ℕ) → 1 ≤ object → object ≤ below + 1 → P object
one_more P below each next object first last = by_order (cases_lt object (below + 1))
  where
    by_order : (object < below + 1) ⊎ (below + 1 ≤ object) → P object
    by_order (inl low) = each object first (omega (arith, low))
    by_order (inr high) = let same : below + 1 ≡ object = omega (arith, high, last) in subst P same next

pub one_more_below : (P : ℕ → Type 0) (below : ℕ) → ((number : ℕ) → number < below → P number) → P below → (number : ℕ) → number < below + 1 → P number
one_more_below P below each next number last = by_order (cases_lt number below)
  where
    by_order : (number < below) ⊎ (below ≤ number) → P number
    by_order (inl low) = each number low
    by_order (inr high) = let same : below ≡ number = omega (arith, high, last) in subst P same next

module _ (story : LoadedStory) where
  -- data, object by object
  pub leaves_where : (places : Places) → LeavesData story places ↔ ((object : ℕ) → 1 ≤ object → object ≤ story.objects → MeetsNoData story.memory places (list_place story.memory (property_table story.memory object)))
  leaves_where places = (
    λ leaves object first last p among inside. leaves p among (record { object = object; first = first; last = last; inside = inside }),
    λ each p among its. each its.object its.first its.last p among its.inside,
  )

  -- what tables are beside data, object by object
  pub frames_where : (S : ℕ → Type 0) → ((p : ℕ) → IsPropertyFrame story p → S p → ⊥) ↔ ((object : ℕ) → 1 ≤ object → object ≤ story.objects → (p : ℕ) → IsTableFrame story.memory (property_table story.memory object) p → S p → ⊥)
  frames_where S = (
    λ all object first last p inside. all p (record { object = object; first = first; last = last; inside = inside }),
    λ each p frame. each frame.object frame.first frame.last p frame.inside,
  )

  -- that of one object by where its table is, and that of one more
  module _ (S : ℕ → Type 0) (below table : ℕ) (at : table ≡ property_table story.memory (below + 1)) where
    pub frame_of : below < story.objects → ((p : ℕ) → IsPropertyFrame story p → S p → ⊥) → (p : ℕ) → IsTableFrame story.memory table p → S p → ⊥
    frame_of more all = subst (λ (k : ℕ). (p : ℕ) → IsTableFrame story.memory k p → S p → ⊥) (sym at) ((frames_where S).0 all (below + 1) (omega arith) (omega (arith, more)))

    pub frames_more : ((object : ℕ) → 1 ≤ object → object ≤ below → (p : ℕ) → IsTableFrame story.memory (property_table story.memory object) p → S p → ⊥) → ((p : ℕ) → IsTableFrame story.memory table p → S p → ⊥) → (object : ℕ) → 1 ≤ object → object ≤ below + 1 → (p : ℕ) → IsTableFrame story.memory (property_table story.memory object) p → S p → ⊥
    frames_more each next = one_more (λ object. (p : ℕ) → IsTableFrame story.memory (property_table story.memory object) p → S p → ⊥) below each (subst (λ (k : ℕ). (p : ℕ) → IsTableFrame story.memory k p → S p → ⊥) at next)

  -- and part by part
  pub frame_where : (S : ℕ → Type 0) (table size list : ℕ) → size ≡ 1 + 2 * byte_at story.memory table → list ≡ list_place story.memory table → ((p : ℕ) → IsTableFrame story.memory table p → S p → ⊥) ↔ (((p : ℕ) → IsWithin table size p → S p → ⊥) × ((p : ℕ) → IsSizePlace story.memory p list → S p → ⊥))
  frame_where S table size list long at = (
    λ all. (λ p inside. all p (inl (inside.0, omega (arith, inside.1, long))), λ p is_size. all p (inr (subst (IsSizePlace story.memory p) at is_size))),
    by_part,
  )
    where
      by_part : ((p : ℕ) → IsWithin table size p → S p → ⊥) × ((p : ℕ) → IsSizePlace story.memory p list → S p → ⊥) → (p : ℕ) → IsTableFrame story.memory table p → S p → ⊥
      by_part both p (inl inside) = both.0 p (inside.0, omega (arith, inside.1, long))
      by_part both p (inr is_size) = both.1 p (subst (IsSizePlace story.memory p) (sym at) is_size)

  -- the same, by what is read of a memory that is the same
  pub frame_read : (S : ℕ → Type 0) (read : List ℕ) (table words list : ℕ) → read ≡ story.memory → words ≡ byte_at read table → list ≡ list_place read table → ((p : ℕ) → IsTableFrame story.memory table p → S p → ⊥) ↔ (((p : ℕ) → IsWithin table (1 + 2 * words) p → S p → ⊥) × ((p : ℕ) → IsSizePlace story.memory p list → S p → ⊥))
  frame_read S read table words list same counted at =
      let here : words ≡ byte_at story.memory table = subst (λ (m : List ℕ). words ≡ byte_at m table) same counted in
      frame_where S table (1 + 2 * words) list (omega (arith, here)) (subst (λ (m : List ℕ). list ≡ list_place m table) same at)

  -- a text by where it lies
  pub text_where : (read : List ℕ) (entry place size : ℕ) → read ≡ story.memory → entry + 1 < min (length read) 65536 → place ≡ 2 * word_at read entry → size ≡ read_length read place → LeavesData story (Run place size) ↔ TextLeavesData story entry
  text_where read entry place size same inside at long =
      let within : entry + 1 < min (length story.memory) 65536 = subst (λ (m : List ℕ). entry + 1 < min (length m) 65536) same inside in
      let at_word : place ≡ 2 * word_at story.memory entry = subst (λ (m : List ℕ). place ≡ 2 * word_at m entry) same at in
      let long_there : size ≡ read_length story.memory (2 * word_at story.memory entry) = subst (λ (k : ℕ). size ≡ read_length story.memory k) at_word (subst (λ (m : List ℕ). size ≡ read_length m place) same long) in
      let found : readable_word story.memory entry ≡ Some (word_at story.memory entry) = readable within in (
        λ leaves p word is_word there. leaves p (of_word at_word long_there p word (same_Some word (word_at story.memory entry) (sym is_word ∙ found)) there),
        λ leaves p there. leaves p (word_at story.memory entry) found (omega (arith, at_word, there.0), omega (arith, at_word, long_there, there.1)),
      )
    where
      readable : entry + 1 < min (length story.memory) 65536 → readable_word story.memory entry ≡ Some (word_at story.memory entry)
      readable within = let e = lt-ltb (entry + 1) (min (length story.memory) 65536) within in rw e refl

      of_word : place ≡ 2 * word_at story.memory entry → size ≡ read_length story.memory (2 * word_at story.memory entry) → (p word : ℕ) → word ≡ word_at story.memory entry → IsWithin (2 * word) (read_length story.memory (2 * word)) p → IsWithin place size p
      of_word at_word long_there p word is there =
          let here = subst (λ (w : ℕ). IsWithin (2 * w) (read_length story.memory (2 * w)) p) is there in
          (omega (arith, at_word, here.0), omega (arith, at_word, long_there, here.1))

  pub no_text_where : (read : List ℕ) (entry : ℕ) → read ≡ story.memory → min (length read) 65536 ≤ entry + 1 → TextLeavesData story entry
  no_text_where read entry same outside p word is_word there =
      let beyond : min (length story.memory) 65536 ≤ entry + 1 = subst (λ (m : List ℕ). min (length m) 65536 ≤ entry + 1) same outside in
      let e = le-ltb (entry + 1) (min (length story.memory) 65536) beyond in
      let none : readable_word story.memory entry ≡ None = rw e refl in
      absurd (no_Some word (sym is_word ∙ none))
    where
      no_Some : (w : ℕ) → Some w ≡ None → ⊥
      no_Some w e = cc

  -- abbreviations, number by number
  pub abbreviations_where : ((p : ℕ) → IsAbbreviation story p → IsPropertyData story p → ⊥) ↔ ((number : ℕ) → number < 96 → AbbreviationLeavesData story number)
  abbreviations_where = (
    λ all number few. record {
      entry = λ p inside. all p (record { number = number; last = few; inside = inl inside });
      text = λ p word found inside. all p (record { number = number; last = few; inside = inr (word, found, inside) });
    },
    λ each p abbreviation. by_part (each abbreviation.number abbreviation.last) p abbreviation.inside,
  )
    where
      by_part : {number : ℕ} → AbbreviationLeavesData story number → (p : ℕ) → IsWithin (abbreviations story + 2 * number) 2 p ⊎ ((word : ℕ) × (readable_word story.memory (abbreviations story + 2 * number) ≡ Some word) × IsWithin (2 * word) (read_length story.memory (2 * word)) p) → IsPropertyData story p → ⊥
      by_part leaves p (inl inside) = leaves.entry p inside
      by_part leaves p (inr (word, found, inside)) = leaves.text p word found inside

  -- data that lie apart from all else are neither changed nor closed, and the other way round
  module _ (tables : (object : ℕ) → 1 ≤ object → object ≤ story.objects → IsPropertyTable story (property_table story.memory object)) where
    above : (p : ℕ) → IsPropertyData story p → 64 ≤ p
    above p its =
        let low = (tables its.object its.first its.last).above in
        let behind_list = data_behind story.memory p (list_place story.memory (property_table story.memory its.object)) its.inside in
        omega (arith, low, behind_list)

    below : (p : ℕ) → IsPropertyData story p → p < static_base story
    below p its = data_inside story.memory (static_base story) 32 (list_place story.memory (property_table story.memory its.object)) p (tables its.object its.first its.last).listed its.inside

    still : AreDataApart story → (p : ℕ) → IsPropertyData story p → IsChanging story p → ⊥
    still apart p its (inl flags) = let high = above p its in omega (arith, high, flags.1)
    still apart p its (inr (inl global)) = apart.of_globals p global its
    still apart p its (inr (inr state)) =
        apart.of_objects p (omega (arith, state.first, state.inside.0), omega (arith, state.first, state.last, state.inside.1)) its

    is_open : AreDataApart story → (p : ℕ) → IsPropertyData story p → IsClosed story none_frozen p → ⊥
    is_open apart p its (header low) = let high = above p its in omega (arith, high, low.0)
    is_open apart p its (a_global inside) = apart.of_globals p inside its
    is_open apart p its (a_default inside) = apart.of_objects p (inside.0, omega (arith, inside.1)) its
    is_open apart p its (an_entry entry) = apart.of_objects p (omega (arith, entry.first, entry.inside.0), omega (arith, entry.first, entry.last, entry.inside.1)) its
    is_open apart p its (a_property frame) = apart.of_frames p frame its
    is_open apart p its (an_abbreviation abbreviation) = apart.of_abbreviations p abbreviation its
    is_open apart p its (frozen e) = absurd cc
    is_open apart p its (static high) = let low = below p its in omega (arith, low, high)

    pub apart_where : AreDataApart story ↔ (((p : ℕ) → IsPropertyData story p → IsChanging story p → ⊥) × ((p : ℕ) → IsPropertyData story p → IsClosed story none_frozen p → ⊥))
    apart_where = (
      λ apart. (still apart, is_open apart),
      λ both. record {
        of_globals = λ p inside its. both.1 p its (a_global inside);
        of_objects = λ p inside its. of_entries both.1 p inside its (cases_lt p (object_table story + 62));
        of_abbreviations = λ p abbreviation its. both.1 p its (an_abbreviation abbreviation);
        of_frames = λ p frame its. both.1 p its (a_property frame);
      },
    )
      where
        of_entries : ((p : ℕ) → IsPropertyData story p → IsClosed story none_frozen p → ⊥) → (p : ℕ) → IsWithin (object_table story) (62 + 9 * story.objects) p → IsPropertyData story p → (p < object_table story + 62) ⊎ (object_table story + 62 ≤ p) → ⊥
        of_entries none p inside its (inl low) = none p its (a_default (inside.0, low))
        of_entries none p inside its (inr high) = none p its (an_entry (record {
          object = (p - (object_table story + 62)) / 9 + 1;
          first = omega arith;
          last = omega (arith, high, inside.1);
          inside = (omega (arith, high), omega (arith, high));
        }))

    pub has_where : (((p : ℕ) → IsPropertyFrame story p → IsChanging story p → ⊥) × AreDataApart story) ↔ HasPropertyTables story
    has_where = (
      λ both. record { tables = tables; frames_still = both.0; data_still = (apart_where.0 both.1).0; data_open = (apart_where.0 both.1).1 },
      λ has. (has.frames_still, apart_where.1 (has.data_still, has.data_open)),
    )
