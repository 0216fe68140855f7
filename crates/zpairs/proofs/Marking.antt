-- Marks of closed bytes.
use Rattle.std.proofs.Common.{◌≡◌, ◌⊎◌, inl, inr, ℕ, suc, ◌+◌, ◌*◌, ◌<◌, ◌≤◌, Bool, true, false, ◌&&◌, ◌||◌, not, ◌==◌, min, List, [], length, refl, sym, subst, ap, ◌∙◌, arith}
use Rattle.std.specs.Prelude.{nat_le, nat_lt, max}
use Rattle.std.proofs.lemmas.Bool.{cases_lt, le-leb, or_right}
use Rattle.zstory.specs.Bytes.{byte_at}
use Rattle.zstory.specs.LoadedStory.{LoadedStory, globals, object_table, static_base, abbreviations, IsSound}
use Rattle.zstory.specs.Objects.{IsObjectCount, object_place, property_table}
use Rattle.zobj.specs.Properties.{data_end}
use Rattle.zdomain.specs.Marks.{is_marked}
use Rattle.zpairs.specs.Frozen.{AreMarked, FrozenStory, frozen_by}
use Rattle.zpairs.specs.Fixed.{AreClosed, AreFixed, AreMarkedBelow, AreMarkedToo, any_below, is_changing, is_closed, is_fixed, is_flags, is_in_abbreviation, is_in_frame, is_size_place, is_within}
use Rattle.zpairs.proofs.Telling.{size_is, changing_is, static_unchanging}

-- two questions that are answered alike
same_answer : (a b : Bool) → (a ≡ true → b ≡ true) → (b ≡ true → a ≡ true) → a ≡ b
same_answer true b there back = sym (there refl)
same_answer false true there back = back refl
same_answer false false there back = refl

not_true : (b : Bool) → (b ≡ true → ⊥) → b ≡ false
not_true true none = absurd (none refl)
not_true false none = refl

or_false : (b : Bool) → b ≡ (b || false)
or_false true = refl
or_false false = refl

or_again : (a b c : Bool) → ((a || b) || c) ≡ (a || (b || c))
or_again true b c = refl
or_again false b c = refl

-- ---- places side by side

low : (from p place : ℕ) → p < from → nat_le from p ≡ false
low from p place below = grind (arith, below)

-- of a piece, as far as it has byte addresses
pub marked_whole : (from size place p : ℕ) → min (from + size) 65536 ≤ place → place ≤ max from (min (from + size) 65536) → p < 65536 → (nat_le from p && nat_lt p place) ≡ is_within from size p
marked_whole from size place p behind before word = by_order (cases_lt p from)
  where
    same : from ≤ p → nat_lt p place ≡ nat_lt p (from + size)
    same above = elim (cases_lt p (from + size)) [ inl within ↦ inside p place (from + size) (omega (arith, within, behind, word)) within | inr beyond ↦ outside p place (from + size) (omega (arith, above, before, beyond)) beyond ]
      where
        outside : (p place end : ℕ) → place ≤ p → end ≤ p → nat_lt p place ≡ nat_lt p end
        outside p place end h k = grind (arith, h, k)

        inside : (p place end : ℕ) → p < place → p < end → nat_lt p place ≡ nat_lt p end
        inside p place end h k = grind (arith, h, k)

    by_order : (p < from) ⊎ (from ≤ p) → (nat_le from p && nat_lt p place) ≡ is_within from size p
    by_order (inl below) = let e = low from p place below in rw e refl
    by_order (inr above) = ap (λ (b : Bool). nat_le from p && b) (same above)

-- ---- one after the other

pub then_marked : (end : ℕ) (before middle after : List ℕ) (f g : ℕ → Bool) → AreMarkedBelow end before middle f → AreMarkedBelow end middle after g → AreMarkedBelow end before after (λ p. f p || g p)
then_marked end before middle after f g first second p word = second p word ∙ ap (λ (b : Bool). b || g p) (first p word) ∙ or_again (is_marked before p) (f p) (g p)

pub none_more : (end : ℕ) (marks : List ℕ) (n : ℕ) (f : ℕ → ℕ → Bool) → n ≡ 0 → AreMarkedBelow end marks marks (λ p. any_below n (f p))
unfolding any_below
none_more end marks n f none = subst (λ (k : ℕ). AreMarkedBelow end marks marks (λ p. any_below k (f p))) (sym none) (λ p word. or_false (is_marked marks p))

pub one_more_marked : (end : ℕ) (before middle after : List ℕ) (n : ℕ) (f : ℕ → ℕ → Bool) → AreMarkedBelow end before middle (λ p. any_below n (f p)) → AreMarkedBelow end middle after (λ p. f p n) → AreMarkedBelow end before after (λ p. any_below (n + 1) (f p))
unfolding any_below
one_more_marked end before middle after n f so_far next = let one : suc n ≡ n + 1 = omega arith in subst (λ (k : ℕ). AreMarkedBelow end before after (λ p. any_below k (f p))) one (then_marked end before middle after (λ p. any_below n (f p)) (λ p. f p n) so_far next)

-- ---- the header

pub header_where : (p : ℕ) → (is_within 0 16 p || is_within 18 46 p) ≡ (nat_lt p 64 && not (is_flags p))
header_where p = grind (arith)

-- ---- size bytes

module _ (memory : List ℕ) (at p : ℕ) where
  -- the first of them, and the others
  size_step : is_size_place (length memory) memory at p ≡ (((p == at) && nat_lt p (length memory)) || (not (byte_at memory at == 0) && is_size_place (length memory) memory (data_end memory at) p))
  unfolding is_size_place
  size_step = let one = size_is memory p (length memory) at (omega arith) in let more = size_is memory p (suc (length memory)) at (omega arith) in same_answer (is_size_place (length memory) memory at p) (is_size_place (suc (length memory)) memory at p) (λ e. more.1 (one.0 e)) (λ e. one.1 (more.0 e))

  here_within : at < length memory → ((p == at) && nat_lt p (length memory)) ≡ is_within at 1 p
  here_within inside = grind (arith, inside)

  here_outside : length memory ≤ at → ((p == at) && nat_lt p (length memory)) ≡ false
  here_outside outside = grind (arith, outside)

  zero_there : byte_at memory at ≡ 0 → not (byte_at memory at == 0) ≡ false
  zero_there e = grind (arith, e)

  some_there : (byte_at memory at ≡ 0 → ⊥) → not (byte_at memory at == 0) ≡ true
  some_there e = grind (arith, e)

  pub size_passed : (end : ℕ) (before after : Bool) → (byte_at memory at ≡ 0 → ⊥) → end ≡ data_end memory at → at < length memory → after ≡ (before || is_within at 1 p) → (after || is_size_place (length memory) memory end p) ≡ (before || is_size_place (length memory) memory at p)
  size_passed end before after some is inside e =
      let here = here_within inside in
      let there = some_there some in
      ap (λ (b : Bool). b || is_size_place (length memory) memory end p) e
      ∙ or_again before (is_within at 1 p) (is_size_place (length memory) memory end p)
      ∙ ap (λ (b : Bool). before || b) (ap (λ (k : ℕ). is_within at 1 p || is_size_place (length memory) memory k p) is ∙ sym (size_step ∙ rw (here, there) refl))

  pub last_size : (before after : Bool) → byte_at memory at ≡ 0 → at < length memory → after ≡ (before || is_within at 1 p) → after ≡ (before || is_size_place (length memory) memory at p)
  last_size before after end inside e = let here = here_within inside in let there = zero_there end in e ∙ ap (λ (b : Bool). before || b) (sym (size_step ∙ rw (here, there) (sym (or_false (is_within at 1 p)))))

  pub no_size : (before : Bool) → byte_at memory at ≡ 0 → length memory ≤ at → before ≡ (before || is_size_place (length memory) memory at p)
  no_size before end outside = let here = here_outside outside in let there = zero_there end in or_false before ∙ ap (λ (b : Bool). before || b) (sym (size_step ∙ rw (here, there) refl))

-- ---- all that is closed

or_true : (b : Bool) → (b || true) ≡ true
or_true true = refl
or_true false = refl

pub same_piece : (before after : List ℕ) (from size first long : ℕ) → from ≡ first → size ≡ long → AreMarkedToo before after (is_within from size) → AreMarkedToo before after (is_within first long)
same_piece before after from size first long at wide marked = subst (λ (k : ℕ). AreMarkedToo before after (is_within k long)) at (subst (λ (k : ℕ). AreMarkedToo before after (is_within from k)) wide marked)

pub same_table : (before after : List ℕ) (read memory : List ℕ) (table first end base : ℕ) → read ≡ memory → table ≡ first → end ≡ base → AreMarkedBelow end before after (λ p. any_below 96 (λ n. is_in_abbreviation read table n p)) → AreMarkedBelow base before after (λ p. any_below 96 (λ n. is_in_abbreviation memory first n p))
same_table before after read memory table first end base same at last marked = subst (λ (k : ℕ). AreMarkedBelow k before after (λ p. any_below 96 (λ n. is_in_abbreviation memory first n p))) last (subst (λ (k : ℕ). AreMarkedBelow end before after (λ p. any_below 96 (λ n. is_in_abbreviation memory k n p))) at (subst (λ (m : List ℕ). AreMarkedBelow end before after (λ p. any_below 96 (λ n. is_in_abbreviation m table n p))) same marked))

-- the ranges are marked first, and nothing here is static
ranges_last : (of_ranges others is_static : Bool) → is_static ≡ false → (of_ranges || others) ≡ ((others || of_ranges) || is_static)
ranges_last true true is_static none = refl
ranges_last true false is_static none = refl
ranges_last false true is_static none = refl
ranges_last false false is_static none = sym none

module _ (told : FrozenStory) where
  pub base_small : IsSound told.story.memory → static_base told.story ≤ 65536
  base_small sound = let high = sound.bytes 14 in let low = sound.bytes 15 in omega (arith, high, low)

  pub all_marked : (of_ranges with_header with_globals with_objects with_frames all : List ℕ) → IsSound told.story.memory → IsObjectCount told.story.memory told.story.objects → AreMarked told.ranges of_ranges → AreMarkedToo of_ranges with_header (λ p. nat_lt p 64 && not (is_flags p)) → AreMarkedToo with_header with_globals (is_within (globals told.story) 480) → AreMarkedToo with_globals with_objects (is_within (object_table told.story) (62 + 9 * told.story.objects))
      → AreMarkedToo with_objects with_frames (λ p. any_below told.story.objects (λ below. is_in_frame told.story.memory (property_table told.story.memory (below + 1)) p)) → AreMarkedBelow (static_base told.story) with_frames all (λ p. any_below 96 (λ n. is_in_abbreviation told.story.memory (abbreviations told.story) n p)) → AreClosed told all
  all_marked of_ranges with_header with_globals with_objects with_frames all sound counted ranges header variables objects frames abbreviated = record {
    each = each;
    behind = λ p above. or_right _ (nat_le (static_base told.story) p) (le-leb (static_base told.story) p above);
    still = λ p above. not_true (is_changing told.story p) (λ e. static_unchanging told.story sound counted p above ((changing_is told.story p).0 e));
  }
    where
      first_two : AreMarkedToo of_ranges with_globals (λ p. (nat_lt p 64 && not (is_flags p)) || is_within (globals told.story) 480 p)
      first_two = then_marked 65536 of_ranges with_header with_globals (λ p. nat_lt p 64 && not (is_flags p)) (is_within (globals told.story) 480) header variables

      first_three : AreMarkedToo of_ranges with_objects (λ p. (nat_lt p 64 && not (is_flags p)) || is_within (globals told.story) 480 p || is_within (object_table told.story) (62 + 9 * told.story.objects) p)
      first_three = then_marked 65536 of_ranges with_globals with_objects (λ p. (nat_lt p 64 && not (is_flags p)) || is_within (globals told.story) 480 p) (is_within (object_table told.story) (62 + 9 * told.story.objects)) first_two objects

      first_four : AreMarkedToo of_ranges with_frames (λ p. (nat_lt p 64 && not (is_flags p)) || is_within (globals told.story) 480 p || is_within (object_table told.story) (62 + 9 * told.story.objects) p || any_below told.story.objects (λ below. is_in_frame told.story.memory (property_table told.story.memory (below + 1)) p))
      first_four = then_marked 65536 of_ranges with_objects with_frames (λ p. (nat_lt p 64 && not (is_flags p)) || is_within (globals told.story) 480 p || is_within (object_table told.story) (62 + 9 * told.story.objects) p) (λ p. any_below told.story.objects (λ below. is_in_frame told.story.memory (property_table told.story.memory (below + 1)) p)) first_three frames

      first_five : AreMarkedBelow (static_base told.story) of_ranges all (λ p. (nat_lt p 64 && not (is_flags p)) || is_within (globals told.story) 480 p || is_within (object_table told.story) (62 + 9 * told.story.objects) p || any_below told.story.objects (λ below. is_in_frame told.story.memory (property_table told.story.memory (below + 1)) p) || any_below 96 (λ n. is_in_abbreviation told.story.memory (abbreviations told.story) n p))
      first_five = then_marked (static_base told.story) of_ranges with_frames all (λ p. (nat_lt p 64 && not (is_flags p)) || is_within (globals told.story) 480 p || is_within (object_table told.story) (62 + 9 * told.story.objects) p || any_below told.story.objects (λ below. is_in_frame told.story.memory (property_table told.story.memory (below + 1)) p)) (λ p. any_below 96 (λ n. is_in_abbreviation told.story.memory (abbreviations told.story) n p)) (λ p below. first_four p (let small = base_small sound in omega (arith, below, small))) abbreviated

      others : ℕ → Bool
      others p = (nat_lt p 64 && not (is_flags p)) || is_within (globals told.story) 480 p || is_within (object_table told.story) (62 + 9 * told.story.objects) p || any_below told.story.objects (λ below. is_in_frame told.story.memory (property_table told.story.memory (below + 1)) p) || any_below 96 (λ n. is_in_abbreviation told.story.memory (abbreviations told.story) n p)

      each : (p : ℕ) → p < static_base told.story → is_marked all p ≡ is_closed told p
      each p below =
          let small = base_small sound in
          let word : p < 65536 = omega (arith, below, small) in
          first_five p below ∙ ap (λ (b : Bool). b || others p) (ranges.each p word) ∙ ranges_last (frozen_by told.ranges p) (others p) (nat_le (static_base told.story) p) (low (static_base told.story) p 0 below)

-- ---- what instructions change

pub all_changing : (story : LoadedStory) (none with_flags with_globals all : List ℕ) → ((p : ℕ) → is_marked none p ≡ false) → AreMarkedToo none with_flags (is_within 16 2) → AreMarkedToo with_flags with_globals (is_within (globals story) 480) → AreMarkedToo with_globals all (λ p. any_below story.objects (λ below. is_within (object_place story.memory (below + 1)) 7 p)) → (p : ℕ) → p < 65536 → is_marked all p ≡ is_changing story p
all_changing story none with_flags with_globals all blank flags variables states p word =
    let states_there = any_below story.objects (λ below. is_within (object_place story.memory (below + 1)) 7 p) in
    states p word
    ∙ ap (λ (b : Bool). b || states_there) (variables p word)
    ∙ ap (λ (b : Bool). (b || is_within (globals story) 480 p) || states_there) (flags p word)
    ∙ ap (λ (b : Bool). ((b || is_flags p) || is_within (globals story) 480 p) || states_there) (blank p)

pub all_fixed : (story : LoadedStory) (closed changing fixed : List ℕ) → IsSound story.memory → ((p : ℕ) → p < 65536 → is_marked changing p ≡ is_changing story p) → ((p : ℕ) → is_marked fixed p ≡ (is_marked closed p && not (is_marked changing p))) → AreFixed story closed fixed
all_fixed story closed changing fixed sound told turned p below =
    let small = base_small (record { story = story; ranges = [] }) sound in
    turned p ∙ ap (λ (b : Bool). is_marked closed p && not b) (told p (omega (arith, below, small)))

-- ---- what no play changes

module _ (told : FrozenStory) (closed : List ℕ) (marked : AreClosed told closed) (p : ℕ) where
  pub fixed_behind : static_base told.story ≤ p → true ≡ is_fixed told p
  fixed_behind above = sym (ap (λ (b : Bool). b && not (is_changing told.story p)) (marked.behind p above) ∙ ap not (marked.still p above))

  pub fixed_by_marks : (fixed : List ℕ) (b : Bool) → p < static_base told.story → AreFixed told.story closed fixed → b ≡ is_marked fixed p → b ≡ is_fixed told p
  fixed_by_marks fixed b below still e = e ∙ still p below ∙ ap (λ (x : Bool). x && not (is_changing told.story p)) (marked.each p below)
