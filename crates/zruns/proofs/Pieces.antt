-- What is known of runs, piece by piece.
use Rattle.std.proofs.Common.{◌≡◌, ◌↔◌, ◌⊎◌, inl, inr, ℕ, zero, suc, ◌+◌, ◌-◌, ◌*◌, ◌<◌, ◌≤◌, min, Bool, true, false, ◌&&◌, not, Option, Some, None, List, [], ◌∷◌, length, refl, sym, subst, ap, ◌∙◌, arith}
use Rattle.std.specs.Prelude.{IsTrue, nat_le, slice_index_or, slice_set}
use Rattle.std.specs.List.{list_all}
use Rattle.std.proofs.lemmas.Bool.{cases_lt, and_parts, and_from, le-leb, leb-true}
use Rattle.std.proofs.lemmas.List.{get_or-set_same, get_or-set_other, get_or_past}
use Rattle.zstory.specs.Bytes.{byte_at}
use Rattle.zstory.specs.LoadedStory.{LoadedStory, IsSound, static_base}
use Rattle.zstory.specs.Objects.{IsObjectCount}
use Rattle.zcert.specs.declared.parts.Range.{Range}
use Rattle.zarray.specs.declared.width.Width.{Width}
use Rattle.zarray.specs.declared.width.Width.TheVariants.{Byte, Word}
use Rattle.zarray.specs.Arrays.{span, place_of}
use Rattle.zpairs.specs.declared.ends.Ends.{Ends}
use Rattle.zpairs.specs.Frozen.{FrozenStory, frozen_by}
use Rattle.zplace.specs.Bytes.{IsOpen, static}
use Rattle.zruns.specs.declared.run.Run.{Run}
use Rattle.zruns.specs.declared.cell.Cell.{Cell}
use Rattle.zpairs.specs.Fixed.{is_closed, is_fixed}
use Rattle.zruns.specs.Runs.{address, EachAddress, EachSum, EachOf, each_byte, cell_at, no_cell, merged, merged_below, run_cell, sums}
use Rattle.zruns.specs.Blocks.{AreBlocks, block_cell, piece_cell, step_length}
use Rattle.zpairs.proofs.Telling.{closed_is, fixed_is, static_unchanging}
use Rattle.zruns.proofs.Summing.{each_sum}

-- a story and ranges are all that marks are told of
pub same_told : (told : FrozenStory) (story : LoadedStory) (ranges : List Range) → story ≡ told.story → ranges ≡ told.ranges → record { story = story; ranges = ranges } ≡ told
same_told told story ranges stories all = ap (λ (s : LoadedStory). record { story = s; ranges = ranges }) stories ∙ ap (λ (r : List Range). record { story = told.story; ranges = r }) all

-- ---- cells side by side

same_ends : (a b : Ends) → a.least ≡ b.least → a.greatest ≡ b.greatest → a ≡ b
same_ends a b e f = ap (λ (l : ℕ). record { least = l; greatest = a.greatest }) e ∙ ap (λ (g : ℕ). record { least = b.least; greatest = g }) f

same_cells : (a b : Cell) → a.is_open ≡ b.is_open → a.fixed ≡ b.fixed → a.ends ≡ b.ends → a ≡ b
same_cells a b e f g = ap (λ (x : Bool). record { is_open = x; fixed = a.fixed; ends = a.ends }) e ∙ ap (λ (x : Bool). record { is_open = b.is_open; fixed = x; ends = a.ends }) f ∙ ap (λ (x : Ends). record { is_open = b.is_open; fixed = b.fixed; ends = x }) g

and_true : (b : Bool) → (b && true) ≡ b
and_true true = refl
and_true false = refl

and_again : (a b c : Bool) → ((a && b) && c) ≡ (a && (b && c))
and_again true b c = refl
and_again false b c = refl

-- no cell, merged with one whose ends are words
before_all : (a : Cell) → a.ends.least ≤ 65535 → merged no_cell a ≡ a
before_all a few = same_cells (merged no_cell a) a refl refl (same_ends (merged no_cell a).ends a.ends (omega (arith, few)) (omega arith))

behind_all : (a : Cell) → a.ends.least ≤ 65535 → merged a no_cell ≡ a
behind_all a few = same_cells (merged a no_cell) a (and_true a.is_open) (and_true a.fixed) (same_ends (merged a no_cell).ends a.ends (omega (arith, few)) (omega arith))

regrouped : (a b c : Cell) → merged (merged a b) c ≡ merged a (merged b c)
regrouped a b c = same_cells (merged (merged a b) c) (merged a (merged b c)) (and_again a.is_open b.is_open c.is_open) (and_again a.fixed b.fixed c.fixed) (same_ends (merged (merged a b) c).ends (merged a (merged b c)).ends (omega arith) (omega arith))

least_below : (n : ℕ) (f : ℕ → Cell) → (merged_below n f).ends.least ≤ 65535
unfolding merged_below
least_below zero f = omega arith
least_below (suc n) f = let before = least_below n f in omega (arith, before)

-- what is known of each is known of as many that are the same
same_merged : (n : ℕ) (f g : ℕ → Cell) → ((k : ℕ) → k < n → f k ≡ g k) → merged_below n f ≡ merged_below n g
unfolding merged_below
same_merged zero f g same = refl
same_merged (suc n) f g same = let before = same_merged n f g (λ k below. same k (omega (arith, below))) in let last = same n (omega arith) in rw (before, last) refl

one_more : (n : ℕ) (f : ℕ → Cell) (cell next all : Cell) → cell ≡ merged_below n f → next ≡ f n → all ≡ merged cell next → all ≡ merged_below (n + 1) f
unfolding merged_below
one_more n f cell next all is here e = let one : suc n ≡ n + 1 = omega arith in subst (λ (k : ℕ). all ≡ merged_below k f) one (rw (e, is, here) refl)

-- so many, and as many behind them
appended : (n m : ℕ) (f : ℕ → Cell) → merged_below (n + m) f ≡ merged (merged_below n f) (merged_below m (λ k. f (n + k)))
unfolding merged_below
appended n zero f = let none : n ≡ n + zero = omega arith in subst (λ (k : ℕ). merged_below k f ≡ merged (merged_below n f) no_cell) none (sym (behind_all (merged_below n f) (least_below n f)))
appended n (suc m) f =
    let one : suc (n + m) ≡ n + suc m = omega arith in
    let before = appended n m f in
    subst (λ (k : ℕ). merged_below k f ≡ merged (merged_below n f) (merged (merged_below m (λ k. f (n + k))) (f (n + m)))) one (rw before (regrouped (merged_below n f) (merged_below m (λ k. f (n + k))) (f (n + m))))

-- ---- what holds of each

module _ (part : Cell → Bool) (of_both : (a b : Cell) → part (merged a b) ≡ (part a && part b)) where
  -- it holds of one more
  pub one_holds : (n : ℕ) (f : ℕ → Cell) → part (merged_below n f) ≡ true → part (f n) ≡ true → part (merged_below (n + 1) f) ≡ true
  unfolding merged_below
  one_holds n f before here = let one : suc n ≡ n + 1 = omega arith in subst (λ (k : ℕ). part (merged_below k f) ≡ true) one (of_both (merged_below n f) (f n) ∙ and_from (part (merged_below n f)) (part (f n)) before here)

  -- it doesn't hold of all where it doesn't of one
  pub one_fails : (n k : ℕ) (f : ℕ → Cell) → k < n → part (f k) ≡ false → part (merged_below n f) ≡ false
  unfolding merged_below
  one_fails zero k f few none = absurd (omega (arith, few))
  one_fails (suc n) k f few none = of_both (merged_below n f) (f n) ∙ by_order (λ low. one_fails n k f low none) (cases_lt k n)
    where
      and_false : (b : Bool) → (b && false) ≡ false
      and_false true = refl
      and_false false = refl

      by_order : (k < n → part (merged_below n f) ≡ false) → (k < n) ⊎ (n ≤ k) → (part (merged_below n f) && part (f n)) ≡ false
      by_order before (inl low) = let none_before = before low in rw none_before refl
      by_order before (inr high) = let same : k ≡ n = omega (arith, few, high) in let last = subst (λ (m : ℕ). part (f m) ≡ false) same none in rw last (and_false (part (merged_below n f)))

  -- it holds of all where it does of each
  pub all_hold : (n : ℕ) (f : ℕ → Cell) → part no_cell ≡ true → ((k : ℕ) → part (f k) ≡ true) → part (merged_below n f) ≡ true
  unfolding merged_below
  all_hold zero f none each = none
  all_hold (suc n) f none each = of_both (merged_below n f) (f n) ∙ and_from (part (merged_below n f)) (part (f n)) (all_hold n f none each) (each n)

pub made_of : (a : Cell) (open_too fixed_too : Bool) (ends : Ends) → open_too ≡ a.is_open → fixed_too ≡ a.fixed → ends ≡ a.ends → record { is_open = open_too; fixed = fixed_too; ends = ends } ≡ a
made_of a open_too fixed_too ends e f g = same_cells (record { is_open = open_too; fixed = fixed_too; ends = ends }) a e f g

-- ---- in static memory

module _ (told : FrozenStory) (sound : IsSound told.story.memory) (counted : IsObjectCount told.story.memory told.story.objects) where
  static_fixed : (p : ℕ) → static_base told.story ≤ p → is_fixed told p ≡ true
  static_fixed p above = (fixed_is told p).1 (record { closed = static above; unchanging = static_unchanging told.story sound counted p above })

  one_static : (width : Width) (p : ℕ) → static_base told.story ≤ p → (cell_at told width p).fixed ≡ true
  one_static Byte p above = static_fixed p above
  one_static Word p above = and_from (is_fixed told p) (is_fixed told (p + 1)) (static_fixed p above) (static_fixed (p + 1) (omega (arith, above)))

  pub all_static : (width : Width) (from size : ℕ) → static_base told.story ≤ from → (piece_cell told width from size).fixed ≡ true
  all_static width from size above = all_hold (λ c. c.fixed) (λ a b. refl) size (λ k. cell_at told width (from + k)) refl (λ k. one_static width (from + k) (omega (arith, above)))

-- ---- behind memory

-- nothing changes there, and 0 is all that is said to stand there
abbrev pub cell_behind : Cell
cell_behind = record { is_open = false; fixed = true; ends = record { least = 32768; greatest = 32768 } }

all_the_same : (n : ℕ) (f : ℕ → Cell) → ((k : ℕ) → k < suc n → f k ≡ cell_behind) → merged_below (suc n) f ≡ cell_behind
unfolding merged_below
all_the_same zero f same = let one = same 0 (omega arith) in rw one refl
all_the_same (suc n) f same = let before = all_the_same n f (λ k below. same k (omega (arith, below))) in let last = same (suc n) (omega arith) in ap (λ (c : Cell). merged c (f (suc n))) before ∙ ap (λ (c : Cell). merged cell_behind c) last

module _ (told : FrozenStory) (sound : IsSound told.story.memory) (counted : IsObjectCount told.story.memory told.story.objects) where
  shut : (p : ℕ) → length told.story.memory ≤ p → is_closed told p ≡ true
  shut p above = (closed_is told p).1 (static (let base = sound.static_base_within in omega (arith, base, above)))

  stays : (p : ℕ) → length told.story.memory ≤ p → is_fixed told p ≡ true
  stays p above = (fixed_is told p).1 (record {
    closed = static (let base = sound.static_base_within in omega (arith, base, above));
    unchanging = static_unchanging told.story sound counted p (let base = sound.static_base_within in omega (arith, base, above));
  })

  zero_there : (p : ℕ) → length told.story.memory ≤ p → byte_at told.story.memory p ≡ 0
  zero_there p above = get_or_past told.story.memory p 0 above

  one_behind : (width : Width) (p : ℕ) → length told.story.memory ≤ p → cell_at told width p ≡ cell_behind
  one_behind Byte p above = let a = shut p above in let b = stays p above in let c = zero_there p above in rw (b, a, c) refl
  one_behind Word p above =
      let a = shut p above in
      let b = stays p above in
      let c = zero_there p above in
      let e = stays (p + 1) (omega (arith, above)) in
      let f = zero_there (p + 1) (omega (arith, above)) in
      rw (b, e, a, c, f) refl

  pub block_behind : (width : Width) (from block : ℕ) → from ≡ 256 * block → length told.story.memory ≤ from → cell_behind ≡ piece_cell told width (256 * block) 256
  block_behind width from block at above = sym (all_the_same 255 (λ k. cell_at told width (256 * block + k)) (λ k below. one_behind width (256 * block + k) (omega (arith, at, above))))

-- a block is read
pub block_read : (told : FrozenStory) (width : Width) (cells : List Cell) (block : ℕ) → AreBlocks told width cells → block < 256 → slice_index_or cells block no_cell ≡ block_cell told width block
block_read told width cells block are few = are block few

module _ (told : FrozenStory) (width : Width) where
  pub none_yet : (from : ℕ) → no_cell ≡ piece_cell told width from (from - from)
  unfolding merged_below
  none_yet from = let none : 0 ≡ from - from = omega arith in subst (λ (n : ℕ). no_cell ≡ piece_cell told width from n) none refl

  -- a piece that begins where another ends
  pub grown : (from at size : ℕ) (cell next all : Cell) → from ≤ at → cell ≡ piece_cell told width from (at - from) → next ≡ piece_cell told width at size → all ≡ merged cell next → all ≡ piece_cell told width from (at + size - from)
  grown from at size cell next all order so_far is e =
      let long : at - from + size ≡ at + size - from = omega (arith, order) in
      let moved : piece_cell told width at size ≡ merged_below size (λ k. cell_at told width (from + (at - from + k))) = same_merged size (λ k. cell_at told width (at + k)) (λ k. cell_at told width (from + (at - from + k))) (λ k below. let same : at + k ≡ from + (at - from + k) = omega (arith, order) in ap (λ (p : ℕ). cell_at told width p) same) in
      e ∙ ap (λ (c : Cell). merged c next) so_far ∙ ap (λ (c : Cell). merged (piece_cell told width from (at - from)) c) (is ∙ moved) ∙ sym (appended (at - from) size (λ k. cell_at told width (from + k))) ∙ ap (λ (n : ℕ). piece_cell told width from n) long

  -- a run is a piece up to the last address, and one from 0 on
  pub two_pieces : (run : Run) (end : ℕ) → run.first < 65536 → run.more < 65536 → end ≡ run.first + run.more + 1 → merged (piece_cell told width run.first (min end 65536 - run.first)) (piece_cell told width 0 (end - 65536 - 0)) ≡ run_cell told width run
  two_pieces run end low few is =
      let n : ℕ = min end 65536 - run.first in
      let m : ℕ = end - 65536 - 0 in
      let front : piece_cell told width run.first n ≡ merged_below n (λ k. cell_at told width (address run k)) = same_merged n (λ k. cell_at told width (run.first + k)) (λ k. cell_at told width (address run k)) (λ k below. let same : run.first + k ≡ address run k = omega (arith, below, low) in ap (λ (p : ℕ). cell_at told width p) same) in
      let back : piece_cell told width 0 m ≡ merged_below m (λ k. cell_at told width (address run (n + k))) = same_merged m (λ k. cell_at told width (0 + k)) (λ k. cell_at told width (address run (n + k))) (λ k below. let same : 0 + k ≡ address run (n + k) = omega (arith, below, low, few, is) in ap (λ (p : ℕ). cell_at told width p) same) in
      let all : n + m ≡ run.more + 1 = omega (arith, low, few, is) in
      ap (λ (c : Cell). merged c (piece_cell told width 0 m)) front ∙ ap (λ (c : Cell). merged (merged_below n (λ k. cell_at told width (address run k))) c) back ∙ sym (appended n m (λ k. cell_at told width (address run k))) ∙ ap (λ (k : ℕ). merged_below k (λ k. cell_at told width (address run k))) all

  -- the same, by what is read of the run
  pub both_pieces : (run : Run) (first more top rest : ℕ) (front back all : Cell) → run.first < 65536 → run.more < 65536 → first ≡ run.first → more ≡ run.more → top ≡ min (first + more + 1) 65536 → rest ≡ first + more + 1 - 65536 → front ≡ piece_cell told width first (top - first) → back ≡ piece_cell told width 0 (rest - 0) → all ≡ merged front back → all ≡ run_cell told width run
  both_pieces run first more top rest front back all low few is_first is_more is_top is_rest is_front is_back e =
      let end : ℕ = run.first + run.more + 1 in
      let long : top - first ≡ min end 65536 - run.first = omega (arith, is_first, is_more, is_top) in
      let left : rest - 0 ≡ end - 65536 - 0 = omega (arith, is_first, is_more, is_rest) in
      let of_front : front ≡ piece_cell told width run.first (min end 65536 - run.first) = is_front ∙ ap (λ (k : ℕ). piece_cell told width k (top - first)) is_first ∙ ap (piece_cell told width run.first) long in
      let of_back : back ≡ piece_cell told width 0 (end - 65536 - 0) = is_back ∙ ap (piece_cell told width 0) left in
      e ∙ ap (λ (c : Cell). merged c back) of_front ∙ ap (merged (piece_cell told width run.first (min end 65536 - run.first))) of_back ∙ two_pieces run end low few refl

-- how far a step goes
pub step_small : (at end size : ℕ) → at < end → size ≡ step_length at end → (1 ≤ size) × (at + size ≤ end)
step_small at end size some is = (omega (arith, some, is), omega (arith, some, is))

-- one more block of a table
pub one_more_cell : (cells : List Cell) (f : ℕ → Cell) (k : ℕ) (cell : Cell) → k < length cells → cell ≡ f k → ((j : ℕ) → j < k → slice_index_or cells j no_cell ≡ f j) → (j : ℕ) → j < k + 1 → slice_index_or (slice_set cells k cell) j no_cell ≡ f j
one_more_cell cells f k cell inside is before j last = by_order (cases_lt j k)
  where
    by_order : (j < k) ⊎ (k ≤ j) → slice_index_or (slice_set cells k cell) j no_cell ≡ f j
    by_order (inl low) = get_or-set_other cells k j cell no_cell (λ e. omega (arith, e, low)) ∙ before j low
    by_order (inr high) = let same : k ≡ j = omega (arith, high, last) in subst (λ (i : ℕ). slice_index_or (slice_set cells k cell) i no_cell ≡ f i) same (get_or-set_same cells k cell no_cell inside ∙ is)

-- ---- open bytes

pub each_open : (n : ℕ) (f : ℕ → Cell) → IsTrue (merged_below n f).is_open ↔ ((k : ℕ) → k < n → IsTrue (f k).is_open)
unfolding merged_below
each_open zero f = (λ e k below. absurd (omega (arith, below)), λ all. refl)
each_open (suc n) f = let before = each_open n f in (
  λ e k below. by_order (and_parts (merged_below n f).is_open (f n).is_open e) before k below (cases_lt k n),
  λ all. and_from (merged_below n f).is_open (f n).is_open (before.1 (λ k below. all k (omega (arith, below)))) (all n (omega arith)),
)
  where
    by_order : ((merged_below n f).is_open ≡ true) × ((f n).is_open ≡ true) → (IsTrue (merged_below n f).is_open ↔ ((k : ℕ) → k < n → IsTrue (f k).is_open)) → (k : ℕ) → k < suc n → (k < n) ⊎ (n ≤ k) → IsTrue (f k).is_open
    by_order parts before k below (inl low) = before.0 parts.0 k low
    by_order parts before k below (inr high) = let same : n ≡ k = omega (arith, below, high) in subst (λ (m : ℕ). IsTrue (f m).is_open) same parts.1

module _ (told : FrozenStory) where
  pub one_open : (p : ℕ) → IsTrue (not (is_closed told p)) ↔ IsOpen told.story (frozen_by told.ranges) p
  one_open p = let closed = closed_is told p in (λ e is. both (is_closed told p) e (closed.1 is), λ none. negated (is_closed told p) (λ e. none (closed.0 e)))
    where
      both : (b : Bool) → not b ≡ true → b ≡ true → ⊥
      both true e f = cc
      both false e f = cc

      negated : (b : Bool) → (b ≡ true → ⊥) → not b ≡ true
      negated true none = absurd (none refl)
      negated false none = refl

  element_open : (width : Width) (p : ℕ) → IsTrue (each_byte width (λ q. not (is_closed told q)) p) ↔ ((j : ℕ) → j < span width → IsOpen told.story (frozen_by told.ranges) (p + j))
  element_open Byte p = let here = one_open p in let same : p ≡ p + 0 = omega arith in (
    λ e j below. let at : p ≡ p + j = omega (arith, below) in subst (λ (q : ℕ). IsOpen told.story (frozen_by told.ranges) q) at (here.0 e),
    λ all. here.1 (subst (λ (q : ℕ). IsOpen told.story (frozen_by told.ranges) q) (sym same) (all 0 (omega arith))),
  )
  element_open Word p = let here = one_open p in let next = one_open (p + 1) in let same : p ≡ p + 0 = omega arith in (
    λ e j below. by_place (and_parts (not (is_closed told p)) (not (is_closed told (p + 1))) e) j below (cases_lt j 1),
    λ all. and_from (not (is_closed told p)) (not (is_closed told (p + 1))) (here.1 (subst (λ (q : ℕ). IsOpen told.story (frozen_by told.ranges) q) (sym same) (all 0 (omega arith)))) (next.1 (all 1 (omega arith))),
  )
    where
      by_place : (not (is_closed told p) ≡ true) × (not (is_closed told (p + 1)) ≡ true) → (j : ℕ) → j < 2 → (j < 1) ⊎ (1 ≤ j) → IsOpen told.story (frozen_by told.ranges) (p + j)
      by_place parts j below (inl first) = let at : p ≡ p + j = omega (arith, first) in subst (λ (q : ℕ). IsOpen told.story (frozen_by told.ranges) q) at ((one_open p).0 parts.0)
      by_place parts j below (inr second) = let at : p + 1 ≡ p + j = omega (arith, below, second) in subst (λ (q : ℕ). IsOpen told.story (frozen_by told.ranges) q) at ((one_open (p + 1)).0 parts.1)

  -- a run is open just where each byte of each element is
  pub open_where : (width : Width) (run : Run) → IsTrue (run_cell told width run).is_open ↔ EachAddress run (λ p. (j : ℕ) → j < span width → IsOpen told.story (frozen_by told.ranges) (p + j))
  open_where width run = let all = each_open (run.more + 1) (λ k. cell_at told width (address run k)) in (
    λ e k few. (element_open width (address run k)).0 (all.0 e k (omega (arith, few))),
    λ each. all.1 (λ k below. (element_open width (address run k)).1 (each k (omega (arith, below)))),
  )

pub open_of : (told : FrozenStory) (width : Width) (run : Run) (cell : Cell) → cell ≡ run_cell told width run → IsTrue cell.is_open ↔ EachAddress run (λ p. (j : ℕ) → j < span width → IsOpen told.story (frozen_by told.ranges) (p + j))
open_of told width run cell made = let all = open_where told width run in (
  λ e. all.0 (sym (ap (λ (c : Cell). c.is_open) made) ∙ e),
  λ each. ap (λ (c : Cell). c.is_open) made ∙ all.1 each,
)

module _ (told : FrozenStory) (width : Width) where
  abbrev open_at : ℕ → Type 0
  open_at p = (j : ℕ) → j < span width → IsOpen told.story (frozen_by told.ranges) (p + j)

  abbrev tested : ℕ → Bool
  tested p = each_byte width (λ q. not (is_closed told q)) p

  sums_open : (arrays indices : List ℕ) → IsTrue (list_all tested (sums width arrays indices)) ↔ EachSum width arrays indices open_at
  sums_open arrays indices = let all = each_sum width arrays indices tested in (
    λ e a i of_arrays of_indices. (element_open told width (place_of width a i)).0 (all.0 e a i of_arrays of_indices),
    λ each. all.1 (λ a i of_arrays of_indices. (element_open told width (place_of width a i)).1 (each a i of_arrays of_indices)),
  )

  -- by each sum, where both sets tell their words; and else by the run
  pub open_by_sums : (marked : FrozenStory) (run : Run) (all : Option (List ℕ × List ℕ)) (few others xs ys : List ℕ) (result : Bool) → all ≡ Some (few, others) → xs ≡ few → ys ≡ others → marked ≡ told → result ≡ list_all (each_byte width (λ q. not (is_closed marked q))) (sums width xs ys) → IsTrue result ↔ EachOf width run all open_at
  open_by_sums marked run all few others xs ys result are first second same is =
      let one : result ≡ list_all tested (sums width xs ys) = is ∙ ap (λ (t : FrozenStory). list_all (each_byte width (λ q. not (is_closed t q))) (sums width xs ys)) same in
      let lists : list_all tested (sums width xs ys) ≡ list_all tested (sums width few others) = ap (λ (zs : List ℕ). list_all tested (sums width zs ys)) first ∙ ap (λ (zs : List ℕ). list_all tested (sums width few zs)) second in
      subst (λ (m : Option (List ℕ × List ℕ)). IsTrue result ↔ EachOf width run m open_at) (sym are) (subst (λ (b : Bool). IsTrue b ↔ EachSum width few others open_at) (sym (one ∙ lists)) (sums_open few others))

  pub open_by_run : (run : Run) (all : Option (List ℕ × List ℕ)) (cell : Cell) → all ≡ None → cell ≡ run_cell told width run → IsTrue cell.is_open ↔ EachOf width run all open_at
  open_by_run run all cell none made = subst (λ (m : Option (List ℕ × List ℕ)). IsTrue cell.is_open ↔ EachOf width run m open_at) (sym none) (open_of told width run cell made)

-- ---- bytes that can be read

-- each address of a run lies below the greatest, which is one of them
pub readable_where : (run : Run) (size end : ℕ) → run.first < 65536 → run.more < 65536 → EachAddress run (λ p. p + size ≤ end) ↔ (min 65535 (run.first + run.more) + size ≤ end)
readable_where run size end low few = (
  λ each. let last = each (min run.more (65535 - run.first)) (omega arith) in omega (arith, last, low, few),
  λ below k is. omega (arith, below, low, few, is),
)

-- by the sum of the greatest and what an element takes up
pub ends_by : (run : Run) (greatest size taken end : ℕ) → run.first < 65536 → run.more < 65536 → greatest ≡ min 65535 (run.first + run.more) → taken ≡ size → IsTrue (nat_le (greatest + taken) end) ↔ EachAddress run (λ p. p + size ≤ end)
ends_by run greatest size taken end low few most long = let same = readable_where run size end low few in (
  λ e. let below = leb-true (greatest + taken) end e in same.1 (omega (arith, below, most, long)),
  λ each. let below = same.0 each in le-leb (greatest + taken) end (omega (arith, below, most, long)),
)

by_last : (size end last p : ℕ) → last + size ≡ end → nat_le p last ≡ nat_le (p + size) end
by_last size end last p same = grind (arith, same)

all_by_last : (size end last : ℕ) → last + size ≡ end → (places : List ℕ) → list_all (λ p. nat_le p last) places ≡ list_all (λ p. nat_le (p + size) end) places
all_by_last size end last same [] = refl
all_by_last size end last same (p ∷ places) =
    ap (λ (b : Bool). b && list_all (λ q. nat_le q last) places) (by_last size end last p same)
    ∙ ap (λ (b : Bool). nat_le (p + size) end && b) (all_by_last size end last same places)

module _ (width : Width) where
  sums_end : (end : ℕ) (arrays indices : List ℕ) → IsTrue (list_all (λ p. nat_le (p + span width) end) (sums width arrays indices)) ↔ EachSum width arrays indices (λ p. p + span width ≤ end)
  sums_end end arrays indices = let all = each_sum width arrays indices (λ p. nat_le (p + span width) end) in (
    λ e a i of_arrays of_indices. leb-true (place_of width a i + span width) end (all.0 e a i of_arrays of_indices),
    λ each. all.1 (λ a i of_arrays of_indices. le-leb (place_of width a i + span width) end (each a i of_arrays of_indices)),
  )

  pub end_by_sums : (end last : ℕ) (run : Run) (all : Option (List ℕ × List ℕ)) (few others xs ys : List ℕ) (result : Bool) → all ≡ Some (few, others) → xs ≡ few → ys ≡ others → last + span width ≡ end → result ≡ list_all (λ p. nat_le p last) (sums width xs ys) → IsTrue result ↔ EachOf width run all (λ p. p + span width ≤ end)
  end_by_sums end last run all few others xs ys result are first second same is =
      let lists : result ≡ list_all (λ p. nat_le (p + span width) end) (sums width few others) = is ∙ ap (λ (zs : List ℕ). list_all (λ p. nat_le p last) (sums width zs ys)) first ∙ ap (λ (zs : List ℕ). list_all (λ p. nat_le p last) (sums width few zs)) second ∙ all_by_last (span width) end last same (sums width few others) in
      subst (λ (m : Option (List ℕ × List ℕ)). IsTrue result ↔ EachOf width run m (λ p. p + span width ≤ end)) (sym are) (subst (λ (b : Bool). IsTrue b ↔ EachSum width few others (λ p. p + span width ≤ end)) (sym lists) (sums_end end few others))
