-- Whatever element is read lies in the set of elements.
use Rattle.std.proofs.Common.{◌≡◌, ◌⊎◌, inl, inr, ℕ, zero, suc, ◌+◌, ◌<◌, ◌≤◌, Bool, true, false, nat_le, if◌then◌else◌, List, Option, Some, None, map, refl, sym, subst, ◌∙◌, arith}
use Rattle.std.specs.Prelude.{IsTrue}
use Rattle.std.specs.List.{list_all}
use Rattle.std.proofs.lemmas.Bool.{cases_lt, and_parts}
use Rattle.std.proofs.lemmas.Int.{ints}
use Rattle.std.proofs.lemmas.Option.{same_Some}
use Rattle.zstory.specs.Bytes.{AreBytes, byte_at, readable_end}
use Rattle.zdomain.specs.Domain.{SetOperations, AreSound, In}
use Rattle.zarray.specs.declared.width.Width.{Width}
use Rattle.zarray.specs.declared.width.Width.TheVariants.{Byte, Word}
use Rattle.zarray.specs.Arrays.{place_of, span, value_at, element_at}
use Rattle.zdomain.specs.Few.{turned, is_among, gathered, none_gathered}
use Rattle.zdomain.specs.FewLaw.{all_new}
use Rattle.zpairs.specs.Ends.{exactly}
use Rattle.zpairs.specs.Frozen.{FrozenStory, frozen_by}
use Rattle.zpairs.specs.Members.{both}
use Rattle.zpairs.proofs.Hulls.{IsInside, IsPlace, inside_first, inside_second}
use Rattle.zpairs.proofs.Lying.{low_end, high_end, exact}
use Rattle.zplace.specs.Bytes.{IsFixed}
use Rattle.zruns.specs.declared.run.Run.{Run}
use Rattle.zruns.specs.declared.cell.Cell.{Cell}
use Rattle.zpairs.specs.Fixed.{is_fixed}
use Rattle.zruns.specs.Runs.{address, run_of, each_byte, cell_at, merged, merged_below, run_cell, any_element, elements_in, sums, elements_at, elements_of, elements}
use Rattle.zpairs.proofs.Telling.{fixed_is}
use Rattle.zruns.proofs.Reached.{in_run}
use Rattle.zruns.proofs.Summing.{each_of, among_map, among_sums}

-- ---- one of many

fixed_below : (f : ℕ → Cell) (n k : ℕ) → k < n → (merged_below n f).fixed ≡ true → (f k).fixed ≡ true
unfolding merged_below
fixed_below f zero k few e = absurd (omega (arith, few))
fixed_below f (suc n) k few e = by_order (and_parts (merged_below n f).fixed (f n).fixed e) (fixed_below f n k) (cases_lt k n)
  where
    by_order : ((merged_below n f).fixed ≡ true) × ((f n).fixed ≡ true) → (k < n → (merged_below n f).fixed ≡ true → (f k).fixed ≡ true) → (k < n) ⊎ (n ≤ k) → (f k).fixed ≡ true
    by_order parts before (inl low) = before low parts.0
    by_order parts before (inr high) = let same : n ≡ k = omega (arith, few, high) in subst (λ (m : ℕ). (f m).fixed ≡ true) same parts.1

inside_below : (f : ℕ → Cell) (n k place : ℕ) → k < n → IsInside (f k).ends place → IsInside (merged_below n f).ends place
unfolding merged_below
inside_below f zero k place few inside = absurd (omega (arith, few))
inside_below f (suc n) k place few inside = by_order (inside_below f n k place) (cases_lt k n)
  where
    by_order : (k < n → IsInside (f k).ends place → IsInside (merged_below n f).ends place) → (k < n) ⊎ (n ≤ k) → IsInside (merged (merged_below n f) (f n)).ends place
    by_order before (inl low) = inside_first (merged_below n f).ends (f n).ends place (before low inside)
    by_order before (inr high) = let same : k ≡ n = omega (arith, few, high) in inside_second (merged_below n f).ends (f n).ends place (subst (λ (m : ℕ). IsInside (f m).ends place) same inside)

place_below : (f : ℕ → Cell) → ((k : ℕ) → IsPlace (f k).ends) → (n : ℕ) → IsPlace (merged_below n f).ends
unfolding merged_below
place_below f each zero = omega arith
place_below f each (suc n) = let before = place_below f each n in let next = each n in omega (arith, before, next)

-- ---- one element

-- an element of which each byte stays is the same
same_value : (told : FrozenStory) (now : List ℕ) → ((p : ℕ) → is_fixed told p ≡ true → byte_at now p ≡ byte_at told.story.memory p) → (width : Width) (p : ℕ) → (cell_at told width p).fixed ≡ true → value_at width now p ≡ value_at width told.story.memory p
same_value told now stays Byte p e = stays p e
same_value told now stays Word p e = let parts = and_parts (is_fixed told p) (is_fixed told (p + 1)) e in let high = stays p parts.0 in let low = stays (p + 1) parts.1 in rw (high, low) refl

-- what is read is the element
read_value : (width : Width) (now : List ℕ) (p x : ℕ) → element_at width now p ≡ Some x → x ≡ value_at width now p
read_value width now p x = by (nat_le (p + span width) (readable_end now))
  where
    by : (b : Bool) → (if b then Some (value_at width now p) else None) ≡ Some x → x ≡ value_at width now p
    by true e = sym (same_Some (value_at width now p) x e)
    by false e = absurd cc

byte_small : (now : List ℕ) (p x : ℕ) → AreBytes now → x ≡ byte_at now p → x < 256
byte_small now p x bytes is = let few = bytes p in omega (arith, few, is)

value_small : (width : Width) (now : List ℕ) (p x : ℕ) → AreBytes now → x ≡ value_at width now p → x < 65536
value_small Byte now p x bytes is = let few = bytes p in omega (arith, few, is)
value_small Word now p x bytes is = let high = bytes p in let low = bytes (p + 1) in omega (arith, high, low, is)

exactly_place : (word : ℕ) → IsPlace (exactly word)
exactly_place word = omega arith

module _ {V : Type 0} (o : SetOperations V) (sound : AreSound o) where
  -- of an element of which nothing is known
  any_lies : (width : Width) (now : List ℕ) (p x : ℕ) → AreBytes now → x ≡ value_at width now p → In o (any_element o width) x
  any_lies Byte now p x bytes is = let few = byte_small now p x bytes is in sound.between 0 255 x (omega (arith, ints, few)) (omega (arith, ints, few)) (omega (arith, few))
  any_lies Word now p x bytes is = sound.any x (value_small Word now p x bytes is)

  module _ (told : FrozenStory) (now : List ℕ) (width : Width) (run : Run) (k x : ℕ) (few : k ≤ run.more) (stays : (p : ℕ) → is_fixed told p ≡ true → byte_at now p ≡ byte_at told.story.memory p) (bytes : AreBytes now) where
    cell_of : ℕ → Cell
    cell_of j = cell_at told width (address run j)

    -- an element at an address of a run
    pub read_lies : element_at width now (address run k) ≡ Some x → In o (elements_in o width (run_cell told width run)) x
    read_lies read = by (run_cell told width run).fixed refl
      where
        is : x ≡ value_at width now (address run k)
        is = read_value width now (address run k) x read

        word : x < 65536
        word = value_small width now (address run k) x bytes is

        inside : (run_cell told width run).fixed ≡ true → IsInside (run_cell told width run).ends (turned x)
        inside e =
            let fixed = fixed_below (λ j. cell_at told width (address run j)) (run.more + 1) k (omega (arith, few)) e in
            let same = same_value told now stays width (address run k) fixed in
            inside_below (λ j. cell_at told width (address run j)) (run.more + 1) k (turned x) (omega (arith, few)) (exact x (value_at width told.story.memory (address run k)) (is ∙ same))

        greatest : IsPlace (run_cell told width run).ends
        greatest = place_below (λ j. cell_at told width (address run j)) (λ j. exactly_place (value_at width told.story.memory (address run j))) (run.more + 1)

        by : (b : Bool) → (run_cell told width run).fixed ≡ b → In o (if b then o.between (turned (run_cell told width run).ends.least) (turned (run_cell told width run).ends.greatest) else any_element o width) x
        by true e = sound.between (turned (run_cell told width run).ends.least) (turned (run_cell told width run).ends.greatest) x (low_end (run_cell told width run).ends.least x word (inside e).above) (high_end (run_cell told width run).ends.greatest x word greatest (inside e).below) word
        by false e = any_lies width now (address run k) x bytes is

  -- an element at one of some places
  module _ (told : FrozenStory) (now : List ℕ) (width : Width) (places : List ℕ) (p x : ℕ) (there : IsTrue (is_among p places)) (stays : (q : ℕ) → is_fixed told q ≡ true → byte_at now q ≡ byte_at told.story.memory q) (bytes : AreBytes now) where
    pub sum_lies : element_at width now p ≡ Some x → In o (elements_at o told width places) x
    sum_lies read = by (list_all (each_byte width (is_fixed told)) places) refl
      where
        is : x ≡ value_at width now p
        is = read_value width now p x read

        word : x < 65536
        word = value_small width now p x bytes is

        values : List ℕ
        values = map (value_at width told.story.memory) places

        among : list_all (each_byte width (is_fixed told)) places ≡ true → IsTrue (is_among x values)
        among e =
            let same = same_value told now stays width p (each_of places (each_byte width (is_fixed told)) e p there) in
            subst (λ (v : ℕ). IsTrue (is_among v values)) (sym (is ∙ same)) (among_map (value_at width told.story.memory) places p there)

        by : (b : Bool) → list_all (each_byte width (is_fixed told)) places ≡ b → In o (if b then o.packed (gathered values) else any_element o width) x
        by true e = sound.packed (gathered values) x (all_new values x none_gathered (omega arith) (among e)) word
        by false e = any_lies width now p x bytes is

  by_lists : (told : FrozenStory) (now : List ℕ) (width : Width) (run : Run) (few others : Option (List ℕ)) (a i x : ℕ) → ((words : List ℕ) → few ≡ Some words → IsTrue (is_among a words)) → ((words : List ℕ) → others ≡ Some words → IsTrue (is_among i words)) → (k : ℕ) × (k ≤ run.more) × (place_of width a i ≡ address run k) → ((p : ℕ) → is_fixed told p ≡ true → byte_at now p ≡ byte_at told.story.memory p) → AreBytes now → element_at width now (place_of width a i) ≡ Some x → In o (elements_of o told width run (both few others)) x
  by_lists told now width run (Some xs) (Some ys) a i x first second found stays bytes read = sum_lies told now width (sums width xs ys) (place_of width a i) x (among_sums width xs ys a i (first xs refl) (second ys refl)) stays bytes read
  by_lists told now width run (Some xs) None a i x first second found stays bytes read = read_lies told now width run found.0 x found.1 stays bytes (subst (λ (p : ℕ). element_at width now p ≡ Some x) found.2 read)
  by_lists told now width run None others a i x first second found stays bytes read = read_lies told now width run found.0 x found.1 stays bytes (subst (λ (p : ℕ). element_at width now p ≡ Some x) found.2 read)

  pub elements_lie : (told : FrozenStory) (now : List ℕ) (width : Width) (arrays indices : V) (a i x : ℕ) → In o arrays a → In o indices i → ((p : ℕ) → IsFixed told.story (frozen_by told.ranges) p → byte_at now p ≡ byte_at told.story.memory p) → AreBytes now → element_at width now (place_of width a i) ≡ Some x → In o (elements o told width arrays indices) x
  elements_lie told now width arrays indices a i x of_arrays of_indices stays bytes read =
      by_lists told now width (run_of o width arrays indices) (o.few arrays) (o.few indices) a i x (λ words e. sound.few arrays words a e of_arrays) (λ words e. sound.few indices words i e of_indices) (in_run o sound width arrays indices a i of_arrays of_indices) (λ p fixed. stays p ((fixed_is told p).0 fixed)) bytes read
