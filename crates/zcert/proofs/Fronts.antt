-- What is kept is found: how the bytes of sets lie.
use Rattle.std.proofs.Common.{◌≡◌, ℕ, suc, ◌+◌, ◌-◌, ◌*◌, ◌/◌, ◌%◌, ◌<◌, ◌≤◌, get_or, List, [], ◌∷◌, ◌++◌, length, take, drop, refl, sym, ap, subst, ◌∙◌, append_assoc, length-append, arith}
use Rattle.std.specs.List.{flat_map, AllByRecursion}
use Rattle.zdomain.specs.declared.interval.Interval.{Interval}
use Rattle.std.proofs.Math.Seq.{take-append_seam, drop-append_seam}
use Rattle.std.proofs.lemmas.List.{length-take, take_all}
use Rattle.std.proofs.lemmas.Bool.{leb-true}
use Rattle.zdomain.specs.declared.values.Scattered.{Scattered}
use Rattle.zdomain.specs.declared.values.Values.{Values}
use Rattle.zdomain.specs.declared.values.Values.TheVariants.{Run, List as AList}
use Rattle.zdomain.specs.Few.{is_scattered, IsScattered}
use Rattle.zcert.specs.Format.{interval_format}
use Rattle.zcert.specs.FormatLaw.Sets.{is_true, listed_by, one_way}
use Rattle.zcert.specs.FormatLaw.Kept.{values_are_kept}
use Rattle.zcert.specs.Keeping.{Front, Holds, IsRunAt, Spell, intervals_kept, values_kept, words_in}
use Rattle.zcert.specs.Lists.{HasBytes, set_bytes, values_format}
use Rattle.zcert.specs.Numbers.{Word, number, HasRoom}
use Rattle.zcert.proofs.Words.{words_length}

-- as many intervals are kept as are asked for
as_many : (is more : List Interval) → length is ≤ length (flat_map intervals_kept.cells is ++ more)
as_many [] more = omega arith
as_many (i ∷ is) more = let h = as_many is more in omega arith

pub intervals_held : (count : ℕ) (cells : List Interval) → Holds interval_format intervals_kept count cells → count ≡ length (take count cells)
intervals_held count cells held =
    let long = as_many held.kept held.rest in
    let same = ap length held.are in
    let counted = held.counted in
    omega (arith, long, same, counted, length-take count cells)

-- ---- words

word_back : (n : ℕ) → n < 65536 → 256 * (n / 256 % 256) + n % 256 ≡ n
word_back n small = omega arith

pub words_back : (words : List ℕ) → AllByRecursion (HasRoom Word) words → words_in (flat_map (number Word) words) ≡ words
words_back [] have = refl
words_back (w ∷ ws) have = ap (λ n. n ∷ words_in (flat_map (number Word) ws)) (word_back w have.0) ∙ ap (λ (t : List ℕ). w ∷ t) (words_back ws have.1)

abbrev list_by : (words : List ℕ) → IsScattered words → Scattered
list_by words are = record { few = words; scattered = are }

pub same_list : (s t : Scattered) → s.few ≡ t.few → s ≡ t
same_list s t e = subst (λ (words : List ℕ). (q : IsScattered words) → list_by s.few s.scattered ≡ list_by words q) e (λ q. ap (list_by s.few) (one_way s.few s.scattered q)) t.scattered

-- the words of a list are at most 64
pub list_short : (s : Scattered) (bytes : List ℕ) → Spell s.few bytes → length bytes ≤ 128
list_short s bytes spell =
    let listed = listed_by s.few (is_true (is_scattered s.few) s.scattered.is) in
    let few : length s.few ≤ 64 = leb-true (length s.few) 64 listed.few in
    omega (arith, few, ap length spell.are, words_length s.few)

-- ---- what stands at the front

-- an interval, with what follows it
pub record RunFront (kept : List ℕ) (front : Front kept) : Type 0 where
  pub run : Interval
  pub set : Run run ≡ front.set
  pub at : IsRunAt run (take 4 (drop 1 kept))
  pub rest : drop 4 (drop 1 kept) ≡ front.rest
  pub long : 5 ≤ length kept

pub run_front : (kept : List ℕ) (front : Front kept) → get_or kept 0 0 ≡ 0 → RunFront kept front
run_front kept front first = by_set front.set front.rest front.has front.are refl refl
  where
    by_set : (set : Values) (rest : List ℕ) → HasBytes set → kept ≡ set_bytes set ++ rest → front.set ≡ set → front.rest ≡ rest → RunFront kept front
    by_set (Run i) rest has are e f = record {
      run = i;
      set = sym e;
      at = record { has = has; are = ap (λ (k : List ℕ). take 4 (drop 1 k)) are };
      rest = ap (λ (k : List ℕ). drop 4 (drop 1 k)) are ∙ sym f;
      long = let n = ap length are in omega (arith, n);
    }
    by_set (AList s) rest has are e f = absurd (let n = ap (λ (k : List ℕ). get_or k 0 0) are in omega (arith, n, first))

-- a list, with what follows it
pub record ListFront (kept : List ℕ) (front : Front kept) (count : ℕ) : Type 0 where
  pub list : Scattered
  pub set : AList list ≡ front.set
  pub spell : Spell list.few (take (2 * count) (drop 1 (drop 1 kept)))
  pub rest : drop (2 * count) (drop 1 (drop 1 kept)) ≡ front.rest
  pub long : 2 + 2 * count ≤ length kept

byte_back : (n : ℕ) → n ≤ 64 → n % 256 ≡ n
byte_back n few = omega arith

pub list_front : (kept : List ℕ) (front : Front kept) → (get_or kept 0 0 ≡ 0 → ⊥) → ListFront kept front (get_or kept 1 0)
list_front kept front first = by_set front.set front.rest front.has front.are refl refl
  where
    by_set : (set : Values) (rest : List ℕ) → HasBytes set → kept ≡ set_bytes set ++ rest → front.set ≡ set → front.rest ≡ rest → ListFront kept front (get_or kept 1 0)
    by_set (Run i) rest has are e f = absurd (first (ap (λ (k : List ℕ). get_or k 0 0) are))
    by_set (AList s) rest has are e f =
        let words = flat_map (number Word) s.few in
        let listed = listed_by s.few (is_true (is_scattered s.few) s.scattered.is) in
        let few : length s.few ≤ 64 = leb-true (length s.few) 64 listed.few in
        let count : get_or kept 1 0 ≡ length s.few = ap (λ (k : List ℕ). get_or k 1 0) are ∙ byte_back (length s.few) few in
        let long : length words ≡ 2 * length s.few = words_length s.few in
        let behind : drop 1 (drop 1 kept) ≡ words ++ rest = ap (λ (k : List ℕ). drop 1 (drop 1 k)) are in
        record {
          list = s;
          set = sym e;
          spell = record { have = has; are = ap (λ n. take (2 * n) (drop 1 (drop 1 kept))) count ∙ ap (take (2 * length s.few)) behind ∙ ap (λ n. take n (words ++ rest)) (sym long) ∙ take-append_seam words rest };
          rest = ap (λ n. drop (2 * n) (drop 1 (drop 1 kept))) count ∙ ap (drop (2 * length s.few)) behind ∙ ap (λ n. drop n (words ++ rest)) (sym long) ∙ drop-append_seam words rest ∙ sym f;
          long = let n = ap length are in let all = length-append words rest in omega (arith, n, all, long, count);
        }

-- ---- so many sets

-- the first of them stands at the front, and what follows it holds the others
pub record OthersHeld (count : ℕ) (kept : List ℕ) (held : Holds values_format values_kept count kept) : Type 0 where
  pub front : Front kept
  pub others : Holds values_format values_kept (count - 1) front.rest
  pub all : held.kept ≡ front.set ∷ others.kept

pub others_held : (count : ℕ) (kept : List ℕ) → (count ≡ 0 → ⊥) → (held : Holds values_format values_kept count kept) → OthersHeld count kept held
others_held count kept some held = by_sets held.kept held.counted held.have held.are refl
  where
    by_sets : (sets : List Values) → length sets ≡ count → AllByRecursion values_format.Has sets → kept ≡ flat_map set_bytes sets ++ held.rest → held.kept ≡ sets → OthersHeld count kept held
    by_sets [] counted have are e = absurd (some (sym counted))
    by_sets (v ∷ vs) counted have are e = record {
      front = record { set = v; rest = flat_map set_bytes vs ++ held.rest; has = have.0; are = are ∙ append_assoc (set_bytes v) (flat_map set_bytes vs) held.rest };
      others = record { kept = vs; rest = held.rest; counted = let c = counted in omega (arith, c); have = have.1; are = refl };
      all = e;
    }

-- none are held where none are asked for
pub none_held : (count : ℕ) (kept : List ℕ) (held : Holds values_format values_kept count kept) → count ≡ 0 → held.kept ≡ []
none_held count kept held none = by_sets held.kept held.counted
  where
    by_sets : (sets : List Values) → length sets ≡ count → sets ≡ []
    by_sets [] counted = refl
    by_sets (v ∷ vs) counted = absurd (omega (arith, counted, none))

-- what is held of what stands behind the front, however it is named
pub held_from : (count : ℕ) (bytes rest : List ℕ) → bytes ≡ rest → (held : Holds values_format values_kept count rest) → (more : Holds values_format values_kept count bytes) × (more.kept ≡ held.kept)
held_from count bytes rest e held = subst (λ (b : List ℕ). (more : Holds values_format values_kept count b) × (more.kept ≡ held.kept)) (sym e) (held, refl)

-- ---- of parts of the bytes

pub first_of_front : (xs : List ℕ) → get_or (take 1 xs) 0 0 ≡ get_or xs 0 0
first_of_front [] = refl
first_of_front (x ∷ xs) = refl

pub second_of_front : (xs : List ℕ) → get_or (take 1 (drop 1 xs)) 0 0 ≡ get_or xs 1 0
second_of_front [] = refl
second_of_front (x ∷ []) = refl
second_of_front (x ∷ y ∷ xs) = refl

pub no_words : (bytes : List ℕ) → length bytes < 2 → words_in bytes ≡ []
no_words [] few = refl
no_words (x ∷ []) few = refl
no_words (x ∷ y ∷ bytes) few = absurd (omega (arith, few))

pub one_word_in : (bytes : List ℕ) → 2 ≤ length bytes → (get_or bytes 0 0 * 256 + get_or bytes 1 0) ∷ words_in (take (length bytes - 2) (drop 2 bytes)) ≡ words_in bytes
one_word_in [] long = absurd (omega (arith, long))
one_word_in (x ∷ []) long = absurd (omega (arith, long))
one_word_in (x ∷ y ∷ bytes) long =
    let same : x * 256 + y ≡ 256 * x + y = omega arith in
    ap (λ (ws : List ℕ). (x * 256 + y) ∷ words_in ws) (take_all (suc (suc (length bytes)) - 2) bytes (omega arith)) ∙ ap (λ n. n ∷ words_in bytes) same

-- ---- the law of lists

pub sets_found : (count : ℕ) (kept : List ℕ) (held : Holds values_format values_kept count kept) → values_kept.sets count kept ≡ held.kept
sets_found count kept held = ap (λ n. values_kept.sets n kept) (sym held.counted) ∙ ap (values_kept.sets (length held.kept)) held.are ∙ values_are_kept.again held.kept held.rest held.have
