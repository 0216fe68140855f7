-- Bytes as runs: what is spelled is read, and what is read is spelled.
use Rattle.std.proofs.Common.{◌≡◌, inl, inr, ℕ, zero, suc, ◌-◌, ◌<◌, ◌≤◌, List, [], ◌∷◌, ◌++◌, length, take, drop, get_or, Option, Some, None, Result, Ok, Err, refl, sym, ap, subst, ◌∙◌, append_assoc, arith, length-append}
use Rattle.std.specs.Prelude.{replicate, nat_le}
use Rattle.std.specs.List.{flat_map, AllByRecursion}
use Rattle.std.specs.Int.Bits.{bit_xor, xor_self, xor_zero_l, xor_zero_r, xor_assoc}
use Rattle.std.proofs.lemmas.Nat.{xor_of_8}
use Rattle.std.proofs.lemmas.Bool.{le-leb, lt-leb, leb-true, cases_Bool}
use Rattle.std.proofs.lemmas.List.{append-nil, length-replicate}
use Rattle.zquetzal.proofs.Numbers.{IsBytes, IsBytes-drop}
use Rattle.zunpack.specs.declared.error.UnpackError.{UnpackError}
use Rattle.zunpack.specs.declared.error.UnpackError.TheVariants.{TooLong}
use Rattle.zunpack.specs.Packing.{Run, Changed, Same, IsRun, run_bytes, run_differences, runs_differences, AreRuns, differences, Packs, with_run, runs_of, changed, unpacked_by, unpacked, run_for, packed}
use Rattle.zunpack.specs.View.{run_at, told}

-- ---- runs

pub runs_again : (runs : List Run) → AllByRecursion IsRun runs → runs_of (flat_map run_bytes runs) ≡ Some runs
runs_again [] each = refl
runs_again (Changed zero ∷ runs) each = absurd (omega (arith, each.0.0))
runs_again (Changed (suc d) ∷ runs) each = ap (with_run (Changed (suc d))) (runs_again runs each.1)
runs_again (Same n ∷ runs) each = ap (with_run (Same n)) (runs_again runs each.1)

abbrev some_runs : List Run → Option (List Run)
some_runs runs = Some runs

-- runs behind a run
with_some : (r : Run) (o : Option (List Run)) (runs : List Run) → with_run r o ≡ Some runs → (left : List Run) × (o ≡ Some left) × (runs ≡ r ∷ left)
with_some r None runs e = absurd cc
with_some r (Some left) runs e = (left, refl, let same : some_runs (r ∷ left) ≡ some_runs runs = e in cc)

pub runs_taken : (bytes : List ℕ) (runs : List Run) → IsBytes bytes → runs_of bytes ≡ Some runs → AreRuns bytes runs
runs_taken [] runs fits e = subst (λ (x : List Run). AreRuns [] x) {x = []} {y = runs} (let same : some_runs [] ≡ some_runs runs = e in cc) (record { spelled = refl; each = tt })
runs_taken (zero ∷ []) runs fits e = absurd cc
runs_taken (zero ∷ n ∷ rest) runs fits e =
    let w = with_some (Same n) (runs_of rest) runs e in
    let is = runs_taken rest w.0 (IsBytes-drop 2 (zero ∷ n ∷ rest) fits) w.1 in
    subst (λ (x : List Run). AreRuns (zero ∷ n ∷ rest) x) (sym w.2) (record { spelled = ap (λ (x : List ℕ). zero ∷ n ∷ x) is.spelled; each = (fits 1, is.each) })
runs_taken (suc d ∷ rest) runs fits e =
    let w = with_some (Changed (suc d)) (runs_of rest) runs e in
    let is = runs_taken rest w.0 (IsBytes-drop 1 (suc d ∷ rest) fits) w.1 in
    subst (λ (x : List Run). AreRuns (suc d ∷ rest) x) (sym w.2) (record { spelled = ap (λ (x : List ℕ). suc d ∷ x) is.spelled; each = ((omega arith, fits 0), is.each) })

-- ---- differences

abbrev zeros : ℕ → List ℕ
zeros n = replicate n 0

-- zeros change nothing
changed_zeros : (bytes : List ℕ) (n : ℕ) → changed bytes (zeros n) ≡ bytes
changed_zeros [] zero = refl
changed_zeros [] (suc n) = refl
changed_zeros (b ∷ bytes) zero = refl
changed_zeros (b ∷ bytes) (suc n) = rw (xor_zero_r b, changed_zeros bytes n) refl

-- zeros behind what differs change nothing
changed_more : (bytes ds : List ℕ) (n : ℕ) → changed bytes (ds ++ zeros n) ≡ changed bytes ds
changed_more bytes [] n = changed_zeros bytes n
changed_more [] (d ∷ ds) n = refl
changed_more (b ∷ bytes) (d ∷ ds) n = ap (λ (x : List ℕ). bit_xor b d ∷ x) (changed_more bytes ds n)

xor_twice : (a b : ℕ) → bit_xor a (bit_xor a b) ≡ b
xor_twice a b = sym (xor_assoc a a b) ∙ ap (λ (x : ℕ). bit_xor x b) (xor_self a) ∙ xor_zero_l b

-- a memory that is changed by what it differs is the other
changed_back : (bytes memory : List ℕ) → length memory ≡ length bytes → changed bytes (differences bytes memory) ≡ memory
changed_back [] [] long = refl
changed_back [] (m ∷ memory) long = absurd (omega (arith, long))
changed_back (b ∷ bytes) [] long = absurd (omega (arith, long))
changed_back (b ∷ bytes) (m ∷ memory) long = rw (xor_twice b m, changed_back bytes memory (omega (arith, long))) refl

length-differences : (bytes memory : List ℕ) → length memory ≡ length bytes → length (differences bytes memory) ≡ length bytes
length-differences [] memory long = refl
length-differences (b ∷ bytes) [] long = absurd (omega (arith, long))
length-differences (b ∷ bytes) (m ∷ memory) long = let l = length-differences bytes memory (omega (arith, long)) in omega (arith, l)

pub length-changed : (bytes ds : List ℕ) → length (changed bytes ds) ≡ length bytes
length-changed bytes [] = refl
length-changed [] (d ∷ ds) = refl
length-changed (b ∷ bytes) (d ∷ ds) = let l = length-changed bytes ds in omega (arith, l)

-- a memory differs from itself by zeros
differs_none : (bytes : List ℕ) → differences bytes bytes ≡ zeros (length bytes)
differs_none [] = refl
differs_none (b ∷ bytes) = rw (xor_self b, differs_none bytes) refl

-- a changed memory differs by what it was changed by
differs_so : (bytes ds : List ℕ) → length ds ≤ length bytes → differences bytes (changed bytes ds) ≡ ds ++ zeros (length bytes - length ds)
differs_so bytes [] few = let same : length bytes ≡ length bytes - 0 = omega arith in differs_none bytes ∙ ap zeros same
differs_so [] (d ∷ ds) few = absurd (omega (arith, few))
differs_so (b ∷ bytes) (d ∷ ds) few =
    let same : length bytes - length ds ≡ suc (length bytes) - suc (length ds) = omega arith in
    let rest = differs_so bytes ds (omega (arith, few)) in
    rw (xor_twice b d) (ap (λ (x : List ℕ). d ∷ x) rest ∙ ap (λ (n : ℕ). d ∷ (ds ++ zeros n)) same)

-- ---- unpacking

abbrev good : List ℕ → Result (List ℕ) UnpackError
good x = Ok x

by_runs : (dynamic bytes : List ℕ) (runs : List Run) → runs_of bytes ≡ Some runs → length (runs_differences runs) ≤ length dynamic → unpacked dynamic bytes ≡ Ok (changed dynamic (runs_differences runs))
by_runs dynamic bytes runs e few = ap (unpacked_by dynamic) e ∙ rw (le-leb (length (runs_differences runs)) (length dynamic) few) refl

pub unpacked_again : (dynamic bytes memory : List ℕ) → Packs dynamic bytes memory → unpacked dynamic bytes ≡ Ok memory
unpacked_again dynamic bytes memory is =
    let ds = runs_differences is.runs in
    let read : runs_of bytes ≡ Some is.runs = ap runs_of is.are.spelled ∙ runs_again is.runs is.are.each in
    let total : length (differences dynamic memory) ≡ length (ds ++ zeros is.left_out) = ap (λ (x : List ℕ). length x) is.tell in
    let few : length ds ≤ length dynamic = omega (arith, total, length-differences dynamic memory is.long, length-append ds (zeros is.left_out)) in
    by_runs dynamic bytes is.runs read few
    ∙ ap good (sym (changed_more dynamic ds is.left_out) ∙ ap (changed dynamic) (sym is.tell) ∙ changed_back dynamic memory is.long)

pub packs_so : (dynamic bytes : List ℕ) (runs : List Run) → AreRuns bytes runs → length (runs_differences runs) ≤ length dynamic → Packs dynamic bytes (changed dynamic (runs_differences runs))
packs_so dynamic bytes runs are few = record {
  runs = runs;
  are = are;
  left_out = length dynamic - length (runs_differences runs);
  tell = differs_so dynamic (runs_differences runs) few;
  long = length-changed dynamic (runs_differences runs);
}

takes_by : (dynamic bytes memory : List ℕ) (o : Option (List Run)) → IsBytes bytes → runs_of bytes ≡ o → unpacked_by dynamic o ≡ Ok memory → Packs dynamic bytes memory
takes_by dynamic bytes memory None fits e f = absurd cc
takes_by dynamic bytes memory (Some runs) fits e f =
    let ds = runs_differences runs in
    elim (cases_Bool (nat_le (length ds) (length dynamic))) [
      | inl few ↦
          let same : good (changed dynamic ds) ≡ good memory = rw few at f in
          let is : changed dynamic ds ≡ memory = cc in
          subst (λ (m : List ℕ). Packs dynamic bytes m) is (packs_so dynamic bytes runs (runs_taken bytes runs fits e) (leb-true (length ds) (length dynamic) few))
      | inr many ↦ absurd (let none : Err TooLong ≡ good memory = rw many at f in cc)
    ]

pub unpacked_takes : (dynamic bytes memory : List ℕ) → IsBytes bytes → unpacked dynamic bytes ≡ Ok memory → Packs dynamic bytes memory
unpacked_takes dynamic bytes memory fits e = takes_by dynamic bytes memory (runs_of bytes) fits refl e

-- ---- packing

plain_runs : List ℕ → List Run
plain_runs [] = []
plain_runs (d ∷ ds) = run_for d ∷ plain_runs ds

plain_bytes : (ds : List ℕ) → flat_map (λ d. run_bytes (run_for d)) ds ≡ flat_map run_bytes (plain_runs ds)
unfolding plain_runs
plain_bytes [] = refl
plain_bytes (d ∷ ds) = ap (λ (x : List ℕ). run_bytes (run_for d) ++ x) (plain_bytes ds)

plain_tell : (ds : List ℕ) → runs_differences (plain_runs ds) ≡ ds
unfolding plain_runs
plain_tell [] = refl
plain_tell (zero ∷ ds) = ap (λ (x : List ℕ). zero ∷ x) (plain_tell ds)
plain_tell (suc d ∷ ds) = ap (λ (x : List ℕ). suc d ∷ x) (plain_tell ds)

plain_again : (ds : List ℕ) → runs_of (flat_map (λ d. run_bytes (run_for d)) ds) ≡ Some (plain_runs ds)
unfolding plain_runs
plain_again [] = refl
plain_again (zero ∷ ds) = ap (with_run (Same 0)) (plain_again ds)
plain_again (suc d ∷ ds) = ap (with_run (Changed (suc d))) (plain_again ds)

-- a memory that was packed is unpacked
pub packed_again : (dynamic memory : List ℕ) → length memory ≡ length dynamic → unpacked dynamic (packed dynamic memory) ≡ Ok memory
packed_again dynamic memory long =
    let ds = differences dynamic memory in
    let same = plain_tell ds in
    let few : length (runs_differences (plain_runs ds)) ≤ length dynamic = omega (arith, ap (λ (x : List ℕ). length x) same, length-differences dynamic memory long) in
    by_runs dynamic (packed dynamic memory) (plain_runs ds) (plain_again ds) few
    ∙ ap good (ap (changed dynamic) same ∙ changed_back dynamic memory long)

byte_run : (d : ℕ) → d < 256 → IsRun (run_for d)
byte_run zero low = omega arith
byte_run (suc d) low = (omega arith, low)

byte_runs : (ds : List ℕ) → IsBytes ds → AllByRecursion IsRun (plain_runs ds)
unfolding plain_runs
byte_runs [] fits = tt
byte_runs (d ∷ ds) fits = (byte_run d (fits 0), byte_runs ds (IsBytes-drop 1 (d ∷ ds) fits))

by_place : (P : ℕ → Type 0) → P 0 → ((i : ℕ) → P (suc i)) → (i : ℕ) → P i
by_place P first others zero = first
by_place P first others (suc i) = others i

differ_in_bytes : (bytes memory : List ℕ) → IsBytes bytes → IsBytes memory → IsBytes (differences bytes memory)
differ_in_bytes [] memory fits also = λ i. omega arith
differ_in_bytes (b ∷ bytes) [] fits also = λ i. omega arith
differ_in_bytes (b ∷ bytes) (m ∷ memory) fits also =
    let rest = differ_in_bytes bytes memory (IsBytes-drop 1 (b ∷ bytes) fits) (IsBytes-drop 1 (m ∷ memory) also) in
    by_place (λ i. get_or (differences (b ∷ bytes) (m ∷ memory)) i 0 < 256) (xor_of_8 b m (fits 0) (also 0)) rest

-- each memory that is as long as the story's has bytes that stand for it
pub packs_plainly : (dynamic memory : List ℕ) → IsBytes dynamic → IsBytes memory → length memory ≡ length dynamic → Packs dynamic (packed dynamic memory) memory
packs_plainly dynamic memory fits also long =
    let ds = differences dynamic memory in
    record {
      runs = plain_runs ds;
      are = record { spelled = plain_bytes ds; each = byte_runs ds (differ_in_bytes dynamic memory fits also) };
      left_out = 0;
      tell = sym (plain_tell ds) ∙ sym (append-nil (runs_differences (plain_runs ds)));
      long = long;
    }

-- ---- what runs at the front tell

pub told_is : (bytes : List ℕ) (runs : List Run) → runs_of bytes ≡ Some runs → told bytes ≡ runs_differences runs
told_is [] runs e = ap (λ (x : List Run). runs_differences x) (let same : some_runs [] ≡ some_runs runs = e in let is : [] ≡ runs = cc in is)
told_is (zero ∷ []) runs e = absurd cc
told_is (zero ∷ n ∷ rest) runs e =
    let w = with_some (Same n) (runs_of rest) runs e in
    ap (λ (x : List ℕ). run_differences (Same n) ++ x) (told_is rest w.0 w.1) ∙ ap (λ (x : List Run). runs_differences x) (sym w.2)
told_is (suc d ∷ rest) runs e =
    let w = with_some (Changed (suc d)) (runs_of rest) runs e in
    ap (λ (x : List ℕ). suc d ∷ x) (told_is rest w.0 w.1) ∙ ap (λ (x : List Run). runs_differences x) (sym w.2)

next_is : (x y : Run × List ℕ) → Some x ≡ Some y → x ≡ y
next_is x y e = cc

-- a run in front
pub run_told : (bytes : List ℕ) (x : Run × List ℕ) → run_at bytes ≡ Some x → told bytes ≡ run_differences x.0 ++ told x.1
run_told [] x e = absurd cc
run_told (zero ∷ []) x e = absurd cc
run_told (zero ∷ n ∷ rest) x e = subst (λ (y : Run × List ℕ). told (zero ∷ n ∷ rest) ≡ run_differences y.0 ++ told y.1) (next_is (Same n, rest) x e) refl
run_told (suc d ∷ rest) x e = subst (λ (y : Run × List ℕ). told (suc d ∷ rest) ≡ run_differences y.0 ++ told y.1) (next_is (Changed (suc d), rest) x e) refl

pub run_read : (bytes : List ℕ) (x : Run × List ℕ) → run_at bytes ≡ Some x → runs_of bytes ≡ with_run x.0 (runs_of x.1)
run_read [] x e = absurd cc
run_read (zero ∷ []) x e = absurd cc
run_read (zero ∷ n ∷ rest) x e = subst (λ (y : Run × List ℕ). runs_of (zero ∷ n ∷ rest) ≡ with_run y.0 (runs_of y.1)) (next_is (Same n, rest) x e) refl
run_read (suc d ∷ rest) x e = subst (λ (y : Run × List ℕ). runs_of (suc d ∷ rest) ≡ with_run y.0 (runs_of y.1)) (next_is (Changed (suc d), rest) x e) refl

-- where no run is in front, nothing is told
pub none_told : (bytes : List ℕ) → run_at bytes ≡ None → told bytes ≡ []
none_told [] e = refl
none_told (zero ∷ []) e = refl
none_told (zero ∷ n ∷ rest) e = absurd cc
none_told (suc d ∷ rest) e = absurd cc

pub none_read : (bytes : List ℕ) → (bytes ≡ [] → ⊥) → run_at bytes ≡ None → runs_of bytes ≡ None
none_read [] some e = absurd (some refl)
none_read (zero ∷ []) some e = refl
none_read (zero ∷ n ∷ rest) some e = absurd cc
none_read (suc d ∷ rest) some e = absurd cc

pub read_none : (r : Run) (o : Option (List Run)) → o ≡ None → with_run r o ≡ None
read_none r o e = ap (with_run r) e

pub read_some : (r : Run) (o : Option (List Run)) → ((runs : List Run) × (o ≡ Some runs)) → (runs : List Run) × (with_run r o ≡ Some runs)
read_some r o s = (r ∷ s.0, ap (with_run r) s.1)

-- zeros in front are bytes that stay
pub changed_zeros_then : (n : ℕ) (bytes ds : List ℕ) → n ≤ length bytes → changed bytes (zeros n ++ ds) ≡ take n bytes ++ changed (drop n bytes) ds
changed_zeros_then zero bytes ds few = refl
changed_zeros_then (suc n) [] ds few = absurd (omega (arith, few))
changed_zeros_then (suc n) (b ∷ bytes) ds few = rw (xor_zero_r b, changed_zeros_then n bytes ds (omega (arith, few))) refl

-- what is refused is no memory's
pub refused_length : (dynamic bytes : List ℕ) (runs : List Run) → runs_of bytes ≡ Some runs → length dynamic < length (told bytes) → unpacked dynamic bytes ≡ Err TooLong
refused_length dynamic bytes runs e many =
    let ds = runs_differences runs in
    let told_so = ap (λ (x : List ℕ). length x) (told_is bytes runs e) in
    ap (unpacked_by dynamic) e ∙ rw (lt-leb (length ds) (length dynamic) (omega (arith, many, told_so))) refl

pub taken_length : (dynamic bytes : List ℕ) (runs : List Run) → runs_of bytes ≡ Some runs → length (told bytes) ≤ length dynamic → unpacked dynamic bytes ≡ Ok (changed dynamic (told bytes))
taken_length dynamic bytes runs e few =
    let same = told_is bytes runs e in
    by_runs dynamic bytes runs e (omega (arith, few, ap (λ (x : List ℕ). length x) same)) ∙ ap good (ap (changed dynamic) (sym same))

-- ---- writing a run

pub changed_one : (old story : List ℕ) (d : ℕ) (ds : List ℕ) → 0 < length story → (old ++ (bit_xor (get_or story 0 0) d ∷ [])) ++ changed (drop 1 story) ds ≡ old ++ changed story (d ∷ ds)
changed_one old [] d ds some = absurd (omega (arith, some))
changed_one old (b ∷ story) d ds some = append_assoc old (bit_xor b d ∷ []) (changed story ds)

pub same_more : (old story : List ℕ) (n : ℕ) (ds : List ℕ) → n < length story → (old ++ take (suc n) story) ++ changed (drop (suc n) story) ds ≡ old ++ changed story (zeros (suc n) ++ ds)
same_more old story n ds few = append_assoc old (take (suc n) story) (changed (drop (suc n) story) ds) ∙ ap (λ (x : List ℕ). old ++ x) (sym (changed_zeros_then (suc n) story ds (omega (arith, few))))

pub few_same : (n : ℕ) (story : List ℕ) → length (run_differences (Same n)) ≤ length story → n < length story
few_same n story fits = omega (arith, fits, length-replicate {A = ℕ} n 0)
