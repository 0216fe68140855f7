-- Counts of how pieces of work ended.
use Rattle.std.proofs.Common.{◌≡◌, ◌+◌, ◌||◌, ℕ, suc, Bool, true, false, cond, List, [], ◌∷◌, ◌++◌, refl, sym, ap, ◌∙◌, arith, length}
use Rattle.std.specs.Prelude.{count_by, if◌then◌else◌, max, nat_lt}
use Rattle.std.specs.List.{list_any}
use Rattle.std.proofs.lemmas.Bool.{false≢true, lt-ltb}
use Rattle.std.proofs.lemmas.List.Folds.{list_any-append}
use Rattle.std.proofs.lemmas.List.Sums.{sum_by-append, sum_by-cons}
use Rattle.zbatch.specs.Summary.{greatest_status, status_of, total}
use Rattle.zbatch.specs.Working.{Runs, counted, is_failed, is_refused, is_unwritten, is_well, tally_of}
use Rattle.zbatch.specs.declared.tally.Tally.{Tally}
use Rattle.zbatch.specs.declared.work.Ended.{Ended}
use Rattle.zbatch.specs.declared.work.Ended.TheVariants.{Well, Refused, Failed, Unwritten}

-- 1 where a test is passed
abbrev one_if : Bool → ℕ
one_if b = cond b 1 0

one_more : (p : Ended → Bool) (ends : List Ended) (e : Ended) → count_by p (ends ++ e ∷ []) ≡ count_by p ends + one_if (p e)
one_more p ends e = sum_by-append (λ x. cond (p x) 1 0) ends (e ∷ []) ∙ omega arith

or_more : (b c : Bool) → (b || (c || false)) ≡ (b || c)
or_more true c = refl
or_more false true = refl
or_more false false = refl

with_all : (w r f : ℕ) (u : Bool) → Tally
with_all w r f u = record { well = w; refused = r; failed = f; unwritten = u }

same_as : (w r f x y z : ℕ) (u v : Bool) → w ≡ x → r ≡ y → f ≡ z → u ≡ v → with_all w r f u ≡ with_all x y z v
same_as w r f x y z u v one two three four =
    ap (λ n. with_all n r f u) one ∙ ap (λ n. with_all x n f u) two ∙ ap (λ n. with_all x y n u) three ∙ ap (λ b. with_all x y z b) four

so_many : (p : Ended → Bool) (ends : List Ended) (e : Ended) (n : ℕ) → one_if (p e) ≡ n → count_by p ends + n ≡ count_by p (ends ++ e ∷ [])
so_many p ends e n is = omega (arith, is, one_more p ends e)

as_many : (p : Ended → Bool) (ends : List Ended) (e : Ended) → one_if (p e) ≡ 0 → count_by p ends ≡ count_by p (ends ++ e ∷ [])
as_many p ends e is = omega (arith, is, one_more p ends e)

lost_or_not : (ends : List Ended) (e : Ended) → (list_any is_unwritten ends || is_unwritten e) ≡ list_any is_unwritten (ends ++ e ∷ [])
lost_or_not ends e = sym (list_any-append is_unwritten ends (e ∷ []) ∙ or_more (list_any is_unwritten ends) (is_unwritten e))

with_false : (b : Bool) → b ≡ (b || false)
with_false true = refl
with_false false = refl

with_true : (b : Bool) → true ≡ (b || true)
with_true true = refl
with_true false = refl

-- with one more
pub more : (ends : List Ended) (e : Ended) → counted (tally_of ends) e ≡ tally_of (ends ++ e ∷ [])
unfolding with_all
more ends Well =
    same_as _ _ _ _ _ _ _ _ (so_many is_well ends Well 1 refl) (as_many is_refused ends Well refl) (as_many is_failed ends Well refl) (with_false (list_any is_unwritten ends) ∙ lost_or_not ends Well)
more ends Refused =
    same_as _ _ _ _ _ _ _ _ (as_many is_well ends Refused refl) (so_many is_refused ends Refused 1 refl) (as_many is_failed ends Refused refl) (with_false (list_any is_unwritten ends) ∙ lost_or_not ends Refused)
more ends Failed =
    same_as _ _ _ _ _ _ _ _ (as_many is_well ends Failed refl) (as_many is_refused ends Failed refl) (so_many is_failed ends Failed 1 refl) (with_false (list_any is_unwritten ends) ∙ lost_or_not ends Failed)
more ends Unwritten =
    same_as _ _ _ _ _ _ _ _ (as_many is_well ends Unwritten refl) (as_many is_refused ends Unwritten refl) (as_many is_failed ends Unwritten refl) (with_true (list_any is_unwritten ends) ∙ lost_or_not ends Unwritten)

-- of one and others
cons : (p : Ended → Bool) (e : Ended) (ends : List Ended) → count_by p (e ∷ ends) ≡ one_if (p e) + count_by p ends
cons p e ends = sum_by-cons (λ x. cond (p x) 1 0) e ends

some : (p : Ended → Bool) (e : Ended) (ends : List Ended) → p e ≡ true → nat_lt 0 (count_by p (e ∷ ends)) ≡ true
some p e ends is =
    let one : count_by p (e ∷ ends) ≡ 1 + count_by p ends = cons p e ends ∙ ap (λ b. one_if b + count_by p ends) is in
    lt-ltb 0 (count_by p (e ∷ ends)) (omega (arith, one))

sums : (a b c d e f x y z : ℕ) → a ≡ x + d → b ≡ y + e → c ≡ z + f → a + b + c ≡ x + y + z + (d + e + f)
sums a b c d e f x y z one two three = omega (arith, one, two, three)

all_of : (e : Ended) (ends : List Ended) → total (tally_of (e ∷ ends)) ≡ one_if (is_well e) + one_if (is_refused e) + one_if (is_failed e) + total (tally_of ends)
all_of e ends = sums _ _ _ _ _ _ _ _ _ (cons is_well e ends) (cons is_refused e ends) (cons is_failed e ends)

one_further : (n t m : ℕ) → n ≡ 1 + t → t ≡ m → n ≡ suc m
one_further n t m is same = omega (arith, is, same)

-- the greatest of one status and that of all others
worst : (u f r : Bool) → (if u || f then 4 else 1) ≡ max 1 (if u || f then 4 else if r then 1 else 0)
worst true f r = refl
worst false true r = refl
worst false false true = refl
worst false false false = refl

failed_too : (u r f : Bool) → 4 ≡ max 4 (if u || f then 4 else if r then 1 else 0)
failed_too true r f = refl
failed_too false true true = refl
failed_too false true false = refl
failed_too false false true = refl
failed_too false false false = refl

last_failed : (u : Bool) (r : ℕ) → (if u || true then 4 else r) ≡ 4
last_failed true r = refl
last_failed false r = refl

-- the status of all is the greatest
pub greatest : (ends : List Ended) → status_of (tally_of ends) ≡ greatest_status ends
greatest [] = refl
greatest (Well ∷ ends) = go (status_of (tally_of ends)) (greatest_status ends) (greatest ends)
  where
    go : (s g : ℕ) → s ≡ g → s ≡ max 0 g
    go s g same = omega (arith, same)
greatest (Refused ∷ ends) =
    ap (λ b. if list_any is_unwritten ends || nat_lt 0 (count_by is_failed ends) then 4 else if b then 1 else 0) (some is_refused Refused ends refl)
    ∙ worst (list_any is_unwritten ends) (nat_lt 0 (count_by is_failed ends)) (nat_lt 0 (count_by is_refused ends)) ∙ ap (max 1) (greatest ends)
greatest (Failed ∷ ends) =
    ap (λ b. if list_any is_unwritten ends || b then 4 else if nat_lt 0 (count_by is_refused ends) then 1 else 0) (some is_failed Failed ends refl)
    ∙ last_failed (list_any is_unwritten ends) _ ∙ failed_too (list_any is_unwritten ends) (nat_lt 0 (count_by is_refused ends)) (nat_lt 0 (count_by is_failed ends)) ∙ ap (max 4) (greatest ends)
greatest (Unwritten ∷ ends) = failed_too (list_any is_unwritten ends) (nat_lt 0 (count_by is_refused ends)) (nat_lt 0 (count_by is_failed ends)) ∙ ap (max 4) (greatest ends)

-- each file is counted once, where no answer was lost
module _ {S : Type 0} (does : S → List ℕ → Ended → S → Type 0) where
  pub each_counted : (names : List (List ℕ)) (start end : S) (ends : List Ended) → Runs does names start ends end → (tally_of ends).unwritten ≡ false → total (tally_of ends) ≡ length names
  unfolding Runs
  each_counted [] start end [] runs written = refl
  each_counted [] start end (e ∷ ends) runs written = absurd runs
  each_counted (n ∷ names) start end [] runs written = absurd runs
  each_counted (n ∷ names) start end (Well ∷ ends) runs written = one_further _ _ _ (all_of Well ends) (each_counted names runs.0 end ends runs.2 written)
  each_counted (n ∷ names) start end (Refused ∷ ends) runs written = one_further _ _ _ (all_of Refused ends) (each_counted names runs.0 end ends runs.2 written)
  each_counted (n ∷ names) start end (Failed ∷ ends) runs written = one_further _ _ _ (all_of Failed ends) (each_counted names runs.0 end ends runs.2 written)
  each_counted (n ∷ names) start end (Unwritten ∷ ends) runs written = absurd (false≢true (sym written))
