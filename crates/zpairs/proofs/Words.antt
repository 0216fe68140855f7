-- What each pair of the words of two lists passes.
use Rattle.std.proofs.Common.{◌≡◌, ◌⊎◌, inl, inr, ℕ, ◌-◌, ◌<◌, ◌≤◌, List, [], ◌∷◌, length, map, take, drop, get_or, Option, Some, None, sym, subst, ap, ◌∙◌, arith}
use Rattle.std.specs.Prelude.{IsTrue, IfSome}
use Rattle.std.proofs.Math.Seq.{take-length}
use Rattle.std.proofs.lemmas.Bool.{cases_lt}
use Rattle.std.proofs.lemmas.Option.{same_Some}
use Rattle.zstory.specs.LoadedStory.{LoadedStory}
use Rattle.zdomain.specs.Domain.{SetOperations, AreSound}
use Rattle.zdomain.specs.Few.{is_among, none_gathered}
use Rattle.zdomain.specs.FewLaw.{all_new, among_cons}
use Rattle.zpairs.specs.declared.cell.Test.{Test}
use Rattle.zpairs.specs.Frozen.{FrozenStory}
use Rattle.zpairs.specs.Cells.{cell_at, passes}
use Rattle.zpairs.specs.Members.{both, members}
use Rattle.zpairs.specs.Pairs.{EachPair, EachWord, column, columns}
use Rattle.zpairs.proofs.Listed.{among_map}
use Rattle.zpairs.proofs.Tests.{above_passes}

-- ---- one after the other

less_one : (x : ℕ) (xs : List ℕ) → take (length (x ∷ xs) - 1) xs ≡ xs
less_one x xs = let one : length (x ∷ xs) - 1 ≡ length xs = omega arith in ap (λ (n : ℕ). take n xs) one ∙ take-length xs

pub none_among : (P : ℕ → Type 0) (xs : List ℕ) → length xs < 1 → (n : ℕ) → IsTrue (is_among n xs) → P n
none_among P [] few n there = absurd cc
none_among P (x ∷ xs) few n there = absurd (omega (arith, few))

pub one_by_one : (P : ℕ → Type 0) (xs : List ℕ) → 1 ≤ length xs → P (get_or xs 0 0) → ((n : ℕ) → IsTrue (is_among n (take (length xs - 1) (drop 1 xs))) → P n) → (n : ℕ) → IsTrue (is_among n xs) → P n
one_by_one P [] some first rest n there = absurd cc
one_by_one P (x ∷ xs) some first rest n there = among_cons x n xs (λ same. subst P same first) (λ behind. rest n (subst (λ (ys : List ℕ). IsTrue (is_among n ys)) (sym (less_one x xs)) behind)) there

-- ---- columns

column_again : (n : ℕ) → column (column n) ≡ column n
column_again n = omega arith

in_columns : (numbers each : List ℕ) (n : ℕ) → columns numbers ≡ Some each → IsTrue (is_among n numbers) → IsTrue (is_among (column n) each)
in_columns numbers each n told there = subst (λ (few : Option (List ℕ)). IfSome few (λ words. IsTrue (is_among (column n) words))) told (all_new (map column numbers) (column n) none_gathered (omega arith) (among_map column numbers n there)).few

module _ (told : FrozenStory) (test : Test) where
  -- a column stands for its number, and 32 for all that no property has
  by_column : (x n : ℕ) → IsTrue (passes test (column n) (cell_at told x (column n))) → IsTrue (passes test n (cell_at told x n))
  by_column x n passed = by_order (cases_lt n 32)
    where
      by_order : (n < 32) ⊎ (32 ≤ n) → IsTrue (passes test n (cell_at told x n))
      by_order (inl below) = let same : column n ≡ n = omega (arith, below) in subst (λ (k : ℕ). IsTrue (passes test k (cell_at told x k))) same passed
      by_order (inr above) =
          let last : column n ≡ 32 = omega (arith, above) in
          above_passes told test x n above ∙ sym (above_passes told test x 32 (omega arith)) ∙ subst (λ (k : ℕ). IsTrue (passes test k (cell_at told x k))) last passed

  pub by_columns : (objects numbers each : List ℕ) → columns numbers ≡ Some each → EachWord told.story objects each (λ x n. IsTrue (passes test (column n) (cell_at told x (column n)))) → EachWord told.story objects numbers (λ x n. IsTrue (passes test n (cell_at told x n)))
  by_columns objects numbers each is pass x n first last of_objects of_numbers =
      by_column x n (subst (λ (k : ℕ). IsTrue (passes test k (cell_at told x k))) (column_again n) (pass x (column n) first last of_objects (in_columns numbers each n is of_numbers)))

-- ---- sets that tell their words

both_told : (a b : Option (List ℕ)) (xs ys : List ℕ) → both a b ≡ Some (xs, ys) → (a ≡ Some xs) × (b ≡ Some ys)
both_told (Some us) (Some vs) xs ys e = let same : ◌≡◌ {A = List ℕ × List ℕ} (us, vs) (xs, ys) = same_Some (us, vs) (xs, ys) e in (ap (λ (p : List ℕ × List ℕ). Some p.0) same, ap (λ (p : List ℕ × List ℕ). Some p.1) same)
both_told (Some us) None xs ys e = absurd cc
both_told None b xs ys e = absurd cc

pub by_words : {V : Type 0} (o : SetOperations V) → AreSound o → (story : LoadedStory) (objects numbers : V) (xs ys : List ℕ) (Holds : ℕ → ℕ → Type 0) → members o objects numbers ≡ Some (xs, ys) → EachWord story xs ys Holds → EachPair o story objects numbers Holds
by_words o sound story objects numbers xs ys Holds are each x n first last of_objects of_numbers =
    let words = both_told (o.few objects) (o.few numbers) xs ys are in
    each x n first last (sound.few objects xs x words.0 of_objects) (sound.few numbers ys n words.1 of_numbers)
