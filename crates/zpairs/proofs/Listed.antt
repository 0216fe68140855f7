-- What is answered of the words of two lists, one by one.
use Rattle.std.proofs.Common.{◌≡◌, ◌⊎◌, inl, inr, ℕ, ◌-◌, ◌<◌, ◌≤◌, Bool, true, false, ◌&&◌, List, [], ◌∷◌, ◌++◌, length, map, take, drop, get_or, refl, sym, subst, ap, ◌∙◌, arith}
use Rattle.std.specs.Prelude.{IsTrue, nat_le}
use Rattle.std.specs.List.{list_all}
use Rattle.std.proofs.Math.Seq.{take-length}
use Rattle.std.proofs.lemmas.Bool.{and_parts, and_from, le-leb, lt-leb}
use Rattle.std.proofs.lemmas.List.Folds.{list_all-append}
use Rattle.zobj.specs.declared.answers.PropertyQuestion.{PropertyQuestion}
use Rattle.zdomain.specs.Few.{is_among, Gathering, with_word, with_words}
use Rattle.zdomain.specs.FewLaw.{among_cons, among_front, among_behind}
use Rattle.zdomain.proofs.Gathering.{one_by_one}
use Rattle.zpairs.specs.declared.ends.Ends.{Ends}
use Rattle.zpairs.specs.Frozen.{FrozenStory}
use Rattle.zpairs.specs.Pairs.{ends_of, row, pairs, is_exact, word_of}

less_one : (x : ℕ) (xs : List ℕ) → take (length (x ∷ xs) - 1) xs ≡ xs
less_one x xs = let one : length (x ∷ xs) - 1 ≡ length xs = omega arith in ap (λ (n : ℕ). take n xs) one ∙ take-length xs

map_append : (f : Ends → ℕ) (xs ys : List Ends) → map f (xs ++ ys) ≡ map f xs ++ map f ys
map_append f [] ys = refl
map_append f (x ∷ xs) ys = ap (λ (zs : List ℕ). f x ∷ zs) (map_append f xs ys)

-- ---- what is gathered

pub no_columns : (f : ℕ → ℕ) (xs : List ℕ) (g : Gathering) → length xs < 1 → g ≡ with_words (map f xs) g
unfolding with_words
no_columns f [] g few = refl
no_columns f (x ∷ xs) g few = absurd (omega (arith, few))

pub column_by_column : (f : ℕ → ℕ) (xs : List ℕ) (g : Gathering) → 1 ≤ length xs → with_words (map f (take (length xs - 1) (drop 1 xs))) (with_word (f (get_or xs 0 0)) g) ≡ with_words (map f xs) g
unfolding with_words
column_by_column f [] g some = absurd (omega (arith, some))
column_by_column f (x ∷ xs) g some = ap (λ (ys : List ℕ). with_words (map f ys) (with_word (f x) g)) (less_one x xs)

module _ (h : ℕ → Ends) where
  pub no_ends : (xs : List ℕ) (g : Gathering) → length xs < 1 → g ≡ with_words (map word_of (map h xs)) g
  unfolding with_words
  no_ends [] g few = refl
  no_ends (x ∷ xs) g few = absurd (omega (arith, few))

  pub ends_by_ends : (xs : List ℕ) (g : Gathering) → 1 ≤ length xs → with_words (map word_of (map h (take (length xs - 1) (drop 1 xs)))) (with_word (word_of (h (get_or xs 0 0))) g) ≡ with_words (map word_of (map h xs)) g
  unfolding with_words
  ends_by_ends [] g some = absurd (omega (arith, some))
  ends_by_ends (x ∷ xs) g some = ap (λ (ys : List ℕ). with_words (map word_of (map h ys)) (with_word (word_of (h x)) g)) (less_one x xs)

module _ (told : FrozenStory) (question : PropertyQuestion) (columns : List ℕ) where
  pub no_pairs : (objects : List ℕ) (g : Gathering) → length objects < 1 → g ≡ with_words (map word_of (pairs told question objects columns)) g
  unfolding with_words pairs
  no_pairs [] g few = refl
  no_pairs (x ∷ xs) g few = absurd (omega (arith, few))

  pub none_exact : (objects : List ℕ) → length objects < 1 → true ≡ list_all is_exact (pairs told question objects columns)
  unfolding pairs
  none_exact [] few = refl
  none_exact (x ∷ xs) few = absurd (omega (arith, few))

  pub row_by_row : (objects : List ℕ) (g : Gathering) → 1 ≤ length objects → with_words (map word_of (pairs told question (take (length objects - 1) (drop 1 objects)) columns)) (with_words (map word_of (row told question (get_or objects 0 0) columns)) g) ≡ with_words (map word_of (pairs told question objects columns)) g
  unfolding pairs
  row_by_row [] g some = absurd (omega (arith, some))
  row_by_row (x ∷ objects) g some =
      ap (λ (xs : List ℕ). with_words (map word_of (pairs told question xs columns)) (with_words (map word_of (row told question x columns)) g)) (less_one x objects)
      ∙ sym (one_by_one (map word_of (row told question x columns)) (map word_of (pairs told question objects columns)) g)
      ∙ ap (λ (xs : List ℕ). with_words xs g) (sym (map_append word_of (row told question x columns) (pairs told question objects columns)))

  pub both_exact : (objects : List ℕ) (here others : Bool) → 1 ≤ length objects → here ≡ list_all is_exact (row told question (get_or objects 0 0) columns) → others ≡ list_all is_exact (pairs told question (take (length objects - 1) (drop 1 objects)) columns) → (here && others) ≡ list_all is_exact (pairs told question objects columns)
  unfolding pairs
  both_exact [] here others some first rest = absurd (omega (arith, some))
  both_exact (x ∷ objects) here others some first rest =
      ap (λ (b : Bool). b && others) first
      ∙ ap (λ (b : Bool). list_all is_exact (row told question x columns) && b) (rest ∙ ap (λ (xs : List ℕ). list_all is_exact (pairs told question xs columns)) (less_one x objects))
      ∙ sym (list_all-append is_exact (row told question x columns) (pairs told question objects columns))

pub by_first : (here others all : Bool) → here ≡ true → (here && others) ≡ all → others ≡ all
by_first true others all e is = is
by_first false others all e is = absurd cc

pub not_first : (here others all : Bool) → here ≡ false → (here && others) ≡ all → here ≡ all
not_first false others all e is = is
not_first true others all e is = absurd cc

-- an object that the story hasn't
pub outside_row : (told : FrozenStory) (question : PropertyQuestion) (x : ℕ) (columns : List ℕ) (g : Gathering) → (x < 1) ⊎ (told.story.objects < x) → g ≡ with_words (map word_of (row told question x columns)) g
unfolding with_words
outside_row told question x columns g outside = by outside
  where
    none : (nat_le 1 x && nat_le x told.story.objects) ≡ false → g ≡ with_words (map word_of (row told question x columns)) g
    none e = rw e refl

    and_false : (b : Bool) → (b && false) ≡ false
    and_false true = refl
    and_false false = refl

    by : (x < 1) ⊎ (told.story.objects < x) → g ≡ with_words (map word_of (row told question x columns)) g
    by (inl low) = let e = lt-leb 1 x low in none (rw e refl)
    by (inr high) = let e = lt-leb x told.story.objects high in none (rw e (and_false (nat_le 1 x)))

-- ---- one of many

pub among_map : (f : ℕ → ℕ) (words : List ℕ) (w : ℕ) → IsTrue (is_among w words) → IsTrue (is_among (f w) (map f words))
among_map f [] w there = absurd cc
among_map f (v ∷ words) w there = among_cons v w words (λ same. subst (λ (r : ℕ). IsTrue (is_among (f r) (f v ∷ map f words))) same (among_front (f v) (map f words))) (λ later. among_behind (f v) (f w) (map f words) (among_map f words w later)) there

-- it is known of a pair among them what is known of all
pub record IsTold (ends : Ends) (all : List Ends) : Type 0 where
  pub exact : is_exact ends ≡ true
  pub among : IsTrue (is_among (word_of ends) (map word_of all))

told_front : (ends : Ends) (all : List Ends) → list_all is_exact (ends ∷ all) ≡ true → IsTold ends (ends ∷ all)
told_front ends all e = record { exact = (and_parts (is_exact ends) (list_all is_exact all) e).0; among = among_front (word_of ends) (map word_of all) }

in_front : (ends : Ends) (xs ys : List Ends) → IsTold ends xs → IsTold ends (xs ++ ys)
in_front ends xs ys told = record { exact = told.exact; among = subst (λ (zs : List ℕ). IsTrue (is_among (word_of ends) zs)) (sym (map_append word_of xs ys)) (among_left (word_of ends) (map word_of xs) (map word_of ys) told.among) }
  where
    among_left : (w : ℕ) (vs ws : List ℕ) → IsTrue (is_among w vs) → IsTrue (is_among w (vs ++ ws))
    among_left w [] ws there = absurd cc
    among_left w (v ∷ vs) ws there = among_cons v w vs (λ same. subst (λ (r : ℕ). IsTrue (is_among r (v ∷ vs ++ ws))) same (among_front v (vs ++ ws))) (λ behind. among_behind v w (vs ++ ws) (among_left w vs ws behind)) there

behind : (ends : Ends) (xs ys : List Ends) → IsTold ends ys → IsTold ends (xs ++ ys)
behind ends [] ys told = told
behind ends (x ∷ xs) ys told = let rest = behind ends xs ys told in record { exact = rest.exact; among = among_behind (word_of x) (word_of ends) (map word_of (xs ++ ys)) rest.among }

module _ (h : ℕ → Ends) where
  one_column : (columns : List ℕ) (k : ℕ) → IsTrue (is_among k columns) → list_all is_exact (map h columns) ≡ true → IsTold (h k) (map h columns)
  one_column [] k there e = absurd cc
  one_column (n ∷ columns) k there e =
      among_cons n k columns
      (λ same. subst (λ (m : ℕ). IsTold (h m) (map h (n ∷ columns))) same (told_front (h n) (map h columns) e))
      (λ later. (let rest = one_column columns k later (and_parts (is_exact (h n)) (list_all is_exact (map h columns)) e).1 in record { exact = rest.exact; among = among_behind (word_of (h n)) (word_of (h k)) (map word_of (map h columns)) rest.among }))
      there

module _ (told : FrozenStory) (question : PropertyQuestion) (columns : List ℕ) where
  own_row : (x k : ℕ) → 1 ≤ x → x ≤ told.story.objects → IsTrue (is_among k columns) → list_all is_exact (row told question x columns) ≡ true → IsTold (ends_of told question x k) (row told question x columns)
  own_row x k first last there = by (and_from (nat_le 1 x) (nat_le x told.story.objects) (le-leb 1 x first) (le-leb x told.story.objects last))
    where
      by : (nat_le 1 x && nat_le x told.story.objects) ≡ true → list_all is_exact (row told question x columns) ≡ true → IsTold (ends_of told question x k) (row told question x columns)
      by is = rw is (λ e. one_column (ends_of told question x) columns k there e)

  pub one_pair : (objects : List ℕ) (x k : ℕ) → 1 ≤ x → x ≤ told.story.objects → IsTrue (is_among x objects) → IsTrue (is_among k columns) → list_all is_exact (pairs told question objects columns) ≡ true → IsTold (ends_of told question x k) (pairs told question objects columns)
  unfolding pairs
  one_pair [] x k first last of_objects of_columns e = absurd cc
  one_pair (y ∷ objects) x k first last of_objects of_columns e =
      let parts = and_parts (list_all is_exact (row told question y columns)) (list_all is_exact (pairs told question objects columns)) (sym (list_all-append is_exact (row told question y columns) (pairs told question objects columns)) ∙ e) in
      among_cons y x objects
      (λ same. (let is : x ≡ y = sym same in subst (λ (z : ℕ). IsTold (ends_of told question z k) (row told question y columns ++ pairs told question objects columns)) same (in_front (ends_of told question y k) (row told question y columns) (pairs told question objects columns) (own_row y k (subst (λ (z : ℕ). 1 ≤ z) is first) (subst (λ (z : ℕ). z ≤ told.story.objects) is last) of_columns parts.0))))
      (λ later. behind (ends_of told question x k) (row told question y columns) (pairs told question objects columns) (one_pair objects x k first last later of_columns parts.1))
      of_objects
