-- Rows of siblings, one number at a time.
use Rattle.std.proofs.Common.{◌≡◌, ℕ, zero, suc, ◌-◌, ◌<◌, ◌≤◌, true, false, nat_lt, List, [], ◌∷◌, Option, Some, None, Ok, Err, refl, sym, ◌∙◌, arith}
use Rattle.std.specs.Prelude.{◌==◌}
use Rattle.std.specs.List.{find}
use Rattle.zobj.specs.Tree.{sibling}
use Rattle.std.proofs.lemmas.Bool.{lt-ltb, le-ltb, eq-eqb}
use Rattle.zobj.specs.declared.error.ObjectError.TheVariants.{AbsentObject}
use Rattle.zobj.specs.declared.tree.Link.TheVariants.{Sibling}
use Rattle.zobj.specs.Moves.{row, ends_search, elder}

pub row-step : (most : ℕ) (memory : List ℕ) (number : ℕ) → 0 < most → 0 < number → row most memory number ≡ number ∷ row (most - 1) memory (sibling memory number)
unfolding row
row-step zero memory number some least = absurd (omega arith)
row-step (suc most) memory zero some least = absurd (omega arith)
row-step (suc most) memory (suc n) some least = let same : suc most - 1 ≡ most = omega arith in rw same refl

pub row_ends : (most : ℕ) (memory : List ℕ) → row most memory 0 ≡ []
unfolding row
row_ends zero memory = refl
row_ends (suc most) memory = refl

pub row_full : (memory : List ℕ) (number : ℕ) → row 0 memory number ≡ []
unfolding row
row_full memory number = refl

-- what is sought in a row whose first number ends the search, or doesn't
module _ (objects : ℕ) (memory : List ℕ) (object most number : ℕ) (some : 0 < most) (least : 0 < number) where
  pub met : ends_search objects memory object number ≡ true → find (ends_search objects memory object) (row most memory number) ≡ Some number
  met is = rw (row-step most memory number some least, is) refl

  pub passed : ends_search objects memory object number ≡ false → find (ends_search objects memory object) (row most memory number) ≡ find (ends_search objects memory object) (row (most - 1) memory (sibling memory number))
  passed is = rw (row-step most memory number some least, is) refl

pub none_met : (objects : ℕ) (memory : List ℕ) (object most : ℕ) → find (ends_search objects memory object) (row most memory 0) ≡ None
none_met objects memory object most = rw (row_ends most memory) refl

pub none_left : (objects : ℕ) (memory : List ℕ) (object number : ℕ) → find (ends_search objects memory object) (row 0 memory number) ≡ None
none_left objects memory object number = rw (row_full memory number) refl

-- what the search comes to
module _ (objects : ℕ) (memory : List ℕ) (object most number : ℕ) (sought : Option ℕ) (is : find (ends_search objects memory object) (row most memory number) ≡ sought) where
  pub answer_zero : number ≡ 0 → elder objects sought ≡ Ok None
  answer_zero zero_is = rw (sym is, zero_is, none_met objects memory object most) refl

  pub answer_full : most ≡ 0 → elder objects sought ≡ Ok None
  answer_full none = rw (sym is, none, none_left objects memory object number) refl

  pub answer_absent : 0 < most → 0 < number → objects < number → elder objects sought ≡ Err AbsentObject
  answer_absent some least above =
      let out : nat_lt objects number ≡ true = lt-ltb objects number above in
      let ends : ends_search objects memory object number ≡ true = rw out refl in
      rw (sym is, met objects memory object most number some least ends, out) refl

  pub answer_sibling : 0 < most → 0 < number → number ≤ objects → sibling memory number ≡ object → elder objects sought ≡ Ok (Some (record { link = Sibling; object = number }))
  answer_sibling some least within leads =
      let inside : nat_lt objects number ≡ false = le-ltb objects number within in
      let equal : (sibling memory number == object) ≡ true = eq-eqb (sibling memory number) object leads in
      let ends : ends_search objects memory object number ≡ true = rw (inside, equal) refl in
      rw (sym is, met objects memory object most number some least ends, inside) refl

  pub answer_later : 0 < most → 0 < number → number ≤ objects → (sibling memory number == object) ≡ false → (next : ℕ) → next ≡ sibling memory number → (left : ℕ) → left ≡ most - 1 → find (ends_search objects memory object) (row left memory next) ≡ sought
  answer_later some least within other next next_is left left_is =
      let inside : nat_lt objects number ≡ false = le-ltb objects number within in
      let on : ends_search objects memory object number ≡ false = rw (inside, other) refl in
      rw (next_is, left_is) (sym (passed objects memory object most number some least on) ∙ is)
