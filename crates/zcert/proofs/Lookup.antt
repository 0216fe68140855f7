-- Instructions stand by their addresses, so that a search of the stored ones finds the one that is listed.
use Rattle.std.proofs.Common.{◌≡◌, ◌≢◌, Bool, true, if◌then◌else◌, ℕ, zero, suc, ◌+◌, ◌<◌, ◌≤◌, false, eqb, List, [], ◌∷◌, length, get_or, map, Option, Some, None, Result, Ok, Err, refl, sym, ap, subst, ◌∙◌, eq-eqb, arith, inl, inr}
use Rattle.std.specs.Prelude.{slice_get, IfSome, IsSome}
use Rattle.std.proofs.lemmas.List.{length-map}
use Rattle.std.specs.Ordering.{nat_cmp, ordering_index}
use Rattle.std.specs.List.Sorted.{IsNonDecreasingBy, IsPartitionPoint, IsSearchInRange, IsBinarySearchResult}
use Rattle.std.specs.List.{HoldsAt}
use Rattle.std.specs.Option.{option_map}
use Rattle.std.specs.Result.{result_ok}
use Rattle.std.proofs.lemmas.Bool.{cases_lt, eqb-true, false≢true}
use Rattle.std.specs.declared.cmp.Ordering.TheVariants.{Less, Equal, Greater}
use Rattle.std.proofs.lemmas.Bool.Decides.{nat_tests}
use Rattle.std.proofs.lemmas.Option.{get_or_from_slice_get, slice_get_within, slice_get-map}
use Rattle.zcert.specs.declared.instructions.Stored.{Stored}
use Rattle.zcert.specs.Certificate.{Instruction}
use Rattle.zcert.specs.Contents.{stored_instruction}
use Rattle.zcert.specs.Keeping.{Keeping}
use Rattle.zcert.specs.Spelling.{Rise}
use Rattle.zcert.specs.declared.parts.Routine.{Routine}
use Rattle.zcert.specs.Listed.{listed_at, routine_at, Finds}
use Rattle.zcert.proofs.Rising.{some_is, none_there, above}

abbrev address : Stored → ℕ
address s = s.address

abbrev instructions : {V C : Type 0} → Keeping V C → List C → List Stored → List (Instruction V)
instructions keeping cells ss = map (stored_instruction keeping cells) ss

pub rise_stored : {V C : Type 0} (keeping : Keeping V C) (cells : List C) (floor : ℕ) (ss : List Stored) → Rise (λ (i : Instruction V). i.address) floor (instructions keeping cells ss) → Rise address floor ss
rise_stored keeping cells floor [] rise = tt
rise_stored keeping cells floor (s ∷ ss) rise = (rise.0, rise_stored keeping cells (s.address + 1) ss rise.1)

-- each is the one that is listed at its address
pub listed : {V : Type 0} (floor : ℕ) (is : List (Instruction V)) (k : ℕ) (i : Instruction V) → Rise (λ (i : Instruction V). i.address) floor is → slice_get is k ≡ Some i → listed_at is i.address ≡ Some i
listed floor [] k i rise e = none_there k i e
listed floor (x ∷ is) zero i rise e = let same : x ≡ i = some_is x i e in rw (same, eq-eqb i.address i.address refl) refl
listed {V} floor (x ∷ is) (suc k) i rise e =
    let higher : x.address + 1 ≤ i.address = above (λ (i : Instruction V). i.address) (x.address + 1) is k i rise.1 e in
    let other : eqb x.address i.address ≡ false = grind (arith, nat_tests) in
    rw other (listed (x.address + 1) is k i rise.1 e)

slice_get_is_some : {A : Type 0} (xs : List A) (k : ℕ) → k < length xs → IsSome (slice_get xs k)
slice_get_is_some [] k lt = absurd (omega arith)
slice_get_is_some (x ∷ xs) zero lt = refl
slice_get_is_some (x ∷ xs) (suc k) lt = slice_get_is_some xs k (omega arith)

-- by its index
pub listed_index : {V : Type 0} (is : List (Instruction V)) (k at : ℕ) → Rise (λ (i : Instruction V). i.address) 0 is → k < length is → IfSome (slice_get is k) (λ i. i.address ≡ at) → listed_at is at ≡ slice_get is k
listed_index {V} is k at rise low there = by_answer (slice_get is k) refl there
  where
    by_answer : (o : Option (Instruction V)) → slice_get is k ≡ o → IfSome o (λ i. i.address ≡ at) → listed_at is at ≡ o
    by_answer (Some i) e same = ap (listed_at is) (sym same) ∙ listed 0 is k i rise e
    by_answer None e same = absurd (false≢true (rw e at (slice_get_is_some is k low)))

-- where none has the address, none is listed there
not_listed : {V C : Type 0} (keeping : Keeping V C) (cells : List C) (ss : List Stored) (at : ℕ) → ((k : ℕ) (s : Stored) → slice_get ss k ≡ Some s → s.address ≢ at) → listed_at (instructions keeping cells ss) at ≡ None
not_listed keeping cells [] at none = refl
not_listed keeping cells (x ∷ ss) at none =
    let differs : x.address ≢ at = none 0 x refl in
    let other : eqb x.address at ≡ false = grind (arith, nat_tests) in
    rw other (not_listed keeping cells ss at (λ k s e. none (suc k) s e))

-- ---- the search

ranks : (x y at : ℕ) → x ≤ y → ordering_index (nat_cmp x at) ≤ ordering_index (nat_cmp y at)
ranks x y at le = grind (arith, nat_tests)

-- things that rise by their addresses
module _ {A : Type 0} (address : A → ℕ) where
  at_or_above : (floor : ℕ) (xs : List A) (k : ℕ) (d : A) → k < length xs → Rise address floor xs → floor ≤ address (get_or xs k d)
  at_or_above floor [] k d lt rise = absurd (omega arith)
  at_or_above floor (x ∷ xs) zero d lt rise = rise.0
  at_or_above floor (x ∷ xs) (suc k) d lt rise = let h = at_or_above (address x + 1) xs k d (omega arith) rise.1 in let l = rise.0 in omega arith

  in_order : (floor : ℕ) (xs : List A) (i j : ℕ) (d : A) → i ≤ j → j < length xs → Rise address floor xs → address (get_or xs i d) ≤ address (get_or xs j d)
  in_order floor [] i j d le lt rise = absurd (omega arith)
  in_order floor (x ∷ xs) zero zero d le lt rise = omega arith
  in_order floor (x ∷ xs) zero (suc j) d le lt rise = let h = at_or_above (address x + 1) xs j d (omega arith) rise.1 in omega arith
  in_order floor (x ∷ xs) (suc i) zero d le lt rise = absurd (omega arith)
  in_order floor (x ∷ xs) (suc i) (suc j) d le lt rise = in_order (address x + 1) xs i j d (omega arith) (omega arith) rise.1

  not_decreasing : (xs : List A) (at : ℕ) → Rise address 0 xs → IsNonDecreasingBy (λ x. ordering_index (nat_cmp (address x) at)) xs
  not_decreasing xs at rise i j d le lt = ranks (address (get_or xs i d)) (address (get_or xs j d)) at (in_order 0 xs i j d le lt rise)

equal_is : (x y : ℕ) → nat_cmp x y ≡ Equal → x ≡ y
equal_is x y e = grind (arith, nat_tests)

less_differs : (x y : ℕ) → nat_cmp x y ≡ Less → x ≢ y
less_differs x y e = grind (arith, nat_tests)

greater_differs : (x y : ℕ) → nat_cmp x y ≡ Greater → x ≢ y
greater_differs x y e = grind (arith, nat_tests)

module _ {A : Type 0} (address : A → ℕ) where
  -- where a search ends between two, nothing is at the address
  none_at : (xs : List A) (at i : ℕ) → IsPartitionPoint (λ x. nat_cmp (address x) at ≡ Less) (λ x. nat_cmp (address x) at ≡ Greater) xs i → (k : ℕ) (x : A) → slice_get xs k ≡ Some x → address x ≢ at
  none_at xs at i point k x e =
      let within = slice_get_within xs k x e in
      let same : get_or xs k x ≡ x = get_or_from_slice_get xs k x x e in
      elim (cases_lt k i) [
        | inl lt ↦ less_differs (address x) at (subst (λ (y : A). nat_cmp (address y) at ≡ Less) same (point.0 k x (omega arith) lt))
        | inr le ↦ greater_differs (address x) at (subst (λ (y : A). nat_cmp (address y) at ≡ Greater) same (point.1 k x le within))
      ]

  -- where it ends at one, that one is
  one_at : (xs : List A) (at k : ℕ) → k < length xs → HoldsAt (λ x. nat_cmp (address x) at ≡ Equal) xs k → (o : Option A) → slice_get xs k ≡ o → (x : A) × (slice_get xs k ≡ Some x) × (address x ≡ at)
  one_at xs at k lt holds None e = absurd (false≢true (rw e at (slice_get_is_some xs k lt)))
  one_at xs at k lt holds (Some x) e =
      let same : get_or xs k x ≡ x = get_or_from_slice_get xs k x x e in
      (x, e, equal_is (address x) at (subst (λ (y : A). nat_cmp (address y) at ≡ Equal) same (holds x)))

this_index : {V C : Type 0} (keeping : Keeping V C) (cells : List C) (ss : List Stored) (at k : ℕ) (s : Stored) → Rise (λ (i : Instruction V). i.address) 0 (instructions keeping cells ss) → slice_get ss k ≡ Some s → s.address ≡ at → listed_at (instructions keeping cells ss) at ≡ slice_get (instructions keeping cells ss) k
this_index keeping cells ss at k s rise e here =
    let there : slice_get (instructions keeping cells ss) k ≡ Some (stored_instruction keeping cells s) = slice_get-map (stored_instruction keeping cells) ss k ∙ ap (option_map (stored_instruction keeping cells)) e in
    ap (listed_at (instructions keeping cells ss)) (sym here) ∙ listed 0 (instructions keeping cells ss) k (stored_instruction keeping cells s) rise there ∙ sym there

-- what a binary search answers is the index of what is listed
pub searched : {V C : Type 0} (keeping : Keeping V C) (cells : List C) (ss : List Stored) (at : ℕ) (r : Result ℕ ℕ) → Rise (λ (i : Instruction V). i.address) 0 (instructions keeping cells ss) → IsSearchInRange r (length ss) → IsBinarySearchResult (λ s. nat_cmp s.address at) ss r → Finds (instructions keeping cells ss) at (result_ok r)
searched keeping cells ss at (Ok k) rise range position =
    let found = one_at address ss at k range position (slice_get ss k) refl in
    (rw (length-map ss (stored_instruction keeping cells)) range, this_index keeping cells ss at k found.0 rise found.1 found.2)
searched keeping cells ss at (Err i) rise range position = not_listed keeping cells ss at (none_at address ss at i (position (not_decreasing address ss at (rise_stored keeping cells 0 ss rise))))

-- ---- routines

module _ {V : Type 0} where
  -- the routine of an index is the one at its address
  indexed : (floor : ℕ) (rs : List (Routine V)) (k : ℕ) (r : Routine V) → Rise (λ (r : Routine V). r.address) floor rs → slice_get rs k ≡ Some r → routine_at rs r.address ≡ Some k
  indexed floor [] k r rise e = none_there k r e
  indexed floor (x ∷ rs) zero r rise e = let same : x ≡ r = some_is x r e in rw (same, eq-eqb r.address r.address refl) refl
  indexed floor (x ∷ rs) (suc k) r rise e =
      let higher : x.address + 1 ≤ r.address = above (λ (r : Routine V). r.address) (x.address + 1) rs k r rise.1 e in
      let other : eqb x.address r.address ≡ false = grind (arith, nat_tests) in
      rw (other, indexed (x.address + 1) rs k r rise.1 e) refl

  -- where none has the address, none is there
  not_indexed : (rs : List (Routine V)) (at : ℕ) → ((k : ℕ) (r : Routine V) → slice_get rs k ≡ Some r → r.address ≢ at) → routine_at rs at ≡ None
  not_indexed [] at none = refl
  not_indexed (x ∷ rs) at none =
      let differs : x.address ≢ at = none 0 x refl in
      let other : eqb x.address at ≡ false = grind (arith, nat_tests) in
      rw (other, not_indexed rs at (λ k r e. none (suc k) r e)) refl

  -- what a binary search answers is the index of the routine there
  pub searched_routine : (rs : List (Routine V)) (at : ℕ) (r : Result ℕ ℕ) → Rise (λ (r : Routine V). r.address) 0 rs → IsSearchInRange r (length rs) → IsBinarySearchResult (λ (r : Routine V). nat_cmp r.address at) rs r → result_ok r ≡ routine_at rs at
  searched_routine rs at (Ok k) rise range position =
      let found = one_at (λ (r : Routine V). r.address) rs at k range position (slice_get rs k) refl in
      subst (λ (n : ℕ). Some k ≡ routine_at rs n) found.2 (sym (indexed 0 rs k found.0 rise found.1))
  searched_routine rs at (Err i) rise range position = sym (not_indexed rs at (none_at (λ (r : Routine V). r.address) rs at i (position (not_decreasing (λ (r : Routine V). r.address) rs at rise))))

  -- an index is that of a routine at the address
  pub routine_at_is : (rs : List (Routine V)) (at k : ℕ) → routine_at rs at ≡ Some k → (r : Routine V) × (slice_get rs k ≡ Some r) × (r.address ≡ at)
  routine_at_is [] at k e = absurd cc
  routine_at_is (x ∷ rs) at k e = by_test (λ j f. routine_at_is rs at j f) (eqb x.address at) refl e
    where
      by_rest : ((j : ℕ) → routine_at rs at ≡ Some j → (r : Routine V) × (slice_get rs j ≡ Some r) × (r.address ≡ at)) → (o : Option ℕ) → routine_at rs at ≡ o → option_map (λ j. suc j) o ≡ Some k → (r : Routine V) × (slice_get (x ∷ rs) k ≡ Some r) × (r.address ≡ at)
      by_rest more None f e = absurd cc
      by_rest more (Some j) f e =
          let found = more j f in
          let same : suc j ≡ k = some_is (suc j) k e in
          (found.0, subst (λ (n : ℕ). slice_get (x ∷ rs) n ≡ Some found.0) same found.1, found.2)

      by_test : ((j : ℕ) → routine_at rs at ≡ Some j → (r : Routine V) × (slice_get rs j ≡ Some r) × (r.address ≡ at)) → (b : Bool) → eqb x.address at ≡ b → (if b then Some 0 else option_map (λ j. suc j) (routine_at rs at)) ≡ Some k → (r : Routine V) × (slice_get (x ∷ rs) k ≡ Some r) × (r.address ≡ at)
      by_test more true same e = (x, (let z : 0 ≡ k = some_is 0 k e in subst (λ (n : ℕ). slice_get (x ∷ rs) n ≡ Some x) z refl), eqb-true x.address at same)
      by_test more false other e = by_rest more (routine_at rs at) refl e
