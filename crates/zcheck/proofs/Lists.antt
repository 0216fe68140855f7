-- Lists that grow in step, and the order of a certificate's listing.
use Rattle.std.proofs.Common.{◌≡◌, ℕ, zero, suc, ◌+◌, ◌<◌, ◌≤◌, List, [], ◌∷◌, ◌++◌, map, take, length, Option, Some, None, refl, sym, ◌∙◌, ap, subst, arith}
use Rattle.std.specs.Prelude.{slice_get, slice_index, All, IfSome}
use Rattle.std.specs.List.{AllZip, AllByRecursion}
use Rattle.std.specs.List.Sorted.{IsStrictlyIncreasing}
use Rattle.std.proofs.lemmas.Option.{same_Some}
use Rattle.std.proofs.lemmas.Slice.Zip.{all_zipped_more}
use Rattle.zstory.specs.LoadedStory.{LoadedStory}
use Rattle.zlist.specs.declared.record.Record.{Record}
use Rattle.zlist.specs.Listing.{IsInOrder, addresses_of}
use Rattle.zcert.specs.declared.parts.Routine.{Routine}
use Rattle.zcert.specs.Certificate.{Instruction, Certificate}
use Rattle.zcert.specs.Format.{Format}
use Rattle.zcert.specs.Spelling.{HasSpelling, Rise, IsInstruction, IsRoutine}
use Rattle.zcheck.specs.Acceptance.{IsRecordOf, AreRecords, AreRoutines}

take_more : {A : Type 0} (xs : List A) (k : ℕ) (x : A) → slice_get xs k ≡ Some x → take (k + 1) xs ≡ take k xs ++ x ∷ []
take_more [] k x e = absurd cc
take_more (y ∷ ys) zero x e = ap (λ z. z ∷ []) (same_Some y x e)
take_more (y ∷ ys) (suc k) x e =
    let next : suc k + 1 ≡ suc (k + 1) = omega arith in
    ap (λ n. take n (y ∷ ys)) next ∙ ap (λ zs. y ∷ zs) (take_more ys k x e)

slice_get_none : {A : Type 0} (xs : List A) (k : ℕ) → slice_get xs k ≡ None → length xs ≤ k
slice_get_none [] k e = omega arith
slice_get_none (x ∷ xs) zero e = absurd cc
slice_get_none (x ∷ xs) (suc k) e = omega (arith, slice_get_none xs k e)

pub zip_more : {A B : Type 0} (R : A → B → Type 0) (xs : List A) (ys : List B) (k : ℕ) (x : A) (y : B) → slice_get xs k ≡ Some x → AllZip R (take k xs) ys → R x y → AllZip R (take (k + 1) xs) (ys ++ y ∷ [])
zip_more R xs ys k x y at z r = subst (λ us. AllZip R us (ys ++ y ∷ [])) (sym (take_more xs k x at)) (all_zipped_more R (take k xs) ys x y z r)

pub zip_found : {A B : Type 0} (R : A → B → Type 0) (xs : List A) (ys zs : List B) (k : ℕ) (y : B) → k < length xs → AllZip R (take k xs) ys → IfSome (slice_get xs k) (λ x. R x y) → zs ≡ ys ++ y ∷ [] → AllZip R (take (k + 1) xs) zs
zip_found {A} {B} R xs ys zs k y less z r is = subst (λ (us : List B). AllZip R (take (k + 1) xs) us) (sym is) (by_found (slice_get xs k) refl r)
  where
    by_found : (found : Option A) → slice_get xs k ≡ found → IfSome found (λ x. R x y) → AllZip R (take (k + 1) xs) (ys ++ y ∷ [])
    by_found None e r = absurd (omega (arith, less, slice_get_none xs k e))
    by_found (Some x) e r = zip_more R xs ys k x y e z r

-- addresses that rise strictly, by what a certificate says of its parts
rises : {A : Type 0} (address : A → ℕ) (floor : ℕ) (xs : List A) → Rise address floor xs → IsStrictlyIncreasing (map address xs)
rises address floor [] rise k less = absurd (omega (arith, less))
rises address floor (x ∷ []) rise k less = absurd (omega (arith, less))
rises address floor (x ∷ y ∷ xs) rise zero less = omega (arith, rise.1.0)
rises address floor (x ∷ y ∷ xs) rise (suc k) less =
    let next : suc k + 1 ≡ suc (k + 1) = omega arith in
    let rest = rises address (address x + 1) (y ∷ xs) rise.1 k (omega (arith, less)) in
    subst (λ n. slice_index (map address (x ∷ y ∷ xs)) (suc k) < slice_index (map address (x ∷ y ∷ xs)) n) (sym next) rest

records_addresses : {V : Type 0} (story : LoadedStory) (is : List (Instruction V)) (rs : List Record) → AllZip (IsRecordOf story) is rs → addresses_of rs ≡ map (λ i. i.address) is
records_addresses story [] [] z = refl
records_addresses story [] (r ∷ rs) z = absurd z
records_addresses story (i ∷ is) [] z = absurd z
records_addresses story (i ∷ is) (r ∷ rs) z = let here = z.0.address in let rest = records_addresses story is rs z.1 in rw (here, rest) refl

all_from : {A : Type 0} (P : A → Type 0) (xs : List A) → AllByRecursion P xs → All P xs
all_from P [] each k d less = absurd (omega (arith, less))
all_from P (x ∷ xs) each zero d less = each.0
all_from P (x ∷ xs) each (suc k) d less = all_from P xs each.1 k d (omega (arith, less))

module _ {V : Type 0} (format : Format V) (story : LoadedStory) (c : Certificate V) (has : HasSpelling format c) where
  insides : (is : List (Instruction V)) (rs : List Record) → AllByRecursion (IsInstruction format c.routines) is → AllZip (IsRecordOf story) is rs → AllByRecursion (λ r. r.address < 131072) rs
  insides [] [] each z = tt
  insides [] (r ∷ rs) each z = absurd z
  insides (i ∷ is) [] each z = absurd z
  insides (i ∷ is) (r ∷ rs) each z = (omega (arith, each.0.address, z.0.address), insides is rs each.1 z.1)

  owners : (n : ℕ) → length c.routines ≡ n → (is : List (Instruction V)) (rs : List Record) → AllByRecursion (IsInstruction format c.routines) is → AllZip (IsRecordOf story) is rs → AllByRecursion (λ r. r.routine ≤ n) rs
  owners n e [] [] each z = tt
  owners n e [] (r ∷ rs) each z = absurd z
  owners n e (i ∷ is) [] each z = absurd z
  owners n e (i ∷ is) (r ∷ rs) each z = (omega (arith, e, each.0.routine, z.0.routine), owners n e is rs each.1 z.1)

  routine_insides : (rs : List (Routine V)) → AllByRecursion (IsRoutine format) rs → AllByRecursion (λ a. a < 131072) (map (λ r. r.address) rs)
  routine_insides [] each = tt
  routine_insides (r ∷ rs) each = (each.0.address, routine_insides rs each.1)

  routine_count : (routines : List ℕ) → AreRoutines c routines → length routines ≡ length c.routines
  routine_count routines are_routines = ap length are_routines ∙ mapped c.routines
    where
      mapped : (rs : List (Routine V)) → length (map (λ r. r.address) rs) ≡ length rs
      mapped [] = refl
      mapped (r ∷ rs) = ap suc (mapped rs)

  pub in_order : (records : List Record) (routines : List ℕ) → AreRecords story c records → AreRoutines c routines → IsInOrder (record { records = records; routines = routines })
  in_order records routines are_records are_routines = record {
    rising = subst IsStrictlyIncreasing (sym (records_addresses story c.instructions records are_records)) (rises (λ i. i.address) 0 c.instructions has.instructions_rise);
    inside = all_from (λ r. r.address < 131072) records (insides c.instructions records has.instructions are_records);
    owned = all_from (λ r. r.routine ≤ length routines) records (owners (length routines) (sym (routine_count routines are_routines)) c.instructions records has.instructions are_records);
    routines_rising = subst IsStrictlyIncreasing (sym are_routines) (rises (λ r. r.address) 0 c.routines has.routines_rise);
    routines_inside = subst (All (λ a. a < 131072)) (sym are_routines) (all_from (λ a. a < 131072) _ (routine_insides c.routines has.routines));
    routines_numbered = omega (arith, routine_count routines are_routines, has.few_routines);
  }
