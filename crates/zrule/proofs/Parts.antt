-- Variables in place, and what a branch says of locals.
use Rattle.std.proofs.Common.{◌≡◌, ℕ, zero, suc, ◌-◌, ◌<◌, ◌≤◌, Bool, true, false, List, [], ◌∷◌, length, Option, Some, None, Ok, refl, subst, arith, nat_lt, slice_set, if◌then◌else◌}
use Rattle.std.specs.Prelude.{IfSome, MatchOption, IsTrue, is_some, slice_get, slice_index, slice_index_or, ◌==◌}
use Rattle.std.specs.Bool.{MatchBool}
use Rattle.std.specs.List.{AllZip}
use Rattle.std.specs.Option.{option_and_then}
use Rattle.std.proofs.lemmas.Option.{get_or_from_slice_get}
use Rattle.zstory.specs.Bytes.{word_at}
use Rattle.zstory.specs.LoadedStory.{LoadedStory}
use Rattle.zdomain.specs.Domain.{SetOperations, AreSound, In}
use Rattle.zstate.specs.State.{State, global, read_named, read_in_place}
use Rattle.zflow.specs.declared.parts.Kept.{Kept}
use Rattle.zflow.specs.Transfer.{Shape, variable_set, small, narrowed, narrowed_by, with_local}
use Rattle.zrule.specs.Claims.{Claims}
use Rattle.zrule.specs.Rules.{LieIn, IsVariable, HasTop}
use Rattle.zrule.specs.Described.{Fits}
use Rattle.zrule.proofs.Sets.{zip_get, there, some_at}

pub zip_narrow : {A B : Type 0} (R : A → B → Type 0) (xs : List A) (ys : List B) → AllZip R xs ys → (i : ℕ) (x : A) → ((y : B) → slice_get ys i ≡ Some y → R x y) → AllZip R (slice_set xs i x) ys
zip_narrow R [] [] z i x r = z
zip_narrow R [] (b ∷ ys) z i x r = absurd z
zip_narrow R (a ∷ xs) [] z i x r = absurd z
zip_narrow R (a ∷ xs) (b ∷ ys) z zero x r = (r b refl, z.1)
zip_narrow R (a ∷ xs) (b ∷ ys) z (suc i) x r = (z.0, zip_narrow R xs ys z.1 i x r)

module _ {V : Type 0} (o : SetOperations V) (lawful : AreSound o) where
  pub zip_index : (xs : List V) (ys : List ℕ) → AllZip (In o) xs ys → (i : ℕ) → In o (slice_index_or xs i o.any) (slice_index ys i)
  zip_index [] [] z i = lawful.any 0 (omega arith)
  zip_index [] (y ∷ ys) z i = absurd z
  zip_index (x ∷ xs) [] z i = absurd z
  zip_index (x ∷ xs) (y ∷ ys) z zero = z.0
  zip_index (x ∷ xs) (y ∷ ys) z (suc i) = zip_index xs ys z.1 i

  -- ---- what a branch says of locals

  -- a local has what is said of it
  abbrev pub HoldsOne : Option (ℕ × V) → List ℕ → Type 0
  HoldsOne k locals = IfSome k (λ k. In o k.1 (slice_index locals (k.0 - 1)))

  abbrev pub Hold : Kept V → List ℕ → Type 0
  Hold kept locals = HoldsOne kept.first locals × HoldsOne kept.second locals

  module _ (claims : Claims V) where
    with_local_fits : (v : ℕ) (m : Option V) (e : Shape V) (locals stack : List ℕ) → Fits o claims e locals stack → MatchOption m ⊥ (λ c. In o c (slice_index locals (v - 1))) → MatchOption (with_local o v m e) ⊥ (λ f. Fits o claims f locals stack)
    with_local_fits v None e locals stack fits h = absurd h
    with_local_fits v (Some c) e locals stack fits h = record { in_locals = zip_narrow (In o) e.locals locals fits.in_locals (v - 1) c (λ y g. subst (λ (n : ℕ). In o c n) (get_or_from_slice_get locals (v - 1) y 0 g) h); in_slots = fits.in_slots }

    narrowed_one : (k : Option (ℕ × V)) (e : Shape V) (locals stack : List ℕ) → Fits o claims e locals stack → HoldsOne k locals → MatchOption (narrowed_by o k e) ⊥ (λ f. Fits o claims f locals stack)
    narrowed_one None e locals stack fits hold = fits
    narrowed_one (Some k) e locals stack fits hold = with_local_fits k.0 _ e locals stack fits (lawful.meet _ _ _ (zip_index e.locals locals fits.in_locals (k.0 - 1)) hold)

    then_fits : (r : Option (Shape V)) (f : Shape V → Option (Shape V)) (locals stack : List ℕ) → MatchOption r ⊥ (λ g. Fits o claims g locals stack) → ((g : Shape V) → Fits o claims g locals stack → MatchOption (f g) ⊥ (λ f. Fits o claims f locals stack)) → MatchOption (option_and_then f r) ⊥ (λ f. Fits o claims f locals stack)
    then_fits None f locals stack h next = absurd h
    then_fits (Some g) f locals stack h next = next g h

    -- what is said of locals leaves them in their sets
    pub narrowed_fits : (kept : Kept V) (e : Shape V) (locals stack : List ℕ) → Fits o claims e locals stack → Hold kept locals → MatchOption (narrowed o kept e) ⊥ (λ f. Fits o claims f locals stack)
    narrowed_fits kept e locals stack fits hold =
        then_fits (narrowed_by o kept.first e) (narrowed_by o kept.second) locals stack (narrowed_one kept.first e locals stack fits hold.0) (λ g fits. narrowed_one kept.second g locals stack fits hold.1)

    -- ---- a variable in place

    top_of : (xs : List V) (ys : List ℕ) → AllZip (In o) xs ys → 0 < length xs → (y : ℕ) × (slice_get ys 0 ≡ Some y) × In o (slice_index_or xs 0 o.any) y
    top_of [] ys z h = absurd (omega (arith, h))
    top_of (x ∷ xs) [] z h = absurd z
    top_of (x ∷ xs) (y ∷ ys) z h = (y, refl, z.0)

    one_or_more : (v : ℕ) → (v == 0) ≡ false → 1 ≤ v
    one_or_more zero e = absurd cc
    one_or_more (suc v) e = omega arith

    -- what a variable has that is there
    pub variable_there : (sets : List V) → length sets ≡ length claims.globals → (story : LoadedStory) (v : ℕ) (e : Shape V) (s : State) → nat_lt v 256 ≡ true → Fits o claims e s.frame.locals s.frame.stack → LieIn o sets story s.memory → HasTop o claims e v → IsVariable o claims e v → (x : ℕ) × (read_in_place story v s ≡ Ok x) × In o (variable_set o sets v e) x
    unfolding read_in_place read_named
    variable_there sets same_count story v e s small_one fits globals top exists = by_kind (v == 0) (nat_lt v 16) refl refl top exists
      where
        by_kind : (b c : Bool) → (v == 0) ≡ b → nat_lt v 16 ≡ c → MatchBool b (0 < length e.slots) (Unit {0}) → MatchBool b (Unit {0}) (MatchBool c (v ≤ length e.locals) ((v < 256) × (v - 16 < length claims.globals)))
            → (x : ℕ) × (read_in_place story v s ≡ Ok x) × In o (variable_set o sets v e) x
        by_kind true c is kind top exists =
            let t = top_of e.slots s.frame.stack fits.in_slots top in
            (t.0, rw (small_one, is, t.1) refl, rw is t.2)
        by_kind false true is kind top exists =
            let least = one_or_more v is in
            let z = zip_get (In o) e.locals s.frame.locals fits.in_locals (v - 1) (omega (arith, exists, least)) in
            (z.1, rw (small_one, is, kind, z.3) refl, rw (is, kind) (there o lawful claims story e.locals (v - 1) o.any z.0 z.1 z.2 z.4))
        by_kind false false is kind top exists =
            let g = some_at sets (v - 16) (rw same_count exists.1) in
            (word_at s.memory (global story v), rw (small_one, is, kind) refl, rw (is, kind) (there o lawful claims story sets (v - 16) o.any g.0 (word_at s.memory (global story v)) g.1 (globals (v - 16) g.0 g.1)))

    -- the number is one of a variable
    pub small_is : (k : Option ℕ) → IsTrue (is_some (small k)) → (v : ℕ) × (k ≡ Some v) × (small k ≡ Some v) × (nat_lt v 256 ≡ true)
    small_is None h = absurd cc
    small_is (Some v) h = by_test (nat_lt v 256) refl h
      where
        by_test : (b : Bool) → nat_lt v 256 ≡ b → IsTrue (is_some (if b then Some v else None)) → (w : ℕ) × (Some v ≡ Some w) × ((if nat_lt v 256 then Some v else None) ≡ Some w) × (nat_lt w 256 ≡ true)
        by_test true e h = (v, refl, rw e refl, e)
        by_test false e h = absurd cc
