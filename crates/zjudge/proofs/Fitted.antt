-- What is asked of a frame, by its words as a save and sets as a certificate have them: the bottom first.
use Rattle.std.proofs.Common.{◌≡◌, ◌↔◌, ℕ, ◌+◌, ◌-◌, ◌<◌, ◌≤◌, nat_lt, Bool, true, false, List, [], ◌∷◌, ◌++◌, length, reverse, Option, Some, refl, sym, ap, subst, ◌∙◌, arith, slice_set}
use Rattle.std.specs.Prelude.{◌==◌, IsTrue, MatchOption, slice_get}
use Rattle.std.specs.Bool.{MatchBool}
use Rattle.std.specs.List.{AllZip}
use Rattle.std.proofs.lemmas.Bool.{eqb-true, ltb-false, ltb-true}
use Rattle.std.proofs.lemmas.List.{reverse-append}
use Rattle.zcert.specs.Certificate.{Instruction as Listed}
use Rattle.zdomain.specs.Domain.{SetOperations, In, Within}
use Rattle.zquetzal.specs.Saved.{Frame as SavedFrame}
use Rattle.zstate.specs.Saves.{taken_frame}
use Rattle.zrule.specs.Claims.{Claims, entry_of}
use Rattle.zrule.specs.Described.{Fits, FitsWith}
use Rattle.zjudge.proofs.Zips.{reversed_where, zip_reversed}

-- no answer is both
pub no_and_yes : (b : Bool) → b ≡ false → b ≡ true → ⊥
no_and_yes b isnt is = let clash : false ≡ true = sym isnt ∙ is in absurd cc

module _ {V : Type 0} (o : SetOperations V) (claims : Claims V) (i : Listed V) (f : SavedFrame) where
  pub fits_where : (AllZip (In o) i.locals f.locals × AllZip (In o) i.slots f.stack) ↔ Fits o claims (entry_of i).shape (taken_frame f).locals (taken_frame f).stack
  fits_where = (
    λ both. record { in_locals = both.0; in_slots = zip_reversed (In o) i.slots f.stack both.1 },
    λ fits. (fits.in_locals, (reversed_where (In o) i.slots f.stack).1 fits.in_slots),
  )

  -- ---- whichever value is put where; a set has one at least
  module _ (values : V) (some : (x : ℕ) × In o values x) where
    -- on top of the stack: the last slot is the top one
    pub pushed_where : (slots : List V) (top : V) → i.slots ≡ slots ++ top ∷ [] → (Within o values top × AllZip (In o) slots f.stack × AllZip (In o) i.locals f.locals) ↔ ((x : ℕ) → In o values x → FitsWith o claims 0 x (entry_of i).shape (taken_frame f))
    pushed_where slots top is = (there, back)
      where
        turned : reverse i.slots ≡ top ∷ reverse slots
        turned = ap reverse is ∙ reverse-append slots (top ∷ [])

        there : Within o values top × AllZip (In o) slots f.stack × AllZip (In o) i.locals f.locals → (x : ℕ) → In o values x → FitsWith o claims 0 x (entry_of i).shape (taken_frame f)
        there (within, stack, locals) x member = record { in_locals = locals; in_slots = subst (λ (vs : List V). AllZip (In o) vs (x ∷ reverse f.stack)) (sym turned) (within x member, zip_reversed (In o) slots f.stack stack) }

        back : ((x : ℕ) → In o values x → FitsWith o claims 0 x (entry_of i).shape (taken_frame f)) → Within o values top × AllZip (In o) slots f.stack × AllZip (In o) i.locals f.locals
        back all =
            let parts : (x : ℕ) → In o values x → In o top x × AllZip (In o) (reverse slots) (reverse f.stack) = λ x member. subst (λ (vs : List V). AllZip (In o) vs (x ∷ reverse f.stack)) turned (all x member).in_slots in
            (λ x member. (parts x member).0, (reversed_where (In o) slots f.stack).1 (parts some.0 some.1).1, (all some.0 some.1).in_locals)

    -- in the place of a local
    pub stored_where : (local : ℕ) → local < 15 → ((local < length f.locals) × ((x : ℕ) → In o values x → AllZip (In o) i.locals (slice_set f.locals local x)) × AllZip (In o) i.slots f.stack) ↔ ((x : ℕ) → In o values x → FitsWith o claims (local + 1) x (entry_of i).shape (taken_frame f))
    stored_where local few = by_kind (local + 1 == 0) (nat_lt (local + 1) 16) refl refl
      where
        same : local + 1 - 1 ≡ local
        same = omega arith

        by_kind : (b c : Bool) → (local + 1 == 0) ≡ b → nat_lt (local + 1) 16 ≡ c → ((local < length f.locals) × ((x : ℕ) → In o values x → AllZip (In o) i.locals (slice_set f.locals local x)) × AllZip (In o) i.slots f.stack)
            ↔ ((x : ℕ) → In o values x → MatchBool b (Fits o claims (entry_of i).shape (taken_frame f).locals (x ∷ (taken_frame f).stack)) (MatchBool c ((local + 1 ≤ length f.locals) × Fits o claims (entry_of i).shape (slice_set f.locals (local + 1 - 1) x) (taken_frame f).stack) ((local + 1 < 256) × MatchOption (slice_get claims.globals (local + 1 - 16)) ⊥ (λ set. In o set x) × Fits o claims (entry_of i).shape (taken_frame f).locals (taken_frame f).stack)))
        by_kind true c e g = absurd (let none = eqb-true (local + 1) 0 e in omega (arith, none))
        by_kind false false e g = absurd (let high = ltb-false (local + 1) 16 g in omega (arith, high, few))
        by_kind false true e g = (
          λ (below, locals, stack) x member. (omega (arith, below), record { in_locals = subst (λ (k : ℕ). AllZip (In o) i.locals (slice_set f.locals k x)) (sym same) (locals x member); in_slots = zip_reversed (In o) i.slots f.stack stack }),
          λ all. (
            let few_locals = (all some.0 some.1).0 in omega (arith, few_locals),
            λ x member. subst (λ (k : ℕ). AllZip (In o) i.locals (slice_set f.locals k x)) same (all x member).1.in_locals,
            (reversed_where (In o) i.slots f.stack).1 (all some.0 some.1).1.in_slots,
          ),
        )

    -- in a global
    pub global_where : (global : ℕ) (set : V) → global < 240 → slice_get claims.globals global ≡ Some set → (Within o values set × Fits o claims (entry_of i).shape (taken_frame f).locals (taken_frame f).stack) ↔ ((x : ℕ) → In o values x → FitsWith o claims (global + 16) x (entry_of i).shape (taken_frame f))
    global_where global set few found = by_kind (global + 16 == 0) (nat_lt (global + 16) 16) refl refl
      where
        there : slice_get claims.globals (global + 16 - 16) ≡ Some set
        there = subst (λ (k : ℕ). slice_get claims.globals k ≡ Some set) (omega arith) found

        takes : (x : ℕ) → In o set x → MatchOption (slice_get claims.globals (global + 16 - 16)) ⊥ (λ values. In o values x)
        takes x member = subst (λ (found : Option V). MatchOption found ⊥ (λ values. In o values x)) (sym there) member

        taken : (x : ℕ) → MatchOption (slice_get claims.globals (global + 16 - 16)) ⊥ (λ values. In o values x) → In o set x
        taken x h = subst (λ (found : Option V). MatchOption found ⊥ (λ values. In o values x)) there h

        by_kind : (b c : Bool) → (global + 16 == 0) ≡ b → nat_lt (global + 16) 16 ≡ c → (Within o values set × Fits o claims (entry_of i).shape (taken_frame f).locals (taken_frame f).stack)
            ↔ ((x : ℕ) → In o values x → MatchBool b (Fits o claims (entry_of i).shape (taken_frame f).locals (x ∷ (taken_frame f).stack)) (MatchBool c ((global + 16 ≤ length f.locals) × Fits o claims (entry_of i).shape (slice_set f.locals (global + 16 - 1) x) (taken_frame f).stack) ((global + 16 < 256) × MatchOption (slice_get claims.globals (global + 16 - 16)) ⊥ (λ values. In o values x) × Fits o claims (entry_of i).shape (taken_frame f).locals (taken_frame f).stack)))
        by_kind true c e g = absurd (let none = eqb-true (global + 16) 0 e in omega (arith, none))
        by_kind false true e g = absurd (let low = ltb-true (global + 16) 16 g in omega (arith, low))
        by_kind false false e g = (
          λ both x member. (omega (arith, few), takes x (both.0 x member), both.1),
          λ all. (λ x member. taken x (all x member).1, (all some.0 some.1).2),
        )

  -- of the same variable
  pub with_same : (values : V) (b : Bool) (v w : ℕ) → w ≡ v → IsTrue b ↔ ((x : ℕ) → In o values x → FitsWith o claims v x (entry_of i).shape (taken_frame f)) → IsTrue b ↔ ((x : ℕ) → In o values x → FitsWith o claims w x (entry_of i).shape (taken_frame f))
  with_same values b v w same told = subst (λ (n : ℕ). IsTrue b ↔ ((x : ℕ) → In o values x → FitsWith o claims n x (entry_of i).shape (taken_frame f))) (sym same) told
