-- Routines whose heads are there can be called.
use Rattle.std.proofs.Common.{◌≡◌, ◌↔◌, ℕ, zero, suc, ◌+◌, ◌*◌, ◌%◌, ◌≤◌, Bool, true, false, nat_lt, nat_le, List, [], ◌∷◌, length, map, Option, Some, None, arith, refl, subst, if◌then◌else◌}
use Rattle.std.specs.Prelude.{◌==◌, ◌||◌, All, slice_get, option_map}
use Rattle.std.specs.List.{list_any, AllByRecursion}
use Rattle.std.proofs.lemmas.Bool.{lt-ltb, le-leb}
use Rattle.std.proofs.lemmas.Option.{same_Some}
use Rattle.zstory.specs.Bytes.{byte_at}
use Rattle.zstory.specs.LoadedStory.{LoadedStory, static_base}
use Rattle.zdomain.specs.Domain.{SetOperations}
use Rattle.zcert.specs.declared.parts.Routine.{Routine}
use Rattle.zcert.specs.Certificate.{Certificate}
use Rattle.zcert.specs.Listed.{routine_at}
use Rattle.zcert.specs.Format.{Format}
use Rattle.zcert.specs.Spelling.{HasSpelling, IsRoutine}
use Rattle.zcert.proofs.Lookup.{routine_at_is}
use Rattle.zstate.specs.State.{has_head}
use Rattle.zrule.specs.Claims.{claims_of}
use Rattle.zrule.specs.Rules.{HasHeads}
use Rattle.zcheck.specs.Passes.{HasHead}
use Rattle.zcheck.proofs.Apart.{each_of}

each_at : {A : Type 0} (P : A → Type 0) (xs : List A) (k : ℕ) (x : A) → AllByRecursion P xs → slice_get xs k ≡ Some x → P x
each_at P [] k x each e = absurd cc
each_at P (y ∷ xs) zero x each e = subst P (same_Some y x e) each.0
each_at P (y ∷ xs) (suc k) x each e = each_at P xs k x each.1 e

-- whatever says that each of these has its head says so of the same routines by recursion
pub heads_told : {V : Type 0} {A : Type 0} (story : LoadedStory) (rs us : List (Routine V)) → us ≡ rs → A ↔ All (HasHead story) us → A ↔ AllByRecursion (HasHead story) rs
heads_told {V} {A} story rs us same told =
    let each = each_of (HasHead {V = V} story) rs in
    let here = subst (λ (xs : List (Routine V)). A ↔ All (HasHead story) xs) same told in
    (λ a. each.0 (here.0 a), λ all. here.1 (each.1 all))

eq_test : (n : ℕ) → n ≡ 0 → (n == 0) ≡ true
eq_test n e = rw e refl

-- a head as a certificate states it is one that can be called
head_there : {V : Type 0} (story : LoadedStory) (r : Routine V) → r.locals ≤ 15 → HasHead story r → has_head story.memory r.address ≡ true
head_there story r few head =
    let within = head.within in
    let least : nat_lt r.address (length story.memory) ≡ true = lt-ltb r.address (length story.memory) (omega (arith, within)) in
    let counted = head.counted in
    let small : nat_le (byte_at story.memory r.address) 15 ≡ true = le-leb (byte_at story.memory r.address) 15 (omega (arith, counted, few)) in
    let whole : nat_le (r.address + 1 + 2 * byte_at story.memory r.address) (length story.memory) ≡ true = le-leb _ (length story.memory) (omega (arith, counted, within)) in
    rw (least, small, whole) refl

module _ {V : Type 0} (o : SetOperations V) (format : Format V) (story : LoadedStory) (c : Certificate V) (spelling : HasSpelling format c) where
  -- each routine that can be found has its head
  pub heads_where : AllByRecursion (HasHead story) c.routines → HasHeads o (claims_of o c) story
  heads_where heads = record { even = even; static = static; there = there }
    where
      head_at : (p k : ℕ) → routine_at c.routines p ≡ Some k → (r : Routine V) × HasHead story r × (r.locals ≤ 15) × (r.address ≡ p)
      head_at p k found =
          let r = routine_at_is c.routines p k found in
          (r.0, each_at (HasHead story) c.routines k r.0 heads r.1, (each_at (IsRoutine format) c.routines k r.0 spelling.routines r.1).locals, r.2)

      even : (p k : ℕ) → routine_at c.routines p ≡ Some k → (p % 2 == 0) ≡ true
      even p k found = let r = head_at p k found in eq_test (p % 2) (subst (λ (n : ℕ). n % 2 ≡ 0) r.3 r.1.even)

      static : (p k : ℕ) → routine_at c.routines p ≡ Some k → static_base story ≤ p
      static p k found = let r = head_at p k found in subst (λ (n : ℕ). static_base story ≤ n) r.3 r.1.static

      there : (p k : ℕ) → routine_at c.routines p ≡ Some k → has_head story.memory p ≡ true
      there p k found = let r = head_at p k found in subst (λ (n : ℕ). has_head story.memory n ≡ true) r.3 (head_there story r.0 r.2 r.1)

-- a routine that can be found is listed
pub routine_there : {V : Type 0} (rs : List (Routine V)) (p k : ℕ) → routine_at rs p ≡ Some k → list_any (λ a. a == p) (map (λ r. r.address) rs) ≡ true
routine_there [] p k e = absurd cc
routine_there (r ∷ rs) p k e = by_test (λ j f. routine_there rs p j f) (r.address == p) refl e
  where
    by_rest : ((j : ℕ) → routine_at rs p ≡ Some j → list_any (λ a. a == p) (map (λ r. r.address) rs) ≡ true) → (o : Option ℕ) → routine_at rs p ≡ o → option_map (λ j. suc j) o ≡ Some k → list_any (λ a. a == p) (map (λ r. r.address) rs) ≡ true
    by_rest more None f e = absurd cc
    by_rest more (Some j) f e = more j f

    by_test : ((j : ℕ) → routine_at rs p ≡ Some j → list_any (λ a. a == p) (map (λ r. r.address) rs) ≡ true) → (b : Bool) → (r.address == p) ≡ b → (if b then Some 0 else option_map (λ j. suc j) (routine_at rs p)) ≡ Some k → ((r.address == p) || list_any (λ a. a == p) (map (λ r. r.address) rs)) ≡ true
    by_test more true is e = rw is refl
    by_test more false is e = let rest = by_rest more (routine_at rs p) refl e in rw (is, rest) refl
