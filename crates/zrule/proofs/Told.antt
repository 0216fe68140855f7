-- What is known of globals: how it stays so when one is written, and when a branch says something of it.
use Rattle.std.proofs.Common.{◌≡◌, ◌⊎◌, inl, inr, ℕ, zero, suc, ◌+◌, ◌-◌, ◌*◌, ◌<◌, ◌≤◌, Bool, true, false, List, [], ◌∷◌, length, Option, Some, None, refl, sym, ap, subst, ◌∙◌, arith, nat_lt, slice_set, if◌then◌else◌}
use Rattle.std.specs.Prelude.{IfSome, MatchOption, slice_get, ◌==◌}
use Rattle.std.specs.Bool.{MatchBool}
use Rattle.std.specs.List.{AllByRecursion}
use Rattle.std.proofs.lemmas.Bool.{cases_lt, ltb-true, ltb-false, eqb-true}
use Rattle.std.proofs.lemmas.List.{length-set}
use Rattle.std.proofs.lemmas.Option.{same_Some}
use Rattle.zstory.specs.LoadedStory.{LoadedStory, globals}
use Rattle.zdomain.specs.Domain.{SetOperations, In, Within}
use Rattle.zcert.specs.declared.parts.Fact.{Fact}
use Rattle.zfault.specs.declared.pause.Need.{Need}
use Rattle.zfault.specs.declared.pause.Need.TheVariants as needs
use Rattle.zstate.specs.declared.mode.RandomMode.{RandomMode}
use Rattle.zstate.specs.State.{State, with_stack, with_locals, with_memory, write_word, global, put, put_named, put_in_place}
use Rattle.zstate.specs.Step.{drawn, used}
use Rattle.zflow.specs.declared.parts.Kept.{Kept}
use Rattle.zflow.specs.declared.parts.Outcome.{Outcome}
use Rattle.zflow.specs.Transfer.{Shape, global_kept, globals_with, globals_named, globals_after, with_facts}
use Rattle.zrule.specs.Claims.{Claims}
use Rattle.zrule.specs.Rules.{AreImplied, LieIn, IsVariable, global_in}
use Rattle.zrule.specs.Described.{IsLoadedStory}
use Rattle.zrule.proofs.Memory.{word_other, word_written}

-- ---- lists

pub length_with_facts : {V : Type 0} (gs : List V) (fs : List (Fact V)) → length (with_facts gs fs) ≡ length gs
length_with_facts gs [] = refl
length_with_facts gs (f ∷ fs) = length_with_facts (slice_set gs f.global f.values) fs ∙ length-set gs f.global f.values

module _ {V : Type 0} where
  set_other : (xs : List V) (n k : ℕ) (x y : V) → (k ≡ n → ⊥) → slice_get (slice_set xs n x) k ≡ Some y → slice_get xs k ≡ Some y
  set_other [] n k x y apart e = e
  set_other (z ∷ xs) zero zero x y apart e = absurd (apart refl)
  set_other (z ∷ xs) zero (suc k) x y apart e = e
  set_other (z ∷ xs) (suc n) zero x y apart e = e
  set_other (z ∷ xs) (suc n) (suc k) x y apart e = set_other xs n k x y (λ same. apart (ap (λ (i : ℕ). suc i) same)) e

  set_same : (xs : List V) (n : ℕ) (x y : V) → slice_get (slice_set xs n x) n ≡ Some y → x ≡ y
  set_same [] n x y e = absurd cc
  set_same (z ∷ xs) zero x y e = same_Some x y e
  set_same (z ∷ xs) (suc n) x y e = set_same xs n x y e

by_place : (k n : ℕ) → (k ≡ n) ⊎ (k ≡ n → ⊥)
by_place k n = elim (cases_lt k n) [
  | inl less ↦ inr (λ same. omega (arith, less, same))
  | inr most ↦ elim (cases_lt n k) [ inl more ↦ inr (λ same. omega (arith, more, same)) | inr least ↦ inl (omega (arith, most, least)) ]
]

-- a variable that is a global has a number below 256
pub global_small : {V : Type 0} (o : SetOperations V) (claims : Claims V) (e : Shape V) (v : ℕ) → IsVariable o claims e v → 16 ≤ v → v < 256
global_small o claims e v is high = by_kind (v == 0) (nat_lt v 16) refl refl is
  where
    by_kind : (b c : Bool) → (v == 0) ≡ b → nat_lt v 16 ≡ c → MatchBool b (Unit {0}) (MatchBool c (v ≤ length e.locals) ((v < 256) × (v - 16 < length claims.globals))) → v < 256
    by_kind true c zero_is kind is = absurd (let z = eqb-true v 0 zero_is in omega (arith, z, high))
    by_kind false true zero_is kind is = absurd (let l = ltb-true v 16 kind in omega (arith, l, high))
    by_kind false false zero_is kind is = is.0

module _ {V : Type 0} (o : SetOperations V) (story : LoadedStory) where
  -- what is known of one more global
  pub lie_set : (gs : List V) (k : ℕ) (a : V) (memory : List ℕ) → In o a (global_in story memory k) → LieIn o gs story memory → LieIn o (slice_set gs k a) story memory
  lie_set gs k a memory member lie j values e = elim (by_place j k) [
    | inl same ↦ (let is : a ≡ values = set_same gs k a values (subst (λ (i : ℕ). slice_get (slice_set gs k a) i ≡ Some values) same e) in
        subst (λ (i : ℕ). In o values (global_in story memory i)) (sym same) (subst (λ (w : V). In o w (global_in story memory k)) is member))
    | inr apart ↦ lie j values (set_other gs k j a values apart e)
  ]

  -- so is what facts say
  pub lie_facts : (gs : List V) (fs : List (Fact V)) (memory : List ℕ) → LieIn o gs story memory → AllByRecursion (λ (f : Fact V). In o f.values (global_in story memory f.global)) fs → LieIn o (with_facts gs fs) story memory
  lie_facts gs [] memory lie hold = lie
  lie_facts gs (f ∷ fs) memory lie hold = lie_facts (slice_set gs f.global f.values) fs memory (lie_set gs f.global f.values memory hold.0 lie) hold.1

  -- and facts that are implied hold
  pub implied_hold : (gs : List V) (fs : List (Fact V)) (memory : List ℕ) → LieIn o gs story memory → AreImplied o gs fs → AllByRecursion (λ (f : Fact V). In o f.values (global_in story memory f.global)) fs
  implied_hold gs [] memory lie implied = tt
  implied_hold gs (f ∷ fs) memory lie implied = (by_known (slice_get gs f.global) refl implied.0, implied_hold gs fs memory lie implied.1)
    where
      by_known : (known : Option V) → slice_get gs f.global ≡ known → MatchOption known ⊥ (λ a. Within o a f.values) → In o f.values (global_in story memory f.global)
      by_known None e within = absurd within
      by_known (Some a) e within = within (global_in story memory f.global) (lie f.global a e)

  -- ---- what a branch says of globals

  -- a global has what is said of it
  abbrev pub HoldsGlobal : Option (ℕ × V) → List ℕ → Type 0
  HoldsGlobal k memory = IfSome k (λ k. 16 ≤ k.0 → In o k.1 (global_in story memory (k.0 - 16)))

  abbrev pub HoldGlobals : Kept V → List ℕ → Type 0
  HoldGlobals kept memory = HoldsGlobal kept.first_global memory × HoldsGlobal kept.second_global memory

  pub global_holds : (v : ℕ) (a : V) (memory : List ℕ) → (16 ≤ v → In o a (global_in story memory (v - 16))) → HoldsGlobal (global_kept v a) memory
  global_holds v a memory has = by_test (nat_lt v 16)
    where
      by_test : (c : Bool) → HoldsGlobal (if c then None else Some (v, a)) memory
      by_test true = tt
      by_test false = has

  lie_named : (gs : List V) (k : Option (ℕ × V)) (memory : List ℕ) → HoldsGlobal k memory → LieIn o gs story memory → LieIn o (globals_named k gs) story memory
  lie_named gs None memory hold lie = lie
  lie_named gs (Some k) memory hold lie = by_test (nat_lt k.0 16) refl
    where
      by_test : (c : Bool) → nat_lt k.0 16 ≡ c → LieIn o (if c then gs else slice_set gs (k.0 - 16) k.1) story memory
      by_test true e = lie
      by_test false e = lie_set gs (k.0 - 16) k.1 memory (hold (ltb-false k.0 16 e)) lie

  -- ---- globals that are written

  module _ (loaded : IsLoadedStory story) where
    lie_written : (gs : List V) (v x : ℕ) (a : V) (memory : List ℕ) → length memory ≡ length story.memory → 16 ≤ v → v < 256 → In o a x → LieIn o gs story memory → LieIn o (slice_set gs (v - 16) a) story (write_word memory (global story v) x)
    lie_written gs v x a memory long above below member lie j values e = elim (by_place j (v - 16)) [
      | inl same ↦ (let is : a ≡ values = set_same gs (v - 16) a values (subst (λ (i : ℕ). slice_get (slice_set gs (v - 16) a) i ≡ Some values) same e) in
          subst (λ (i : ℕ). In o values (global_in story (write_word memory (global story v) x) i)) (sym same)
          (rw (word_written memory (global story v) x inside) (subst (λ (w : V). In o w x) is member)))
      | inr apart ↦ (rw (word_other memory (global story v) x (globals story + 2 * j) (beside apart)) (lie j values (set_other gs (v - 16) j a values apart e)))
    ]
      where
        inside : global story v + 1 < length memory
        inside = let g = loaded.sound.globals_within in let h = loaded.sound.static_base_within in omega (arith, g, h, long, above, below)

        beside : (j ≡ v - 16 → ⊥) → (globals story + 2 * j + 1 < global story v) ⊎ (global story v + 1 < globals story + 2 * j)
        beside apart = elim (cases_lt j (v - 16)) [
          | inl less ↦ inl (omega (arith, less))
          | inr most ↦ elim (cases_lt (v - 16) j) [ inl more ↦ inr (omega (arith, more)) | inr least ↦ absurd (apart (omega (arith, most, least))) ]
        ]

    module _ (gs : List V) (v x : ℕ) (a : V) (u : State) (long : length u.memory ≡ length story.memory) (small : 16 ≤ v → v < 256) (member : In o a x) (lie : LieIn o gs story u.memory) where
      no_global : (v == 0) ≡ true → nat_lt v 16 ≡ false → ⊥
      no_global zero_is high = let z = eqb-true v 0 zero_is in let h = ltb-false v 16 high in omega (arith, z, h)

      lie_put_named : LieIn o (globals_with (Some a) v gs) story (put_named story v x u).memory
      unfolding put_named
      lie_put_named = by_kind (nat_lt v 16) refl
        where
          by_kind : (c : Bool) → nat_lt v 16 ≡ c → LieIn o (if c then gs else slice_set gs (v - 16) a) story (if c then with_locals (slice_set u.frame.locals (v - 1) x) u else with_memory (write_word u.memory (global story v) x) u).memory
          by_kind true e = lie
          by_kind false e = let above = ltb-false v 16 e in lie_written gs v x a u.memory long above (small above) member lie

      with_none : (c : Bool) → nat_lt v 16 ≡ c → (v == 0) ≡ true → LieIn o (if c then gs else slice_set gs (v - 16) a) story u.memory
      with_none true e zero_is = lie
      with_none false e zero_is = absurd (no_global zero_is e)

      pub lie_put : LieIn o (globals_with (Some a) v gs) story (put story v x u).memory
      unfolding put
      lie_put = by_stack (v == 0) refl
        where
          by_stack : (b : Bool) → (v == 0) ≡ b → LieIn o (globals_with (Some a) v gs) story (if b then with_stack (x ∷ u.frame.stack) u else put_named story v x u).memory
          by_stack true e = with_none (nat_lt v 16) refl e
          by_stack false e = lie_put_named

      pub lie_put_in_place : LieIn o (globals_with (Some a) v gs) story (put_in_place story v x u).memory
      unfolding put_in_place
      lie_put_in_place = by_stack (v == 0) refl
        where
          by_stack : (b : Bool) → (v == 0) ≡ b → LieIn o (globals_with (Some a) v gs) story (if b then with_stack (slice_set u.frame.stack 0 x) u else put_named story v x u).memory
          by_stack true e = with_none (nat_lt v 16) refl e
          by_stack false e = lie_put_named

  -- what a branch says comes last
  pub lie_after : (gs : List V) (target : ℕ) (w : Outcome V) (memory : List ℕ) → HoldGlobals w.kept memory → LieIn o (globals_with w.gives target (globals_named w.assigns gs)) story memory → LieIn o (globals_after gs target w) story memory
  lie_after gs target w memory hold lie = lie_named _ w.kept.second_global memory hold.1 (lie_named _ w.kept.first_global memory hold.0 lie)

  -- a draw and an event that is used up write nothing
  pub lie_spent : (gs : List V) (mode : Option RandomMode) (need : Option Need) (u : State) → LieIn o gs story u.memory → LieIn o gs story (used need (drawn mode u)).memory
  lie_spent gs mode need u lie = by_need need (drawn mode u) (by_mode mode)
    where
      by_mode : (mode : Option RandomMode) → LieIn o gs story (drawn mode u).memory
      by_mode None = lie
      by_mode (Some m) = lie

      by_need : (need : Option Need) (t : State) → LieIn o gs story t.memory → LieIn o gs story (used need t).memory
      by_need None t lie = lie
      by_need (Some needs.Line) t lie = lie
      by_need (Some needs.Random) t lie = lie
      by_need (Some needs.Saved) t lie = lie
      by_need (Some needs.Restore) t lie = lie
