-- Places outside memory, and the lowest of places.
use Rattle.std.proofs.Common.{inl, inr, ◌≡◌, ℕ, zero, suc, ◌≤◌, true, false, List, [], ◌∷◌, length, drop, refl, sym, ap, subst, ◌∙◌, arith, cond, Some, None, Err}
use Rattle.std.specs.Prelude.{◌⊎◌, ℤ, pos, negsuc, ◌≤ℤ◌, ◌<ℤ◌, int_le, Option, IfSome}
use Rattle.std.specs.Int.Signed.{le_z_yes, ≤ℤ_refl}
use Rattle.std.proofs.lemmas.Bool.{false≢true, le-ltb}
use Rattle.std.proofs.lemmas.Float.{T_from_true}
use Rattle.std.proofs.lemmas.Int.{ints, by_lt_z}
use Rattle.zcode.specs.declared.error.DecodeError.TheVariants.{Truncated}
use Rattle.zcode.specs.Reading.{head_at, instruction_at}
use Rattle.zlist.specs.Labels.{lower_of, lowered, reaches}
use Rattle.zlist.specs.Listed.{begins, spelled}

-- ---- order

pub le_from : (p q : ℤ) → int_le p q ≡ true → p ≤ℤ q
le_from p q h = le_z_yes (T_from_true (int_le p q) h)

pub le_to : (p q : ℤ) → p ≤ℤ q → int_le p q ≡ true
le_to p q l = grind (arith, ints)

gt_from : (p q : ℤ) → int_le p q ≡ false → q <ℤ p
gt_from p q h = by_lt_z q p (λ l. l) (λ l. absurd (false≢true (sym h ∙ le_to p q l)))

pub le_on : (p q r : ℤ) → p ≤ℤ q → q ≤ℤ r → p ≤ℤ r
le_on p q r l m = grind (arith, ints)

lt_on : (p q r : ℤ) → p <ℤ q → q ≤ℤ r → p ≤ℤ r
lt_on p q r l m = grind (arith, ints)

pub pos_le : (a b : ℕ) → pos a ≤ℤ pos b → a ≤ b
pos_le a b l = grind (arith, ints)

pub pos_above : (a n : ℕ) → pos a ≤ℤ negsuc n → ⊥
pos_above a n l = grind (arith, ints)

pub pos_not_below : (a : ℕ) → pos a <ℤ pos 0 → ⊥
pos_not_below a l = grind (arith, ints)

-- ---- the lowest

pub reaches_lowered : (o : Option ℤ) (p : ℤ) → reaches (lowered o p) p ≡ true
reaches_lowered None p = le_to p p (≤ℤ_refl p)
reaches_lowered (Some l) p =
    (elim (int_le l p) as (λ b. int_le l p ≡ b → reaches (cond b (Some l) (Some p)) p ≡ true) [
      | true ↦ λ e. e
      | false ↦ λ e. le_to p p (≤ℤ_refl p)
    ]) refl

pub reaches_still : (o : Option ℤ) (p q : ℤ) → reaches o q ≡ true → reaches (lowered o p) q ≡ true
reaches_still None p q h = absurd (false≢true h)
reaches_still (Some l) p q h =
    (elim (int_le l p) as (λ b. int_le l p ≡ b → reaches (cond b (Some l) (Some p)) q ≡ true) [
      | true ↦ λ e. h
      | false ↦ λ e. le_to p q (lt_on p l q (gt_from l p e) (le_from l q h))
    ]) refl

reaches_up : (o : Option ℤ) (p q : ℤ) → reaches o p ≡ true → p ≤ℤ q → reaches o q ≡ true
reaches_up None p q h l = absurd (false≢true h)
reaches_up (Some r) p q h l = le_to r q (le_on r p q (le_from r p h) l)

pub lowered_is : (P : ℤ → Type 0) (o : Option ℤ) (p : ℤ) → IfSome o P → P p → IfSome (lowered o p) P
lowered_is P None p old new = new
lowered_is P (Some l) p old new = elim (int_le l p) as (λ b. IfSome (cond b (Some l) (Some p)) P) [ true ↦ old | false ↦ new ]

pub reached_from : (P : ℤ → Type 0) (o : Option ℤ) (p : ℤ) → IfSome o P → reaches o p ≡ true → (q : ℤ) × P q × (q ≤ℤ p)
reached_from P None p it h = absurd (false≢true h)
reached_from P (Some q) p it h = (q, it, le_from q p h)

-- ---- the lower of two

reaches_first : (one other : Option ℤ) (q : ℤ) → reaches one q ≡ true → reaches (lower_of one other) q ≡ true
reaches_first one None q h = h
reaches_first one (Some r) q h = reaches_still one r q h

reaches_second : (one other : Option ℤ) (q : ℤ) → reaches other q ≡ true → reaches (lower_of one other) q ≡ true
reaches_second one None q h = absurd (false≢true h)
reaches_second one (Some r) q h = reaches_up (lowered one r) r q (reaches_lowered one r) (le_from r q h)

pub reaches_lower : (one other : Option ℤ) (q : ℤ) → (reaches one q ≡ true) ⊎ (reaches other q ≡ true) → reaches (lower_of one other) q ≡ true
reaches_lower one other q (inl h) = reaches_first one other q h
reaches_lower one other q (inr h) = reaches_second one other q h

some_is : (p q : ℤ) → Some p ≡ Some q → p ≡ q
some_is p q e = cc

pub lower_from : (one other : Option ℤ) (p : ℤ) → lower_of one other ≡ Some p → (one ≡ Some p) ⊎ ((other ≡ Some p) × (reaches one p ≡ false))
lower_from one None p h = inl h
lower_from None (Some q) p h = inr (h, refl)
lower_from (Some l) (Some q) p h =
    (elim (int_le l q) as (λ b. int_le l q ≡ b → cond b (Some l) (Some q) ≡ Some p → (Some l ≡ Some p) ⊎ ((Some q ≡ Some p) × (int_le l p ≡ false))) [
      | true ↦ λ e g. inl g
      | false ↦ λ e g. inr (g, subst (λ (x : ℤ). int_le l x ≡ false) (some_is q p g) e)
    ]) refl h

-- ---- nothing stands outside

past : (memory : List ℕ) (a : ℕ) → length memory ≤ a → drop a memory ≡ []
past [] zero l = refl
past [] (suc a) l = refl
past (b ∷ memory) zero l = absurd (omega (arith, l))
past (b ∷ memory) (suc a) l = past memory a (omega (arith, l))

pub nothing_past : (memory : List ℕ) (a : ℕ) → length memory ≤ a → spelled memory (pos a) ≡ Err Truncated
unfolding instruction_at head_at
nothing_past memory a l = ap (λ (bytes : List ℕ). instruction_at bytes) (past memory a l)

pub nothing_beyond : (memory : List ℕ) (p : ℤ) → pos (length memory) ≤ℤ p → spelled memory p ≡ Err Truncated
nothing_beyond memory (pos a) l = nothing_past memory a (pos_le (length memory) a l)
nothing_beyond memory (negsuc n) l = refl

pub nothing_below : (memory : List ℕ) (p : ℤ) → p <ℤ pos 0 → spelled memory p ≡ Err Truncated
nothing_below memory (pos a) l = absurd (pos_not_below a l)
nothing_below memory (negsuc n) l = refl

pub headless_past : (memory : List ℕ) (a : ℕ) → length memory ≤ a → begins memory a ≡ Err Truncated
headless_past memory a l = rw (le-ltb a (length memory) l) refl
