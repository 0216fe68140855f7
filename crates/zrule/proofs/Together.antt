-- What holds of a block holds of each routine in it.
use Rattle.std.proofs.Common.{◌≡◌, ◌⊎◌, inl, inr, ℕ, zero, suc, ◌+◌, ◌-◌, ◌<◌, ◌≤◌, arith, subst, sym, Bool, true, false, List, [], ◌∷◌, ◌++◌, ◌*◌, length, Option, Some, None, refl, ap, ◌∙◌}
use Rattle.std.specs.Prelude.{◌==◌, nat_lt, if◌then◌else◌, IfSome, slice_get, slice_set}
use Rattle.std.specs.List.{AllZip}
use Rattle.zstory.specs.LoadedStory.{LoadedStory}
use Rattle.std.proofs.Math.Nat.{mul-le-mul_left, mul-suc}
use Rattle.std.proofs.lemmas.Bool.{cases_lt}
use Rattle.std.proofs.lemmas.Option.{same_Some}
use Rattle.zrule.specs.declared.blocks.Block.{Block}
use Rattle.zrule.specs.Blocks.{AreInTurn, IsBlock}
use Rattle.zdomain.specs.Domain.{AreSound, In, SetOperations, Within}
use Rattle.zflow.specs.Transfer.{Shape, with_result}
use Rattle.zrule.specs.Claims.{Claims}
use Rattle.zrule.specs.Rules.{Begins, Leads, Starts}

module _ {V : Type 0} (o : SetOperations V) (claims : Claims V) where
  -- with fewer values for each argument a routine begins as well
  starts_narrower : (narrow wide : List V) (words : List ℕ) (locals : List V) → AllZip (Within o) narrow wide → Starts o claims wide words locals → Starts o claims narrow words locals
  starts_narrower [] [] words locals z s = s
  starts_narrower [] (b ∷ wide) words locals z s = absurd z
  starts_narrower (a ∷ narrow) [] words locals z s = absurd z
  starts_narrower (a ∷ narrow) (b ∷ wide) [] [] z s = tt
  starts_narrower (a ∷ narrow) (b ∷ wide) [] (x ∷ locals) z s = absurd s
  starts_narrower (a ∷ narrow) (b ∷ wide) (w ∷ words) [] z s = absurd s
  starts_narrower (a ∷ narrow) (b ∷ wide) (w ∷ words) (x ∷ locals) z s = ((λ y inside. s.0 y (z.0 y inside)), starts_narrower narrow wide words locals z.1 s.1)

  pub begins_narrower : (story : LoadedStory) (narrow wide : List V) (p : ℕ) → AllZip (Within o) narrow wide → Begins o claims story wide p → Begins o claims story narrow p
  begins_narrower story narrow wide p z b = record { index = b.index; routine = b.routine; entry = b.entry; listed = b.listed; same = b.same; empty = b.empty; starts = starts_narrower narrow wide _ _ z b.starts; implied = b.implied }

  set_narrower : (xs ys : List V) (k : ℕ) (narrow wide : V) → Within o narrow wide → AllZip (Within o) (slice_set xs k wide) ys → AllZip (Within o) (slice_set xs k narrow) ys
  set_narrower [] ys k narrow wide within z = z
  set_narrower (x ∷ xs) [] zero narrow wide within z = absurd z
  set_narrower (x ∷ xs) [] (suc k) narrow wide within z = absurd z
  set_narrower (x ∷ xs) (y ∷ ys) zero narrow wide within z = ((λ n inside. z.0 n (within n inside)), z.1)
  set_narrower (x ∷ xs) (y ∷ ys) (suc k) narrow wide within z = (z.0, set_narrower xs ys k narrow wide within z.1)

  pushed_narrower : (c : Bool) (xs ys : List V) (narrow wide : V) → Within o narrow wide → AllZip (Within o) (if c then wide ∷ xs else xs) ys → AllZip (Within o) (if c then narrow ∷ xs else xs) ys
  pushed_narrower true xs [] narrow wide within z = absurd z
  pushed_narrower true xs (y ∷ ys) narrow wide within z = ((λ n inside. z.0 n (within n inside)), z.1)
  pushed_narrower false xs ys narrow wide within z = z

  local_narrower : (c d : Bool) (xs ys : List V) (k : ℕ) (narrow wide : V) → Within o narrow wide → AllZip (Within o) (if c then xs else (if d then slice_set xs k wide else xs)) ys → AllZip (Within o) (if c then xs else (if d then slice_set xs k narrow else xs)) ys
  local_narrower true d xs ys k narrow wide within z = z
  local_narrower false true xs ys k narrow wide within z = set_narrower xs ys k narrow wide within z
  local_narrower false false xs ys k narrow wide within z = z

  pub leads_narrower : (routine : ℕ) (globals : List V) (shape : Shape V) (v to : ℕ) (narrow wide : V) → Within o narrow wide → Leads o claims routine globals (with_result (Some wide) v shape) to → Leads o claims routine globals (with_result (Some narrow) v shape) to
  leads_narrower routine globals shape v to narrow wide within leads = record {
    entry = leads.entry;
    listed = leads.listed;
    same = leads.same;
    implied = leads.implied;
    covered = record {
      locals = local_narrower (v == 0) (nat_lt v 16) shape.locals leads.entry.shape.locals (v - 1) narrow wide within leads.covered.locals;
      slots = pushed_narrower (v == 0) shape.slots leads.entry.shape.slots narrow wide within leads.covered.slots;
    };
  }

-- what holds of so many places from a base on, and of the next, holds of one more
pub one_further : (P : ℕ → Type 0) (base offset : ℕ) → ((x : ℕ) → base ≤ x → x < base + offset → P x) → P (base + offset) → (x : ℕ) → base ≤ x → x < base + (offset + 1) → P x
one_further P base offset before here x above below = by_case (cases_lt x (base + offset))
  where
    by_case : (x < base + offset) ⊎ (base + offset ≤ x) → P x
    by_case (inl less) = before x above less
    by_case (inr more) = let same : base + offset ≡ x = omega (arith, more, below) in subst P same here

pub only_first : (P : ℕ → Type 0) (base : ℕ) → P base → (x : ℕ) → base ≤ x → x < base + 1 → P x
only_first P base here x above below = let same : base ≡ x = omega (arith, above, below) in subst P same here

-- ---- what a block's routines give

module _ {V : Type 0} (o : SetOperations V) (sound : AreSound o) (given : ℕ → V) where
  pub gives_first : (base : ℕ) (a : V) → a ≡ given base → (x : ℕ) → base ≤ x → x < base + 1 → Within o (given x) a
  gives_first base a is = only_first (λ x. Within o (given x) a) base (λ y inside. subst (λ v. In o v y) (sym is) inside)

  pub gives_more : (base offset : ℕ) (a b c : V) → c ≡ o.join a b → b ≡ given (base + offset) → ((x : ℕ) → base ≤ x → x < base + offset → Within o (given x) a) → (x : ℕ) → base ≤ x → x < base + (offset + 1) → Within o (given x) c
  gives_more base offset a b c joined is before = one_further (λ x. Within o (given x) c) base offset (λ x above below y inside. subst (λ v. In o v y) (sym joined) (sound.join_left a b y (before x above below y inside))) (λ y inside. subst (λ v. In o v y) (sym joined) (sound.join_right a b y (subst (λ v. In o v y) (sym is) inside)))

  pub gives_any : (x : ℕ) (a : V) → a ≡ o.any → Within o (given x) a
  gives_any x a is y inside = subst (λ v. In o v y) (sym is) (sound.any y inside.word)

-- ---- blocks in their order

-- of blocks that all lie among the packed addresses, each does
pub block_inside : (count number blocks : ℕ) → number < blocks → count * blocks ≤ 65536 → count * number + count ≤ 65536
block_inside count number blocks less few =
    let up : suc number ≤ blocks = omega (arith, less) in
    let most = mul-le-mul_left count up in
    let next = mul-suc count number in
    omega (arith, most, next, few)

module _ {V : Type 0} (o : SetOperations V) (claims : Claims V) (story : LoadedStory) where
  pub block_there : (count k : ℕ) (blocks : List (Block V)) (packed : ℕ) (found : Option (Block V)) → AreInTurn o claims story count blocks → IfSome found (λ block. (slice_get blocks k ≡ Some block) × (packed ≡ count * k)) → IfSome found (IsBlock o claims story count packed)
  block_there count k blocks packed None are is = tt
  block_there count k blocks packed (Some block) are is = subst (λ p. IsBlock o claims story count p block) (sym is.1) (are k block is.0)

  pub none_yet : (count : ℕ) → AreInTurn o claims story count []
  none_yet count k block is = absurd cc

  at_end : (blocks : List (Block V)) (new : Block V) (k : ℕ) (block : Block V) → slice_get (blocks ++ new ∷ []) k ≡ Some block → (slice_get blocks k ≡ Some block) ⊎ ((k ≡ length blocks) × (new ≡ block))
  at_end [] new zero block is = inr (refl, same_Some new block is)
  at_end [] new (suc k) block is = absurd cc
  at_end (b ∷ blocks) new zero block is = inl is
  at_end (b ∷ blocks) new (suc k) block is = by_case (at_end blocks new k block is)
    where
      by_case : (slice_get blocks k ≡ Some block) ⊎ ((k ≡ length blocks) × (new ≡ block)) → (slice_get (b ∷ blocks) (suc k) ≡ Some block) ⊎ ((suc k ≡ length (b ∷ blocks)) × (new ≡ block))
      by_case (inl e) = inl e
      by_case (inr e) = inr (ap (λ n. suc n) e.0, e.1)

  pub one_more_block : (count : ℕ) (blocks : List (Block V)) (new : Block V) (number base : ℕ) → length blocks ≡ number → base ≡ count * number → IsBlock o claims story count base new → AreInTurn o claims story count blocks → AreInTurn o claims story count (blocks ++ new ∷ [])
  one_more_block count blocks new number base long at is are k block found = by_case (at_end blocks new k block found)
    where
      by_case : (slice_get blocks k ≡ Some block) ⊎ ((k ≡ length blocks) × (new ≡ block)) → IsBlock o claims story count (count * k) block
      by_case (inl e) = are k block e
      by_case (inr e) = let same : number ≡ k = sym (e.0 ∙ long) in subst (λ b. IsBlock o claims story count (count * k) b) e.1 (subst (λ n. IsBlock o claims story count (count * n) new) same (subst (λ n. IsBlock o claims story count n new) at is))
