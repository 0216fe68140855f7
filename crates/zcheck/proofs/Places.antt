-- From the instructions of a certificate in their order to what holds at addresses.
use Rattle.std.proofs.Common.{◌≡◌, ◌⊎◌, inl, inr, ℕ, suc, ◌+◌, ◌<◌, ◌≤◌, Bool, true, false, List, [], ◌∷◌, Some, refl, sym, ◌∙◌, ap, subst, arith}
use Rattle.std.specs.Prelude.{slice_get, ◌==◌, if◌then◌else◌, option_map}
use Rattle.std.proofs.lemmas.Bool.{cases_lt}
use Rattle.std.proofs.lemmas.Option.{same_Some}
use Rattle.zstory.specs.LoadedStory.{LoadedStory}
use Rattle.zdomain.specs.Domain.{SetOperations}
use Rattle.zcert.specs.Certificate.{Instruction, Certificate}
use Rattle.zcert.specs.Format.{Format}
use Rattle.zcert.specs.Listed.{listed_at}
use Rattle.zcert.specs.Spelling.{HasSpelling}
use Rattle.zcert.proofs.Rising.{instructions_rise}
use Rattle.zrule.specs.declared.rule.Rule.{Rule}
use Rattle.zrule.specs.Claims.{Entry, claims_of, entry_of}
use Rattle.zrule.specs.Rules.{Keeps, IsLowestBroken}
use Rattle.zrule.proofs.Below.{one_more}
use Rattle.zrule.proofs.Listed.{entry_listed, listed_address}
use Rattle.zcheck.specs.declared.refusal.StoryRule.{StoryRule}
use Rattle.zcheck.specs.Passes.{KeepsStory, Passes, IsFirstBroken}
use Rattle.zcheck.specs.Marks.{IsFirstUnmarkedBroken, PassesWhereUnmarked, is_marked_in, marked_in}

-- what is listed at an address stands somewhere among the instructions
pub found_at : {V : Type 0} (is : List (Instruction V)) (p : ℕ) (i : Instruction V) → listed_at is p ≡ Some i → (k : ℕ) × (slice_get is k ≡ Some i)
found_at [] p i e = absurd cc
found_at (j ∷ is) p i e = by_test (found_at is p i) (j.address == p) e
  where
    by_test : (listed_at is p ≡ Some i → (k : ℕ) × (slice_get is k ≡ Some i)) → (b : Bool) → (if b then Some j else listed_at is p) ≡ Some i → (k : ℕ) × (slice_get (j ∷ is) k ≡ Some i)
    by_test rest true e = (0, e)
    by_test rest false e = let r = rest e in (suc r.0, r.1)

-- where some instructions may be spared
module _ {V : Type 0} (o : SetOperations V) (story : LoadedStory) (c : Certificate V) (spares : Instruction V → Bool) where
  -- each rule is kept where an instruction is listed that isn't spared
  abbrev pub KeepsAll : Instruction V → Type 0
  KeepsAll i = spares i ≡ false → (rule : Rule) → Keeps o (claims_of o c) story i.address (entry_of i) rule

  -- so it is by the first instructions
  abbrev pub KeepsFirst : ℕ → Type 0
  KeepsFirst end = (k : ℕ) → k < end → (i : Instruction V) → slice_get c.instructions k ≡ Some i → KeepsAll i

  -- what is listed at a place isn't spared
  abbrev pub IsAskedAt : ℕ → Type 0
  IsAskedAt p = (i : Instruction V) → listed_at c.instructions p ≡ Some i → spares i ≡ false

  -- an entry is claimed by an instruction in the list
  stands : (p : ℕ) (e : Entry V) → (claims_of o c).entry p ≡ Some e → (k : ℕ) × (i : Instruction V) × (slice_get c.instructions k ≡ Some i) × (i.address ≡ p) × (entry_of i ≡ e) × (listed_at c.instructions p ≡ Some i)
  stands p e claimed =
      let listed = entry_listed (listed_at c.instructions p) e claimed in
      let found = found_at c.instructions p listed.0 listed.1 in
      (found.0, listed.0, found.1, listed_address c.instructions p listed.0 listed.1, listed.2, listed.1)

  at_entry : (p : ℕ) (e : Entry V) (i : Instruction V) → i.address ≡ p → entry_of i ≡ e → spares i ≡ false → KeepsAll i → (rule : Rule) → Keeps o (claims_of o c) story p e rule
  at_entry p e i at is asked keeps rule = subst (λ (f : Entry V). Keeps o (claims_of o c) story p f rule) is (subst (λ (q : ℕ). Keeps o (claims_of o c) story q (entry_of i) rule) at (keeps asked rule))

  each_where : ((k : ℕ) (i : Instruction V) → slice_get c.instructions k ≡ Some i → KeepsAll i) → (p : ℕ) (e : Entry V) → (claims_of o c).entry p ≡ Some e → IsAskedAt p → (rule : Rule) → Keeps o (claims_of o c) story p e rule
  each_where each p e claimed asked = let (k, i, found, at, is, there) = stands p e claimed in at_entry p e i at is (asked i there) (each k i found)

  pub first_more : (n : ℕ) (i : Instruction V) → slice_get c.instructions n ≡ Some i → KeepsFirst n → KeepsAll i → KeepsFirst (n + 1)
  first_more n i at before here =
      one_more (λ k. (j : Instruction V) → slice_get c.instructions k ≡ Some j → KeepsAll j) n before (λ j found. subst KeepsAll (same_Some i j (sym at ∙ found)) here)

  -- what is listed below an instruction comes before it
  below_first : (format : Format V) → HasSpelling format c → (n : ℕ) (i : Instruction V) → slice_get c.instructions n ≡ Some i → KeepsFirst n → (p : ℕ) (e : Entry V) → p < i.address → (claims_of o c).entry p ≡ Some e → IsAskedAt p → (rule : Rule) → Keeps o (claims_of o c) story p e rule
  below_first format has n i at before p e less claimed asked =
      let (k, j, found, there, is, listed) = stands p e claimed in
      at_entry p e j there is (asked j listed) (by_order k j found there (cases_lt k n))
    where
      by_order : (k : ℕ) (j : Instruction V) → slice_get c.instructions k ≡ Some j → j.address ≡ p → (k < n) ⊎ (n ≤ k) → KeepsAll j
      by_order k j found there (inl l) = before k l j found
      by_order k j found there (inr l) = absurd (by_same (cases_lt n k))
        where
          by_same : (n < k) ⊎ (k ≤ n) → ⊥
          by_same (inl m) = let rises = instructions_rise format c has n k i j m at found in omega (arith, rises, there, less)
          by_same (inr m) =
              let same : k ≡ n = omega (arith, l, m) in
              let is : i ≡ j = same_Some i j (sym at ∙ subst (λ (h : ℕ). slice_get c.instructions h ≡ Some j) same found) in
              omega (arith, ap (λ (x : Instruction V). x.address) is, there, less)

-- where none is
module _ {V : Type 0} (o : SetOperations V) (story : LoadedStory) (c : Certificate V) where
  abbrev pub none : Instruction V → Bool
  none i = false

  pub passes_where : ((rule : StoryRule) → KeepsStory o story c rule) → ((k : ℕ) (i : Instruction V) → slice_get c.instructions k ≡ Some i → KeepsAll o story c none i) → Passes o story c
  passes_where rules each = record { story_rules = rules; each = λ p e claimed. each_where o story c none each p e claimed (λ i there. refl) }

  pub first_broken : (format : Format V) → HasSpelling format c → ((rule : StoryRule) → KeepsStory o story c rule) → (n : ℕ) (i : Instruction V) (rule : Rule) → slice_get c.instructions n ≡ Some i → listed_at c.instructions i.address ≡ Some i → KeepsFirst o story c none n → IsLowestBroken o (claims_of o c) story i.address (entry_of i) rule → IsFirstBroken o story c i.address rule
  first_broken format has rules n i rule at listed before lowest = record {
    story_rules = rules;
    entry = entry_of i;
    listed = ap (option_map entry_of) listed;
    lowest = lowest;
    before = λ p e less claimed. below_first o story c none format has n i at before p e less claimed (λ j there. refl);
  }

-- where those are that are marked
module _ {V : Type 0} (o : SetOperations V) (story : LoadedStory) (c : Certificate V) where
  abbrev pub marks : Instruction V → Bool
  marks i = i.is_marked

  unmarked_there : (p : ℕ) → marked_in c p ≡ false → IsAskedAt o story c marks p
  unmarked_there p unmarked i there = ap is_marked_in (sym there) ∙ unmarked

  -- one that is marked is passed over
  pub first_passed : (n : ℕ) (i : Instruction V) → slice_get c.instructions n ≡ Some i → i.is_marked ≡ true → KeepsFirst o story c marks n → KeepsFirst o story c marks (n + 1)
  first_passed n i at marked before = first_more o story c marks n i at before (λ unmarked. absurd (let both : true ≡ false = sym marked ∙ unmarked in cc))

  pub marked_pass : ((rule : StoryRule) → KeepsStory o story c rule) → ((k : ℕ) (i : Instruction V) → slice_get c.instructions k ≡ Some i → KeepsAll o story c marks i) → PassesWhereUnmarked o story c
  marked_pass rules each = record { story_rules = rules; each = λ p e claimed unmarked. each_where o story c marks each p e claimed (unmarked_there p unmarked) }

  pub first_unmarked : (format : Format V) → HasSpelling format c → ((rule : StoryRule) → KeepsStory o story c rule) → (n : ℕ) (i : Instruction V) (rule : Rule) → slice_get c.instructions n ≡ Some i → listed_at c.instructions i.address ≡ Some i → i.is_marked ≡ false → KeepsFirst o story c marks n → IsLowestBroken o (claims_of o c) story i.address (entry_of i) rule → IsFirstUnmarkedBroken o story c i.address rule
  first_unmarked format has rules n i rule at listed unmarked before lowest = record {
    story_rules = rules;
    entry = entry_of i;
    listed = ap (option_map entry_of) listed;
    unmarked = ap is_marked_in listed ∙ unmarked;
    lowest = lowest;
    before = λ p e less claimed unmarked_here. below_first o story c marks format has n i at before p e less claimed (unmarked_there p unmarked_here);
  }
