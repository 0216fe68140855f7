-- Each fault lies below memory, in it or behind it; so what is met first by rising places is the lowest.
use Rattle.std.proofs.Common.{inl, inr, ◌≡◌, ℕ, ◌+◌, ◌<◌, ◌≤◌, true, false, refl, sym, ap, subst, ◌∙◌, arith, nat_lt, length, Some, None}
use Rattle.std.specs.Prelude.{◌⊎◌, ℤ, pos, negsuc, ◌≤ℤ◌, ◌<ℤ◌, Option, IfSome}
use Rattle.std.proofs.lemmas.Bool.{ltb-true, ltb-false, false≢true}
use Rattle.std.proofs.lemmas.Int.{ints, by_lt_z}
use Rattle.zstory.specs.LoadedStory.{LoadedStory}
use Rattle.zcode.specs.declared.error.DecodeError.TheVariants.{Truncated}
use Rattle.zcode.specs.declared.error.DecodeError.{DecodeError}
use Rattle.zlist.specs.declared.list_error.ListError.{ListError}
use Rattle.zlist.specs.declared.list_error.ListError.TheVariants.{Decode, TwoRoutines, ComputedJump, OutOfMemory}
use Rattle.zlist.specs.Listed.{ComesFirst, IsCalled, IsFault, IsFirstAt, IsListed, IsLowestFault, number_of, place_of}
use Rattle.zlist.specs.Labels.{Found, IsLost, IsWalked, lower_of, reaches}
use Rattle.zlist.proofs.Outside.{headless_past, le_from, lower_from, reaches_lower}
use Rattle.zlist.proofs.Reached.{called_beyond, listed_beyond, listed_told}
use Rattle.zlist.proofs.Reaching.{belongs_listed}

-- ---- the order of faults

rises : (j k : ℕ) → j < k → pos j <ℤ pos k
rises j k l = grind (arith, ints)

below_pos : (p : ℤ) (a : ℕ) → p <ℤ pos 0 → p <ℤ pos a
below_pos p a l = grind (arith, ints)

apart : (p q : ℤ) → p ≤ℤ q → q ≤ℤ p → p ≡ q
apart p q l m = grind (arith, ints)

from_one : (story : LoadedStory) (f : ListError) → IsFault story f → 1 ≤ number_of f
from_one story (Decode p cause) it = omega arith
from_one story (TwoRoutines a) it = omega arith
from_one story (ComputedJump a) it = omega arith
from_one story OutOfMemory it = absurd it

-- where nothing stands at a place, that comes before all that isn't lower
comes_first : (story : LoadedStory) (p : ℤ) (cause : DecodeError) (f : ListError) → IsFault story f → p ≤ℤ place_of f → ComesFirst (Decode p cause) f
comes_first story p cause f it l = by_lt_z p (place_of f) (λ m. inl m) (λ m. inr (apart p (place_of f) l m, from_one story f it))

-- ---- where faults lie

module _ (story : LoadedStory) (found : Found) (walked : IsWalked story found) where
  -- what is at fault is listed, or called
  led_to : (f : ListError) → IsFault story f → IsListed story (place_of f) ⊎ ((a : ℕ) × (place_of f ≡ pos a) × IsCalled story a)
  led_to (Decode p cause) (inl it) = inl it.0
  led_to (Decode p cause) (inr it) = inr (it.0, it.1, it.2.0)
  led_to (TwoRoutines a) it = inl (belongs_listed story it.0 (pos a) it.3)
  led_to (ComputedJump a) it = inl it.0
  led_to OutOfMemory it = absurd it

  negative_is : (a n : ℕ) → negsuc n ≡ pos a → ⊥
  negative_is a n e = cc

  pos_is : (a b : ℕ) → pos a ≡ pos b → a ≡ b
  pos_is a b e = cc

  below_noted : (f : ListError) → IsFault story f → (n : ℕ) → place_of f ≡ negsuc n → reaches found.below (negsuc n) ≡ true
  below_noted f it n at = elim (led_to f it) [
    | inl listed ↦ listed_told story found walked (negsuc n) (subst (λ (p : ℤ). IsListed story p) at listed)
    | inr call ↦ absurd (negative_is call.0 n (sym at ∙ call.1))
  ]

  beyond_noted : (f : ListError) → IsFault story f → (a : ℕ) → length story.memory ≤ a → place_of f ≡ pos a → (reaches found.beyond (pos a) ≡ true) ⊎ (reaches found.absent (pos a) ≡ true)
  beyond_noted f it a l at = elim (led_to f it) [
    | inl listed ↦ inl (listed_beyond story found walked a l (subst (λ (p : ℤ). IsListed story p) at listed))
    | inr call ↦ inr (called_beyond story found walked a l (subst (λ (k : ℕ). IsCalled story k) (pos_is call.0 a (sym call.1 ∙ at)) call.2))
  ]

  -- ---- below memory

  below_le : (p : ℤ) → found.below ≡ Some p → p <ℤ pos 0 → (f : ListError) → IsFault story f → (q : ℤ) → place_of f ≡ q → p ≤ℤ q
  below_le p is low f it (pos a) at = let l = below_pos p a low in grind (arith, ints)
  below_le p is low f it (negsuc n) at = le_from p (negsuc n) (subst (λ (o : Option ℤ). reaches o (negsuc n) ≡ true) is (below_noted f it n at))

  pub lowest_below : (p : ℤ) → found.below ≡ Some p → IsLowestFault story (Decode p Truncated)
  lowest_below p is =
      let so : (p <ℤ pos 0) × IsLost story p = subst (λ (o : Option ℤ). IfSome o (λ q. (q <ℤ pos 0) × IsLost story q)) is walked.way.sound.below in record {
        fault = inl so.1;
        lowest = λ f it. comes_first story p Truncated f it (below_le p is so.0 f it (place_of f) refl);
      }

  -- ---- in memory

  abbrev pub NoneBelow : Type 0
  NoneBelow = found.below ≡ None

  -- where none is below memory, each has an address
  address_of : NoneBelow → (f : ListError) → IsFault story f → (q : ℤ) → place_of f ≡ q → (a : ℕ) × (place_of f ≡ pos a)
  address_of none f it (pos a) at = (a, at)
  address_of none f it (negsuc n) at = absurd (false≢true (subst (λ (o : Option ℤ). reaches o (negsuc n) ≡ true) none (below_noted f it n at)))

  pub lowest_inside : NoneBelow → (error : ListError) → ((a : ℕ) × IsFirstAt story (pos a) (Some error) × ((k : ℕ) → k < a → IsFirstAt story (pos k) None)) → IsLowestFault story error
  lowest_inside none error here = record {
    fault = here.1.0;
    lowest = λ f it.
        let a = here.0 in
        let at = address_of none f it (place_of f) refl in
        (elim (nat_lt at.0 a) as (λ b. nat_lt at.0 a ≡ b → ComesFirst error f) [
          | true ↦ λ e. absurd (here.2 at.0 (ltb-true at.0 a e) f it at.1)
          | false ↦ λ e.
              (elim (nat_lt a at.0) as (λ b. nat_lt a at.0 ≡ b → ComesFirst error f) [
                | true ↦ λ l. inl (subst (λ (x : ℤ). x <ℤ place_of f) (sym here.1.1) (subst (λ (x : ℤ). pos a <ℤ x) (sym at.1) (rises a at.0 (ltb-true a at.0 l))))
                | false ↦ λ l.
                    let same : at.0 ≡ a = omega (arith, ltb-false at.0 a e, ltb-false a at.0 l) in
                    let there : place_of f ≡ pos a = at.1 ∙ ap (λ (k : ℕ). pos k) same in
                    inr (here.1.1 ∙ sym there, here.1.2 f it there)
              ]) refl
        ]) refl;
  }

  -- ---- behind memory

  abbrev pub NoneInside : Type 0
  NoneInside = (k : ℕ) → k < length story.memory → IsFirstAt story (pos k) None

  behind : NoneBelow → NoneInside → (f : ListError) → IsFault story f → (a : ℕ) × (place_of f ≡ pos a) × (length story.memory ≤ a)
  behind none inside f it =
      let at = address_of none f it (place_of f) refl in
      (elim (nat_lt at.0 (length story.memory)) as (λ b. nat_lt at.0 (length story.memory) ≡ b → (a : ℕ) × (place_of f ≡ pos a) × (length story.memory ≤ a)) [
        | true ↦ λ e. absurd (inside at.0 (ltb-true at.0 (length story.memory) e) f it at.1)
        | false ↦ λ e. (at.0, at.1, ltb-false at.0 (length story.memory) e)
      ]) refl

  reached : NoneBelow → NoneInside → (f : ListError) → IsFault story f → reaches (lower_of found.beyond found.absent) (place_of f) ≡ true
  reached none inside f it =
      let at = behind none inside f it in
      subst (λ (p : ℤ). reaches (lower_of found.beyond found.absent) p ≡ true) (sym at.1) (reaches_lower found.beyond found.absent (pos at.0) (beyond_noted f it at.0 at.2 at.1))

  pub faultless : NoneBelow → NoneInside → lower_of found.beyond found.absent ≡ None → (f : ListError) → IsFault story f → ⊥
  faultless none inside out f it = false≢true (subst (λ (o : Option ℤ). reaches o (place_of f) ≡ true) out (reached none inside f it))

  fault_behind : (p : ℤ) → lower_of found.beyond found.absent ≡ Some p → IsFault story (Decode p Truncated)
  fault_behind p is = elim (lower_from found.beyond found.absent p is) [
    | inl led ↦
        let so : (pos (length story.memory) ≤ℤ p) × IsLost story p = subst (λ (o : Option ℤ). IfSome o (λ q. (pos (length story.memory) ≤ℤ q) × IsLost story q)) led walked.way.sound.beyond in
        inl so.1
    | inr call ↦
        let so : (a : ℕ) × (p ≡ pos a) × (length story.memory ≤ a) × IsCalled story a =
        subst (λ (o : Option ℤ). IfSome o (λ q. (a : ℕ) × (q ≡ pos a) × (length story.memory ≤ a) × IsCalled story a)) call.0 walked.way.sound.absent in
        inr (
          so.0,
          so.1,
          (so.3, headless_past story.memory so.0 so.2),
          λ other it.
              false≢true (sym call.1 ∙ subst (λ (q : ℤ). reaches found.beyond q ≡ true) (sym so.1) (listed_beyond story found walked so.0 so.2 (subst (λ (q : ℤ). IsListed story q) so.1 it.0))),
        )
  ]

  pub lowest_behind : NoneBelow → NoneInside → (p : ℤ) → lower_of found.beyond found.absent ≡ Some p → IsLowestFault story (Decode p Truncated)
  lowest_behind none inside p is = record {
    fault = fault_behind p is;
    lowest = λ f it. comes_first story p Truncated f it (le_from p (place_of f) (subst (λ (o : Option ℤ). reaches o (place_of f) ≡ true) is (reached none inside f it)));
  }

-- where nothing is at fault, what is called lies in memory
pub called_low : (story : LoadedStory) → ((f : ListError) → IsFault story f → ⊥) → (a : ℕ) → IsCalled story a → a < length story.memory
called_low story none a call =
    (elim (nat_lt a (length story.memory)) as (λ b. nat_lt a (length story.memory) ≡ b → a < length story.memory) [
      | true ↦ λ e. ltb-true a (length story.memory) e
      | false ↦ λ e. absurd (none (Decode (pos a) Truncated) (inr (a, refl, (call, headless_past story.memory a (ltb-false a (length story.memory) e)), λ cause it. none (Decode (pos a) cause) (inl it))))
    ]) refl

pub none_more : (story : LoadedStory) (a : ℕ) → ((k : ℕ) → k < a → IsFirstAt story (pos k) None) → IsFirstAt story (pos a) None → (k : ℕ) → k < a + 1 → IsFirstAt story (pos k) None
none_more story a before here k l =
    (elim (nat_lt k a) as (λ b. nat_lt k a ≡ b → IsFirstAt story (pos k) None) [
      | true ↦ λ e. before k (ltb-true k a e)
      | false ↦ λ e. subst (λ (j : ℕ). IsFirstAt story (pos j) None) (omega (arith, l, ltb-false k a e)) here
    ]) refl
