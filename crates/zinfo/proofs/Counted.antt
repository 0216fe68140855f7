-- The places of an opcode that isn't played, one after another.
use Rattle.std.proofs.Common.{inl, inr, ◌≡◌, ℕ, ◌+◌, ◌<◌, true, false, [], ◌∷◌, ◌++◌, length, IsTrue, refl, subst, arith, nat_lt}
use Rattle.std.specs.Prelude.{◌↔◌, pos, Err}
use Rattle.std.specs.List.{Contains}
use Rattle.std.proofs.lemmas.Bool.{ltb-true, ltb-false}
use Rattle.std.proofs.lemmas.List.{length_push}
use Rattle.std.proofs.lemmas.List.Elements.{All-push, Contains-push, Contains-push_cases, Contains-append_left}
use Rattle.zstory.specs.LoadedStory.{LoadedStory}
use Rattle.zcode.specs.declared.error.DecodeError.TheVariants.{NotInProfile, Truncated}
use Rattle.zcode.specs.declared.opcode.Excluded.{Excluded}
use Rattle.zlist.specs.Listed.{spelled}
use Rattle.zlist.proofs.Calls.{rising_push}
use Rattle.zlist.proofs.Outside.{nothing_past}
use Rattle.zinfo.specs.Unplayed.{IsCountOf, IsMet, IsUnplayedAt}
use Rattle.zinfo.specs.Walked.{Found, IsCountTo, IsWalked, has}
use Rattle.zinfo.proofs.Followed.{reached_found}

-- what stands at an address of memory that was found is met, and nothing else
pub met_by : (story : LoadedStory) (found : Found) (opcode : Excluded) (a : ℕ) → IsWalked story found → a < length story.memory → IsUnplayedAt story.memory a opcode → IsTrue (has found (pos a)) ↔ IsMet story opcode a
met_by story found opcode a walked l here = (λ h. (walked.way.sound.reached a l h, here), λ it. reached_found story found walked (pos a) it.0)

pub not_met : (story : LoadedStory) (opcode : Excluded) (a : ℕ) → (IsUnplayedAt story.memory a opcode → ⊥) → IsMet story opcode a → ⊥
not_met story opcode a none it = none it.1

pub met_inside : (story : LoadedStory) (opcode : Excluded) (a : ℕ) → IsMet story opcode a → a < length story.memory
met_inside story opcode a it =
    (elim (nat_lt a (length story.memory)) as (λ b. nat_lt a (length story.memory) ≡ b → a < length story.memory) [
      | true ↦ λ e. ltb-true a (length story.memory) e
      | false ↦ λ e. absurd (behind it.1 (nothing_past story.memory a (ltb-false a (length story.memory) e)))
    ]) refl
  where
    behind : spelled story.memory (pos a) ≡ Err (NotInProfile opcode) → spelled story.memory (pos a) ≡ Err Truncated → ⊥
    behind one other = cc

module _ (story : LoadedStory) (opcode : Excluded) where
  pub none_counted : IsCountTo story opcode 0 0
  none_counted = record {
    places = [];
    rising = λ k l. absurd (omega (arith, l));
    below = λ k d l. absurd (omega (arith, l));
    all = λ a l it. absurd (omega (arith, l));
    only = λ a (k, l, e). absurd (omega (arith, l));
    many = refl;
    few = omega arith;
  }

  pub passed_on : (end count : ℕ) → IsCountTo story opcode end count → (IsMet story opcode end → ⊥) → IsCountTo story opcode (end + 1) count
  passed_on end count it none = record {
    places = it.places;
    rising = it.rising;
    below = λ k d l. omega (arith, it.below k d l);
    all = λ a l here. (elim (nat_lt a end) as (λ b. nat_lt a end ≡ b → Contains it.places a) [
      | true ↦ λ e. it.all a (ltb-true a end e) here
      | false ↦ λ e. absurd (none (subst (λ (n : ℕ). IsMet story opcode n) (omega (arith, l, ltb-false a end e)) here))
    ]) refl;
    only = it.only;
    many = it.many;
    few = omega (arith, it.few);
  }

  pub counted_on : (end count : ℕ) → IsCountTo story opcode end count → IsMet story opcode end → IsCountTo story opcode (end + 1) (count + 1)
  counted_on end count it here = record {
    places = it.places ++ end ∷ [];
    rising = rising_push it.places end end it.rising it.below (omega arith);
    below = All-push (λ a. a < end + 1) it.places end (λ k d l. omega (arith, it.below k d l)) (omega arith);
    all = λ a l there. (elim (nat_lt a end) as (λ b. nat_lt a end ≡ b → Contains (it.places ++ end ∷ []) a) [
      | true ↦ λ e. Contains-append_left it.places (end ∷ []) a (it.all a (ltb-true a end e) there)
      | false ↦ λ e. subst (λ (n : ℕ). Contains (it.places ++ end ∷ []) n) (omega (arith, l, ltb-false a end e)) (Contains-push it.places end)
    ]) refl;
    only = λ a h. elim (Contains-push_cases it.places end a h) [
      | inl old ↦ it.only a old
      | inr is ↦ subst (λ (n : ℕ). IsMet story opcode n) is here
    ];
    many = omega (arith, it.many, length_push it.places end);
    few = omega (arith, it.few);
  }

  pub all_counted : (count : ℕ) → IsCountTo story opcode (length story.memory) count → IsCountOf story opcode count
  all_counted count it = record {
    places = it.places;
    rising = it.rising;
    met = λ a. (it.only a, λ here. it.all a (met_inside story opcode a here) here);
    many = it.many;
  }
