-- What may be at fault at a place, in its order.
use Rattle.std.proofs.Common.{inl, inr, ◌≡◌, ℕ, ◌≤◌, Bool, IsTrue, ◌↔◌, refl, sym, subst, ◌∙◌, arith, Some, None, Ok, Err}
use Rattle.std.specs.Prelude.{ℤ, pos, Result}
use Rattle.zstory.specs.LoadedStory.{LoadedStory}
use Rattle.zcode.specs.declared.error.DecodeError.{DecodeError}
use Rattle.zcode.specs.Instruction.{Instruction}
use Rattle.zlist.specs.declared.list_error.ListError.{ListError}
use Rattle.zlist.specs.declared.list_error.ListError.TheVariants.{Decode, TwoRoutines, ComputedJump, OutOfMemory}
use Rattle.zlist.specs.Listed.{IsComputed, IsFault, IsFirstAt, IsHeadless, IsListed, IsShared, IsUnspelled, JumpsByVariable, number_of, place_of, spelled}

abbrev the_ok : Instruction → Result Instruction DecodeError
the_ok i = Ok i

ok_is : (i j : Instruction) → the_ok i ≡ the_ok j → i ≡ j
ok_is i j e = cc

pos_is : (a b : ℕ) → pos a ≡ pos b → a ≡ b
pos_is a b e = cc

module _ (story : LoadedStory) (address : ℕ) where
  abbrev pub NoneUnspelled : Type 0
  NoneUnspelled = (cause : DecodeError) → IsUnspelled story (pos address) cause → ⊥

  abbrev pub NoneHeadless : Type 0
  NoneHeadless = (cause : DecodeError) → IsHeadless story address cause → ⊥

  from_one : (f : ListError) → IsFault story f → place_of f ≡ pos address → 1 ≤ number_of f
  from_one (Decode q cause) it at = omega arith
  from_one (TwoRoutines a) it at = omega arith
  from_one (ComputedJump a) it at = omega arith
  from_one OutOfMemory it at = absurd it

  no_decode : NoneUnspelled → NoneHeadless → (q : ℤ) (cause : DecodeError) → IsFault story (Decode q cause) → q ≡ pos address → ⊥
  no_decode one two q cause (inl it) at = one cause (subst (λ (x : ℤ). IsUnspelled story x cause) at it)
  no_decode one two q cause (inr it) at = two cause (subst (λ (a : ℕ). IsHeadless story a cause) (pos_is it.0 address (sym it.1 ∙ at)) it.2)

  from_two : NoneUnspelled → NoneHeadless → (f : ListError) → IsFault story f → place_of f ≡ pos address → 2 ≤ number_of f
  from_two one two (Decode q cause) it at = absurd (no_decode one two q cause it at)
  from_two one two (TwoRoutines a) it at = omega arith
  from_two one two (ComputedJump a) it at = omega arith
  from_two one two OutOfMemory it at = absurd it

  from_three : NoneUnspelled → NoneHeadless → (IsShared story (pos address) → ⊥) → (f : ListError) → IsFault story f → place_of f ≡ pos address → 3 ≤ number_of f
  from_three one two three (Decode q cause) it at = absurd (no_decode one two q cause it at)
  from_three one two three (TwoRoutines a) it at = absurd (three (subst (λ (x : ℤ). IsShared story x) at it))
  from_three one two three (ComputedJump a) it at = omega arith
  from_three one two three OutOfMemory it at = absurd it

  none_here : NoneUnspelled → NoneHeadless → (IsShared story (pos address) → ⊥) → (IsComputed story (pos address) → ⊥) → (f : ListError) → IsFault story f → place_of f ≡ pos address → ⊥
  none_here one two three four (Decode q cause) it at = no_decode one two q cause it at
  none_here one two three four (TwoRoutines a) it at = three (subst (λ (x : ℤ). IsShared story x) at it)
  none_here one two three four (ComputedJump a) it at = four (subst (λ (x : ℤ). IsComputed story x) at it)
  none_here one two three four OutOfMemory it at = it

  -- ---- what is answered

  pub is_unspelled : (cause : DecodeError) → IsUnspelled story (pos address) cause → IsFirstAt story (pos address) (Some (Decode (pos address) cause))
  is_unspelled cause it = (inl it, refl, λ f fault at. from_one f fault at)

  pub is_headless : (cause : DecodeError) → NoneUnspelled → IsHeadless story address cause → IsFirstAt story (pos address) (Some (Decode (pos address) cause))
  is_headless cause one it = (inr (address, refl, it, one), refl, λ f fault at. from_one f fault at)

  pub is_two : NoneUnspelled → NoneHeadless → IsShared story (pos address) → IsFirstAt story (pos address) (Some (TwoRoutines address))
  is_two one two it = (it, refl, λ f fault here. from_two one two f fault here)

  pub is_jump : NoneUnspelled → NoneHeadless → (IsShared story (pos address) → ⊥) → IsComputed story (pos address) → IsFirstAt story (pos address) (Some (ComputedJump address))
  is_jump one two three it = (it, refl, λ f fault here. from_three one two three f fault here)

  pub is_none : NoneUnspelled → NoneHeadless → (IsShared story (pos address) → ⊥) → (IsComputed story (pos address) → ⊥) → IsFirstAt story (pos address) None
  is_none one two three four = λ f fault at. none_here one two three four f fault at

-- an instruction that stands at a listed place jumps by a variable just where the place is one of such a jump
pub computed_when : (story : LoadedStory) (p : ℤ) (i : Instruction) (answer : Bool) → IsListed story p → spelled story.memory p ≡ Ok i → (IsTrue answer ↔ JumpsByVariable i) → IsTrue answer ↔ IsComputed story p
computed_when story p i answer listed here decides =
    (λ yes_it. (listed, i, here, decides.0 yes_it), λ it. decides.1 (subst (λ (j : Instruction). JumpsByVariable j) (ok_is it.1 i (sym it.2 ∙ here)) it.3))

-- where nothing is at fault, something stands at a listed place
pub something_stands : (story : LoadedStory) (p : ℤ) → ((f : ListError) → IsFault story f → ⊥) → ((i : Instruction) → spelled story.memory p ≡ Ok i → ⊥) → IsListed story p → ⊥
something_stands story p faultless none listed =
    (elim (spelled story.memory p) as (λ r. spelled story.memory p ≡ r → ⊥) [
      | Ok i ↦ λ e. none i e
      | Err cause ↦ λ e. faultless (Decode p cause) (inl (listed, e))
    ]) refl
