-- What a walk that is at its end knows: all that is listed, called, or belongs to some code.
use Rattle.std.proofs.Common.{inl, inr, ◌≡◌, ℕ, ◌<◌, ◌≤◌, Bool, true, false, List, [], length, IsTrue, refl, sym, ap, subst, ◌∙◌, arith, nat_lt, Some, Ok, Err, ◌||◌}
use Rattle.std.specs.Prelude.{◌≢◌, ◌⊎◌, ℤ, pos, negsuc, ◌≤ℤ◌, Option, IfSome}
use Rattle.std.specs.List.{Contains}
use Rattle.std.proofs.lemmas.Bool.{false≢true, ltb-true, ltb-false}
use Rattle.std.proofs.lemmas.List.{get_or_past}
use Rattle.zstory.specs.LoadedStory.{LoadedStory, first_instruction}
use Rattle.zcode.specs.declared.error.DecodeError.TheVariants.{Truncated}
use Rattle.zcode.specs.Instruction.{Instruction}
use Rattle.zlist.specs.declared.owner.Owner.{Owner}
use Rattle.zlist.specs.declared.owner.Owner.TheVariants.{Main, Routine}
use Rattle.zlist.specs.declared.owner.Label.{Label}
use Rattle.zlist.specs.declared.owner.Label.TheVariants.{Nobody, One, Several}
use Rattle.zlist.specs.Listed.{Begins, Belongs, IsCalled, IsClosed, IsListed, IsShared, aside_place, callee, next_place, spelled}
use Rattle.zlist.specs.Labels.{Covers, Found, Has, IsEntered, IsFollowed, IsKnown, IsLost, IsSo, IsWalked, has, is_called, is_noted, label_at, reaches}
use Rattle.zlist.proofs.Marking.{same_is, same_itself}
use Rattle.zlist.proofs.Outside.{le_on, nothing_beyond, pos_le, reached_from}
use Rattle.zlist.proofs.Reaching.{so_listed}

-- ---- what a label tells

abbrev pub told : Label → Bool
told Nobody = false
told (One _) = true
told Several = true

told_is : (label : Label) → told label ≡ true → label ≢ Nobody
told_is label h e = false≢true (ap told (sym e) ∙ h)

told_by : (label : Label) (x : Owner) → has label x ≡ true → told label ≡ true
told_by Nobody x h = h
told_by (One y) x h = refl
told_by Several x h = refl

told_more : (one other : Label) → Covers one other → told other ≡ true → told one ≡ true
told_more one Nobody c h = absurd (false≢true h)
told_more one (One x) c h = told_by one x (c x (same_itself x))
told_more one Several c h = told_by one Main (c Main refl)

several_of : (label : Label) (x y : Owner) → x ≢ y → has label x ≡ true → has label y ≡ true → label ≡ Several
several_of Nobody x y n one other = absurd (false≢true one)
several_of (One z) x y n one other = absurd (n (sym (same_is z x one) ∙ same_is z y other))
several_of Several x y n one other = refl

one_of : (label : Label) → ((x : Owner) → label ≡ One x → ⊥) → (label ≡ Several → ⊥) → label ≡ Nobody
one_of Nobody none few = refl
one_of (One x) none few = absurd (none x refl)
one_of Several none few = absurd (few refl)

none_in : (slot : ℕ) → Contains [] slot → ⊥
none_in slot (k, l, e) = absurd (omega (arith, l))

or_cases : (a b : Bool) → (a || b) ≡ true → (a ≡ true) ⊎ (b ≡ true)
or_cases true b h = inl refl
or_cases false b h = inr h

or_left : (a b : Bool) → a ≡ true → (a || b) ≡ true
or_left a b h = ap (λ (c : Bool). c || b) h

or_right : (a b : Bool) → b ≡ true → (a || b) ≡ true
or_right true b h = refl
or_right false b h = h

stands : (memory : List ℕ) (p : ℤ) (i : Instruction) → spelled memory p ≡ Ok i → spelled memory p ≡ Err Truncated → ⊥
stands memory p i one other = cc

-- ---- sets of places by their labels

-- the addresses whose labels pass a test, and the places outside memory that are noted
abbrev pub by_label : Found → (Label → Bool) → ℤ → Bool
by_label found test (pos a) = test (label_at found a) || reaches found.beyond (pos a)
by_label found test (negsuc n) = reaches found.below (negsuc n)

noted_by : (found : Found) (test : Label → Bool) (p : ℤ) → is_noted found p ≡ true → by_label found test p ≡ true
noted_by found test (pos a) h = or_right (test (label_at found a)) (reaches found.beyond (pos a)) h
noted_by found test (negsuc n) h = h

-- ---- the sets are closed

module _ (story : LoadedStory) (found : Found) (walked : IsWalked story found) where
  none_waits : (a : ℕ) → Contains found.waiting a → ⊥
  none_waits a w = none_in a (subst (λ (l : List ℕ). Contains l a) walked.done w)

  followed_at : (a : ℕ) (i : Instruction) → label_at found a ≢ Nobody → spelled story.memory (pos a) ≡ Ok i → IsFollowed story.memory found (label_at found a) (pos a) i
  followed_at a i some here = walked.way.complete a i (none_waits a) some here

  beyond_past : (p : ℤ) → reaches found.beyond p ≡ true → pos (length story.memory) ≤ℤ p
  beyond_past p h =
      let at = reached_from (λ q. (pos (length story.memory) ≤ℤ q) × IsLost story q) found.beyond p walked.way.sound.beyond h in
      le_on (pos (length story.memory)) at.0 p at.1.0 at.2

  inside_only : (a : ℕ) → a < length story.memory → reaches found.beyond (pos a) ≡ true → ⊥
  inside_only a l h = absurd (omega (arith, l, pos_le (length story.memory) a (beyond_past (pos a) h)))

  -- a test of labels that passes those that tell of more
  abbrev pub Rises : (Label → Bool) → Type 0
  Rises test = (one other : Label) → Covers one other → test other ≡ true → test one ≡ true

  here_by : (test : Label → Bool) (label : Label) (q : ℤ) → Rises test → test label ≡ true → Has found label q → by_label found test q ≡ true
  here_by test label q rises h (inl it) =
      subst (λ (p : ℤ). by_label found test p ≡ true) (sym it.1) (or_left (test (label_at found it.0)) (reaches found.beyond (pos it.0)) (rises (label_at found it.0) label it.2 h))
  here_by test label q rises h (inr it) = noted_by found test q it

  at_by : (test : Label → Bool) (p : ℤ) → by_label found test p ≡ true → (i : Instruction) → spelled story.memory p ≡ Ok i → (a : ℕ) × (p ≡ pos a) × (test (label_at found a) ≡ true)
  at_by test (pos a) h i here =
      elim (or_cases (test (label_at found a)) (reaches found.beyond (pos a)) h) [
        | inl it ↦ (a, refl, it)
        | inr out ↦ absurd (stands story.memory (pos a) i here (nothing_beyond story.memory (pos a) (beyond_past (pos a) out)))
      ]
  at_by test (negsuc n) h i here = cc

  closed_by : (test : Label → Bool) → Rises test → ((label : Label) → test label ≡ true → label ≢ Nobody) → IsClosed story.memory (by_label found test)
  closed_by test rises some = record {
    next = λ p q i h here there.
        let at = at_by test p h i here in
        let followed = followed_at at.0 i (some _ at.2) (subst (λ (x : ℤ). spelled story.memory x ≡ Ok i) at.1 here) in
        here_by test (label_at found at.0) q rises at.2 (subst (λ (o : Option ℤ). IfSome o (Has found (label_at found at.0))) (subst (λ (x : ℤ). next_place x i ≡ Some q) at.1 there) followed.next);
    aside = λ p q i h here there.
        let at = at_by test p h i here in
        let followed = followed_at at.0 i (some _ at.2) (subst (λ (x : ℤ). spelled story.memory x ≡ Ok i) at.1 here) in
        here_by test (label_at found at.0) q rises at.2 (subst (λ (o : Option ℤ). IfSome o (Has found (label_at found at.0))) (subst (λ (x : ℤ). aside_place x i ≡ Some q) at.1 there) followed.aside);
  }

  enters : (p : ℤ) (i : Instruction) (a : ℕ) → by_label found told p ≡ true → spelled story.memory p ≡ Ok i → callee i.opcode i.operands ≡ Some a → IsEntered story.memory found a
  enters p i a h here call =
      let at = at_by told p h i here in
      let followed = followed_at at.0 i (told_is (label_at found at.0) at.2) (subst (λ (x : ℤ). spelled story.memory x ≡ Ok i) at.1 here) in
      subst (λ (o : Option ℕ). IfSome o (IsEntered story.memory found)) call followed.calls

  -- all that is listed has a label, or is noted
  pub listed_told : (p : ℤ) → IsListed story p → by_label found told p ≡ true
  listed_told p listed =
      listed (by_label found told) (closed_by told told_more told_is)
      (λ p i a q h here call at. here_by told (One (Routine a)) (pos q) told_more refl ((enters p i a h here call).begun q at))
      (here_by told (One Main) (pos (first_instruction story)) told_more refl walked.way.begun)

  -- the label of an address that is listed tells something
  pub listed_label : (a : ℕ) → a < length story.memory → IsListed story (pos a) → label_at found a ≢ Nobody
  listed_label a l listed =
      elim (or_cases (told (label_at found a)) (reaches found.beyond (pos a)) (listed_told (pos a) listed)) [
        | inl it ↦ told_is (label_at found a) it
        | inr out ↦ absurd (inside_only a l out)
      ]

  within : (a : ℕ) → label_at found a ≢ Nobody → a < length story.memory
  within a some =
      (elim (nat_lt a (length story.memory)) as (λ b. nat_lt a (length story.memory) ≡ b → a < length story.memory) [
        | true ↦ λ e. ltb-true a (length story.memory) e
        | false ↦ λ e. absurd (some (get_or_past found.labels a Nobody (omega (arith, walked.way.sound.size, ltb-false a (length story.memory) e))))
      ]) refl

  -- behind memory it is noted
  pub listed_beyond : (a : ℕ) → length story.memory ≤ a → IsListed story (pos a) → reaches found.beyond (pos a) ≡ true
  listed_beyond a l listed =
      elim (or_cases (told (label_at found a)) (reaches found.beyond (pos a)) (listed_told (pos a) listed)) [
        | inl it ↦ absurd (omega (arith, l, within a (told_is (label_at found a) it)))
        | inr out ↦ out
      ]

  -- all that has a label is listed
  pub told_listed : (a : ℕ) → label_at found a ≢ Nobody → IsListed story (pos a)
  told_listed a some = so_listed story (label_at found a) (pos a) some (walked.way.sound.labels a)

  -- what is called is known
  called_known : (a : ℕ) → IsCalled story a → IsKnown found a
  called_known a call = (enters call.0 call.1 a (listed_told call.0 call.2) call.3 call.4).called

  pub called_inside : (a : ℕ) → a < length story.memory → IsCalled story a → IsTrue (is_called found a)
  called_inside a l call = elim (called_known a call) [
    | inl it ↦ it
    | inr out ↦
        let at = reached_from (λ p. (k : ℕ) × (p ≡ pos k) × (length story.memory ≤ k) × IsCalled story k) found.absent (pos a) walked.way.sound.absent out in
        absurd (omega (arith, l, at.1.2, pos_le at.1.0 a (subst (λ (q : ℤ). q ≤ℤ pos a) at.1.1 at.2)))
  ]

  pub called_beyond : (a : ℕ) → length story.memory ≤ a → IsCalled story a → reaches found.absent (pos a) ≡ true
  called_beyond a l call = elim (called_known a call) [
    | inl it ↦ absurd (false≢true (sym (get_or_past found.called a false (omega (arith, l, walked.way.sound.flags))) ∙ it))
    | inr out ↦ out
  ]

  -- what belongs to some code has a label that tells of that
  has_more : (x : Owner) → Rises (λ label. has label x)
  has_more x one other c h = c x h

  begun_by : (x : Owner) (q : ℕ) → Begins story x q → Has found (One x) (pos q)
  begun_by Main q at = subst (λ (n : ℕ). Has found (One Main) (pos n)) (sym at) walked.way.begun
  begun_by (Routine a) q at = (enters at.0.0 at.0.1 a (listed_told at.0.0 at.0.2) at.0.3 at.0.4).begun q at.1

  belongs_has : (x : Owner) (a : ℕ) → a < length story.memory → Belongs story x (pos a) → has (label_at found a) x ≡ true
  belongs_has x a l it =
      let in_set : by_label found (λ label. has label x) (pos a) ≡ true =
      it.2 (by_label found (λ label. has label x)) (closed_by (λ label. has label x) (has_more x) (λ label h. told_is label (told_by label x h)))
      (here_by (λ label. has label x) (One x) (pos it.0) (has_more x) (same_itself x) (begun_by x it.0 it.1)) in
      elim (or_cases (has (label_at found a) x) (reaches found.beyond (pos a)) in_set) [
        | inl here ↦ here
        | inr out ↦ absurd (inside_only a l out)
      ]

  -- the address of a label of one is no other's
  pub shared_label : (a : ℕ) → a < length story.memory → IsShared story (pos a) → label_at found a ≡ Several
  shared_label a l it = several_of (label_at found a) it.0 it.1 it.2 (belongs_has it.0 a l it.3) (belongs_has it.1 a l it.4)

  pub several_shared : (a : ℕ) → label_at found a ≡ Several → IsShared story (pos a)
  several_shared a e = subst (λ (label : Label). IsSo story label (pos a)) e (walked.way.sound.labels a)

  -- an address that is at no fault, and is told of no one, isn't listed
  pub unlisted : (a : ℕ) (label : Label) → a < length story.memory → label ≡ label_at found a → (IsShared story (pos a) → ⊥) → ((x : Owner) → label ≡ One x → ⊥) → IsListed story (pos a) → ⊥
  unlisted a label l is unshared none listed =
      let nobody = one_of label none (λ e. unshared (several_shared a (sym is ∙ e))) in
      listed_label a l listed (sym is ∙ nobody)
