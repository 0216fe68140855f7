-- The records of all that is listed, and the listing that they make.
use Rattle.std.proofs.Common.{inl, ◌≡◌, ℕ, zero, suc, ◌+◌, ◌<◌, ◌==◌, Bool, true, false, List, [], ◌∷◌, ◌++◌, length, slice_index, get_or, IsTrue, ◌↔◌, refl, sym, ap, subst, ◌∙◌, arith, nat_lt, eq-eqb, ◌||◌}
use Rattle.std.specs.Prelude.{All, ℤ, pos, negsuc}
use Rattle.std.specs.List.{Contains, list_any}
use Rattle.std.specs.List.Sorted.{IsStrictlyIncreasing}
use Rattle.std.proofs.lemmas.Bool.{eqb-true, ltb-true, ltb-false, false≢true}
use Rattle.std.proofs.lemmas.List.Elements.{All-push, All-map}
use Rattle.std.proofs.lemmas.Grind.{get_or_default_zero}
use Rattle.zstory.specs.LoadedStory.{LoadedStory}
use Rattle.zcode.specs.declared.error.DecodeError.TheVariants.{Truncated}
use Rattle.zlist.specs.declared.owner.Owner.{Owner}
use Rattle.zlist.specs.declared.owner.Owner.TheVariants.{Main, Routine}
use Rattle.zlist.specs.declared.record.Record.{Record}
use Rattle.zlist.specs.declared.list_error.ListError.{ListError}
use Rattle.zlist.specs.declared.list_error.ListError.TheVariants.{Decode}
use Rattle.zlist.specs.Listing.{ListedCode, addresses_of}
use Rattle.zlist.specs.Numbering.{IsNumbering}
use Rattle.zlist.specs.Listed.{Belongs, IsCalled, IsFault, IsListed, Lists, owner_of}
use Rattle.zlist.specs.Labels.{AreListed, IsNumbered, number_in}
use Rattle.zlist.proofs.Calls.{rising_push}
use Rattle.zlist.proofs.Outside.{nothing_past}

-- ---- on lists

any_left : {X : Type 0} (p : X → Bool) (xs ys : List X) → list_any p xs ≡ true → list_any p (xs ++ ys) ≡ true
any_left p [] ys h = absurd (false≢true h)
any_left p (x ∷ xs) ys h =
    (elim (p x) as (λ b. (b || list_any p xs) ≡ true → (b || list_any p (xs ++ ys)) ≡ true) [
      | true ↦ λ g. refl
      | false ↦ λ g. any_left p xs ys g
    ]) h

any_last : {X : Type 0} (p : X → Bool) (xs : List X) (y : X) → p y ≡ true → list_any p (xs ++ y ∷ []) ≡ true
any_last p [] y h = ap (λ (b : Bool). b || false) h
any_last p (x ∷ xs) y h =
    elim (p x) as (λ b. (b || list_any p (xs ++ y ∷ [])) ≡ true) [
      | true ↦ refl
      | false ↦ any_last p xs y h
    ]

mapped_push : (xs : List Record) (r : Record) → addresses_of (xs ++ r ∷ []) ≡ addresses_of xs ++ r.address ∷ []
mapped_push [] r = refl
mapped_push (x ∷ xs) r = ap (λ (l : List ℕ). x.address ∷ l) (mapped_push xs r)

any_contains : (xs : List ℕ) (a : ℕ) → list_any (λ b. b == a) xs ≡ true → Contains xs a
any_contains [] a h = absurd (false≢true h)
any_contains (x ∷ xs) a h =
    (elim (x == a) as (λ b. (x == a) ≡ b → (b || list_any (λ c. c == a) xs) ≡ true → Contains (x ∷ xs) a) [
      | true ↦ λ e g. (0, omega arith, eqb-true x a e)
      | false ↦ λ e g. let at = any_contains xs a g in (suc at.0, omega (arith, at.1), at.2)
    ]) refl h

contains_any : (xs : List ℕ) (a k : ℕ) → k < length xs → get_or xs k a ≡ a → list_any (λ b. b == a) xs ≡ true
contains_any [] a k l h = absurd (omega (arith, l))
contains_any (x ∷ xs) a zero l h = ap (λ (b : Bool). b || list_any (λ c. c == a) xs) (eq-eqb x a h)
contains_any (x ∷ xs) a (suc k) l h =
    elim (x == a) as (λ b. (b || list_any (λ c. c == a) xs) ≡ true) [
      | true ↦ refl
      | false ↦ contains_any xs a k (omega (arith, l)) h
    ]

-- ---- address by address

module _ (story : LoadedStory) (numbers : List ℕ) where
  pub listed_none : AreListed story numbers 0 []
  listed_none = record {
    rising = λ k l. absurd (omega (arith, l));
    below = λ k d l. absurd (omega (arith, l));
    each = λ k d l. absurd (omega (arith, l));
    all = λ a l h. absurd (omega (arith, l));
  }

  pub listed_not : (end : ℕ) (rs : List Record) → AreListed story numbers end rs → (IsListed story (pos end) → ⊥) → AreListed story numbers (end + 1) rs
  listed_not end rs it out = record {
    rising = it.rising;
    below = λ k d l. omega (arith, it.below k d l);
    each = it.each;
    all = λ a l h. (elim (nat_lt a end) as (λ b. nat_lt a end ≡ b → IsTrue (list_any (λ r. r.address == a) rs)) [
      | true ↦ λ e. it.all a (ltb-true a end e) h
      | false ↦ λ e. absurd (out (subst (λ (n : ℕ). IsListed story (pos n)) (omega (arith, l, ltb-false a end e)) h))
    ]) refl;
  }

  pub listed_more : (end : ℕ) (rs : List Record) (r : Record) → AreListed story numbers end rs → r.address ≡ end → IsNumbered story numbers r → AreListed story numbers (end + 1) (rs ++ r ∷ [])
  listed_more end rs r it at numbered =
      let low : All (λ a. a < end) (addresses_of rs) = All-map (λ a. a < end) (λ (s : Record). s.address) rs it.below in record {
        rising = subst (λ (xs : List ℕ). IsStrictlyIncreasing xs) (sym (mapped_push rs r)) (rising_push (addresses_of rs) r.address end it.rising low (omega (arith, at)));
        below = All-push (λ s. s.address < end + 1) rs r (λ k d l. omega (arith, it.below k d l)) (omega (arith, at));
        each = All-push (IsNumbered story numbers) rs r it.each numbered;
        all = λ a l h. (elim (nat_lt a end) as (λ b. nat_lt a end ≡ b → IsTrue (list_any (λ s. s.address == a) (rs ++ r ∷ []))) [
          | true ↦ λ e. any_left (λ s. s.address == a) rs (r ∷ []) (it.all a (ltb-true a end e) h)
          | false ↦ λ e. any_last (λ s. s.address == a) rs r (eq-eqb r.address a (omega (arith, at, l, ltb-false a end e)))
        ]) refl;
      }

-- ---- the listing

module _ (story : LoadedStory) (listing : ListedCode) (numbers : List ℕ) where
  -- a called routine has its number
  owned : IsNumbering listing.routines (length listing.routines) numbers → ((a : ℕ) → Contains listing.routines a ↔ IsCalled story a) → (owner : Owner) (p : ℤ) → Belongs story owner p → owner_of listing.routines (number_in numbers owner) ≡ owner
  owned table called Main p it = refl
  owned table called (Routine a) p it =
      let at = (called a).1 it.1.0 in
      let there : get_or listing.routines at.0 0 ≡ a = sym (get_or_default_zero listing.routines at.0 a at.1) ∙ at.2 in
      let number : slice_index numbers a ≡ suc at.0 = ap (λ (n : ℕ). slice_index numbers n) (sym there) ∙ table.numbered at.0 at.1 ∙ omega arith in
      ap (λ (n : ℕ). owner_of listing.routines n) number ∙ ap (λ (n : ℕ). Routine n) there

  listed_at : ((f : ListError) → IsFault story f → ⊥) → (p : ℤ) → IsListed story p → (a : ℕ) × (p ≡ pos a) × (a < length story.memory)
  listed_at faultless (pos a) it =
      (elim (nat_lt a (length story.memory)) as (λ b. nat_lt a (length story.memory) ≡ b → (k : ℕ) × (pos a ≡ pos k) × (k < length story.memory)) [
        | true ↦ λ e. (a, refl, ltb-true a (length story.memory) e)
        | false ↦ λ e. absurd (faultless (Decode (pos a) Truncated) (inl (it, nothing_past story.memory a (ltb-false a (length story.memory) e))))
      ]) refl
  listed_at faultless (negsuc n) it = absurd (faultless (Decode (negsuc n) Truncated) (inl (it, refl)))

  pub lists : ((f : ListError) → IsFault story f → ⊥) → ((a : ℕ) → Contains listing.routines a ↔ IsCalled story a) → IsNumbering listing.routines (length listing.routines) numbers → AreListed story numbers (length story.memory) listing.records → Lists story listing
  lists faultless called table listed = record {
    faultless = faultless;
    all = λ p it. let at = listed_at faultless p it in (at.0, at.1, listed.all at.0 at.2 (subst (λ (q : ℤ). IsListed story q) at.1 it));
    each = λ k d l.
        let it = listed.each k d l in record {
          spelled = it.spelled;
          belongs = subst (λ (x : Owner). Belongs story x (pos (get_or listing.records k d).address)) (sym (ap (λ (n : ℕ). owner_of listing.routines n) it.number ∙ owned table called it.owner (pos (get_or listing.records k d).address) it.belongs)) it.belongs;
        };
    routines = λ a. (λ h. (called a).0 (any_contains listing.routines a h), λ call. let at = (called a).1 call in contains_any listing.routines a at.0 at.1 at.2);
  }
