-- What marking an address changes, what follows from where code leads, and what a walk that is at its end knows.
use Rattle.std.proofs.Common.{inl, inr, ◌≡◌, ℕ, zero, suc, ◌/◌, ◌%◌, ◌<◌, ◌≤◌, ◌==◌, Bool, true, false, List, [], ◌∷◌, ◌++◌, length, get_or, IsTrue, refl, sym, ap, ◌∙◌, subst, arith, nat_lt, eq-eqb}
use Rattle.std.specs.Prelude.{◌≢◌, ◌⊎◌, ℤ, pos, negsuc, Option, None, Some, Ok, Err, IfSome, slice_set, sum_by}
use Rattle.std.specs.List.{AllByRecursion, Contains}
use Rattle.std.proofs.lemmas.Bool.{agree_below_at, eqb-true, false≢true, ltb-true, ltb-false}
use Rattle.std.proofs.lemmas.List.{get_or-set_same, get_or-set_other, length-set, length_push}
use Rattle.std.proofs.lemmas.List.Sums.{sum_by-set}
use Rattle.std.proofs.lemmas.List.Elements.{Contains-push, Contains-push_cases, Contains-append_left}
use Rattle.zstory.specs.LoadedStory.{LoadedStory}
use Rattle.zcode.specs.declared.error.DecodeError.TheVariants.{NotInProfile}
use Rattle.zcode.specs.declared.opcode.Excluded.{Excluded}
use Rattle.zcode.specs.Instruction.{Instruction}
use Rattle.zcode.specs.Spelling.{types_of}
use Rattle.zlist.specs.Listed.{aside_place, next_place, spelled}
use Rattle.zlist.proofs.Outside.{nothing_past}
use Rattle.zinfo.specs.Unplayed.{IsClosed, IsReached, IsUnplayedAt, InstructionLeads, Leads, behind_unplayed, bytes_of, entered}
use Rattle.zinfo.specs.Walked.{Found, Grows, IsBlank, IsComplete, IsFollowed, IsSound, IsWalked, has, left, with_behind, with_waiting}

-- ---- what is passed over

-- two bits at a time, or by the list of the types
pub operands_are : (n : ℕ) → n < 256 → with_behind (n / 64) (with_behind (n / 16 % 4) (with_behind (n / 4 % 4) (with_behind (n % 4) 0))) ≡ sum_by bytes_of (types_of n)
operands_are n below =
    eqb-true (with_behind (n / 64) (with_behind (n / 16 % 4) (with_behind (n / 4 % 4) (with_behind (n % 4) 0)))) (sum_by bytes_of (types_of n))
    (agree_below_at (λ n. with_behind (n / 64) (with_behind (n / 16 % 4) (with_behind (n / 4 % 4) (with_behind (n % 4) 0))) == sum_by bytes_of (types_of n)) (λ n. true) 256 n refl below)

-- ---- an address is marked

-- the address is found, and waits
abbrev pub marked : Found → ℕ → Found
marked f address = record { reached = slice_set f.reached address true; waiting = f.waiting ++ address ∷ [] }

here_by_mark : (f : Found) (address : ℕ) → address < length f.reached → has (marked f address) (pos address) ≡ true
here_by_mark f address l = get_or-set_same f.reached address true true l

else_by_mark : (f : Found) (address k : ℕ) → k ≢ address → has (marked f address) (pos k) ≡ has f (pos k)
else_by_mark f address k n = get_or-set_other f.reached address k true true n

has_by_mark : (f : Found) (address : ℕ) (p : ℤ) → address < length f.reached → has f p ≡ true → has (marked f address) p ≡ true
has_by_mark f address (pos k) l h =
    (elim (k == address) as (λ c. (k == address) ≡ c → has (marked f address) (pos k) ≡ true) [
      | true ↦ λ e. ap (λ (j : ℕ). has (marked f address) (pos j)) (eqb-true k address e) ∙ here_by_mark f address l
      | false ↦ λ e. else_by_mark f address k (λ q. false≢true (sym e ∙ eq-eqb k address q)) ∙ h
    ]) refl
has_by_mark f address (negsuc n) l h = refl

grows_by_mark : (f : Found) (address : ℕ) → address < length f.reached → has f (pos address) ≡ false → Grows f (marked f address)
grows_by_mark f address l new =
    let total = sum_by-set left f.reached address true true l in
    let one : left (get_or f.reached address true) ≡ 1 = ap left new in record {
      still = λ p h. has_by_mark f address p l h;
      known = λ k h out. sym (else_by_mark f address k (λ q. out (subst (λ (j : ℕ). Contains (f.waiting ++ address ∷ []) j) (sym q) (Contains-push f.waiting address)))) ∙ h;
      waiting = λ k in_old. Contains-append_left f.waiting (address ∷ []) k in_old;
      work = omega (arith, total, one, length_push f.waiting address);
    }

sound_by_mark : (story : LoadedStory) (f : Found) (address : ℕ) → IsReached story (pos address) → IsSound story f → IsSound story (marked f address)
sound_by_mark story f address so sound = record {
  size = length-set f.reached address true ∙ sound.size;
  reached = λ k l h. (elim (k == address) as (λ c. (k == address) ≡ c → IsReached story (pos k)) [
    | true ↦ λ e. subst (λ (j : ℕ). IsReached story (pos j)) (sym (eqb-true k address e)) so
    | false ↦ λ e. sound.reached k l (sym (else_by_mark f address k (λ q. false≢true (sym e ∙ eq-eqb k address q))) ∙ h)
  ]) refl;
  waiting = λ k w. elim (Contains-push_cases f.waiting address k w) [
    | inl old ↦ sound.waiting k old
    | inr is ↦ subst (λ (j : ℕ). IsReached story (pos j)) is so
  ];
}

-- as the code has them
pub marked_grows : (f : Found) (rs : List Bool) (ws : List ℕ) (address : ℕ) → address < length f.reached → has f (pos address) ≡ false → rs ≡ slice_set f.reached address true → ws ≡ f.waiting ++ address ∷ [] → Grows f (record { reached = rs; waiting = ws })
marked_grows f rs ws address l new e1 e2 = rw (e1, e2) (grows_by_mark f address l new)

pub marked_sound : (f : Found) (rs : List Bool) (ws : List ℕ) (address : ℕ) (story : LoadedStory) → rs ≡ slice_set f.reached address true → ws ≡ f.waiting ++ address ∷ [] → IsReached story (pos address) → IsSound story f → IsSound story (record { reached = rs; waiting = ws })
marked_sound f rs ws address story e1 e2 so sound = rw (e1, e2) (sound_by_mark story f address so sound)

pub grows_itself : (f : Found) → Grows f f
grows_itself f = record { still = λ p h. h; known = λ k h out. h; waiting = λ k w. w; work = omega arith }

pub grows_on : (f g h : Found) → Grows f g → Grows g h → Grows f h
grows_on f g h one two = record {
  still = λ p it. two.still p (one.still p it);
  known = λ k it out. one.known k (two.known k it out) (λ w. out (two.waiting k w));
  waiting = λ k w. two.waiting k (one.waiting k w);
  work = omega (arith, one.work, two.work);
}

-- nothing outside memory has to be marked
pub has_outside : (f : Found) (p : ℤ) → ((a : ℕ) → p ≡ pos a → a < length f.reached → ⊥) → has f p ≡ true
has_outside f (pos a) out = past f.reached a (λ l. out a refl l)
  where
    past : (rs : List Bool) (k : ℕ) → (k < length rs → ⊥) → get_or rs k true ≡ true
    past [] k l = refl
    past (r ∷ rs) zero l = absurd (l (omega arith))
    past (r ∷ rs) (suc k) l = past rs k (λ m. l (omega (arith, m)))
has_outside f (negsuc n) out = refl

-- ---- where code leads

pub reached_on : (story : LoadedStory) (p q : ℤ) → Leads story.memory p q → IsReached story p → IsReached story q
reached_on story p q leads it set closed first = closed p q (it set closed first) leads

if_some : {X : Type 0} (o : Option X) (P : X → Type 0) → ((x : X) → o ≡ Some x → P x) → IfSome o P
if_some None P h = tt
if_some (Some x) P h = h x refl

from_some : {X : Type 0} (o : Option X) (P : X → Type 0) (x : X) → IfSome o P → o ≡ Some x → P x
from_some {X = X} o P x it e = subst (λ (r : Option X). IfSome r P) e it

pub reached_next : (story : LoadedStory) (memory : List ℕ) (p : ℤ) (i : Instruction) → memory ≡ story.memory → spelled memory p ≡ Ok i → IsReached story p → IfSome (next_place p i) (IsReached story)
reached_next story memory p i same here it = if_some (next_place p i) (IsReached story) (λ q to. reached_on story p q (inl (i, subst (λ m. spelled m p ≡ Ok i) same here, inl to)) it)

pub reached_aside : (story : LoadedStory) (memory : List ℕ) (p : ℤ) (i : Instruction) → memory ≡ story.memory → spelled memory p ≡ Ok i → IsReached story p → IfSome (aside_place p i) (IsReached story)
reached_aside story memory p i same here it = if_some (aside_place p i) (IsReached story) (λ q to. reached_on story p q (inl (i, subst (λ m. spelled m p ≡ Ok i) same here, inr (inl to))) it)

pub reached_entered : (story : LoadedStory) (memory : List ℕ) (p : ℤ) (i : Instruction) → memory ≡ story.memory → spelled memory p ≡ Ok i → IsReached story p → IfSome (entered memory i) (IsReached story)
reached_entered story memory p i same here it = if_some (entered memory i) (IsReached story) (λ q to. reached_on story p q (inl (i, subst (λ m. spelled m p ≡ Ok i) same here, inr (inr (subst (λ m. entered m i ≡ Some q) same to)))) it)

pub reached_behind : (story : LoadedStory) (memory : List ℕ) (a : ℕ) (opcode : Excluded) → memory ≡ story.memory → IsUnplayedAt memory a opcode → IsReached story (pos a) → IsReached story (pos (behind_unplayed memory a))
reached_behind story memory a opcode same here it = reached_on story (pos a) (pos (behind_unplayed memory a)) (inr (a, opcode, refl, subst (λ m. IsUnplayedAt m a opcode) same here, ap (λ (m : List ℕ). pos (behind_unplayed m a)) same)) it

one_stands : (memory : List ℕ) (p : ℤ) (i j : Instruction) → spelled memory p ≡ Ok i → spelled memory p ≡ Ok j → i ≡ j
one_stands memory p i j one other = cc

is_pos : (a b : ℕ) → pos a ≡ pos b → a ≡ b
is_pos a b e = cc

pub followed : (memory : List ℕ) (f g h : Found) (p : ℤ) (i : Instruction) → spelled memory p ≡ Ok i → IfSome (next_place p i) (λ q. IsTrue (has f q)) → Grows f g → IfSome (aside_place p i) (λ q. IsTrue (has g q)) → Grows g h → IfSome (entered memory i) (λ q. IsTrue (has h q)) → IsFollowed memory h p
followed memory f g h p i here one to_g two to_h three q (inl (j, there, leads)) =
    let same = one_stands memory p j i there here in
    to q (subst (λ (k : Instruction). InstructionLeads memory p k q) same leads)
  where
    to : (q : ℤ) → InstructionLeads memory p i q → has h q ≡ true
    to q (inl next) = to_h.still q (to_g.still q (from_some (next_place p i) (λ q. IsTrue (has f q)) q one next))
    to q (inr (inl aside)) = to_h.still q (from_some (aside_place p i) (λ q. IsTrue (has g q)) q two aside)
    to q (inr (inr begun)) = from_some (entered memory i) (λ q. IsTrue (has h q)) q three begun
followed memory f g h p i here one to_g two to_h three q (inr (a, opcode, is, unplayed, behind)) =
    let there : spelled memory p ≡ Err (NotInProfile opcode) = ap (λ (x : ℤ). spelled memory x) is ∙ unplayed in
    absurd cc

pub passed : (memory : List ℕ) (f : Found) (a : ℕ) (opcode : Excluded) → IsUnplayedAt memory a opcode → has f (pos (behind_unplayed memory a)) ≡ true → IsFollowed memory f (pos a)
passed memory f a opcode here h q (inl (j, there, leads)) = absurd cc
passed memory f a opcode here h q (inr (b, other, is, unplayed, behind)) =
    ap (λ (x : ℤ). has f x) (behind ∙ ap (λ (n : ℕ). pos (behind_unplayed memory n)) (sym (is_pos a b is))) ∙ h

-- nothing is led to from where nothing stands
pub nowhere : (memory : List ℕ) (f : Found) (a : ℕ) → ((i : Instruction) → spelled memory (pos a) ≡ Ok i → ⊥) → ((opcode : Excluded) → IsUnplayedAt memory a opcode → ⊥) → IsFollowed memory f (pos a)
nowhere memory f a none not q (inl (j, there, leads)) = absurd (none j there)
nowhere memory f a none not q (inr (b, other, is, unplayed, behind)) = absurd (not other (subst (λ (n : ℕ). IsUnplayedAt memory n other) (sym (is_pos a b is)) unplayed))

-- ---- from address to address

none_in : (address : ℕ) → Contains [] address → ⊥
none_in address (k, l, e) = absurd (omega (arith, l))

pub has_without : (f : Found) (address : ℕ) (p : ℤ) → has (with_waiting f address) p ≡ true → has f p ≡ true
has_without f address (pos a) h = h
has_without f address (negsuc n) h = h

pub complete_on : (memory : List ℕ) (f g : Found) (address : ℕ) → IsComplete memory (with_waiting f address) → Grows f g → IsFollowed memory g (pos address) → IsComplete memory g
complete_on memory f g address before grows visited k l it out =
    (elim (k == address) as (λ c. (k == address) ≡ c → IsFollowed memory g (pos k)) [
      | true ↦ λ e. subst (λ (j : ℕ). IsFollowed memory g (pos j)) (sym (eqb-true k address e)) visited
      | false ↦ λ e q leads. grows.still q (has_without f address q (before k l (grows.known k it out) (λ w. elim (Contains-push_cases f.waiting address k w) [
        | inl old ↦ out (grows.waiting k old)
        | inr is ↦ false≢true (sym e ∙ eq-eqb k address (sym is))
      ]) q leads))
    ]) refl

pub sound_without : (story : LoadedStory) (f : Found) (address : ℕ) → IsSound story (with_waiting f address) → IsSound story f
sound_without story f address sound = record {
  size = sound.size;
  reached = sound.reached;
  waiting = λ k w. sound.waiting k (Contains-append_left f.waiting (address ∷ []) k w);
}

-- ---- at first

blank_at : (rs : List Bool) → AllByRecursion (λ y. (y ≡ false) ⊎ (y ≡ false)) rs → (k : ℕ) → k < length rs → get_or rs k true ≡ false
blank_at [] all k l = absurd (omega (arith, l))
blank_at (y ∷ ys) all zero l = elim all.0 [ inl e ↦ e | inr e ↦ e ]
blank_at (y ∷ ys) all (suc k) l = blank_at ys all.1 k (omega (arith, l))

pub blank_is : (rs : List Bool) (ws : List ℕ) (n : ℕ) → length rs ≡ n → AllByRecursion (λ y. (y ≡ false) ⊎ (y ≡ false)) rs → ws ≡ [] → IsBlank n (record { reached = rs; waiting = ws })
blank_is rs ws n size all none = record { size_is = size; none = λ a l. blank_at rs all a (omega (arith, l, size)); waiting = none }

pub blank_sound : (story : LoadedStory) (f : Found) → IsBlank (length story.memory) f → IsSound story f
blank_sound story f blank = record {
  size = blank.size_is;
  reached = λ a l h. absurd (false≢true (sym (blank.none a l) ∙ h));
  waiting = λ a w. absurd (none_in a (subst (λ (l : List ℕ). Contains l a) blank.waiting w));
}

pub complete_begun : (memory : List ℕ) (f g : Found) → IsBlank (length memory) f → Grows f g → IsComplete memory g
complete_begun memory f g blank grows k l it out = absurd (false≢true (sym (blank.none k l) ∙ grows.known k it out))

-- ---- at the end

module _ (story : LoadedStory) (found : Found) (walked : IsWalked story found) where
  none_leads : (a : ℕ) (q : ℤ) → length story.memory ≤ a → Leads story.memory (pos a) q → ⊥
  none_leads a q l (inl (i, there, leads)) = let none = nothing_past story.memory a l in cc
  none_leads a q l (inr (b, other, is, unplayed, behind)) =
      let none = nothing_past story.memory a l in
      let there : spelled story.memory (pos a) ≡ Err (NotInProfile other) = ap (λ (x : ℤ). spelled story.memory x) is ∙ unplayed in
      cc

  closed : IsClosed story.memory (has found)
  closed (pos a) q it leads =
      (elim (nat_lt a (length story.memory)) as (λ b. nat_lt a (length story.memory) ≡ b → has found q ≡ true) [
        | true ↦ λ e. walked.way.complete a (ltb-true a (length story.memory) e) it (λ w. none_in a (subst (λ (l : List ℕ). Contains l a) walked.done w)) q leads
        | false ↦ λ e. absurd (none_leads a q (ltb-false a (length story.memory) e) leads)
      ]) refl
  closed (negsuc n) q it (inl (i, there, leads)) = absurd cc
  closed (negsuc n) q it (inr (b, other, is, unplayed, behind)) = absurd cc

  -- all that is reached was found
  pub reached_found : (p : ℤ) → IsReached story p → has found p ≡ true
  reached_found p it = it (has found) closed walked.way.begun
