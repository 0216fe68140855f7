-- What marking a place changes.
use Rattle.std.proofs.Common.{inl, inr, ◌≡◌, ℕ, zero, suc, ◌<◌, ◌≤◌, ◌==◌, Bool, true, false, List, [], ◌∷◌, ◌++◌, length, get_or, IsTrue, refl, sym, ap, ◌∙◌, subst, arith, cond, eq-eqb}
use Rattle.std.specs.Prelude.{◌≢◌, ◌⊎◌, ℤ, pos, negsuc, ◌≤ℤ◌, ◌<ℤ◌, Ok, Option, None, IfSome, slice_index_or, slice_set}
use Rattle.std.specs.List.{AllByRecursion, Contains}
use Rattle.std.proofs.lemmas.Bool.{eqb-true, false≢true}
use Rattle.std.proofs.lemmas.List.{get_or-set_same, get_or-set_other, length-set, length_push}
use Rattle.std.proofs.lemmas.List.Sums.{sum_by-set}
use Rattle.std.proofs.lemmas.List.Elements.{Contains-push, Contains-push_cases, Contains-append_left}
use Rattle.std.proofs.lemmas.Option.{IfSome_then}
use Rattle.zstory.specs.LoadedStory.{LoadedStory}
use Rattle.zcode.specs.Instruction.{Instruction}
use Rattle.zlist.specs.declared.owner.Owner.{Owner}
use Rattle.zlist.specs.declared.owner.Owner.TheVariants.{Main, Routine}
use Rattle.zlist.specs.declared.owner.Label.{Label}
use Rattle.zlist.specs.declared.owner.Label.TheVariants.{Nobody, One, Several}
use Rattle.zlist.specs.Listed.{IsCalled, IsListed, aside_place, callee, next_place, spelled}
use Rattle.zlist.specs.Labels.{same, joined, has, Covers, left, IsKnown, IsSo, Found, is_noted, label_at, lowered, reaches, Grows, Has, IsEntered, IsComplete, IsFollowed, IsLost, IsSound, with_waiting}
use Rattle.zlist.proofs.Outside.{lowered_is, nothing_below, nothing_beyond, pos_above, pos_not_below, reaches_lowered, reaches_still}

-- ---- labels

pub same_is : (x y : Owner) → same x y ≡ true → x ≡ y
same_is Main Main h = refl
same_is Main (Routine b) h = absurd (false≢true h)
same_is (Routine a) Main h = absurd (false≢true h)
same_is (Routine a) (Routine b) h = ap (λ n. Routine n) (eqb-true a b h)

pub same_itself : (x : Owner) → same x x ≡ true
same_itself Main = refl
same_itself (Routine a) = eq-eqb a a refl

differ : (x y : Owner) → same x y ≡ false → x ≢ y
differ x y h e = false≢true (sym h ∙ ap (λ z. same x z) (sym e) ∙ same_itself x)

pub covers_left : (a b : Label) → Covers (joined a b) a
covers_left Nobody b x h = absurd (false≢true h)
covers_left (One y) Nobody x h = h
covers_left (One y) (One z) x h =
    elim (same y z) as (λ c. IsTrue (has (cond c (One y) Several) x)) [ true ↦ h | false ↦ refl ]
covers_left (One y) Several x h = refl
covers_left Several Nobody x h = refl
covers_left Several (One z) x h = refl
covers_left Several Several x h = refl

pub covers_right : (a b : Label) → Covers (joined a b) b
covers_right Nobody b x h = h
covers_right (One y) Nobody x h = absurd (false≢true h)
covers_right (One y) (One z) x h =
    (elim (same y z) as (λ c. same y z ≡ c → IsTrue (has (cond c (One y) Several) x)) [
      | true ↦ λ e. subst (λ w. IsTrue (same w x)) (sym (same_is y z e)) h
      | false ↦ λ e. refl
    ]) refl
covers_right (One y) Several x h = refl
covers_right Several Nobody x h = refl
covers_right Several (One z) x h = refl
covers_right Several Several x h = refl

-- a label that tells more has less left to tell
pub tells_more : (a b : Label) → joined a b ≢ a → left (joined a b) < left a
tells_more Nobody Nobody h = absurd (h refl)
tells_more Nobody (One z) h = omega arith
tells_more Nobody Several h = omega arith
tells_more (One y) Nobody h = absurd (h refl)
tells_more (One y) (One z) h =
    (elim (same y z) as (λ c. cond c (One y) Several ≢ One y → left (cond c (One y) Several) < 1) [
      | true ↦ λ g. absurd (g refl)
      | false ↦ λ g. omega arith
    ]) h
tells_more (One y) Several h = omega arith
tells_more Several Nobody h = absurd (h refl)
tells_more Several (One z) h = absurd (h refl)
tells_more Several Several h = absurd (h refl)

at_most : (a : Label) → left a ≤ 2
at_most Nobody = omega arith
at_most (One x) = omega arith
at_most Several = omega arith

-- what two labels say of a place is so, and what they say together
pub joined_so : (story : LoadedStory) (a b : Label) (p : ℤ) → IsSo story a p → IsSo story b p → IsSo story (joined a b) p
joined_so story Nobody b p f g = g
joined_so story (One y) Nobody p f g = f
joined_so story (One y) (One z) p f g =
    (elim (same y z) as (λ c. same y z ≡ c → IsSo story (cond c (One y) Several) p) [
      | true ↦ λ e. f
      | false ↦ λ e. (y, z, differ y z e, f, g)
    ]) refl
joined_so story (One y) Several p f g = g
joined_so story Several Nobody p f g = f
joined_so story Several (One z) p f g = f
joined_so story Several Several p f g = f

-- ---- marks

-- what is noted stays so where it does on each side
noted_on : (f g : Found) → ((p : ℤ) → reaches f.below p ≡ true → reaches g.below p ≡ true) → ((p : ℤ) → reaches f.beyond p ≡ true → reaches g.beyond p ≡ true) → (p : ℤ) → IsTrue (is_noted f p) → IsTrue (is_noted g p)
noted_on f g low high (pos a) h = high (pos a) h
noted_on f g low high (negsuc n) h = low (negsuc n) h

-- the label of one address is another
abbrev pub with_label : Found → ℕ → Label → Found
with_label f address label = record { labels = slice_set f.labels address label; called = f.called; waiting = f.waiting ++ address ∷ []; below = f.below; beyond = f.beyond; absent = f.absent }

same_address : (f : Found) (address : ℕ) (label : Label) → address < length f.labels → label_at (with_label f address label) address ≡ label
same_address f address label l = get_or-set_same f.labels address label Nobody l

other_address : (f : Found) (address k : ℕ) (label : Label) → k ≢ address → label_at (with_label f address label) k ≡ label_at f k
other_address f address k label n = get_or-set_other f.labels address k label Nobody n

pub grows_by_mark : (f : Found) (address : ℕ) (label : Label) → address < length f.labels → joined (label_at f address) label ≢ label_at f address → Grows f (with_label f address (joined (label_at f address) label))
grows_by_mark f address label l new =
    let more = joined (label_at f address) label in
    let total = sum_by-set left f.labels address more Nobody l in
    let less = tells_more (label_at f address) label new in record {
      covers = λ k. (elim (k == address) as (λ c. (k == address) ≡ c → Covers (label_at (with_label f address more) k) (label_at f k)) [
        | true ↦ λ e. subst (λ (j : ℕ). Covers (label_at (with_label f address more) j) (label_at f j)) (sym (eqb-true k address e)) (subst (λ (m : Label). Covers m (label_at f address)) (sym (same_address f address more l)) (covers_left (label_at f address) label))
        | false ↦ λ e. subst (λ (m : Label). Covers m (label_at f k)) (sym (other_address f address k more (λ q. false≢true (sym e ∙ eq-eqb k address q)))) (λ x h. h)
      ]) refl;
      changed = λ k out. other_address f address k more (λ q. out (subst (λ (j : ℕ). Contains (f.waiting ++ address ∷ []) j) (sym q) (Contains-push f.waiting address)));
      waiting = λ k in_old. Contains-append_left f.waiting (address ∷ []) k in_old;
      known = λ a h. h;
      noted = noted_on f (with_label f address more) (λ p h. h) (λ p h. h);
      work = omega (arith, total, less, length_push f.waiting address);
    }

-- a label that tells more tells something
tells : (a b : Label) → joined a b ≢ a → joined a b ≢ Nobody
tells a b new e = omega (arith, tells_more a b new, ap left e, at_most a)

still_known : (f : Found) (address k : ℕ) (label : Label) → address < length f.labels → label ≢ Nobody → label_at f k ≢ Nobody → label_at (with_label f address label) k ≢ Nobody
still_known f address k label l here there =
    (elim (k == address) as (λ c. (k == address) ≡ c → label_at (with_label f address label) k ≢ Nobody) [
      | true ↦ λ e. subst (λ (m : Label). m ≢ Nobody) (sym (ap (λ j. label_at (with_label f address label) j) (eqb-true k address e) ∙ same_address f address label l)) here
      | false ↦ λ e. subst (λ (m : Label). m ≢ Nobody) (sym (other_address f address k label (λ q. false≢true (sym e ∙ eq-eqb k address q)))) there
    ]) refl

pub sound_by_mark : (story : LoadedStory) (f : Found) (address : ℕ) (label : Label) → address < length f.labels → joined (label_at f address) label ≢ label_at f address → IsSo story label (pos address) → IsSound story f → IsSound story (with_label f address (joined (label_at f address) label))
sound_by_mark story f address label l new so sound =
    let more = joined (label_at f address) label in
    let some = tells (label_at f address) label new in
    let here : IsSo story more (pos address) = joined_so story (label_at f address) label (pos address) (sound.labels address) so in record {
      size = length-set f.labels address more ∙ sound.size;
      flags = sound.flags;
      labels = λ k. (elim (k == address) as (λ c. (k == address) ≡ c → IsSo story (label_at (with_label f address more) k) (pos k)) [
        | true ↦ λ e. subst (λ (j : ℕ). IsSo story (label_at (with_label f address more) j) (pos j)) (sym (eqb-true k address e)) (subst (λ (m : Label). IsSo story m (pos address)) (sym (same_address f address more l)) here)
        | false ↦ λ e. subst (λ (m : Label). IsSo story m (pos k)) (sym (other_address f address k more (λ q. false≢true (sym e ∙ eq-eqb k address q)))) (sound.labels k)
      ]) refl;
      called = sound.called;
      waiting = λ k w. elim (Contains-push_cases f.waiting address k w) [
        | inl old ↦ still_known f address k more l some (sound.waiting k old)
        | inr is ↦ subst (λ (j : ℕ). label_at (with_label f address more) j ≢ Nobody) is (subst (λ (m : Label). m ≢ Nobody) (sym (same_address f address more l)) some)
      ];
      below = sound.below;
      beyond = sound.beyond;
      absent = sound.absent;
    }

pub grows_itself : (f : Found) → Grows f f
grows_itself f = record {
  covers = λ k x h. h;
  changed = λ k out. refl;
  waiting = λ k h. h;
  known = λ a h. h;
  noted = λ p h. h;
  work = omega arith;
}

-- ---- as the code has them

pub marked_grows : (f : Found) (ls : List Label) (cs : List Bool) (ws : List ℕ) (lo be ab : Option ℤ) (address : ℕ) (before label more : Label) → address < length f.labels → before ≡ label_at f address → more ≡ joined before label → (more ≡ before → ⊥) → ls ≡ slice_set f.labels address more → cs ≡ f.called → ws ≡ f.waiting ++ address ∷ [] → lo ≡ f.below → be ≡ f.beyond → ab ≡ f.absent → Grows f (record { labels = ls; called = cs; waiting = ws; below = lo; beyond = be; absent = ab })
marked_grows f ls cs ws lo be ab address before label more l was joins new e1 e2 e3 e4 e5 e6 =
    let known : more ≡ joined (label_at f address) label = joins ∙ ap (λ b. joined b label) was in
    rw (e1, e2, e3, e4, e5, e6, known) (grows_by_mark f address label l (λ q. new (known ∙ q ∙ sym was)))

pub marked_sound : (story : LoadedStory) (f : Found) (ls : List Label) (cs : List Bool) (ws : List ℕ) (lo be ab : Option ℤ) (address : ℕ) (before label more : Label) → address < length f.labels → before ≡ label_at f address → more ≡ joined before label → (more ≡ before → ⊥) → ls ≡ slice_set f.labels address more → cs ≡ f.called → ws ≡ f.waiting ++ address ∷ [] → lo ≡ f.below → be ≡ f.beyond → ab ≡ f.absent → IsSo story label (pos address) → IsSound story f → IsSound story (record { labels = ls; called = cs; waiting = ws; below = lo; beyond = be; absent = ab })
marked_sound story f ls cs ws lo be ab address before label more l was joins new e1 e2 e3 e4 e5 e6 so sound =
    let known : more ≡ joined (label_at f address) label = joins ∙ ap (λ b. joined b label) was in
    rw (e1, e2, e3, e4, e5, e6, known) (sound_by_mark story f address label l (λ q. new (known ∙ q ∙ sym was)) so sound)

-- ---- places outside memory

pub grows_below : (ls : List Label) (cs : List Bool) (ws : List ℕ) (lo be ab : Option ℤ) (p : ℤ) → Grows (record { labels = ls; called = cs; waiting = ws; below = lo; beyond = be; absent = ab }) (record { labels = ls; called = cs; waiting = ws; below = lowered lo p; beyond = be; absent = ab })
grows_below ls cs ws lo be ab p = record {
  covers = λ k x h. h;
  changed = λ k out. refl;
  waiting = λ k h. h;
  known = λ k h. h;
  noted = noted_on (record { labels = ls; called = cs; waiting = ws; below = lo; beyond = be; absent = ab }) (record { labels = ls; called = cs; waiting = ws; below = lowered lo p; beyond = be; absent = ab }) (λ q h. reaches_still lo p q h) (λ q h. h);
  work = omega arith;
}

pub grows_beyond : (ls : List Label) (cs : List Bool) (ws : List ℕ) (lo be ab : Option ℤ) (p : ℤ) → Grows (record { labels = ls; called = cs; waiting = ws; below = lo; beyond = be; absent = ab }) (record { labels = ls; called = cs; waiting = ws; below = lo; beyond = lowered be p; absent = ab })
grows_beyond ls cs ws lo be ab p = record {
  covers = λ k x h. h;
  changed = λ k out. refl;
  waiting = λ k h. h;
  known = λ k h. h;
  noted = noted_on (record { labels = ls; called = cs; waiting = ws; below = lo; beyond = be; absent = ab }) (record { labels = ls; called = cs; waiting = ws; below = lo; beyond = lowered be p; absent = ab }) (λ q h. h) (λ q h. reaches_still be p q h);
  work = omega arith;
}

pub sound_below : (ls : List Label) (cs : List Bool) (ws : List ℕ) (lo be ab : Option ℤ) (p : ℤ) (story : LoadedStory) → p <ℤ pos 0 → IsListed story p → IsSound story (record { labels = ls; called = cs; waiting = ws; below = lo; beyond = be; absent = ab }) → IsSound story (record { labels = ls; called = cs; waiting = ws; below = lowered lo p; beyond = be; absent = ab })
sound_below ls cs ws lo be ab p story low it sound = record {
  size = sound.size;
  flags = sound.flags;
  labels = sound.labels;
  called = sound.called;
  waiting = sound.waiting;
  below = lowered_is (λ q. (q <ℤ pos 0) × IsLost story q) lo p sound.below (low, (it, nothing_below story.memory p low));
  beyond = sound.beyond;
  absent = sound.absent;
}

pub sound_beyond : (ls : List Label) (cs : List Bool) (ws : List ℕ) (lo be ab : Option ℤ) (p : ℤ) (story : LoadedStory) → pos (length ls) ≤ℤ p → IsListed story p → IsSound story (record { labels = ls; called = cs; waiting = ws; below = lo; beyond = be; absent = ab }) → IsSound story (record { labels = ls; called = cs; waiting = ws; below = lo; beyond = lowered be p; absent = ab })
sound_beyond ls cs ws lo be ab p story high it sound =
    let past : pos (length story.memory) ≤ℤ p = subst (λ (n : ℕ). pos n ≤ℤ p) sound.size high in record {
      size = sound.size;
      flags = sound.flags;
      labels = sound.labels;
      called = sound.called;
      waiting = sound.waiting;
      below = sound.below;
      beyond = lowered_is (λ q. (pos (length story.memory) ≤ℤ q) × IsLost story q) be p sound.beyond (past, (it, nothing_beyond story.memory p past));
      absent = sound.absent;
    }

pub has_inside : (f : Found) (label : Label) (p : ℤ) (a : ℕ) → p ≡ pos a → Covers (label_at f a) label → Has f label p
has_inside f label p a at it = inl (a, at, it)

pub has_below : (f : Found) (label : Label) (p : ℤ) → p <ℤ pos 0 → IsTrue (reaches f.below p) → Has f label p
has_below f label (pos a) low h = absurd (pos_not_below a low)
has_below f label (negsuc n) low h = inr h

pub has_beyond : (f : Found) (label : Label) (p : ℤ) (n : ℕ) → pos n ≤ℤ p → IsTrue (reaches f.beyond p) → Has f label p
has_beyond f label (pos a) n high h = inr h
has_beyond f label (negsuc k) n high h = absurd (pos_above n k high)

-- ---- calls

called_more : (cs : List Bool) (a k : ℕ) → a < length cs → IsTrue (slice_index_or cs k false) → IsTrue (slice_index_or (slice_set cs a true) k false)
called_more cs a k l h =
    (elim (k == a) as (λ c. (k == a) ≡ c → IsTrue (slice_index_or (slice_set cs a true) k false)) [
      | true ↦ λ e. ap (λ j. get_or (slice_set cs a true) j false) (eqb-true k a e) ∙ get_or-set_same cs a true false l
      | false ↦ λ e. get_or-set_other cs a k true false (λ q. false≢true (sym e ∙ eq-eqb k a q)) ∙ h
    ]) refl

called_only : (cs : List Bool) (a k : ℕ) → a < length cs → IsTrue (slice_index_or (slice_set cs a true) k false) → (k ≢ a) → IsTrue (slice_index_or cs k false)
called_only cs a k l h n = sym (get_or-set_other cs a k true false n) ∙ h

pub grows_by_call : (ls : List Label) (cs : List Bool) (ws : List ℕ) (lo be ab : Option ℤ) (a : ℕ) → a < length cs → Grows (record { labels = ls; called = cs; waiting = ws; below = lo; beyond = be; absent = ab }) (record { labels = ls; called = slice_set cs a true; waiting = ws; below = lo; beyond = be; absent = ab })
grows_by_call ls cs ws lo be ab a l = record {
  covers = λ k x h. h;
  changed = λ k out. refl;
  waiting = λ k h. h;
  known = λ k h. elim h [ inl it ↦ inl (called_more cs a k l it) | inr it ↦ inr it ];
  noted = noted_on (record { labels = ls; called = cs; waiting = ws; below = lo; beyond = be; absent = ab }) (record { labels = ls; called = slice_set cs a true; waiting = ws; below = lo; beyond = be; absent = ab }) (λ q h. h) (λ q h. h);
  work = omega arith;
}

pub known_by_call : (ls : List Label) (cs : List Bool) (ws : List ℕ) (lo be ab : Option ℤ) (a : ℕ) → a < length cs → IsKnown (record { labels = ls; called = slice_set cs a true; waiting = ws; below = lo; beyond = be; absent = ab }) a
known_by_call ls cs ws lo be ab a l = inl (get_or-set_same cs a true false l)

pub sound_by_call : (ls : List Label) (cs : List Bool) (ws : List ℕ) (lo be ab : Option ℤ) (a : ℕ) (story : LoadedStory) → a < length cs → IsCalled story a → IsSound story (record { labels = ls; called = cs; waiting = ws; below = lo; beyond = be; absent = ab }) → IsSound story (record { labels = ls; called = slice_set cs a true; waiting = ws; below = lo; beyond = be; absent = ab })
sound_by_call ls cs ws lo be ab a story l it sound = record {
  size = sound.size;
  flags = length-set cs a true ∙ sound.flags;
  labels = sound.labels;
  called = λ k h. (elim (k == a) as (λ c. (k == a) ≡ c → IsCalled story k) [
    | true ↦ λ e. subst (λ (j : ℕ). IsCalled story j) (sym (eqb-true k a e)) it
    | false ↦ λ e. sound.called k (called_only cs a k l h (λ q. false≢true (sym e ∙ eq-eqb k a q)))
  ]) refl;
  waiting = sound.waiting;
  below = sound.below;
  beyond = sound.beyond;
  absent = sound.absent;
}

-- that of a place behind memory
pub grows_absent : (ls : List Label) (cs : List Bool) (ws : List ℕ) (lo be ab : Option ℤ) (p : ℤ) → Grows (record { labels = ls; called = cs; waiting = ws; below = lo; beyond = be; absent = ab }) (record { labels = ls; called = cs; waiting = ws; below = lo; beyond = be; absent = lowered ab p })
grows_absent ls cs ws lo be ab p = record {
  covers = λ k x h. h;
  changed = λ k out. refl;
  waiting = λ k h. h;
  known = λ k h. elim h [ inl it ↦ inl it | inr it ↦ inr (reaches_still ab p (pos k) it) ];
  noted = noted_on (record { labels = ls; called = cs; waiting = ws; below = lo; beyond = be; absent = ab }) (record { labels = ls; called = cs; waiting = ws; below = lo; beyond = be; absent = lowered ab p }) (λ q h. h) (λ q h. h);
  work = omega arith;
}

pub known_absent : (ls : List Label) (cs : List Bool) (ws : List ℕ) (lo be ab : Option ℤ) (a : ℕ) → IsKnown (record { labels = ls; called = cs; waiting = ws; below = lo; beyond = be; absent = lowered ab (pos a) }) a
known_absent ls cs ws lo be ab a = inr (reaches_lowered ab (pos a))

pub sound_absent : (ls : List Label) (cs : List Bool) (ws : List ℕ) (lo be ab : Option ℤ) (a : ℕ) (story : LoadedStory) → length cs ≤ a → IsCalled story a → IsSound story (record { labels = ls; called = cs; waiting = ws; below = lo; beyond = be; absent = ab }) → IsSound story (record { labels = ls; called = cs; waiting = ws; below = lo; beyond = be; absent = lowered ab (pos a) })
sound_absent ls cs ws lo be ab a story l it sound = record {
  size = sound.size;
  flags = sound.flags;
  labels = sound.labels;
  called = sound.called;
  waiting = sound.waiting;
  below = sound.below;
  beyond = sound.beyond;
  absent = lowered_is (λ q. (k : ℕ) × (q ≡ pos k) × (length story.memory ≤ k) × IsCalled story k) ab (pos a) sound.absent (a, refl, omega (arith, l, sound.flags), it);
}

-- ---- one after another

pub grows_on : (f g h : Found) → Grows f g → Grows g h → Grows f h
grows_on f g h one two = record {
  covers = λ k x has_it. two.covers k x (one.covers k x has_it);
  changed = λ k out. two.changed k out ∙ one.changed k (λ w. out (two.waiting k w));
  waiting = λ k w. two.waiting k (one.waiting k w);
  known = λ a c. two.known a (one.known a c);
  noted = λ p h. two.noted p (one.noted p h);
  work = omega (arith, one.work, two.work);
}

pub has_on : (f g : Found) (label : Label) (p : ℤ) → Grows f g → Has f label p → Has g label p
has_on f g label p grows (inl it) = inl (it.0, it.1, λ x h. grows.covers it.0 x (it.2 x h))
has_on f g label p grows (inr it) = inr (grows.noted p it)

pub entered_on : (memory : List ℕ) (f g : Found) (a : ℕ) → Grows f g → IsEntered memory f a → IsEntered memory g a
entered_on memory f g a grows it = record { called = grows.known a it.called; begun = λ q at. has_on f g (One (Routine a)) (pos q) grows (it.begun q at) }

pub followed : (memory : List ℕ) (f g h : Found) (label : Label) (p : ℤ) (i : Instruction) → IfSome (next_place p i) (Has f label) → Grows f g → IfSome (aside_place p i) (Has g label) → Grows g h → IfSome (callee i.opcode i.operands) (IsEntered memory h) → IsFollowed memory h label p i
followed memory f g h label p i one to_g two to_h three = record {
  next = IfSome_then (next_place p i) one (λ q it. has_on f h label q (grows_on f g h to_g to_h) it);
  aside = IfSome_then (aside_place p i) two (λ q it. has_on g h label q to_h it);
  calls = three;
}

-- ---- from address to address

followed_on : (memory : List ℕ) (f g : Found) (label : Label) (p : ℤ) (i : Instruction) → Grows f g → IsFollowed memory f label p i → IsFollowed memory g label p i
followed_on memory f g label p i grows it = record {
  next = IfSome_then (next_place p i) it.next (λ q h. has_on f g label q grows h);
  aside = IfSome_then (aside_place p i) it.aside (λ q h. has_on f g label q grows h);
  calls = IfSome_then (callee i.opcode i.operands) it.calls (λ a h. entered_on memory f g a grows h);
}

pub has_without : (f : Found) (address : ℕ) (label : Label) (p : ℤ) → Has (with_waiting f address) label p → Has f label p
has_without f address label p (inl it) = inl it
has_without f address label p (inr it) = inr (noted_on (with_waiting f address) f (λ q h. h) (λ q h. h) p it)

without_waiting : (memory : List ℕ) (f : Found) (address : ℕ) (label : Label) (p : ℤ) (i : Instruction) → IsFollowed memory (with_waiting f address) label p i → IsFollowed memory f label p i
without_waiting memory f address label p i it = record {
  next = IfSome_then (next_place p i) it.next (λ q h. has_without f address label q h);
  aside = IfSome_then (aside_place p i) it.aside (λ q h. has_without f address label q h);
  calls = IfSome_then (callee i.opcode i.operands) it.calls (λ a h. record { called = h.called; begun = λ q at. has_without f address (One (Routine a)) (pos q) (h.begun q at) });
}

pub complete_on : (memory : List ℕ) (f g : Found) (address : ℕ) → IsComplete memory (with_waiting f address) → Grows f g → ((i : Instruction) → spelled memory (pos address) ≡ Ok i → IsFollowed memory g (label_at f address) (pos address) i) → IsComplete memory g
complete_on memory f g address before grows visited k i out some here =
    let same = grows.changed k out in
    let still : label_at f k ≢ Nobody = subst (λ (m : Label). m ≢ Nobody) same some in
    subst (λ (m : Label). IsFollowed memory g m (pos k) i) (sym same)
    ((elim (k == address) as (λ c. (k == address) ≡ c → IsFollowed memory g (label_at f k) (pos k) i) [
      | true ↦ λ e. subst (λ (j : ℕ). spelled memory (pos j) ≡ Ok i → IsFollowed memory g (label_at f j) (pos j) i) (sym (eqb-true k address e)) (visited i) here
      | false ↦ λ e. followed_on memory f g (label_at f k) (pos k) i grows (without_waiting memory f address (label_at f k) (pos k) i (before k i (λ w. elim (Contains-push_cases f.waiting address k w) [
        | inl old ↦ out (grows.waiting k old)
        | inr is ↦ false≢true (sym e ∙ eq-eqb k address (sym is))
      ]) still here))
    ]) refl)

pub sound_without : (story : LoadedStory) (f : Found) (address : ℕ) → IsSound story (with_waiting f address) → IsSound story f
sound_without story f address sound = record {
  size = sound.size;
  flags = sound.flags;
  labels = sound.labels;
  called = sound.called;
  waiting = λ k w. sound.waiting k (Contains-append_left f.waiting (address ∷ []) k w);
  below = sound.below;
  beyond = sound.beyond;
  absent = sound.absent;
}

-- ---- at first

none_in : (address : ℕ) → Contains [] address → ⊥
none_in address (k, l, e) = absurd (omega (arith, l))

blank_at : {X : Type 0} (x : X) (xs : List X) → AllByRecursion (λ y. (y ≡ x) ⊎ (y ≡ x)) xs → (k : ℕ) → slice_index_or xs k x ≡ x
blank_at x [] all k = refl
blank_at x (y ∷ ys) all zero = elim all.0 [ inl e ↦ e | inr e ↦ e ]
blank_at x (y ∷ ys) all (suc k) = blank_at x ys all.1 k

pub blank_is : (ls : List Label) (cs : List Bool) (ws : List ℕ) (n : ℕ) (story : LoadedStory) → length ls ≡ n → length cs ≡ n → AllByRecursion (λ y. (y ≡ Nobody) ⊎ (y ≡ Nobody)) ls → AllByRecursion (λ y. (y ≡ false) ⊎ (y ≡ false)) cs → ws ≡ [] → n ≡ length story.memory → IsSound story (record { labels = ls; called = cs; waiting = ws; below = None; beyond = None; absent = None }) × (ws ≡ []) × ((a : ℕ) → label_at (record { labels = ls; called = cs; waiting = ws; below = None; beyond = None; absent = None }) a ≡ Nobody)
blank_is ls cs ws n story size flags e1 e2 e3 whole =
    let nobody = blank_at Nobody ls e1 in (
      record {
        size = size ∙ whole;
        flags = flags ∙ whole;
        labels = λ a. subst (λ (m : Label). IsSo story m (pos a)) (sym (nobody a)) tt;
        called = λ a h. absurd (false≢true (sym (blank_at false cs e2 a) ∙ h));
        waiting = λ a w. absurd (none_in a (subst (λ (l : List ℕ). Contains l a) e3 w));
        below = tt;
        beyond = tt;
        absent = tt;
      },
      e3,
      nobody,
    )

pub complete_begun : (memory : List ℕ) (f g : Found) → ((address : ℕ) → label_at f address ≡ Nobody) → Grows f g → IsComplete memory g
complete_begun memory f g blank grows k i out some here = absurd (some (grows.changed k out ∙ blank k))
