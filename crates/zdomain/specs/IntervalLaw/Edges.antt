-- A proof of the law: what an answer to a question leaves has each word for which that is the answer.
use Rattle.std.proofs.Common.{◌≡◌, ℕ, ◌<◌, Bool, true, false, ◌&&◌, if◌then◌else◌, Option, Some, None, ℤ, pos, ◌+ℤ◌, ◌-ℤ◌, ◌≤ℤ◌, ◌<ℤ◌, int_le, arith, refl, sym, ap, subst, ◌∙◌}
use Rattle.std.specs.Prelude.{MatchOption, option_map, ◌==◌}
use Rattle.std.specs.Int.{w16, int_min, int_max}
use Rattle.std.proofs.lemmas.Int.{ints, clamps, of_z-to_z}
use Rattle.std.proofs.lemmas.Bool.{eqb-true, eqb-false}
use Rattle.zword.specs.Binary.{word_of}
use Rattle.zword.specs.declared.question.Question.{Question}
use Rattle.zword.specs.declared.question.Question.TheVariants.{Equal, Less, Greater, Test}
use Rattle.zword.specs.Question.{holds}
use Rattle.zdomain.specs.declared.interval.Interval.{Interval}
use Rattle.zdomain.specs.Interval.{signed, interval_of, is_single, join, meet, both, swapped, without, apart, below, not_below, narrow}
use Rattle.zdomain.specs.IntervalLaw.Lying.{Has, between, or_all_has, le_true, le_false, lt_true, lt_false}
use Rattle.zdomain.specs.IntervalLaw.Bits.{only_word}

-- ---- pairs

both_have : (p q : Option Interval) (x y : ℕ) → MatchOption p ⊥ (λ i. Has i x) → MatchOption q ⊥ (λ j. Has j y) → MatchOption (both p q) ⊥ (λ r. Has r.0 x × Has r.1 y)
both_have None q x y h g = absurd h
both_have (Some i) None x y h g = absurd g
both_have (Some i) (Some j) x y h g = (h, g)

swapped_have : (p : Option (Interval × Interval)) (x y : ℕ) → MatchOption p ⊥ (λ r. Has r.0 y × Has r.1 x) → MatchOption (swapped p) ⊥ (λ r. Has r.0 x × Has r.1 y)
swapped_have None x y h = absurd h
swapped_have (Some r) x y h = (h.1, h.0)

abbrev twice : Interval → Interval × Interval
twice c = (c, c)

twice_has : (p : Option Interval) (x : ℕ) → MatchOption p ⊥ (λ i. Has i x) → MatchOption (option_map twice p) ⊥ (λ r. Has r.0 x × Has r.1 x)
twice_has None x h = absurd h
twice_has (Some i) x h = (h, h)

-- ---- sets joined and met

pub join_left : (a b : Interval) (x : ℕ) → Has a x → Has (join a b) x
join_left a b x i = let l = i.member.0 in let h = i.member.1 in or_all_has (interval_of (int_min a.lo b.lo) (int_max a.hi b.hi)) x (between (int_min a.lo b.lo) (int_max a.hi b.hi) x i.word (omega (arith, ints, clamps), omega (arith, ints, clamps)))

pub join_right : (a b : Interval) (x : ℕ) → Has b x → Has (join a b) x
join_right a b x i = let l = i.member.0 in let h = i.member.1 in or_all_has (interval_of (int_min a.lo b.lo) (int_max a.hi b.hi)) x (between (int_min a.lo b.lo) (int_max a.hi b.hi) x i.word (omega (arith, ints, clamps), omega (arith, ints, clamps)))

pub meet_has : (a b : Interval) (x : ℕ) → Has a x → Has b x → MatchOption (meet a b) ⊥ (λ c. Has c x)
meet_has a b x i j =
    let l = i.member.0 in let h = i.member.1 in let m = j.member.0 in let k = j.member.1 in
    between (int_max a.lo b.lo) (int_min a.hi b.hi) x i.word (omega (arith, ints, clamps), omega (arith, ints, clamps))

-- ---- the only word

known_by : (a : Interval) (n x : ℕ) (s : Bool) → is_single a ≡ s → (if s then Some (word_of a.lo) else None) ≡ Some n → Has a x → x ≡ n
known_by a n x true f e i = let same : word_of a.lo ≡ n = cc in only_word a x f i ∙ same
known_by a n x false f e i = absurd cc

pub known_has : (a : Interval) (n x : ℕ) → (if is_single a then Some (word_of a.lo) else None) ≡ Some n → Has a x → x ≡ n
known_has a n x = known_by a n x (is_single a) refl

le_itself : (z : ℤ) → int_le z z ≡ true
le_itself z = grind (arith, ints)

pub known_single : (x : ℕ) → x < 65536 → (if int_le (signed x) (signed x) then Some (word_of (signed x)) else None) ≡ Some x
known_single x h = rw le_itself (ap Some (of_z-to_z w16 x h))

-- ---- numbers compared

below_has : (a b : Interval) (x y : ℕ) → Has a x → Has b y → signed x <ℤ signed y → MatchOption (below a b) ⊥ (λ r. Has r.0 x × Has r.1 y)
below_has a b x y i j less =
    let l = i.member.0 in let h = i.member.1 in let m = j.member.0 in let k = j.member.1 in
    both_have _ _ x y
    (between a.lo (int_min a.hi (b.hi -ℤ pos 1)) x i.word (l, omega (arith, ints, clamps)))
    (between (int_max b.lo (a.lo +ℤ pos 1)) b.hi y j.word (omega (arith, ints, clamps), k))

not_below_has : (a b : Interval) (x y : ℕ) → Has a x → Has b y → signed y ≤ℤ signed x → MatchOption (not_below a b) ⊥ (λ r. Has r.0 x × Has r.1 y)
not_below_has a b x y i j least =
    let l = i.member.0 in let h = i.member.1 in let m = j.member.0 in let k = j.member.1 in
    both_have _ _ x y
    (between (int_max a.lo b.lo) a.hi x i.word (omega (arith, ints, clamps), h))
    (between b.lo (int_min b.hi a.hi) y j.word (m, omega (arith, ints, clamps)))

-- ---- an end cut off

-- where two numbers differ, one in order is in order by one more
one_more : (a b : ℤ) → a ≤ℤ b → (b ≡ a → ⊥) → (a +ℤ pos 1) ≤ℤ b
one_more a b le never = by (int_le (a +ℤ pos 1) b) refl
  where
    by : (c : Bool) → int_le (a +ℤ pos 1) b ≡ c → (a +ℤ pos 1) ≤ℤ b
    by true e = le_true (a +ℤ pos 1) b e
    by false e = absurd (never (let f = le_false (a +ℤ pos 1) b e in omega (arith, ints)))

low_end : (p q : Bool) (a z s : ℤ) → int_le a z ≡ p → int_le z a ≡ q → a ≤ℤ s → (s ≡ z → ⊥) → (if p && q then a +ℤ pos 1 else a) ≤ℤ s
low_end true true a z s e f l never =
    let u = le_true a z e in let v = le_true z a f in
    one_more a s l (λ k. never (omega (arith, ints)))
low_end true false a z s e f l never = l
low_end false q a z s e f l never = l

high_end : (p q : Bool) (a z s : ℤ) → int_le a z ≡ p → int_le z a ≡ q → s ≤ℤ a → (s ≡ z → ⊥) → s ≤ℤ (if p && q then a -ℤ pos 1 else a)
high_end true true a z s e f l never =
    let u = le_true a z e in let v = le_true z a f in
    let h = one_more s a l (λ k. never (omega (arith, ints))) in
    omega (arith, ints)
high_end true false a z s e f l never = l
high_end false q a z s e f l never = l

without_has : (z : ℤ) (a : Interval) (x : ℕ) → Has a x → (signed x ≡ z → ⊥) → MatchOption (without z a) ⊥ (λ c. Has c x)
without_has z a x i never = between _ _ x i.word (low_end (int_le a.lo z) (int_le z a.lo) a.lo z (signed x) refl refl i.member.0 never, high_end (int_le a.hi z) (int_le z a.hi) a.hi z (signed x) refl refl i.member.1 never)

signed_same : (x y : ℕ) → x < 65536 → y < 65536 → signed x ≡ signed y → x ≡ y
signed_same x y a b e = sym (of_z-to_z w16 x a) ∙ ap word_of e ∙ of_z-to_z w16 y b

apart_by : (s : Bool) (a b : Interval) (x y : ℕ) → is_single b ≡ s → Has a x → Has b y → (x ≡ y → ⊥) → MatchOption (if s then without b.lo a else Some a) ⊥ (λ c. Has c x)
apart_by true a b x y e i j other =
    let one = le_true b.hi b.lo e in let m = j.member.0 in let k = j.member.1 in
    let is : signed y ≡ b.lo = omega (arith, ints) in
    without_has b.lo a x i (λ f. other (signed_same x y i.word j.word (f ∙ sym is)))
apart_by false a b x y e i j other = i

apart_has : (a b : Interval) (x y : ℕ) → Has a x → Has b y → (x ≡ y → ⊥) → MatchOption (apart a b) ⊥ (λ c. Has c x)
apart_has a b x y = apart_by (is_single b) a b x y refl

-- ---- all questions

differ : (x y : ℕ) → (x == y) ≡ false → x ≡ y → ⊥
differ x y e f = eqb-false x y e f

pub narrow_has : (q : Question) (c : Bool) (a b : Interval) (x y : ℕ) → Has a x → Has b y → holds q x y ≡ c → MatchOption (narrow q c a b) ⊥ (λ p. Has p.0 x × Has p.1 y)
narrow_has Equal true a b x y i j e =
    let same : x ≡ y = eqb-true x y e in
    subst (λ (n : ℕ). MatchOption (narrow Equal true a b) ⊥ (λ p. Has p.0 x × Has p.1 n)) same (twice_has _ x (meet_has a b x i (subst (λ (n : ℕ). Has b n) (sym same) j)))
narrow_has Equal false a b x y i j e =
    let other = differ x y e in
    both_have _ _ x y (apart_has a b x y i j other) (apart_has b a y x j i (λ f. other (sym f)))
narrow_has Less true a b x y i j e = below_has a b x y i j (lt_true _ _ e)
narrow_has Less false a b x y i j e = not_below_has a b x y i j (lt_false _ _ e)
narrow_has Greater true a b x y i j e = swapped_have _ x y (below_has b a y x j i (lt_true _ _ e))
narrow_has Greater false a b x y i j e = swapped_have _ x y (not_below_has b a y x j i (lt_false _ _ e))
narrow_has Test true a b x y i j e = (i, j)
narrow_has Test false a b x y i j e = (i, j)
