-- A proof of the law: the bits of both words, and of either.
use Rattle.std.proofs.Common.{◌≡◌, ℕ, ◌<◌, ◌≤◌, ◌^◌, Bool, true, false, ◌&&◌, ◌||◌, if◌then◌else◌, ℤ, pos, ◌≤ℤ◌, bit_and, bit_or, arith, refl, sym, ap, ◌∙◌}
use Rattle.std.specs.Int.{w16, int_min}
use Rattle.std.proofs.lemmas.Int.{ints, clamps, of_z-to_z}
use Rattle.std.proofs.lemmas.Nat.{and_le_l, and_le_r, or_lt}
use Rattle.zword.specs.Binary.{word_of}
use Rattle.zdomain.specs.declared.interval.Interval.{Interval}
use Rattle.zdomain.specs.Interval.{signed, point, all_words, fitting, is_single, has_negative, conjunctions, disjunctions}
use Rattle.zdomain.specs.IntervalLaw.Lying.{Has, any_has, point_has, le_true, lt_false, lying_has}

-- the only word of a set
pub only_word : (a : Interval) (x : ℕ) → is_single a ≡ true → Has a x → x ≡ word_of a.lo
only_word a x e i =
    let one = le_true a.hi a.lo e in let l = i.member.0 in let h = i.member.1 in
    let is : signed x ≡ a.lo = omega (arith, ints) in
    sym (of_z-to_z w16 x i.word) ∙ ap word_of is

both_true : (p q : Bool) → p && q ≡ true → (p ≡ true) × (q ≡ true)
both_true true true e = (refl, refl)
both_true true false e = absurd cc
both_true false q e = absurd cc

both_words : (a b : Interval) (x y : ℕ) → is_single a && is_single b ≡ true → Has a x → Has b y → (x ≡ word_of a.lo) × (y ≡ word_of b.lo)
both_words a b x y e i j =
    let s = both_true (is_single a) (is_single b) e in
    (only_word a x s.0 i, only_word b y s.1 j)

-- a word under one that isn't negative
under : (x z : ℕ) (h : ℤ) → x < 65536 → z ≤ x → pos 0 ≤ℤ signed x → signed x ≤ℤ h → (pos 0 ≤ℤ signed z) × (signed z ≤ℤ h)
under x z h w l p q = (grind (arith, ints), grind (arith, ints))

and_by : (p q : Bool) (a b : Interval) (x y : ℕ) → has_negative a ≡ p → has_negative b ≡ q → Has a x → Has b y
    → Has (if p then (if q then all_words else fitting (pos 0) b.hi) else (if q then fitting (pos 0) a.hi else fitting (pos 0) (int_min a.hi b.hi))) (bit_and x y)
and_by true true a b x y e f i j = let w = i.word in let u = and_le_l x y in any_has (bit_and x y) (omega arith)
and_by true false a b x y e f i j =
    let w = j.word in let u = and_le_r x y in let l = j.member.0 in let n = lt_false b.lo (pos 0) f in
    lying_has (bit_and x y) (pos 0) b.hi (omega arith) (under y (bit_and x y) b.hi w u (omega (arith, ints)) j.member.1)
and_by false true a b x y e f i j =
    let w = i.word in let u = and_le_l x y in let l = i.member.0 in let n = lt_false a.lo (pos 0) e in
    lying_has (bit_and x y) (pos 0) a.hi (omega arith) (under x (bit_and x y) a.hi w u (omega (arith, ints)) i.member.1)
and_by false false a b x y e f i j =
    let w = i.word in let u = and_le_l x y in let l = i.member.0 in let m = j.member.0 in
    let n = lt_false a.lo (pos 0) e in let o = lt_false b.lo (pos 0) f in
    let r = under x (bit_and x y) a.hi i.word u (omega (arith, ints)) i.member.1 in
    let s = under y (bit_and x y) b.hi j.word (and_le_r x y) (omega (arith, ints)) j.member.1 in
    let r1 = r.1 in let s1 = s.1 in
    lying_has (bit_and x y) (pos 0) (int_min a.hi b.hi) (omega arith) (r.0, omega (arith, ints, clamps))

and_single : (c : Bool) (a b : Interval) (x y : ℕ) → is_single a && is_single b ≡ c → Has a x → Has b y
    → Has (if c then point (bit_and (word_of a.lo) (word_of b.lo)) else (if has_negative a then (if has_negative b then all_words else fitting (pos 0) b.hi) else (if has_negative b then fitting (pos 0) a.hi else fitting (pos 0) (int_min a.hi b.hi)))) (bit_and x y)
and_single true a b x y e i j =
    let s = both_words a b x y e i j in let w = i.word in let u = and_le_l x y in
    rw (← s.0, ← s.1) (point_has (bit_and x y) (omega arith))
and_single false a b x y e i j = and_by (has_negative a) (has_negative b) a b x y refl refl i j

pub and_has : (a b : Interval) (x y : ℕ) → Has a x → Has b y → Has (conjunctions a b) (bit_and x y)
and_has a b x y = and_single (is_single a && is_single b) a b x y refl

small : (x : ℕ) → x < 65536 → pos 0 ≤ℤ signed x → x < 2 ^ 15
small x h p = grind (arith, ints)

or_by : (p q : Bool) (a b : Interval) (x y : ℕ) → has_negative a ≡ p → has_negative b ≡ q → Has a x → Has b y
    → Has (if p || q then all_words else fitting (pos 0) (pos 32767)) (bit_or x y)
or_by true q a b x y e f i j = any_has (bit_or x y) (or_lt 16 x y i.word j.word)
or_by false true a b x y e f i j = any_has (bit_or x y) (or_lt 16 x y i.word j.word)
or_by false false a b x y e f i j =
    let l = i.member.0 in let m = j.member.0 in
    let n = lt_false a.lo (pos 0) e in let k = lt_false b.lo (pos 0) f in
    let o = or_lt 15 x y (small x i.word (omega (arith, ints))) (small y j.word (omega (arith, ints))) in
    lying_has (bit_or x y) (pos 0) (pos 32767) (or_lt 16 x y i.word j.word) (omega (arith, ints), omega (arith, ints))

or_single : (c : Bool) (a b : Interval) (x y : ℕ) → is_single a && is_single b ≡ c → Has a x → Has b y
    → Has (if c then point (bit_or (word_of a.lo) (word_of b.lo)) else (if has_negative a || has_negative b then all_words else fitting (pos 0) (pos 32767))) (bit_or x y)
or_single true a b x y e i j =
    let s = both_words a b x y e i j in
    rw (← s.0, ← s.1) (point_has (bit_or x y) (or_lt 16 x y i.word j.word))
or_single false a b x y e i j = or_by (has_negative a) (has_negative b) a b x y refl refl i j

pub or_has : (a b : Interval) (x y : ℕ) → Has a x → Has b y → Has (disjunctions a b) (bit_or x y)
or_has a b x y = or_single (is_single a && is_single b) a b x y refl
