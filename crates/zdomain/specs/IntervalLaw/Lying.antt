-- A proof of the law, first part: numbers between ends, and words whose numbers lie there.
use Rattle.std.proofs.Common.{◌≡◌, ℕ, ◌<◌, Bool, true, false, ◌||◌, if◌then◌else◌, Option, Some, None, ℤ, pos, negsuc, ◌≤ℤ◌, ◌<ℤ◌, int_le, int_lt, arith, refl, sym, ◌∙◌}
use Rattle.std.specs.Prelude.{MatchOption, unwrap_or}
use Rattle.std.specs.Int.{w16, int_wrap, int_min, int_max}
use Rattle.std.proofs.lemmas.Int.{ints, int_wrap_fits, clamps, to_z-of_z}
use Rattle.zdomain.specs.declared.interval.Interval.{Interval}
use Rattle.std.specs.Prelude.{◌≤◌}
use Rattle.zdomain.specs.Domain.{In, IsGathered}
use Rattle.zdomain.specs.Few.{turned, Gathering}
use Rattle.zdomain.specs.Interval.{signed, point, all_words, interval_of, interval_where, outside, fitting, interval_operations}
use Rattle.zword.specs.Binary.{word_of}

-- the interval has the word
abbrev pub Has : Interval → ℕ → Type 0
Has i x = In interval_operations i x

-- the number lies from lo to hi
abbrev pub Lies : ℤ → ℤ → ℤ → Type 0
Lies lo hi z = (lo ≤ℤ z) × (z ≤ℤ hi)

pub any_has : (x : ℕ) → x < 65536 → Has all_words x
any_has x h = record { word = h; member = (omega (arith, ints), omega (arith, ints)) }

pub point_has : (x : ℕ) → x < 65536 → Has (point x) x
point_has x h = record { word = h; member = (omega (arith, ints), omega (arith, ints)) }

pub le_true : (a b : ℤ) → int_le a b ≡ true → a ≤ℤ b
le_true a b e = grind (arith, ints)

pub le_false : (a b : ℤ) → int_le a b ≡ false → b <ℤ a
le_false a b e = grind (arith, ints)

pub lt_true : (a b : ℤ) → int_lt a b ≡ true → a <ℤ b
lt_true a b e = grind (arith, ints)

pub lt_false : (a b : ℤ) → int_lt a b ≡ false → b ≤ℤ a
lt_false a b e = grind (arith, ints)

-- a word between two ends
between_where : (lo hi : ℤ) (b : Bool) (e : int_le lo hi ≡ b) (x : ℕ) → x < 65536 → Lies lo hi (signed x) → MatchOption (interval_where lo hi b e) ⊥ (λ i. Has i x)
between_where lo hi true e x word l = record { word = word; member = l }
between_where lo hi false e x word l = absurd (let h = le_false lo hi e in let a = l.0 in let b = l.1 in omega (arith, ints))

pub between : (lo hi : ℤ) (x : ℕ) → x < 65536 → Lies lo hi (signed x) → MatchOption (interval_of lo hi) ⊥ (λ i. Has i x)
between lo hi = between_where lo hi (int_le lo hi) refl

pub or_all_has : (r : Option Interval) (x : ℕ) → MatchOption r ⊥ (λ i. Has i x) → Has (unwrap_or r all_words) x
or_all_has None x h = absurd h
or_all_has (Some i) x h = h

fits_is : (z : ℤ) → outside z ≡ false → (negsuc 32767 ≤ℤ z) × (z ≤ℤ pos 32767)
fits_is z e = grind (arith, ints)

-- a word whose number lies from lo to hi, as far as numbers of words go
module _ (x : ℕ) (z : ℤ) (word : x < 65536) (wraps : signed x ≡ int_wrap w16 z) where
  by_fit : (p q : Bool) (lo hi : ℤ) → outside lo ≡ p → outside hi ≡ q → Lies lo hi z → Has (if p || q then all_words else unwrap_or (interval_of lo hi) all_words) x
  by_fit true q lo hi e f l = any_has x word
  by_fit false true lo hi e f l = any_has x word
  by_fit false false lo hi e f l =
      let low = (fits_is lo e).0 in let high = (fits_is hi f).1 in let a = l.0 in let b = l.1 in
      let same : signed x ≡ z = wraps ∙ int_wrap_fits w16 z (omega (arith, ints)) in
      or_all_has (interval_of lo hi) x (between lo hi x word (rw same l))

  pub fitting_has : (lo hi : ℤ) → Lies lo hi z → Has (fitting lo hi) x
  fitting_has lo hi = by_fit (outside lo) (outside hi) lo hi refl refl

-- a word whose number needs no wrapping
pub lying_has : (x : ℕ) (lo hi : ℤ) → x < 65536 → Lies lo hi (signed x) → Has (fitting lo hi) x
lying_has x lo hi word l = fitting_has x (signed x) word (sym (int_wrap_fits w16 (signed x) (omega (arith, ints)))) lo hi l

-- a word from one to another, by their signed readings
pub between_has : (lo hi x : ℕ) → signed lo ≤ℤ signed x → signed x ≤ℤ signed hi → x < 65536 → Has (unwrap_or (interval_of (signed lo) (signed hi)) all_words) x
between_has lo hi x least most word = or_all_has (interval_of (signed lo) (signed hi)) x (between (signed lo) (signed hi) x word (least, most))

-- what lies between the results at the ends of each operand lies between the least and the greatest of the four
pub ends_lie : (f : ℤ → ℤ → ℤ) (a b : Interval) (x y : ℤ)
    → ((lo hi : ℤ) → Lies lo hi (f a.lo y) → Lies lo hi (f a.hi y) → Lies lo hi (f x y))
    → ((lo hi u : ℤ) → Lies lo hi (f u b.lo) → Lies lo hi (f u b.hi) → Lies lo hi (f u y))
    → Lies (int_min (int_min (f a.lo b.lo) (f a.lo b.hi)) (int_min (f a.hi b.lo) (f a.hi b.hi))) (int_max (int_max (f a.lo b.lo) (f a.lo b.hi)) (int_max (f a.hi b.lo) (f a.hi b.hi))) (f x y)
ends_lie f a b x y first second = by (f a.lo b.lo) (f a.lo b.hi) (f a.hi b.lo) (f a.hi b.hi) (λ lo hi. second lo hi a.lo) (λ lo hi. second lo hi a.hi)
  where
    within_four : (p q r s : ℤ) → let lo = int_min (int_min p q) (int_min r s) in let hi = int_max (int_max p q) (int_max r s) in Lies lo hi p × Lies lo hi q × Lies lo hi r × Lies lo hi s
    within_four p q r s = ((omega (arith, ints, clamps), omega (arith, ints, clamps)), (omega (arith, ints, clamps), omega (arith, ints, clamps)), (omega (arith, ints, clamps), omega (arith, ints, clamps)), (omega (arith, ints, clamps), omega (arith, ints, clamps)))

    by : (p q r s : ℤ) → ((lo hi : ℤ) → Lies lo hi p → Lies lo hi q → Lies lo hi (f a.lo y)) → ((lo hi : ℤ) → Lies lo hi r → Lies lo hi s → Lies lo hi (f a.hi y)) → Lies (int_min (int_min p q) (int_min r s)) (int_max (int_max p q) (int_max r s)) (f x y)
    by p q r s low high =
        let four = within_four p q r s in
        first _ _ (low _ _ four.0 four.1) (high _ _ four.2 four.3)

-- ---- the words at the ends

-- a number of a word is that word's
pub read_back : (z : ℤ) → negsuc 32767 ≤ℤ z → z ≤ℤ pos 32767 → signed (word_of z) ≡ z
read_back (pos n) low high = to_z-of_z w16 (pos n) (record { sfits = omega (arith, ints) })
read_back (negsuc n) low high = to_z-of_z w16 (negsuc n) (record { sfits = omega (arith, ints) })

pub lowest_has : (a : Interval) (x : ℕ) → Has a x → signed (word_of (int_max a.lo (negsuc 32767))) ≤ℤ signed x
lowest_has a x i =
    let word = i.word in let low = i.member.0 in
    let back = read_back (int_max a.lo (negsuc 32767)) (omega (arith, ints, clamps)) (omega (arith, ints, clamps)) in
    rw back (omega (arith, ints, clamps))

pub highest_has : (a : Interval) (x : ℕ) → Has a x → signed x ≤ℤ signed (word_of (int_min a.hi (pos 32767)))
highest_has a x i =
    let word = i.word in let high = i.member.1 in
    let back = read_back (int_min a.hi (pos 32767)) (omega (arith, ints, clamps)) (omega (arith, ints, clamps)) in
    rw back (omega (arith, ints, clamps))

-- ---- words that were gathered

-- the word at a place is no greater than one whose place isn't below it
pub place_low : (place x : ℕ) → x < 65536 → place ≤ turned x → signed (turned place) ≤ℤ signed x
place_low place x word low = grind (arith, ints, word, low)

-- the word at a place is no less than one whose place isn't above it
pub place_high : (place x : ℕ) → x < 65536 → place < 65536 → turned x ≤ place → signed x ≤ℤ signed (turned place)
place_high place x word few high = grind (arith, ints, word, few, high)

pub packed_has : (g : Gathering) (x : ℕ) → IsGathered g x → x < 65536 → Has (unwrap_or (interval_of (signed (turned g.least)) (signed (turned g.greatest))) all_words) x
packed_has g x gathered word = between_has (turned g.least) (turned g.greatest) x (place_low g.least x word gathered.least) (place_high g.greatest x word gathered.bound gathered.greatest) word
