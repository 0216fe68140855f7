-- Intervals of signed numbers, as sets of words (own).
use Rattle.std.specs.Prelude.{◌≡◌, ℕ, Bool, true, false, ◌&&◌, ◌||◌, if◌then◌else◌, Option, Some, None, option_map, unwrap_or, T, ℤ, pos, negsuc, ◌+ℤ◌, ◌-ℤ◌, ◌*ℤ◌, ◌≤ℤ◌, int_le, int_lt, int_div, unsigned_abs, bit_and, bit_or, refl}
use Rattle.std.proofs.Common.{sym, subst}
use Rattle.std.specs.Int.{w16, cast_unsigned, int_min, int_max}
use Rattle.std.specs.Int.Signed.{≤ℤ_refl}
pub use Rattle.zword.specs.Binary.{signed}
use Rattle.zword.specs.Binary.{word_of}
use Rattle.zword.specs.declared.unary.UnaryOp.{UnaryOp}
use Rattle.zword.specs.declared.unary.UnaryOp.TheVariants.{Not, Keep}
use Rattle.zword.specs.declared.binary.BinaryOp.{BinaryOp}
use Rattle.zword.specs.declared.binary.BinaryOp.TheVariants.{Add, Sub, Mul, Div, Mod, Or, And}
use Rattle.zword.specs.declared.question.Question.{Question}
use Rattle.zword.specs.declared.question.Question.TheVariants.{Equal, Less, Greater, Test}
use Rattle.zdomain.specs.declared.interval.Interval.{Interval}
use Rattle.zdomain.specs.Domain.{SetOperations}
use Rattle.zdomain.specs.Few.{turned}

-- two numbers in order, by the test of it
pub in_order : (a b : ℤ) → int_le a b ≡ true → a ≤ℤ b
in_order (pos a) (pos b) e = record { le = subst T (sym e) tt }
in_order (pos a) (negsuc b) e = record { le = subst T (sym e) tt }
in_order (negsuc a) (pos b) e = record { le = subst T (sym e) tt }
in_order (negsuc a) (negsuc b) e = record { le = subst T (sym e) tt }

-- the number is a member: it lies from one end to the other
abbrev pub HasMember : Interval → ℤ → Type 0
HasMember i z = (i.lo ≤ℤ z) × (z ≤ℤ i.hi)

-- the number is an address: the unsigned reading of a member
abbrev pub HasAddress : Interval → ℕ → Type 0
HasAddress i x = (z : ℤ) × HasMember i z × (x ≡ cast_unsigned w16 z)

-- the interval of one word
abbrev pub point : ℕ → Interval
point word = record { lo = signed word; hi = signed word; ordered = ≤ℤ_refl (signed word) }

-- the interval of all words
abbrev pub all_words : Interval
all_words = record { lo = negsuc 32767; hi = pos 32767; ordered = record { le = tt } }

-- the interval between two ends, by the test whether they are in order
abbrev pub interval_where : (lo hi : ℤ) (b : Bool) → int_le lo hi ≡ b → Option Interval
interval_where lo hi true ordered = Some (record { lo = lo; hi = hi; ordered = in_order lo hi ordered })
interval_where lo hi false ordered = None

-- the interval from lo to hi, where there is a number between
abbrev pub interval_of : ℤ → ℤ → Option Interval
interval_of lo hi = interval_where lo hi (int_le lo hi) refl

-- ---- what the results of an operation lie in (own)

-- the number isn't one that a word stands for
abbrev pub outside : ℤ → Bool
outside z = int_lt z (negsuc 32767) || int_lt (pos 32767) z

-- from lo to hi where both ends are numbers of words, else all words
abbrev pub fitting : ℤ → ℤ → Interval
fitting lo hi = if outside lo || outside hi then all_words else unwrap_or (interval_of lo hi) all_words

-- from the least of four numbers to the greatest
abbrev pub around : ℤ → ℤ → ℤ → ℤ → Interval
around a b c d = fitting (int_min (int_min a b) (int_min c d)) (int_max (int_max a b) (int_max c d))

-- from the least result at ends to the greatest
abbrev pub at_ends : (ℤ → ℤ → ℤ) → Interval → Interval → Interval
at_ends f a b = around (f a.lo b.lo) (f a.lo b.hi) (f a.hi b.lo) (f a.hi b.hi)

-- there is but one member
abbrev pub is_single : Interval → Bool
is_single i = int_le i.hi i.lo

abbrev pub are_single : Interval → Interval → Bool
are_single a b = is_single a && is_single b

-- 0 is a member
abbrev pub has_zero : Interval → Bool
has_zero i = int_le i.lo (pos 0) && int_le (pos 0) i.hi

-- a member is below 0
abbrev pub has_negative : Interval → Bool
has_negative i = int_lt i.lo (pos 0)

abbrev pub sums : Interval → Interval → Interval
sums a b = fitting (a.lo +ℤ b.lo) (a.hi +ℤ b.hi)

abbrev pub differences : Interval → Interval → Interval
differences a b = fitting (a.lo -ℤ b.hi) (a.hi -ℤ b.lo)

-- by what may be 0 nothing is known
abbrev pub quotients : Interval → Interval → Interval
quotients a b = if has_zero b then all_words else at_ends int_div a b

-- the greatest absolute value, less 1
abbrev pub reach : Interval → ℤ
reach b = int_max (pos (unsigned_abs b.lo)) (pos (unsigned_abs b.hi)) -ℤ pos 1

-- no further from 0 than the dividend, on its side of 0, and nearer than the divisor
abbrev pub remainders : Interval → Interval → Interval
remainders a b = if has_zero b then all_words else fitting (int_max (int_min a.lo (pos 0)) (pos 0 -ℤ reach b)) (int_min (int_max a.hi (pos 0)) (reach b))

-- the bits of both: one word's exactly; at most each operand that is never negative
abbrev pub conjunctions : Interval → Interval → Interval
conjunctions a b =
    if are_single a b then point (bit_and (word_of a.lo) (word_of b.lo))
    else (if has_negative a
    then (if has_negative b then all_words else fitting (pos 0) b.hi)
    else (if has_negative b then fitting (pos 0) a.hi else fitting (pos 0) (int_min a.hi b.hi)))

-- the bits of either: one word's exactly; of two that are never negative not negative
abbrev pub disjunctions : Interval → Interval → Interval
disjunctions a b =
    if are_single a b then point (bit_or (word_of a.lo) (word_of b.lo))
    else (if has_negative a || has_negative b then all_words else fitting (pos 0) (pos 32767))

abbrev pub unary : UnaryOp → Interval → Interval
unary Not a = fitting (negsuc 0 -ℤ a.hi) (negsuc 0 -ℤ a.lo)
unary Keep a = a

abbrev pub binary : BinaryOp → Interval → Interval → Interval
binary Add a b = sums a b
binary Sub a b = differences a b
binary Mul a b = at_ends ◌*ℤ◌ a b
binary Div a b = quotients a b
binary Mod a b = remainders a b
binary Or a b = disjunctions a b
binary And a b = conjunctions a b

-- ---- what an answer to a question leaves (own)

-- the least interval that has the members of both
abbrev pub join : Interval → Interval → Interval
join a b = unwrap_or (interval_of (int_min a.lo b.lo) (int_max a.hi b.hi)) all_words

-- the members that both have
abbrev pub meet : Interval → Interval → Option Interval
meet a b = interval_of (int_max a.lo b.lo) (int_min a.hi b.hi)

abbrev pub both : Option Interval → Option Interval → Option (Interval × Interval)
both None b = None
both (Some a) None = None
both (Some a) (Some b) = Some (a, b)

abbrev pub swapped : Option (Interval × Interval) → Option (Interval × Interval)
swapped pair = option_map (λ p. (p.1, p.0)) pair

-- an end one further in, where it is the number
abbrev pub raised : ℤ → ℤ → ℤ
raised lo z = if int_le lo z && int_le z lo then lo +ℤ pos 1 else lo

abbrev pub lowered : ℤ → ℤ → ℤ
lowered hi z = if int_le hi z && int_le z hi then hi -ℤ pos 1 else hi

-- without a number, where that is an end
abbrev pub without : ℤ → Interval → Option Interval
without z a = interval_of (raised a.lo z) (lowered a.hi z)

-- what differs from the other's only member
abbrev pub apart : Interval → Interval → Option Interval
apart a b = if is_single b then without b.lo a else Some a

-- the first at most one below the second's end, and the second at least one above the first's
abbrev pub below : Interval → Interval → Option (Interval × Interval)
below a b = both (interval_of a.lo (int_min a.hi (b.hi -ℤ pos 1))) (interval_of (int_max b.lo (a.lo +ℤ pos 1)) b.hi)

-- the first at least the second's lower end, and the second at most the first's upper
abbrev pub not_below : Interval → Interval → Option (Interval × Interval)
not_below a b = both (interval_of (int_max a.lo b.lo) a.hi) (interval_of b.lo (int_min b.hi a.hi))

abbrev pub narrow : Question → Bool → Interval → Interval → Option (Interval × Interval)
narrow Equal true a b = option_map (λ c. (c, c)) (meet a b)
narrow Equal false a b = both (apart a b) (apart b a)
narrow Less true a b = below a b
narrow Less false a b = not_below a b
narrow Greater true a b = swapped (below b a)
narrow Greater false a b = swapped (not_below b a)
narrow Test c a b = Some (a, b)

-- ---- intervals as a domain

abbrev pub interval_operations : SetOperations Interval
interval_operations = record {
  has = λ i word. HasMember i (signed word);
  single = point;
  any = all_words;
  between = λ lo hi. unwrap_or (interval_of (signed lo) (signed hi)) all_words;
  lowest = λ i. word_of (int_max i.lo (negsuc 32767));
  highest = λ i. word_of (int_min i.hi (pos 32767));
  known = λ i. if is_single i then Some (word_of i.lo) else None;
  few = λ i. None;
  packed = λ g. unwrap_or (interval_of (signed (turned g.least)) (signed (turned g.greatest))) all_words;
  join = join;
  meet = meet;
  unary = unary;
  binary = binary;
  narrow = narrow;
}
