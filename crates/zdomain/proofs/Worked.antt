-- Values of the definitions, computed.
use Rattle.std.proofs.Common.{◌≡◌, ℕ, ◌-◌, ℤ, pos, negsuc, int_le, true, false, Option, Some, None, option_map, refl, arith}
use Rattle.std.specs.Int.Signed.{≤ℤ_refl}
use Rattle.std.proofs.lemmas.Int.{ints}
use Rattle.zdomain.specs.declared.interval.Interval.{Interval}
use Rattle.zdomain.specs.Domain.{SetOperations, In, Within, AreSound}
use Rattle.zword.specs.declared.unary.UnaryOp.TheVariants.{Not, Keep}
use Rattle.zword.specs.declared.binary.BinaryOp.TheVariants.{Add, Sub, Mul, Div, Mod, Or, And}
use Rattle.zword.specs.declared.question.Question.TheVariants.{Equal, Less, Greater, Test}
use Rattle.zdomain.specs.Interval.{signed, in_order, point, all_words, interval_of, HasMember, HasAddress, unary, binary, join, meet, narrow, interval_operations}

-- a word from 0x8000 on is negative
signed_words : (signed 0 ≡ pos 0) × (signed 0x7FFF ≡ pos 32767) × (signed 0x8000 ≡ negsuc 32767) × (signed 0xFFFF ≡ negsuc 0)
signed_words = (refl, refl, refl, refl)

points : ((point 5).lo ≡ pos 5) × ((point 5).hi ≡ pos 5) × ((point 0xFFFE).lo ≡ negsuc 1) × ((point 0xFFFE).hi ≡ negsuc 1)
points = (refl, refl, refl, refl)

-- there is an interval where the ends are in order, also where they are one number
lower_ends : (option_map (λ i. i.lo) (interval_of (negsuc 4) (pos 7)) ≡ Some (negsuc 4)) × (option_map (λ i. i.lo) (interval_of (pos 3) (pos 3)) ≡ Some (pos 3))
lower_ends = (refl, refl)

upper_ends : (option_map (λ i. i.hi) (interval_of (negsuc 4) (pos 7)) ≡ Some (pos 7)) × (option_map (λ i. i.hi) (interval_of (negsuc 4) (negsuc 1)) ≡ Some (negsuc 1))
upper_ends = (refl, refl)

empty : (interval_of (pos 1) (pos 0) ≡ None) × (interval_of (pos 0) (negsuc 0) ≡ None) × (interval_of (negsuc 0) (negsuc 1) ≡ None)
empty = (refl, refl, refl)

-- from -1 to 1
small : Interval
small = record { lo = negsuc 0; hi = pos 1; ordered = record { le = tt } }

-- both ends are members
members : HasMember small (negsuc 0) × HasMember small (pos 0) × HasMember small (pos 1)
unfolding small
members = ((omega arith, omega arith), (omega arith, omega arith), (omega arith, omega arith))

no_members : (HasMember small (negsuc 1) → ⊥) × (HasMember small (pos 2) → ⊥)
unfolding small
no_members = (λ m. let low = m.0 in grind (arith, ints), λ m. let high = m.1 in grind (arith, ints))

-- its addresses are 65,535, 0 and 1
addresses : HasAddress small 0xFFFF × HasAddress small 0 × HasAddress small 1
addresses = ((negsuc 0, members.0, refl), (pos 0, members.1, refl), (pos 1, members.2, refl))

-- and its words
words : In interval_operations small 0xFFFF × In interval_operations small 0 × In interval_operations small 1
words = (record { word = omega arith; member = members.0 }, record { word = omega arith; member = members.1 }, record { word = omega arith; member = members.2 })

-- 2 and 65,534 are none, and 65,536 is no word
no_words : (In interval_operations small 2 → ⊥) × (In interval_operations small 0xFFFE → ⊥) × (In interval_operations all_words 65536 → ⊥)
no_words = (λ i. no_members.1 i.member, λ i. no_members.0 i.member, λ i. omega (arith, i.word))

-- inclusion is of words: that of one word is in another set where the word is
inclusion : Within interval_operations (point 1) all_words × Within interval_operations small all_words
unfolding small
inclusion = (λ x i. let word = i.word in record { word = word; member = (omega (arith, ints), omega (arith, ints)) }, λ x i. let word = i.word in record { word = word; member = (omega (arith, ints), omega (arith, ints)) })

no_inclusion : (Within interval_operations all_words small → ⊥) × (Within interval_operations small (point 1) → ⊥)
no_inclusion = (λ w. no_words.0 (w 2 (record { word = omega arith; member = (omega (arith, ints), omega (arith, ints)) })), λ w. let low = (w 0 words.1).member.0 in grind (arith, ints))

-- sets that don't have their single word are unsound
nothing : SetOperations ℕ
nothing = record { has = λ _ _. ⊥; single = λ word. word; any = 0; between = λ lo hi. lo; lowest = λ a. a; highest = λ a. a; known = λ a. None; few = λ a. None; packed = λ g. 0; join = λ a b. a; meet = λ a b. None; unary = λ op a. a; binary = λ op a b. a; narrow = λ q c a b. None }

unsound : AreSound nothing → ⊥
unfolding nothing
unsound sound = (sound.single 0 (omega arith)).member

-- ---- what instructions make of sets

abbrev from : (lo hi : ℤ) → int_le lo hi ≡ true → Interval
from lo hi e = record { lo = lo; hi = hi; ordered = in_order lo hi e }

-- from one word to another, by their signed readings; where they aren't in order, any word
ranges : (interval_operations.between 0 31 ≡ from (pos 0) (pos 31) refl) × (interval_operations.between 7 7 ≡ point 7) × (interval_operations.between 1 32767 ≡ from (pos 1) (pos 32767) refl) × (interval_operations.between 1 32768 ≡ all_words) × (interval_operations.between 2 1 ≡ all_words) × (interval_operations.between 65535 1 ≡ from (negsuc 0) (pos 1) refl)
ranges = (refl, refl, refl, refl, refl, refl)

abbrev IsFrom : Interval → ℤ → ℤ → Type 0
IsFrom i lo hi = (i.lo ≡ lo) × (i.hi ≡ hi)

-- -n for n above 0
abbrev minus : ℕ → ℤ
minus n = negsuc (n - 1)

abbrev word : ℤ → Interval
word z = record { lo = z; hi = z; ordered = ≤ℤ_refl z }

-- [0, 5]
abbrev few : Interval
few = from (pos 0) (pos 5) refl

-- where a result may wrap it may be any word
sums : IsFrom (binary Add few (from (minus 3) (pos 4) refl)) (minus 3) (pos 9) × IsFrom (binary Add (word (pos 32767)) (word (pos 1))) (minus 32768) (pos 32767) × IsFrom (binary Add few (word (pos 32763))) (minus 32768) (pos 32767) × IsFrom (binary Add few (word (pos 32762))) (pos 32762) (pos 32767)
sums = ((refl, refl), (refl, refl), (refl, refl), (refl, refl))

-- -32,768 is the number of a word too
least_sum : IsFrom (binary Add (word (minus 32768)) (word (pos 0))) (minus 32768) (minus 32768)
least_sum = (refl, refl)

differences : IsFrom (binary Sub few (from (pos 2) (pos 3) refl)) (minus 3) (pos 3) × IsFrom (binary Sub (word (minus 32768)) (word (pos 1))) (minus 32768) (pos 32767) × IsFrom (binary Sub few (word (minus 1))) (pos 1) (pos 6)
differences = ((refl, refl), (refl, refl), (refl, refl))

-- of 15, -12, -10 and 8
products : IsFrom (binary Mul (from (minus 3) (pos 2) refl) (from (minus 5) (pos 4) refl)) (minus 12) (pos 15) × IsFrom (binary Mul (from (minus 2) (pos 3) refl) (word (pos 7))) (minus 14) (pos 21) × IsFrom (binary Mul (word (pos 300)) (word (pos 300))) (minus 32768) (pos 32767) × IsFrom (binary Mul (from (pos 1) (pos 2) refl) (from (minus 5) (pos 3) refl)) (minus 10) (pos 6)
products = ((refl, refl), (refl, refl), (refl, refl), (refl, refl))

-- -11 by 2 is -5, and 10 and 20 by -3 and by -2 are -3, -5, -6 and -10
quotients : IsFrom (binary Div (from (minus 11) (pos 11) refl) (word (pos 2))) (minus 5) (pos 5) × IsFrom (binary Div (from (pos 10) (pos 20) refl) (from (minus 3) (minus 2) refl)) (minus 10) (minus 3)
quotients = ((refl, refl), (refl, refl))

-- the divisor may be 0; -32,768 by -1 wraps
no_quotients : IsFrom (binary Div (word (pos 1)) few) (minus 32768) (pos 32767) × IsFrom (binary Div (word (pos 1)) (from (minus 1) (pos 1) refl)) (minus 32768) (pos 32767) × IsFrom (binary Div (word (minus 32768)) (word (minus 1))) (minus 32768) (pos 32767)
no_quotients = ((refl, refl), (refl, refl), (refl, refl))

-- by 5 nothing beyond 4 is left, on either side; by -5 the same; a dividend of one sign leaves that sign, and no more than it is
remainders : IsFrom (binary Mod (from (minus 13) (pos 13) refl) (word (pos 5))) (minus 4) (pos 4) × IsFrom (binary Mod (word (pos 13)) (word (minus 5))) (pos 0) (pos 4) × IsFrom (binary Mod (from (minus 13) (minus 2) refl) (from (pos 5) (pos 7) refl)) (minus 6) (pos 0) × IsFrom (binary Mod (from (pos 2) (pos 3) refl) (word (pos 10))) (pos 0) (pos 3) × IsFrom (binary Mod few (word (minus 1))) (pos 0) (pos 0) × IsFrom (binary Mod (from (pos 0) (pos 32767) refl) (word (minus 32768))) (pos 0) (pos 32767) × IsFrom (binary Mod (from (minus 13) (pos 13) refl) (from (minus 6) (minus 3) refl)) (minus 5) (pos 5)
remainders = ((refl, refl), (refl, refl), (refl, refl), (refl, refl), (refl, refl), (refl, refl), (refl, refl))

-- 1 isn't 0: by it a number is its own quotient, and nothing is left
by_one : IsFrom (binary Div few (word (pos 1))) (pos 0) (pos 5) × IsFrom (binary Mod few (word (pos 1))) (pos 0) (pos 0)
by_one = ((refl, refl), (refl, refl))

no_remainders : IsFrom (binary Mod few few) (minus 32768) (pos 32767) × IsFrom (binary Mod few (from (minus 5) (pos 0) refl)) (minus 32768) (pos 32767)
no_remainders = ((refl, refl), (refl, refl))

-- two single words exactly; else at most the lesser end of those that are never negative
conjunctions : IsFrom (binary And (word (pos 12)) (word (pos 10))) (pos 8) (pos 8) × IsFrom (binary And (word (minus 1)) (word (minus 8))) (minus 8) (minus 8) × IsFrom (binary And (from (pos 2) (pos 9) refl) (from (pos 1) (pos 5) refl)) (pos 0) (pos 5) × IsFrom (binary And (from (minus 4) (pos 9) refl) (from (pos 0) (pos 7) refl)) (pos 0) (pos 7) × IsFrom (binary And few (from (minus 1) (pos 100) refl)) (pos 0) (pos 5) × IsFrom (binary And (word (pos 12)) (from (minus 1) (pos 3) refl)) (pos 0) (pos 12) × IsFrom (binary And (from (minus 4) (pos 9) refl) (from (minus 1) (pos 3) refl)) (minus 32768) (pos 32767) × IsFrom (binary And (from (pos 1) (pos 5) refl) (from (pos 2) (pos 9) refl)) (pos 0) (pos 5)
conjunctions = ((refl, refl), (refl, refl), (refl, refl), (refl, refl), (refl, refl), (refl, refl), (refl, refl), (refl, refl))

disjunctions : IsFrom (binary Or (word (pos 12)) (word (pos 3))) (pos 15) (pos 15) × IsFrom (binary Or (word (minus 8)) (word (pos 1))) (minus 7) (minus 7) × IsFrom (binary Or few (from (pos 0) (pos 1) refl)) (pos 0) (pos 32767) × IsFrom (binary Or (from (minus 1) (pos 5) refl) (word (pos 1))) (minus 32768) (pos 32767) × IsFrom (binary Or few (from (minus 2) (minus 1) refl)) (minus 32768) (pos 32767) × IsFrom (binary Or few (word (pos 4))) (pos 0) (pos 32767)
disjunctions = ((refl, refl), (refl, refl), (refl, refl), (refl, refl), (refl, refl), (refl, refl))

complements : IsFrom (unary Not few) (minus 6) (minus 1) × IsFrom (unary Not all_words) (minus 32768) (pos 32767) × IsFrom (unary Keep few) (pos 0) (pos 5)
complements = ((refl, refl), (refl, refl), (refl, refl))

-- ---- sets joined and met

joined : IsFrom (join (from (pos 0) (pos 2) refl) (from (pos 8) (pos 9) refl)) (pos 0) (pos 9) × IsFrom (join few (word (minus 1))) (minus 1) (pos 5) × IsFrom (join (from (pos 5) (pos 6) refl) (from (pos 1) (pos 2) refl)) (pos 1) (pos 6)
joined = ((refl, refl), (refl, refl), (refl, refl))

-- the ends of what is there
abbrev IsSomeFrom : Option Interval → ℤ → ℤ → Type 0
IsSomeFrom None lo hi = ⊥
IsSomeFrom (Some i) lo hi = IsFrom i lo hi

common : IsSomeFrom (meet few (from (pos 3) (pos 9) refl)) (pos 3) (pos 5) × IsSomeFrom (meet few (from (pos 5) (pos 9) refl)) (pos 5) (pos 5) × (meet few (from (pos 6) (pos 9) refl) ≡ None) × IsSomeFrom (meet (from (pos 3) (pos 9) refl) few) (pos 3) (pos 5)
common = ((refl, refl), (refl, refl), refl, (refl, refl))

only : (interval_operations.known (word (pos 5)) ≡ Some 5) × (interval_operations.known (word (minus 2)) ≡ Some 0xFFFE) × (interval_operations.known (from (pos 0) (pos 1) refl) ≡ None)
only = (refl, refl, refl)

-- the words at the ends, and of an end that is no word the nearest
nearest : (interval_operations.lowest small ≡ 0xFFFF) × (interval_operations.highest small ≡ 1) × (interval_operations.lowest (from (negsuc 40000) (pos 0) refl) ≡ 0x8000) × (interval_operations.highest (from (pos 0) (pos 40000) refl) ≡ 0x7FFF)
unfolding small
nearest = (refl, refl, refl, refl)

-- ---- what an answer leaves

abbrev AreFrom : Option (Interval × Interval) → ℤ → ℤ → ℤ → ℤ → Type 0
AreFrom None lo hi lo' hi' = ⊥
AreFrom (Some p) lo hi lo' hi' = IsFrom p.0 lo hi × IsFrom p.1 lo' hi'

abbrev pairs_none : Option (Interval × Interval)
pairs_none = None

-- [0, 9]
abbrev ten : Interval
ten = from (pos 0) (pos 9) refl

less : AreFrom (narrow Less true ten few) (pos 0) (pos 4) (pos 1) (pos 5) × (narrow Less true (from (pos 5) (pos 9) refl) few ≡ pairs_none) × (narrow Less true all_words (word (minus 32768)) ≡ pairs_none) × AreFrom (narrow Less true (word (minus 1)) (word (pos 0))) (minus 1) (minus 1) (pos 0) (pos 0) × AreFrom (narrow Less true few (from (pos 3) (pos 20) refl)) (pos 0) (pos 5) (pos 3) (pos 20)
less = (((refl, refl), (refl, refl)), refl, refl, ((refl, refl), (refl, refl)), ((refl, refl), (refl, refl)))

not_less : AreFrom (narrow Less false ten (from (pos 3) (pos 5) refl)) (pos 3) (pos 9) (pos 3) (pos 5) × AreFrom (narrow Less false few ten) (pos 0) (pos 5) (pos 0) (pos 5) × (narrow Less false (from (pos 0) (pos 2) refl) (from (pos 3) (pos 9) refl) ≡ pairs_none) × AreFrom (narrow Less false (from (pos 3) (pos 5) refl) few) (pos 3) (pos 5) (pos 0) (pos 5)
not_less = (((refl, refl), (refl, refl)), ((refl, refl), (refl, refl)), refl, ((refl, refl), (refl, refl)))

greater : AreFrom (narrow Greater true ten few) (pos 1) (pos 9) (pos 0) (pos 5) × AreFrom (narrow Greater false ten few) (pos 0) (pos 5) (pos 0) (pos 5) × (narrow Greater true (word (pos 0)) few ≡ pairs_none) × AreFrom (narrow Greater false few ten) (pos 0) (pos 5) (pos 0) (pos 9)
greater = (((refl, refl), (refl, refl)), ((refl, refl), (refl, refl)), refl, ((refl, refl), (refl, refl)))

equal : AreFrom (narrow Equal true ten (from (pos 5) (pos 20) refl)) (pos 5) (pos 9) (pos 5) (pos 9) × AreFrom (narrow Equal true (from (minus 3) (pos 4) refl) (word (pos 0))) (pos 0) (pos 0) (pos 0) (pos 0) × (narrow Equal true few (word (pos 6)) ≡ pairs_none)
equal = (((refl, refl), (refl, refl)), ((refl, refl), (refl, refl)), refl)

-- a single value is cut off at one end, and nowhere else
unequal : AreFrom (narrow Equal false few (word (pos 0))) (pos 1) (pos 5) (pos 0) (pos 0) × AreFrom (narrow Equal false (from (minus 9) (pos 0) refl) (word (pos 0))) (minus 9) (minus 1) (pos 0) (pos 0) × AreFrom (narrow Equal false (from (minus 9) (pos 9) refl) (word (pos 0))) (minus 9) (pos 9) (pos 0) (pos 0) × AreFrom (narrow Equal false few ten) (pos 0) (pos 5) (pos 0) (pos 9) × AreFrom (narrow Equal false (word (pos 9)) ten) (pos 9) (pos 9) (pos 0) (pos 8) × AreFrom (narrow Equal false all_words (word (pos 32767))) (minus 32768) (pos 32766) (pos 32767) (pos 32767) × (narrow Equal false (word (pos 7)) (word (pos 7)) ≡ pairs_none) × AreFrom (narrow Equal false (from (pos 3) (pos 9) refl) (word (pos 0))) (pos 3) (pos 9) (pos 0) (pos 0) × AreFrom (narrow Equal false (from (pos 3) (pos 9) refl) (word (pos 20))) (pos 3) (pos 9) (pos 20) (pos 20)
unequal = (((refl, refl), (refl, refl)), ((refl, refl), (refl, refl)), ((refl, refl), (refl, refl)), ((refl, refl), (refl, refl)), ((refl, refl), (refl, refl)), ((refl, refl), (refl, refl)), refl, ((refl, refl), (refl, refl)), ((refl, refl), (refl, refl)))

tested : AreFrom (narrow Test true ten few) (pos 0) (pos 9) (pos 0) (pos 5) × AreFrom (narrow Test false ten few) (pos 0) (pos 9) (pos 0) (pos 5)
tested = (((refl, refl), (refl, refl)), ((refl, refl), (refl, refl)))
