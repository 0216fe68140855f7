-- What an operation on sets of lists answers contains what it has to. A part of the proof, and nothing to believe.
use Rattle.std.proofs.Common.{◌≡◌, ℕ, ◌+◌, ◌-◌, ◌%◌, ◌<◌, ◌≤◌, Bool, true, false, ◌&&◌, if◌then◌else◌, Option, Some, None, List, [], ◌∷◌, ◌++◌, length, map, ℤ, pos, negsuc, ◌≤ℤ◌, int_le, arith, refl, subst}
use Rattle.std.specs.List.{filter}
use Rattle.std.specs.Prelude.{MatchOption, IfSome, IsTrue, T, nat_lt, nat_le}
use Rattle.std.specs.Int.{int_min, int_max}
use Rattle.std.proofs.lemmas.Int.{ints, clamps}
use Rattle.std.proofs.lemmas.Bool.{ltb-true, and_parts}
use Rattle.zword.specs.Binary.{signed, word_of, apply, is_defined}
use Rattle.zword.specs.Unary.{transform}
use Rattle.zword.specs.declared.unary.UnaryOp.{UnaryOp}
use Rattle.zword.specs.declared.unary.UnaryOp.TheVariants.{Not, Keep}
use Rattle.zword.specs.declared.binary.BinaryOp.{BinaryOp}
use Rattle.zword.proofs.Small.{applied_small, transformed_small}
use Rattle.zdomain.specs.declared.interval.Interval.{Interval}
use Rattle.zdomain.specs.declared.values.Scattered.{Scattered}
use Rattle.zdomain.specs.declared.values.Values.{Values}
use Rattle.zdomain.specs.declared.values.Values.TheVariants.{Run, List as AList}
use Rattle.zdomain.specs.Domain.{AreSound, In, IsGathered}
use Rattle.zdomain.specs.Interval as interval
use Rattle.zdomain.specs.IntervalLaw.{interval_sound}
use Rattle.zdomain.specs.IntervalLaw.Lying.{Has, le_true, packed_has, between_has, lowest_has, highest_has}
use Rattle.zdomain.specs.Few.{turned, is_among, words_from, Gathering, none_gathered, gathered, is_scattered, rises, first_of, last_of}
use Rattle.zdomain.specs.FewLaw.{among_cons, among_front, among_behind, all_new, first_least, last_most, from_has}
use Rattle.zdomain.specs.Values.{has, lowest, highest, hull, run_members, members, list_where, list_or, packed, is_empty, found, row, rows, unary_few, unary, binary_few, join_few, run_if, meet, both, narrow_to, known, values_operations}

-- the set has the word
abbrev Lists : Values → ℕ → Type 0
Lists a x = In values_operations a x

both_are : (a b : Bool) → a ≡ true → b ≡ true → a && b ≡ true
both_are true b e f = f
both_are false b e f = absurd cc

true_le : (a b : ℤ) → a ≤ℤ b → int_le a b ≡ true
true_le a b h = grind (arith, ints, h)

-- an interval as a set has what it has
pub run_has : (i : Interval) (x : ℕ) → Has i x → Lists (Run i) x
run_has i x h = record { word = h.word; member = both_are (int_le i.lo (signed x)) (int_le (signed x) i.hi) (true_le i.lo (signed x) h.member.0) (true_le (signed x) i.hi h.member.1) }

pub has_run : (i : Interval) (x : ℕ) → Lists (Run i) x → Has i x
has_run i x h =
    let split = and_parts (int_le i.lo (signed x)) (int_le (signed x) i.hi) h.member in
    record { word = h.word; member = (le_true i.lo (signed x) split.0, le_true (signed x) i.hi split.1) }

-- ---- ends

of_test : (b : Bool) → T b → b ≡ true
of_test true t = refl
of_test false t = absurd t

pub rising : (s : Scattered) → rises s.few ≡ true
unfolding is_scattered
rising s =
    let e = of_test (is_scattered s.few) s.scattered.is in
    let few = and_parts (nat_le 2 (length s.few)) _ e in
    let most = and_parts (nat_le (length s.few) 64) _ few.1 in
    (and_parts (rises s.few) _ most.1).0

some_first : (words : List ℕ) → nat_le 2 (length words) ≡ true → IsTrue (is_among (first_of words) words)
some_first [] e = absurd cc
some_first (x ∷ xs) e = among_front x xs

-- the first of a list is a member
pub list_first : (s : Scattered) (x : ℕ) → x < 65536 → x ≡ first_of s.few → Lists (AList s) x
unfolding is_scattered
list_first s x word same =
    let e = of_test (is_scattered s.few) s.scattered.is in
    record { word = word; member = rw same (some_first s.few (and_parts (nat_le 2 (length s.few)) _ e).0) }

signed_le : (a x : ℕ) → x < 65536 → turned a ≤ turned x → signed (a % 65536) ≤ℤ signed x
signed_le a x word h = grind (arith, ints, word, h)

le_signed : (a x : ℕ) → x < 65536 → turned x ≤ turned a → signed x ≤ℤ signed (a % 65536)
le_signed a x word h = grind (arith, ints, word, h)

list_low : (words : List ℕ) (x : ℕ) → rises words ≡ true → x < 65536 → IsTrue (is_among x words) → signed (first_of words % 65536) ≤ℤ signed x
list_low [] x r word h = absurd cc
list_low (y ∷ ys) x r word h = signed_le y x word (first_least y ys x r h)

list_high : (words : List ℕ) (x : ℕ) → rises words ≡ true → x < 65536 → IsTrue (is_among x words) → signed x ≤ℤ signed (last_of words % 65536)
list_high [] x r word h = absurd cc
list_high (y ∷ ys) x r word h = le_signed _ x word (last_most y ys x r h)

lowest_lies : (a : Values) (x : ℕ) → Lists a x → signed (lowest a) ≤ℤ signed x
lowest_lies (Run i) x h = lowest_has i x (has_run i x h)
lowest_lies (AList s) x h = list_low s.few x (rising s) h.word h.member

highest_lies : (a : Values) (x : ℕ) → Lists a x → signed x ≤ℤ signed (highest a)
highest_lies (Run i) x h = highest_has i x (has_run i x h)
highest_lies (AList s) x h = list_high s.few x (rising s) h.word h.member

hull_has : (a : Values) (x : ℕ) → Lists a x → Has (hull a) x
hull_has (Run i) x h = has_run i x h
hull_has (AList s) x h = between_has (lowest (AList s)) (highest (AList s)) x (lowest_lies (AList s) x h) (highest_lies (AList s) x h) h.word

-- ---- members

word_small : (z : ℤ) → negsuc 32767 ≤ℤ z → z ≤ℤ pos 32767 → word_of z < 65536
word_small z low high = grind (arith, ints, low, high)

low_small : (i : Interval) (x : ℕ) → Has i x → lowest (Run i) < 65536
low_small i x h = let word = h.word in let low = h.member.0 in word_small (int_max i.lo (negsuc 32767)) (omega (arith, ints, clamps)) (omega (arith, ints, clamps))

high_small : (i : Interval) (x : ℕ) → Has i x → highest (Run i) < 65536
high_small i x h = let word = h.word in let high = h.member.1 in word_small (int_min i.hi (pos 32767)) (omega (arith, ints, clamps)) (omega (arith, ints, clamps))

pub turned_le : (a b : ℕ) → a < 65536 → b < 65536 → signed a ≤ℤ signed b → turned a ≤ turned b
turned_le a b p q h = grind (arith, ints, p, q, h)

run_lists : (least greatest x : ℕ) (words : List ℕ) → least < 65536 → greatest < 65536 → x < 65536 → turned least ≤ turned x → turned x ≤ turned greatest → run_members least (turned greatest - turned least) ≡ Some words → IsTrue (is_among x words)
run_lists least greatest x words p q word low high = by (nat_lt (turned greatest - turned least) 64)
  where
    by : (b : Bool) → (if b then Some (words_from least ((turned greatest - turned least) + 1)) else None) ≡ Some words → IsTrue (is_among x words)
    by true e =
        let same : words_from least ((turned greatest - turned least) + 1) ≡ words = cc in
        subst (λ (ws : List ℕ). IsTrue (is_among x ws)) same (from_has ((turned greatest - turned least) + 1) least x p word low (omega (arith, low, high)))
    by false e = absurd cc

members_has : (a : Values) (words : List ℕ) (x : ℕ) → members a ≡ Some words → Lists a x → IsTrue (is_among x words)
members_has (Run i) words x e h =
    let low = low_small i x (has_run i x h) in
    let high = high_small i x (has_run i x h) in
    run_lists (lowest (Run i)) (highest (Run i)) x words low high h.word
    (turned_le (lowest (Run i)) x low h.word (lowest_lies (Run i) x h))
    (turned_le x (highest (Run i)) h.word high (highest_lies (Run i) x h)) e
members_has (AList s) words x e h = let same : s.few ≡ words = cc in subst (λ (ws : List ℕ). IsTrue (is_among x ws)) same h.member

-- ---- what was gathered

where_has : (other : Interval) (words : List ℕ) (x : ℕ) → x < 65536 → Has other x → IsTrue (is_among x words) → (b : Bool) (e : is_scattered words ≡ b) → Lists (list_where other words b e) x
where_has other words x word o h true e = record { word = word; member = h }
where_has other words x word o h false e = run_has other x o

or_has : (other : Interval) (few : Option (List ℕ)) (x : ℕ) → x < 65536 → Has other x → IfSome few (λ words. IsTrue (is_among x words)) → Lists (list_or other few) x
or_has other None x word o h = run_has other x o
or_has other (Some words) x word o h = where_has other words x word o h (is_scattered words) refl

pub packed_lists : (g : Gathering) (x : ℕ) → IsGathered g x → x < 65536 → Lists (packed g) x
packed_lists g x h word = or_has _ g.few x word (packed_has g x h word) h.few

found_lists : (g : Gathering) (x : ℕ) → IsGathered g x → x < 65536 → MatchOption (found g) ⊥ (λ c. Lists c x)
found_lists g x h word = by (is_empty g) refl
  where
    by : (b : Bool) → is_empty g ≡ b → MatchOption (if b then None else Some (packed g)) ⊥ (λ c. Lists c x)
    by true e = absurd (let less = ltb-true g.greatest g.least e in omega (arith, less, h.least, h.greatest))
    by false e = packed_lists g x h word

none_bound : none_gathered.greatest < 65536
none_bound = omega arith

-- what a list has is gathered, and so lies in the set of it
gathered_lists : (words : List ℕ) (x : ℕ) → x < 65536 → IsTrue (is_among x words) → Lists (packed (gathered words)) x
gathered_lists words x word h = packed_lists (gathered words) x (all_new words x none_gathered none_bound h) word

-- ---- one word of each

among_mapped : (f : ℕ → ℕ) (xs : List ℕ) (x : ℕ) → IsTrue (is_among x xs) → IsTrue (is_among (f x) (map f xs))
among_mapped f [] x h = absurd cc
among_mapped f (y ∷ ys) x h = among_cons y x ys (λ e. rw e (among_front (f x) (map f ys))) (λ r. among_behind (f y) (f x) (map f ys) (among_mapped f ys x r)) h

among_filtered : (p : ℕ → Bool) (xs : List ℕ) (x : ℕ) → p x ≡ true → IsTrue (is_among x xs) → IsTrue (is_among x (filter p xs))
among_filtered p [] x is h = absurd cc
among_filtered p (y ∷ ys) x is h = among_cons y x ys (λ e. first e) (λ r. later (p y) (among_filtered p ys x is r)) h
  where
    first : y ≡ x → IsTrue (is_among x (filter p (y ∷ ys)))
    first e = rw (e, is) (among_front x (filter p ys))

    later : (b : Bool) → IsTrue (is_among x (filter p ys)) → IsTrue (is_among x (if b then y ∷ filter p ys else filter p ys))
    later true r = among_behind y x (filter p ys) r
    later false r = r

among_left : (xs ys : List ℕ) (x : ℕ) → IsTrue (is_among x xs) → IsTrue (is_among x (xs ++ ys))
among_left [] ys x h = absurd cc
among_left (z ∷ zs) ys x h = among_cons z x zs (λ e. rw e (among_front x (zs ++ ys))) (λ r. among_behind z x (zs ++ ys) (among_left zs ys x r)) h

among_right : (xs ys : List ℕ) (x : ℕ) → IsTrue (is_among x ys) → IsTrue (is_among x (xs ++ ys))
among_right [] ys x h = h
among_right (z ∷ zs) ys x h = among_behind z x (zs ++ ys) (among_right zs ys x h)

unary_by : (op : UnaryOp) (a : Values) (x : ℕ) (few : Option (List ℕ)) → members a ≡ few → Lists a x → Lists (unary_few op a few) (transform op x)
unary_by op a x (Some xs) e h = gathered_lists _ _ (transformed_small op x h.word) (among_mapped (transform op) xs x (members_has a xs x e h))
unary_by op a x None e h = run_has _ _ (interval_sound.unary op (hull a) x (hull_has a x h))

unary_lists : (op : UnaryOp) (a : Values) (x : ℕ) → Lists a x → Lists (unary op a) (transform op x)
unary_lists Not a x h = unary_by Not a x (members a) refl h
unary_lists Keep a x h = h

-- ---- two words

among_row : (op : BinaryOp) (x : ℕ) (ys : List ℕ) (y : ℕ) → is_defined op y ≡ true → IsTrue (is_among y ys) → IsTrue (is_among (apply op x y) (row op x ys))
among_row op x ys y defined h = among_mapped (apply op x) (filter (is_defined op) ys) y (among_filtered (is_defined op) ys y defined h)

among_rows : (op : BinaryOp) (xs ys : List ℕ) (x y : ℕ) → is_defined op y ≡ true → IsTrue (is_among x xs) → IsTrue (is_among y ys) → IsTrue (is_among (apply op x y) (rows op xs ys))
unfolding rows
among_rows op [] ys x y defined h k = absurd cc
among_rows op (z ∷ zs) ys x y defined h k = among_cons z x zs
    (λ e. among_left (row op z ys) (rows op zs ys) (apply op x y) (rw e (among_row op x ys y defined k)))
    (λ r. among_right (row op z ys) (rows op zs ys) (apply op x y) (among_rows op zs ys x y defined r k)) h

binary_by : (op : BinaryOp) (a b : Values) (x y : ℕ) (few others : Option (List ℕ)) → members a ≡ few → members b ≡ others → Lists a x → Lists b y → is_defined op y ≡ true → Lists (binary_few op a b few others) (apply op x y)
binary_by op a b x y (Some xs) (Some ys) e f i j defined = gathered_lists _ _ (applied_small op x y i.word j.word) (among_rows op xs ys x y defined (members_has a xs x e i) (members_has b ys y f j))
binary_by op a b x y (Some xs) None e f i j defined = run_has _ _ (interval_sound.binary op (hull a) (hull b) x y (hull_has a x i) (hull_has b y j) defined)
binary_by op a b x y None ys e f i j defined = run_has _ _ (interval_sound.binary op (hull a) (hull b) x y (hull_has a x i) (hull_has b y j) defined)

-- ---- sets joined and met

join_left_by : (a b : Values) (x : ℕ) (few others : Option (List ℕ)) → members a ≡ few → Lists a x → Lists (join_few a b few others) x
join_left_by a b x (Some xs) (Some ys) e h = gathered_lists _ _ h.word (among_left xs ys x (members_has a xs x e h))
join_left_by a b x (Some xs) None e h = run_has _ _ (interval_sound.join_left (hull a) (hull b) x (hull_has a x h))
join_left_by a b x None ys e h = run_has _ _ (interval_sound.join_left (hull a) (hull b) x (hull_has a x h))

join_right_by : (a b : Values) (x : ℕ) (few others : Option (List ℕ)) → members b ≡ others → Lists b x → Lists (join_few a b few others) x
join_right_by a b x (Some xs) (Some ys) e h = gathered_lists _ _ h.word (among_right xs ys x (members_has b ys x e h))
join_right_by a b x (Some xs) None e h = run_has _ _ (interval_sound.join_right (hull a) (hull b) x (hull_has b x h))
join_right_by a b x None ys e h = run_has _ _ (interval_sound.join_right (hull a) (hull b) x (hull_has b x h))

common_lists : (a : Values) (words : List ℕ) (x : ℕ) → x < 65536 → IsTrue (has a x) → IsTrue (is_among x words) → MatchOption (found (gathered (filter (has a) words))) ⊥ (λ c. Lists c x)
common_lists a words x word h k = found_lists (gathered (filter (has a) words)) x (all_new (filter (has a) words) x none_gathered none_bound (among_filtered (has a) words x h k)) word

run_met : (r : Option Interval) (x : ℕ) → MatchOption r ⊥ (λ c. Has c x) → MatchOption (run_if r) ⊥ (λ c. Lists c x)
run_met None x h = h
run_met (Some i) x h = run_has i x h

meet_lists : (a b : Values) (x : ℕ) → Lists a x → Lists b x → MatchOption (meet a b) ⊥ (λ c. Lists c x)
meet_lists (Run i) (Run j) x h k = run_met (interval.meet i j) x (interval_sound.meet i j x (has_run i x h) (has_run j x k))
meet_lists (Run i) (AList s) x h k = common_lists (Run i) s.few x h.word h.member k.member
meet_lists (AList s) b x h k = common_lists b s.few x h.word k.member h.member

-- ---- edges

both_have : (p q : Option Values) (x y : ℕ) → MatchOption p ⊥ (λ i. Lists i x) → MatchOption q ⊥ (λ j. Lists j y) → MatchOption (both p q) ⊥ (λ r. Lists r.0 x × Lists r.1 y)
both_have None q x y h k = absurd h
both_have (Some a) None x y h k = absurd k
both_have (Some a) (Some b) x y h k = (h, k)

narrow_lists : (a b : Values) (x y : ℕ) (p : Option (Interval × Interval)) → Lists a x → Lists b y → MatchOption p ⊥ (λ p. Has p.0 x × Has p.1 y) → MatchOption (narrow_to a b p) ⊥ (λ r. Lists r.0 x × Lists r.1 y)
narrow_lists a b x y None i j h = h
narrow_lists a b x y (Some p) i j h = both_have _ _ x y (meet_lists a (Run p.0) x i (run_has p.0 x h.0)) (meet_lists b (Run p.1) y j (run_has p.1 y h.1))

known_lists : (a : Values) (n x : ℕ) → known a ≡ Some n → Lists a x → x ≡ n
known_lists (Run i) n x e h = interval_sound.known i n x e (has_run i x h)
known_lists (AList s) n x e h = absurd cc

pub values_sound : AreSound values_operations
values_sound = record {
  single = λ x word. run_has _ x (interval_sound.single x word);
  any = λ x word. run_has _ x (interval_sound.any x word);
  between = λ lo hi x l h word. run_has _ x (between_has lo hi x l h word);
  lowest = lowest_lies;
  highest = highest_lies;
  known = known_lists;
  known_single = λ x word. interval_sound.known_single x word;
  few = members_has;
  packed = packed_lists;
  join_left = λ a b x h. join_left_by a b x (members a) (members b) refl h;
  join_right = λ a b x h. join_right_by a b x (members a) (members b) refl h;
  meet = meet_lists;
  unary = unary_lists;
  binary = λ op a b x y i j defined. binary_by op a b x y (members a) (members b) refl refl i j defined;
  narrow = λ q c a b x y i j is. narrow_lists a b x y (interval.narrow q c (hull a) (hull b)) i j (interval_sound.narrow q c (hull a) (hull b) x y (hull_has a x i) (hull_has b y j) is);
}
