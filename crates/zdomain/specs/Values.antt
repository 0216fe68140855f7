-- Sets of words that are intervals or short lists (own).
use Rattle.std.specs.Prelude.{◌≡◌, ℕ, ◌+◌, ◌-◌, ◌%◌, Bool, true, false, ◌&&◌, if◌then◌else◌, Option, Some, None, unwrap_or, List, [], ◌∷◌, ◌++◌, map, T, IsTrue, int_le, nat_lt, refl}
use Rattle.std.specs.List.{filter}
use Rattle.std.proofs.Common.{sym, subst}
use Rattle.zword.specs.Binary.{signed, apply, is_defined}
use Rattle.zword.specs.Unary.{transform}
use Rattle.zword.specs.declared.unary.UnaryOp.{UnaryOp}
use Rattle.zword.specs.declared.unary.UnaryOp.TheVariants.{Not, Keep}
use Rattle.zword.specs.declared.binary.BinaryOp.{BinaryOp}
use Rattle.zword.specs.declared.question.Question.{Question}
use Rattle.zdomain.specs.declared.interval.Interval.{Interval}
use Rattle.zdomain.specs.declared.values.Values.{Values}
use Rattle.zdomain.specs.declared.values.Values.TheVariants.{Run, List as AList}
use Rattle.zdomain.specs.Domain.{SetOperations}
use Rattle.zdomain.specs.Interval as interval
use Rattle.zdomain.specs.Few.{turned, is_among, words_from, Gathering, gathered, is_scattered, first_of, last_of}

-- the words from one to another
abbrev pub between : ℕ → ℕ → Interval
between least greatest = unwrap_or (interval.interval_of (signed least) (signed greatest)) interval.all_words

-- it has the word
abbrev pub has : Values → ℕ → Bool
has (Run i) word = int_le i.lo (signed word) && int_le (signed word) i.hi
has (AList s) word = is_among word s.few

abbrev pub lowest : Values → ℕ
lowest (Run i) = interval.interval_operations.lowest i
lowest (AList s) = first_of s.few % 65536

abbrev pub highest : Values → ℕ
highest (Run i) = interval.interval_operations.highest i
highest (AList s) = last_of s.few % 65536

-- the interval from the least to the greatest
abbrev pub hull : Values → Interval
hull (Run i) = i
hull (AList s) = between (lowest (AList s)) (highest (AList s))

-- all words from the least to the greatest, where they are at most 64
abbrev pub run_members : ℕ → ℕ → Option (List ℕ)
run_members least more = if nat_lt more 64 then Some (words_from least (more + 1)) else None

-- the members, where they are at most 64
abbrev pub members : Values → Option (List ℕ)
members (Run i) = run_members (lowest (Run i)) (turned (highest (Run i)) - turned (lowest (Run i)))
members (AList s) = Some s.few

-- a list, where it is scattered, and else an interval
abbrev pub list_where : Interval → (words : List ℕ) (b : Bool) → is_scattered words ≡ b → Values
list_where other words true e = AList (record { few = words; scattered = record { is = subst T (sym e) tt } })
list_where other words false e = Run other

abbrev pub list_or : Interval → Option (List ℕ) → Values
list_or other None = Run other
list_or other (Some words) = list_where other words (is_scattered words) refl

-- The set of what was gathered: an interval, where that has no other words or there are many, and else the list. Of nothing it is the set
-- of all words
abbrev pub packed : Gathering → Values
packed g = list_or (between (turned g.least) (turned g.greatest)) g.few

-- nothing was gathered
abbrev pub is_empty : Gathering → Bool
is_empty g = nat_lt g.greatest g.least

abbrev pub found : Gathering → Option Values
found g = if is_empty g then None else Some (packed g)

-- what an operation makes of a word and each of a list by which it is defined
abbrev pub row : BinaryOp → ℕ → List ℕ → List ℕ
row op x ys = map (apply op x) (filter (is_defined op) ys)

-- what it makes of each of one list with each of another
unfoldable pub rows : BinaryOp → List ℕ → List ℕ → List ℕ
rows op [] ys = []
rows op (x ∷ xs) ys = row op x ys ++ rows op xs ys

abbrev pub unary_few : UnaryOp → Values → Option (List ℕ) → Values
unary_few op a (Some xs) = packed (gathered (map (transform op) xs))
unary_few op a None = Run (interval.unary op (hull a))

abbrev pub unary : UnaryOp → Values → Values
unary Not a = unary_few Not a (members a)
unary Keep a = a

abbrev pub binary_few : BinaryOp → Values → Values → Option (List ℕ) → Option (List ℕ) → Values
binary_few op a b (Some xs) (Some ys) = packed (gathered (rows op xs ys))
binary_few op a b (Some xs) None = Run (interval.binary op (hull a) (hull b))
binary_few op a b None ys = Run (interval.binary op (hull a) (hull b))

abbrev pub binary : BinaryOp → Values → Values → Values
binary op a b = binary_few op a b (members a) (members b)

abbrev pub join_few : Values → Values → Option (List ℕ) → Option (List ℕ) → Values
join_few a b (Some xs) (Some ys) = packed (gathered (xs ++ ys))
join_few a b (Some xs) None = Run (interval.join (hull a) (hull b))
join_few a b None ys = Run (interval.join (hull a) (hull b))

abbrev pub join : Values → Values → Values
join a b = join_few a b (members a) (members b)

abbrev pub run_if : Option Interval → Option Values
run_if None = None
run_if (Some i) = Some (Run i)

abbrev pub meet : Values → Values → Option Values
meet (Run i) (Run j) = run_if (interval.meet i j)
meet (Run i) (AList s) = found (gathered (filter (has (Run i)) s.few))
meet (AList s) b = found (gathered (filter (has b) s.few))

abbrev pub both : Option Values → Option Values → Option (Values × Values)
both None b = None
both (Some a) None = None
both (Some a) (Some b) = Some (a, b)

-- the members that lie in what is left of the hulls
abbrev pub narrow_to : Values → Values → Option (Interval × Interval) → Option (Values × Values)
narrow_to a b None = None
narrow_to a b (Some p) = both (meet a (Run p.0)) (meet b (Run p.1))

abbrev pub narrow : Question → Bool → Values → Values → Option (Values × Values)
narrow q c a b = narrow_to a b (interval.narrow q c (hull a) (hull b))

abbrev pub known : Values → Option ℕ
known (Run i) = interval.interval_operations.known i
known (AList s) = None

abbrev pub values_operations : SetOperations Values
values_operations = record {
  has = λ a word. IsTrue (has a word);
  single = λ word. Run (interval.point word);
  any = Run interval.all_words;
  between = λ lo hi. Run (between lo hi);
  lowest = lowest;
  highest = highest;
  known = known;
  few = members;
  packed = packed;
  join = join;
  meet = meet;
  unary = unary;
  binary = binary;
  narrow = narrow;
}
