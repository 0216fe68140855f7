-- Words stay words, and bytes bytes.
use Rattle.std.proofs.Common.{◌≡◌, ℕ, zero, suc, ◌+◌, ◌-◌, ◌/◌, ◌%◌, ◌<◌, ◌≤◌, take, drop, slice_set, Option, Some, None, Bool, true, false, List, [], ◌∷◌, ◌++◌, length, Ok, refl, ap, subst, ◌∙◌, arith, if◌then◌else◌, nat_lt, inl, inr}
use Rattle.std.specs.Prelude.{◌==◌, slice_get, slice_index}
use Rattle.std.specs.List.{AllByRecursion}
use Rattle.std.proofs.lemmas.Bool.{cases_lt}
use Rattle.std.proofs.lemmas.Bool.Decides.{eqb_tells}
use Rattle.std.proofs.lemmas.List.{length-set, get_or-drop, get_or-set_same, get_or-set_other, get_or_past}
use Rattle.std.proofs.lemmas.Option.{get_or_from_slice_get}
use Rattle.zline.specs.Storing.{with_bytes}
use Rattle.zobj.specs.declared.tree.Link.{Link}
use Rattle.zobj.specs.Entries.{HasTable}
use Rattle.zobj.specs.Tree.{link_byte, linked}
use Rattle.zobj.proofs.Tables.{table_put}
use Rattle.zcode.specs.declared.instr.Operand.{Operand}
use Rattle.zcode.specs.declared.instr.Operand.TheVariants.{Constant, Variable}
use Rattle.zcode.proofs.Ranges.{InRange}
use Rattle.zfault.specs.declared.fault.Fault.{Fault}
use Rattle.zfault.specs.declared.fault.Fault.TheVariants.{AbsentLocal, BadVariable, StackUnderflow}
use Rattle.zstory.specs.Bytes.{AreBytes, byte_at, word_at}
use Rattle.zstory.specs.Header.{object_table}
use Rattle.zstory.specs.LoadedStory.{LoadedStory}
use Rattle.zstory.specs.Objects.{object_place}
use Rattle.zstate.specs.InTurn.{◌>>=◌, in_turn}
use Rattle.zstate.specs.State.{State, AreWords, fault, found, global, pop, read_named, read_variable, read_operand, read_operands, read_in_place, with_stack, write_word}
use Rattle.zstate.specs.Step.{laid_over, words_from, arguments}
use Rattle.zstate.proofs.Steps.{bind_ok, done, ok_is}

-- ---- lists of numbers below a bound

abbrev Below : ℕ → List ℕ → Type 0
Below bound xs = (k : ℕ) → slice_index xs k < bound

set_below : (bound : ℕ) (xs : List ℕ) (at x : ℕ) → x < bound → Below bound xs → Below bound (slice_set xs at x)
set_below bound xs at x small below k = elim (eqb_tells k at) [
  | inr other ↦ let e : slice_index (slice_set xs at x) k ≡ slice_index xs k = get_or-set_other xs at k x 0 other.1 in omega (arith, e, below k)
  | inl same ↦ elim (cases_lt at (length xs)) [
    | inl inside ↦ let e : slice_index (slice_set xs at x) k ≡ x = ap (slice_index (slice_set xs at x)) same.1 ∙ get_or-set_same xs at x 0 inside in omega (arith, e, small)
    | inr outside ↦ let e : slice_index (slice_set xs at x) k ≡ 0 = get_or_past (slice_set xs at x) k 0 (let size : length (slice_set xs at x) ≡ length xs = length-set xs at x in omega (arith, size, same.1, outside)) in omega (arith, e, small)
  ]
]

cons_below : (bound x : ℕ) (xs : List ℕ) → x < bound → Below bound xs → Below bound (x ∷ xs)
cons_below bound x xs small below zero = small
cons_below bound x xs small below (suc k) = below k

take_below : (bound n : ℕ) (xs : List ℕ) → 0 < bound → Below bound xs → Below bound (take n xs)
take_below bound zero xs some below k = some
take_below bound (suc n) [] some below k = some
take_below bound (suc n) (x ∷ xs) some below zero = below 0
take_below bound (suc n) (x ∷ xs) some below (suc k) = take_below bound n xs some (λ i. below (suc i)) k

pub words_set : (words : List ℕ) (at x : ℕ) → x < 65536 → AreWords words → AreWords (slice_set words at x)
words_set words at x small are = set_below 65536 words at x small are

pub words_pushed : (x : ℕ) (words : List ℕ) → x < 65536 → AreWords words → AreWords (x ∷ words)
words_pushed x words small are = cons_below 65536 x words small are

pub no_words : AreWords []
no_words k = omega arith

pub bytes_set : (memory : List ℕ) (at x : ℕ) → x < 256 → AreBytes memory → AreBytes (slice_set memory at x)
bytes_set memory at x small are = set_below 256 memory at x small are

-- the address of the table of objects stays, where another byte is written
pub table_beside : (memory : List ℕ) (at x : ℕ) → 12 ≤ at → object_table (slice_set memory at x) ≡ object_table memory
table_beside memory at x behind =
    let high : byte_at (slice_set memory at x) 10 ≡ byte_at memory 10 = get_or-set_other memory at 10 x 0 (omega (arith, behind)) in
    let low : byte_at (slice_set memory at x) 11 ≡ byte_at memory 11 = get_or-set_other memory at 11 x 0 (omega (arith, behind)) in
    omega (arith, high, low)

pub word_written : (memory : List ℕ) (at x : ℕ) → x < 65536 → AreBytes memory → AreBytes (write_word memory at x)
word_written memory at x small are = set_below 256 (slice_set memory at (x / 256)) (at + 1) (x % 256) (omega arith) (set_below 256 memory at (x / 256) (omega (arith, small)) are)

append_below : (bound : ℕ) (xs ys : List ℕ) → Below bound xs → Below bound ys → Below bound (xs ++ ys)
append_below bound [] ys a b = b
append_below bound (x ∷ xs) ys a b = cons_below bound x (xs ++ ys) (a 0) (append_below bound xs ys (λ k. a (suc k)) b)

drop_below : (bound n : ℕ) (xs : List ℕ) → Below bound xs → Below bound (drop n xs)
drop_below bound n xs below k = let e = get_or-drop n xs k 0 in omega (arith, e, below (n + k))

pub bytes_over : (place : ℕ) (bytes memory : List ℕ) → AreBytes memory → AreBytes bytes → AreBytes (with_bytes place bytes memory)
bytes_over place bytes memory are more =
    append_below 256 (take place memory) (bytes ++ drop (place + length bytes) memory) (take_below 256 place memory (omega arith) are) (append_below 256 bytes (drop (place + length bytes) memory) more (drop_below 256 (place + length bytes) memory are))

-- the table of objects stays, where that is written behind the header
pub table_written : (memory : List ℕ) (at x objects : ℕ) → 64 ≤ at → HasTable memory objects → HasTable (write_word memory at x) objects
table_written memory at x objects behind has =
    table_put (slice_set memory at (x / 256)) (at + 1) (x % 256) objects (omega (arith, behind)) (table_put memory at (x / 256) objects behind has)

pub is_word : (memory : List ℕ) (at : ℕ) → AreBytes memory → word_at memory at < 65536
is_word memory at are = omega (arith, are at, are (at + 1))

-- what a link leads to is a byte
pub is_link : (memory : List ℕ) (link : Link) (object : ℕ) → AreBytes memory → linked link memory object < 65536
is_link memory link object are = by (object == 0)
  where
    by : (b : Bool) → (if b then 0 else byte_at memory (object_place memory object + link_byte link)) < 65536
    by true = omega arith
    by false = let byte = are (object_place memory object + link_byte link) in omega (arith, byte)

-- ---- what a call begins with

words_of_head : (memory : List ℕ) (at n : ℕ) → AreBytes memory → AreWords (words_from memory at n)
unfolding words_from
words_of_head memory at zero are k = omega arith
words_of_head memory at (suc n) are zero = is_word memory at are
words_of_head memory at (suc n) are (suc k) = words_of_head memory (at + 2) n are k

words_laid : (xs ys : List ℕ) → AreWords xs → AreWords ys → AreWords (laid_over xs ys)
unfolding laid_over
words_laid [] ys a b k = b k
words_laid (x ∷ xs) [] a b k = omega arith
words_laid (x ∷ xs) (y ∷ ys) a b zero = a 0
words_laid (x ∷ xs) (y ∷ ys) a b (suc k) = words_laid xs ys (λ i. a (suc i)) (λ i. b (suc i)) k

behind_first : (values : List ℕ) → AreWords values → AreWords (drop 1 values)
behind_first [] are k = omega arith
behind_first (x ∷ values) are k = are (suc k)

pub first_words : (memory : List ℕ) (at n : ℕ) (values : List ℕ) → AreBytes memory → AreWords values → AreWords (laid_over (arguments values) (words_from memory at n))
first_words memory at n values are words = words_laid (arguments values) (words_from memory at n) (take_below 65536 3 (drop 1 values) (omega arith) (behind_first values words)) (words_of_head memory at n are)

-- ---- what is read

-- what memory and the newest frame hold
pub record HasWords (s : State) : Type 0 where
  pub bytes : AreBytes s.memory
  pub local_words : AreWords s.frame.locals
  pub stack_words : AreWords s.frame.stack

word_found : (xs : List ℕ) (k : ℕ) (f : Fault) (x : ℕ) → AreWords xs → found (slice_get xs k) f ≡ done x → x < 65536
word_found xs k f x are e = by (slice_get xs k) refl e
  where
    by : (r : Option ℕ) → slice_get xs k ≡ r → found r f ≡ done x → x < 65536
    by None is e = absurd cc
    by (Some y) is e = let there = get_or_from_slice_get xs k y 0 is in let same = ok_is y x e in omega (arith, there, same, are k)

named_word : (story : LoadedStory) (v : ℕ) (s : State) (x : ℕ) → HasWords s → read_named story v s ≡ done x → x < 65536
unfolding read_named
named_word story v s x has e = by (nat_lt v 16) e
  where
    by : (b : Bool) → (if b then found (slice_get s.frame.locals (v - 1)) AbsentLocal else Ok (word_at s.memory (global story v))) ≡ done x → x < 65536
    by true e = word_found s.frame.locals (v - 1) AbsentLocal x has.local_words e
    by false e = let same = ok_is (word_at s.memory (global story v)) x e in let word = is_word s.memory (global story v) has.bytes in omega (arith, same, word)

pub in_place_word : (story : LoadedStory) (v : ℕ) (s : State) (x : ℕ) → HasWords s → read_in_place story v s ≡ done x → x < 65536
unfolding read_in_place
in_place_word story v s x has e = by (nat_lt v 256) (v == 0) e
  where
    by : (a b : Bool) → (if a then (if b then found (slice_get s.frame.stack 0) StackUnderflow else read_named story v s) else fault BadVariable) ≡ done x → x < 65536
    by true true e = word_found s.frame.stack 0 StackUnderflow x has.stack_words e
    by true false e = named_word story v s x has e
    by false b e = absurd cc

-- a word was read, and what is left holds words
abbrev Reads : ℕ × State → Type 0
Reads r = (r.0 < 65536) × HasWords r.1

popped_word : (stack : List ℕ) (s : State) (r : ℕ × State) → s.frame.stack ≡ stack → HasWords s → pop stack s ≡ done r → Reads r
popped_word [] s r is has e = absurd cc
popped_word (x ∷ stack) s r is has e =
    let words : AreWords (x ∷ stack) = subst AreWords is has.stack_words in
    subst Reads (ok_is (x, with_stack stack s) r e) (words 0, record { bytes = has.bytes; local_words = has.local_words; stack_words = λ k. words (suc k) })

variable_word : (story : LoadedStory) (v : ℕ) (s : State) (r : ℕ × State) → HasWords s → read_variable story v s ≡ done r → Reads r
unfolding read_variable
variable_word story v s r has e = by (v == 0) e
  where
    by : (b : Bool) → (if b then pop s.frame.stack s else (read_named story v s >>= λ x. Ok (x, s))) ≡ done r → Reads r
    by true e = popped_word s.frame.stack s r refl has e
    by false e = let b = bind_ok (read_named story v s) (λ x. done (x, s)) r e in subst Reads (ok_is (b.0, s) r b.2) (named_word story v s b.0 has b.1, has)

operand_word : (story : LoadedStory) (o : Operand) (s : State) (r : ℕ × State) → InRange o → HasWords s → read_operand story o s ≡ done r → Reads r
unfolding read_operand
operand_word story (Constant n) s r range has e = subst Reads (ok_is (n, s) r e) (range, has)
operand_word story (Variable v) s r range has e = variable_word story v s r has e

-- words were read, and what is left holds words
abbrev pub ReadsAll : List ℕ × State → Type 0
ReadsAll r = AreWords r.0 × HasWords r.1

pub operands_words : (story : LoadedStory) (os : List Operand) (s : State) (r : List ℕ × State) → AllByRecursion InRange os → HasWords s → read_operands story os s ≡ done r → ReadsAll r
unfolding in_turn
operands_words story [] s r ranges has e = subst ReadsAll (ok_is ([], s) r e) (no_words, has)
operands_words story (o ∷ os) s r ranges has e =
    let a = bind_ok (read_operand story o s) _ r e in
    let b = bind_ok (read_operands story os a.0.1) _ r a.2 in
    let one = operand_word story o s a.0 ranges.0 has a.1 in
    let more = operands_words story os a.0.1 b.0 ranges.1 one.1 b.1 in
    subst ReadsAll (ok_is (a.0.0 ∷ b.0.0, b.0.1) r b.2) (words_pushed a.0.0 b.0.0 one.0 more.0, more.1)
