-- A proof of the law: sets of version 2 meet it.
use Rattle.std.proofs.Common.{◌≡◌, ℕ, zero, suc, ◌+◌, ◌<◌, Bool, true, false, List, [], ◌∷◌, ◌++◌, length, Ok, Err, refl, sym, ap, subst, ◌∙◌, append_assoc, arith}
use Rattle.std.specs.Prelude.{◌&&◌, nat_le, ◌-◌, T}
use Rattle.std.specs.List.{flat_map}
use Rattle.std.proofs.lemmas.Bool.{leb-true, le-leb}
use Rattle.std.proofs.Math.Dec.{T_prop}
use Rattle.zdomain.specs.declared.values.Values.{Values}
use Rattle.zdomain.specs.declared.values.Values.TheVariants.{Run, List as AList}
use Rattle.zdomain.specs.declared.values.Scattered.{Scattered}
use Rattle.zdomain.specs.declared.interval.Interval.{Interval}
use Rattle.zdomain.specs.Few.{rises, is_scattered, IsScattered}
use Rattle.zcert.specs.declared.error.CertError.TheVariants.{Truncated, ListForm}
use Rattle.zcert.specs.declared.interval_spelled.Begun.TheVariants as begun
use Rattle.zcert.specs.declared.values_spelled.Unfinished.{Unfinished}
use Rattle.zcert.specs.declared.values_spelled.Unfinished.TheVariants as unfinished
use Rattle.zcert.specs.Numbers.{Kind, WordCount, Word, End, number}
use Rattle.zcert.specs.Steps.{◌>>=◌, need, number_at}
use Rattle.zcert.specs.Format.{interval_format}
use Rattle.zcert.specs.Lists.{words_at, list_where, list_of, run_at, list_at, set_at, set_bytes, HasBytes, values_format}
use Rattle.zcert.specs.Turns.{AreTurns}
use Rattle.zcert.specs.Coming.{list_bytes, floor_behind, IsComing}
use Rattle.zcert.specs.Unfinished.{set_came, set_awaited, values_turns}
use Rattle.zcert.specs.FormatLaw.{IsBytes, Takes, IsPlain, IsFormat}
use Rattle.zcert.specs.FormatLaw.Intervals.{interval_is_format, intervals_are_turns}
use Rattle.zcert.specs.FormatLaw.Stepping.{IsBytes-append, IsBytes-number, Takes-then, bind_ok, need_ok, ok_is, number_takes, number_again, plain_then, plain_ok, plain_need, plain_sized}
use Rattle.zcert.specs.FormatLaw.Steady.{IsSteady, steady_then, steady_need, steady_of, steady_sized}
use Rattle.zcert.specs.FormatLaw.Widths.{sized_short}
use Rattle.zcert.specs.FormatLaw.Words.{words_take, words_again, words_whole, plain_words, steady_words, all_rise}

-- ---- what is read is spelled so

-- the bytes behind the kind
abbrev tail_bytes : Values → List ℕ
tail_bytes (Run i) = interval_format.spelled i
tail_bytes (AList s) = number WordCount (length s.few) ++ flat_map (number Word) s.few

abbrev kind_of : Values → ℕ
kind_of (Run i) = 0
kind_of (AList s) = 1

abbrev IsTaken : ℕ → List ℕ → Values × List ℕ → Type 0
IsTaken kind bytes found = Takes bytes (tail_bytes found.0) found.1 × (kind_of found.0 ≡ kind) × HasBytes found.0

run_takes : (bytes : List ℕ) (v : Values) (rest : List ℕ) → IsBytes bytes → run_at bytes ≡ Ok (v, rest) → IsTaken 0 bytes (v, rest)
run_takes bytes v rest fits e =
    let a = bind_ok (interval_format.value_at bytes) (λ run. Ok (Run run.0, run.1)) (v, rest) e in
    let run = interval_is_format.takes bytes a.0.0 a.0.1 fits a.1 in
    let made : Values × List ℕ = (Run a.0.0, a.0.1) in
    subst (IsTaken 0 bytes) {x = made} (ok_is made (v, rest) a.2) (run.0, refl, run.1)

-- a list of words is these words
list_by : (words : List ℕ) (b : Bool) (e : is_scattered words ≡ b) (v : Values) → list_where words b e ≡ Ok v → (s : Scattered) × (AList s ≡ v) × (s.few ≡ words)
list_by words true e v f = (record { few = words; scattered = record { is = subst T (sym e) tt } }, ok_is _ v f, refl)
list_by words false e v f = absurd cc

list_takes : (bytes : List ℕ) (v : Values) (rest : List ℕ) → IsBytes bytes → list_at bytes ≡ Ok (v, rest) → IsTaken 1 bytes (v, rest)
list_takes bytes v rest fits e =
    let a = bind_ok (number_at WordCount bytes) (λ count. need (nat_le 2 count.0 && nat_le count.0 64) ListForm >>= λ _. words_at count.0 0 count.1 >>= λ words. list_of words.0 >>= λ list. Ok (list, words.1)) (v, rest) e in
    let count = a.0.0 in
    let b = need_ok (nat_le 2 count && nat_le count 64) ListForm (λ _. words_at count 0 a.0.1 >>= λ words. list_of words.0 >>= λ list. Ok (list, words.1)) (v, rest) a.2 in
    let c = bind_ok (words_at count 0 a.0.1) (λ words. list_of words.0 >>= λ list. Ok (list, words.1)) (v, rest) b.1 in
    let d = bind_ok (list_of c.0.0) (λ list. Ok (list, c.0.1)) (v, rest) c.2 in
    let l = list_by c.0.0 (is_scattered c.0.0) refl d.0 d.1 in
    let first = number_takes WordCount bytes count a.0.1 fits a.1 in
    let others = words_take count 0 a.0.1 c.0.0 c.0.1 first.0.rest_fits c.1 in
    let both = Takes-then bytes (number WordCount count) a.0.1 (flat_map (number Word) c.0.0) c.0.1 first.0 others.0 in
    let made : Values × List ℕ = (AList l.0, c.0.1) in
    let same : made ≡ (d.0, c.0.1) = ap (λ (w : Values). (w, c.0.1)) l.1 in
    subst (IsTaken 1 bytes) {x = made} (same ∙ ok_is (d.0, c.0.1) (v, rest) d.2) (
      rw (l.2, others.2) both,
      refl,
      rw l.2 others.1,
    )

set_takes : (kind : ℕ) (bytes : List ℕ) (v : Values) (rest : List ℕ) → IsBytes bytes → set_at kind bytes ≡ Ok (v, rest) → IsTaken kind bytes (v, rest)
set_takes zero bytes v rest fits e = run_takes bytes v rest fits e
set_takes (suc zero) bytes v rest fits e = list_takes bytes v rest fits e
set_takes (suc (suc kind)) bytes v rest fits e = absurd cc

parts_of : (v : Values) → set_bytes v ≡ number Kind (kind_of v) ++ tail_bytes v
parts_of (Run i) = refl
parts_of (AList s) = refl

value_takes : (bytes : List ℕ) (v : Values) (rest : List ℕ) → IsBytes bytes → values_format.value_at bytes ≡ Ok (v, rest) → Takes bytes (set_bytes v) rest × HasBytes v
value_takes bytes v rest fits e =
    let a = bind_ok (number_at Kind bytes) (λ kind. set_at kind.0 kind.1) (v, rest) e in
    let first = number_takes Kind bytes a.0.0 a.0.1 fits a.1 in
    let others = set_takes a.0.0 a.0.1 v rest first.0.rest_fits a.2 in
    let both = Takes-then bytes (number Kind a.0.0) a.0.1 (tail_bytes v) rest first.0 others.0 in
    (rw (parts_of v, others.1) both, others.2)

-- ---- a spelling has bytes

IsBytes-words : (words : List ℕ) → IsBytes (flat_map (number Word) words)
IsBytes-words [] = λ i. omega arith
IsBytes-words (x ∷ xs) = IsBytes-append (number Word x) (flat_map (number Word) xs) (IsBytes-number Word x) (IsBytes-words xs)

IsBytes-list : (count : ℕ) (words : List ℕ) → IsBytes (list_bytes count words)
IsBytes-list count words = IsBytes-append (number Kind 1) (number WordCount count ++ flat_map (number Word) words) (IsBytes-number Kind 1) (
    IsBytes-append (number WordCount count) (flat_map (number Word) words) (IsBytes-number WordCount count) (IsBytes-words words))

IsBytes-set : (v : Values) → HasBytes v → IsBytes (set_bytes v)
IsBytes-set (Run i) has = IsBytes-append (number Kind 0) (interval_format.spelled i) (IsBytes-number Kind 0) (interval_is_format.bytes i has)
IsBytes-set (AList s) has = IsBytes-list (length s.few) s.few

set_is_long : (v : Values) → 0 < length (set_bytes v)
set_is_long (Run i) = omega arith
set_is_long (AList s) = omega arith

-- ---- and is read again

run_again : (i : Interval) (rest : List ℕ) → HasBytes (Run i) → values_format.value_at (set_bytes (Run i) ++ rest) ≡ Ok (Run i, rest)
run_again i rest has =
    let regrouped : set_bytes (Run i) ++ rest ≡ number Kind 0 ++ (interval_format.spelled i ++ rest) = append_assoc (number Kind 0) (interval_format.spelled i) rest in
    ap values_format.value_at regrouped ∙ rw (number_again Kind 0 (interval_format.spelled i ++ rest) (omega arith), interval_is_format.again i rest has) refl

both_true : (a b : Bool) → (a && b) ≡ true → (a ≡ true) × (b ≡ true)
both_true true b e = (refl, e)
both_true false b e = absurd cc

pub is_true : (b : Bool) → T b → b ≡ true
is_true true t = refl
is_true false t = absurd t

-- how many they are, and that they rise
pub record AreListed (words : List ℕ) : Type 0 where
  pub some : nat_le 2 (length words) ≡ true
  pub few : nat_le (length words) 64 ≡ true
  pub rise : rises words ≡ true

pub listed_by : (words : List ℕ) → is_scattered words ≡ true → AreListed words
unfolding is_scattered
listed_by words e =
    let a = both_true (nat_le 2 (length words)) _ e in
    let b = both_true (nat_le (length words) 64) _ a.1 in
    let c = both_true (rises words) _ b.1 in
    record { some = a.0; few = b.0; rise = c.0 }

pub one_way : (words : List ℕ) (p q : IsScattered words) → p ≡ q
one_way words p q = ap (λ t. record { is = t }) (T_prop _ p.is q.is)

pub list_back : (words : List ℕ) (are : IsScattered words) (b : Bool) (e : is_scattered words ≡ b) → b ≡ true → list_where words b e ≡ Ok (AList (record { few = words; scattered = are }))
list_back words are true e is = ap (λ (p : IsScattered words). Ok (AList (record { few = words; scattered = p }))) (one_way words _ are)
list_back words are false e is = absurd cc

-- behind kind and count a list is read by its words
pub list_read : (count : ℕ) (words rest : List ℕ) → nat_le 2 count ≡ true → nat_le count 64 ≡ true → values_format.value_at (list_bytes count words ++ rest) ≡ (words_at count 0 (flat_map (number Word) words ++ rest) >>= λ found. list_of found.0 >>= λ list. Ok (list, found.1))
list_read count words rest some few =
    let back = flat_map (number Word) words in
    let regrouped : list_bytes count words ++ rest ≡ number Kind 1 ++ (number WordCount count ++ (back ++ rest)) = append_assoc (number Kind 1) (number WordCount count ++ back) rest ∙ ap (λ (t : List ℕ). number Kind 1 ++ t) (append_assoc (number WordCount count) back rest) in
    let room : count < 256 = omega (arith, leb-true count 64 few) in
    ap values_format.value_at regrouped ∙ rw (number_again Kind 1 (number WordCount count ++ (back ++ rest)) (omega arith), number_again WordCount count (back ++ rest) room, some, few) refl

list_again : (s : Scattered) (rest : List ℕ) → HasBytes (AList s) → values_format.value_at (set_bytes (AList s) ++ rest) ≡ Ok (AList s, rest)
list_again s rest has =
    let is = is_true (is_scattered s.few) s.scattered.is in
    let listed = listed_by s.few is in
    list_read (length s.few) s.few rest listed.some listed.few
    ∙ rw (words_whole s.few rest (all_rise s.few listed.rise has), list_back s.few s.scattered (is_scattered s.few) refl is) refl

set_again : (v : Values) (rest : List ℕ) → HasBytes v → values_format.value_at (set_bytes v ++ rest) ≡ Ok (v, rest)
set_again (Run i) rest has = run_again i rest has
set_again (AList s) rest has = list_again s rest has

-- ---- reading wants no memory, and what isn't cut off stays

plain_list : (words : List ℕ) (b : Bool) (e : is_scattered words ≡ b) → IsPlain (list_where words b e)
plain_list words true e f = absurd cc
plain_list words false e f = absurd cc

plain_set : (kind : ℕ) (bytes : List ℕ) → IsPlain (set_at kind bytes)
plain_set zero bytes = plain_then (interval_format.value_at bytes) _ (interval_is_format.plain bytes) (λ run. plain_ok (Run run.0, run.1))
plain_set (suc zero) bytes =
    plain_then (number_at WordCount bytes) _ (plain_sized 1 bytes) (λ count.
    plain_then (need (nat_le 2 count.0 && nat_le count.0 64) ListForm) _ (plain_need (nat_le 2 count.0 && nat_le count.0 64) ListForm (λ e. absurd cc)) (λ _.
    plain_then (words_at count.0 0 count.1) _ (plain_words count.0 0 count.1) (λ words.
    plain_then (list_of words.0) _ (plain_list words.0 (is_scattered words.0) refl) (λ list. plain_ok (list, words.1)))))
plain_set (suc (suc kind)) bytes = λ e. absurd cc

plain_value : (bytes : List ℕ) → IsPlain (values_format.value_at bytes)
plain_value bytes = plain_then (number_at Kind bytes) _ (plain_sized 1 bytes) (λ kind. plain_set kind.0 kind.1)

steady_set : (kind : ℕ) → IsSteady (set_at kind)
steady_set zero = steady_then interval_format.value_at (λ run bytes. Ok (Run run, bytes)) interval_is_format.stays (λ run bytes more whole. refl)
steady_set (suc zero) =
    steady_then (number_at WordCount) (λ count bytes. need (nat_le 2 count && nat_le count 64) ListForm >>= λ _. words_at count 0 bytes >>= λ words. list_of words.0 >>= λ list. Ok (list, words.1)) (steady_sized 1) (λ count.
    steady_need (nat_le 2 count && nat_le count 64) ListForm (λ bytes. words_at count 0 bytes >>= λ words. list_of words.0 >>= λ list. Ok (list, words.1)) (
    steady_then (words_at count 0) (λ words bytes. list_of words >>= λ list. Ok (list, bytes)) (steady_words count 0) (λ words. steady_of (list_of words))))
steady_set (suc (suc kind)) = λ bytes more whole. refl

pub values_is_format : IsFormat values_format
values_is_format = record {
  version = omega arith;
  apart = λ e. absurd cc;
  unmarked = λ e. absurd cc;
  unstated = λ e. absurd cc;
  takes = value_takes;
  bytes = IsBytes-set;
  long = set_is_long;
  again = set_again;
  none = refl;
  stays = steady_then (number_at Kind) set_at (steady_sized 1) steady_set;
  plain = plain_value;
}

-- ---- without all bytes of its next number a set is cut off

-- of a run as of an interval
run_short : (bytes : List ℕ) → interval_format.value_at bytes ≡ Err Truncated → values_format.value_at (number Kind 0 ++ bytes) ≡ Err Truncated
run_short bytes short = rw (number_again Kind 0 bytes (omega arith), short) refl

words_short : (n floor : ℕ) (bytes : List ℕ) → 0 < n → length bytes < 2 → words_at n floor bytes ≡ Err Truncated
unfolding words_at
words_short zero floor bytes some short = absurd (omega (arith, some))
words_short (suc n) floor bytes some short = rw (sized_short 2 bytes short) refl

list_short : (count floor : ℕ) (words bytes : List ℕ) → IsComing count floor words → length bytes < 2 → values_format.value_at (list_bytes count words ++ bytes) ≡ Err Truncated
list_short count floor words bytes is short =
    let more = count - length words in
    let all : count ≡ length words + more = omega (arith, is.more) in
    list_read count words bytes (le-leb 2 count is.some) (le-leb count 64 is.few)
    ∙ ap (λ n. words_at n 0 (flat_map (number Word) words ++ bytes) >>= λ found. list_of found.0 >>= λ list. Ok (list, found.1)) all
    ∙ rw (words_again words 0 more bytes is.rise, words_short more (floor_behind 0 words) bytes (omega (arith, is.more)) short) refl

set_short : (p : Unfinished) (bytes : List ℕ) → length bytes < set_awaited p → values_format.value_at (set_came p ++ bytes) ≡ Err Truncated
set_short unfinished.Nothing bytes short = rw (sized_short 1 bytes short) refl
set_short unfinished.Run bytes short = run_short bytes (intervals_are_turns.short begun.Nothing bytes short)
set_short (unfinished.Lower lo) bytes short =
    ap values_format.value_at (append_assoc (number Kind 0) (number End lo) bytes) ∙ run_short (number End lo ++ bytes) (intervals_are_turns.short (begun.Lower lo) bytes short)
set_short unfinished.List bytes short = rw (number_again Kind 1 bytes (omega arith), sized_short 1 bytes short) refl
set_short (unfinished.Words list) bytes short = list_short list.count list.floor list.words.items bytes list.coming short

IsBytes-came : (p : Unfinished) → IsBytes (set_came p)
IsBytes-came unfinished.Nothing = λ i. omega arith
IsBytes-came unfinished.Run = IsBytes-number Kind 0
IsBytes-came (unfinished.Lower lo) = IsBytes-append (number Kind 0) (number End lo) (IsBytes-number Kind 0) (IsBytes-number End lo)
IsBytes-came unfinished.List = IsBytes-number Kind 1
IsBytes-came (unfinished.Words list) = IsBytes-list list.count list.words.items

pub values_are_turns : AreTurns values_format values_turns
values_are_turns = record { short = set_short; bytes = IsBytes-came }
