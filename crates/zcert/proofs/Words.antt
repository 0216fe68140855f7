-- A set of version 2 by one number more.
use Rattle.std.proofs.Common.{◌≡◌, ◌≢◌, ℕ, suc, ◌+◌, ◌-◌, ◌*◌, ◌<◌, ◌≤◌, Bool, true, false, List, [], ◌∷◌, ◌++◌, length, Option, Some, None, Result, Ok, Err, refl, sym, ap, ◌∙◌, arith}
use Rattle.std.specs.Prelude.{nat_le}
use Rattle.std.specs.List.{flat_map}
use Rattle.std.specs.Int.{w16, cast_signed}
use Rattle.std.proofs.lemmas.Bool.{le-leb, lt-leb}
use Rattle.std.proofs.lemmas.Grind.{flat_map-append}
use Rattle.byteorder.specs.Endian.{big_number}
use Rattle.zdomain.specs.declared.interval.Interval.{Interval}
use Rattle.zdomain.specs.declared.values.Scattered.{Scattered}
use Rattle.zdomain.specs.declared.values.Values.{Values}
use Rattle.zdomain.specs.declared.values.Values.TheVariants.{Run, List as AList}
use Rattle.zdomain.specs.Interval.{interval_of}
use Rattle.zdomain.specs.Few.{turned, is_scattered}
use Rattle.zcert.specs.declared.error.CertError.{CertError}
use Rattle.zcert.specs.declared.error.CertError.TheVariants.{Truncated, Order, ListForm}
use Rattle.zcert.specs.Numbers.{Number, Kind, WordCount, Word, End, width, number, HasRoom}
use Rattle.zcert.specs.Steps.{◌>>=◌, sized_at}
use Rattle.zcert.specs.Format.{nonempty}
use Rattle.zcert.specs.Lists.{words_at, list_where, list_of, values_format}
use Rattle.zcert.specs.Coming.{list_bytes, are_from, floor_behind, IsComing}
use Rattle.zcert.specs.FormatLaw.{IsBytes}
use Rattle.zcert.specs.FormatLaw.Intervals.{ends_read}
use Rattle.zcert.specs.FormatLaw.Stepping.{number_again, ok_is, wide}
use Rattle.zcert.specs.FormatLaw.Widths.{sized_exact}
use Rattle.zcert.specs.FormatLaw.Words.{before, words_again, one_word, no_word, one_more}
use Rattle.zcert.specs.FormatLaw.Sets.{list_read, list_back, is_true}

-- the bytes of a number are those that spell it
pub number_bytes : (kind : Number) (bytes : List ℕ) (n : ℕ) → IsBytes bytes → length bytes ≡ width kind → sized_at (width kind) bytes ≡ Ok (n, []) → number kind n ≡ bytes
number_bytes kind bytes n fits long e =
    let same : big_number (width kind) bytes ≡ n = ap (λ (p : ℕ × List ℕ). p.0) (ok_is (big_number (width kind) bytes, []) (n, []) (sym (sized_exact (width kind) bytes long) ∙ e)) in
    rw (← same) (wide kind bytes long fits)

-- ---- intervals

abbrev pub alone : {A : Type 0} → A → Result (A × List ℕ) CertError
alone x = Ok (x, [])

abbrev run_of : Interval × List ℕ → Result (Values × List ℕ) CertError
run_of read = Ok (Run read.0, read.1)

as_run : (r : Result Interval CertError) → ((r >>= alone) >>= run_of) ≡ (r >>= λ i. alone (Run i))
as_run (Ok i) = refl
as_run (Err d) = refl

-- behind its lower end an interval is read by its upper end
pub run_read : (bytes : List ℕ) (lo hi : ℕ) → HasRoom End lo → sized_at 2 bytes ≡ Ok (hi, []) → values_format.value_at ((number Kind 0 ++ number End lo) ++ bytes) ≡ (nonempty (interval_of (cast_signed w16 lo) (cast_signed w16 hi)) >>= λ i. alone (Run i))
run_read bytes lo hi room e =
    let first = number_again Kind 0 (number End lo ++ bytes) (omega arith) in
    rw (first, ends_read bytes lo hi room e) (as_run (nonempty (interval_of (cast_signed w16 lo) (cast_signed w16 hi))))

pub whole_ends : (o : Option Interval) (e : CertError) → nonempty o ≡ Err e → e ≢ Truncated
whole_ends None e f g = absurd cc
whole_ends (Some i) e f g = absurd cc

-- ---- lists

-- a word more has come
pub came_more : (count word : ℕ) (words : List ℕ) → list_bytes count (words ++ word ∷ []) ≡ list_bytes count words ++ number Word word
came_more count word words = ap (λ (t : List ℕ). number Kind 1 ++ number WordCount count ++ t) (flat_map-append (number Word) words (word ∷ []))

-- the words that have come leave the next one to be read
module _ (count floor word : ℕ) (words : List ℕ) (is : IsComing count floor words) (room : HasRoom Word word) where
  next_read : (more : ℕ) → count ≡ length words + more → values_format.value_at (list_bytes count (words ++ word ∷ [])) ≡ ((words_at more (floor_behind 0 words) (number Word word) >>= before words) >>= λ found. list_of found.0 >>= λ list. Ok (list, found.1))
  next_read more all =
      ap values_format.value_at (came_more count word words)
      ∙ list_read count words (number Word word) (le-leb 2 count is.some) (le-leb count 64 is.few)
      ∙ ap (λ n. words_at n 0 (flat_map (number Word) words ++ number Word word) >>= λ found. list_of found.0 >>= λ list. Ok (list, found.1)) all
      ∙ rw (words_again words 0 more (number Word word) is.rise) refl

  -- one that doesn't rise
  pub order_refused : turned word < floor → values_format.value_at (list_bytes count (words ++ word ∷ [])) ≡ Err Order
  order_refused low =
      let more = count - length words - 1 in
      let all : count ≡ length words + suc more = omega (arith, is.more) in
      let below : nat_le (floor_behind 0 words) (turned word) ≡ false = lt-leb (floor_behind 0 words) (turned word) (omega (arith, is.behind, low)) in
      next_read (suc more) all ∙ rw (no_word more (floor_behind 0 words) word [] room below) refl

  -- the last one, where it rises
  pub last_read : floor ≤ turned word → count ≡ length words + 1 → values_format.value_at (list_bytes count (words ++ word ∷ [])) ≡ (list_of (words ++ word ∷ []) >>= alone)
  unfolding words_at
  last_read high all =
      let above : nat_le (floor_behind 0 words) (turned word) ≡ true = le-leb (floor_behind 0 words) (turned word) (omega (arith, is.behind, high)) in
      next_read 1 all ∙ rw (one_word 0 (floor_behind 0 words) word [] room above) refl

  -- another, where it rises
  pub still_coming : floor ≤ turned word → length (words ++ word ∷ []) < count → IsComing count (turned word + 1) (words ++ word ∷ [])
  still_coming high more =
      let rise = one_more words 0 word is.rise room (omega (arith, is.behind, high)) in
      record { some = is.some; few = is.few; more = more; rise = rise.0; behind = sym rise.1 }

pub none_came : (count : ℕ) → 2 ≤ count → count ≤ 64 → IsComing count 0 []
unfolding are_from floor_behind
none_came count some few = record { some = some; few = few; more = omega (arith, some); rise = refl; behind = refl }

-- the list that was made is the list of its words
pub made_list : (s : Scattered) (words : List ℕ) → s.few ≡ words → list_of words ≡ Ok (AList s)
made_list s words same = ap list_of (sym same) ∙ list_back s.few s.scattered (is_scattered s.few) refl (is_true (is_scattered s.few) s.scattered.is)

none_by : (words : List ℕ) (b : Bool) (e : is_scattered words ≡ b) → b ≡ false → list_where words b e ≡ Err ListForm
none_by words true e is = absurd cc
none_by words false e is = refl

pub no_list : (words : List ℕ) → is_scattered words ≡ false → list_of words ≡ Err ListForm
no_list words is = none_by words (is_scattered words) refl is

-- two bytes a word
pub words_length : (words : List ℕ) → length (flat_map (number Word) words) ≡ 2 * length words
words_length [] = refl
words_length (x ∷ xs) = omega (arith, words_length xs)
