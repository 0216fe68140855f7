-- Values of version 2 of the format, computed.
use Rattle.std.proofs.Common.{◌≡◌, true, false, ℕ, List, [], ◌∷◌, Ok, Err, pos, negsuc, refl, arith}
use Rattle.std.specs.List.{flat_map}
use Rattle.zdomain.specs.declared.values.Values.{Values}
use Rattle.zdomain.specs.declared.values.Values.TheVariants.{Run, List as AList}
use Rattle.zdomain.specs.Interval.{point, in_order}
use Rattle.zdomain.specs.Few.{is_scattered, rises_behind, last_behind}
use Rattle.zcert.specs.declared.edition.Edition.TheVariants as editions
use Rattle.zcert.specs.declared.error.CertError.TheVariants as errors
use Rattle.zcert.specs.declared.field.Turn.TheVariants as turns
use Rattle.zcert.specs.declared.limits.TheConstants.{LIST_VERSION}
use Rattle.zcert.specs.declared.values_spelled.Unfinished.TheVariants as unfinished
use Rattle.zcert.specs.Numbers as numbers
use Rattle.zcert.specs.Numbers.{width, number, HasRoom}
use Rattle.zcert.specs.Lists.{words_at, list_of, run_at, list_at, set_at, set_bytes, HasBytes, values_format}
use Rattle.zcert.specs.Keeping.{intervals_kept, values_kept, words_in}
use Rattle.zcert.specs.Coming.{list_bytes, are_from, floor_behind, IsComing}
use Rattle.zcert.specs.Unfinished.{set_came, set_awaited, values_turns}
use Rattle.zcert.specs.Turns.{field_width}
use Rattle.zcert.specs.Spelling.{heading, routine_bytes}
use Rattle.zcert.specs.Reading.{version_at, values_at}

-- ---- numbers

numbers_of_sets : (LIST_VERSION ≡ 2) × (width numbers.Kind ≡ 1) × (width numbers.WordCount ≡ 1) × (width numbers.Word ≡ 2) × (number numbers.Word 411 ≡ 1 ∷ 0x9B ∷ [])
numbers_of_sets = (refl, refl, refl, refl, refl)

-- version 2 names no limit of frames, versions 3 to 5 one; no other is read
versions : (heading values_format editions.Plain ≡ 0x5A ∷ 0x50 ∷ 0x43 ∷ 0x43 ∷ 2 ∷ []) × (version_at values_format (2 ∷ 7 ∷ []) ≡ Ok (editions.Plain, 7 ∷ [])) × (version_at values_format (1 ∷ 7 ∷ []) ≡ Err errors.Version) × (version_at values_format (3 ∷ []) ≡ Ok (editions.Limited, [])) × (version_at values_format (4 ∷ []) ≡ Ok (editions.Marking, [])) × (version_at values_format (5 ∷ []) ≡ Ok (editions.Stating, [])) × (version_at values_format (6 ∷ []) ≡ Err errors.Version)
unfolding version_at
versions = (refl, refl, refl, refl, refl, refl, refl)

-- ---- sets

below_zero : Values
below_zero = Run (record { lo = negsuc 1; hi = pos 5; ordered = in_order (negsuc 1) (pos 5) refl })

two : Values
unfolding is_scattered rises_behind last_behind
two = AList (record { few = 411 ∷ 413 ∷ []; scattered = record { is = tt } })

-- -2 is below 5
signed : Values
unfolding is_scattered rises_behind last_behind
signed = AList (record { few = 0xFFFE ∷ 5 ∷ []; scattered = record { is = tt } })

spelled : (set_bytes below_zero ≡ 0 ∷ 0xFF ∷ 0xFE ∷ 0 ∷ 5 ∷ []) × (set_bytes (Run (point 0x102)) ≡ 0 ∷ 1 ∷ 2 ∷ 1 ∷ 2 ∷ []) × (set_bytes two ≡ 1 ∷ 2 ∷ 1 ∷ 0x9B ∷ 1 ∷ 0x9D ∷ []) × (set_bytes signed ≡ 1 ∷ 2 ∷ 0xFF ∷ 0xFE ∷ 0 ∷ 5 ∷ [])
unfolding below_zero two signed
spelled = (refl, refl, refl, refl)

read_again : (values_format.value_at (0 ∷ 0xFF ∷ 0xFE ∷ 0 ∷ 5 ∷ 9 ∷ []) ≡ Ok (below_zero, 9 ∷ [])) × (values_format.value_at (1 ∷ 2 ∷ 1 ∷ 0x9B ∷ 1 ∷ 0x9D ∷ []) ≡ Ok (two, [])) × (values_format.value_at (1 ∷ 2 ∷ 0xFF ∷ 0xFE ∷ 0 ∷ 5 ∷ 8 ∷ []) ≡ Ok (signed, 8 ∷ []))
unfolding below_zero two signed words_at is_scattered rises_behind last_behind
read_again = (refl, refl, refl)

-- kept one behind the other, and as many of them as are asked for
kept : (values_kept.cells two ≡ 1 ∷ 2 ∷ 1 ∷ 0x9B ∷ 1 ∷ 0x9D ∷ []) × (values_kept.sets 2 (0 ∷ 0xFF ∷ 0xFE ∷ 0 ∷ 5 ∷ 1 ∷ 2 ∷ 1 ∷ 0x9B ∷ 1 ∷ 0x9D ∷ 9 ∷ []) ≡ below_zero ∷ two ∷ []) × (values_kept.sets 0 (1 ∷ 2 ∷ []) ≡ []) × (intervals_kept.sets 1 (point 5 ∷ point 6 ∷ []) ≡ point 5 ∷ []) × (words_in (1 ∷ 0x9B ∷ 1 ∷ 0x9D ∷ []) ≡ 411 ∷ 413 ∷ [])
unfolding below_zero two words_at is_scattered rises_behind last_behind
kept = (refl, refl, refl, refl, refl)

-- no list: one word; 5 and 6, which are an interval; 6 and 5; a kind that is none
refused : (values_format.value_at (1 ∷ 1 ∷ 0 ∷ 5 ∷ []) ≡ Err errors.ListForm) × (values_format.value_at (1 ∷ 2 ∷ 0 ∷ 5 ∷ 0 ∷ 6 ∷ []) ≡ Err errors.ListForm) × (values_format.value_at (1 ∷ 2 ∷ 0 ∷ 6 ∷ 0 ∷ 5 ∷ []) ≡ Err errors.Order) × (values_format.value_at (2 ∷ []) ≡ Err errors.ListForm) × (values_format.value_at (255 ∷ []) ≡ Err errors.ListForm)
unfolding words_at is_scattered rises_behind last_behind
refused = (refl, refl, refl, refl, refl)

-- an interval whose ends are turned round, by their signed readings
turned_ends : (values_format.value_at (0 ∷ 0 ∷ 1 ∷ 0 ∷ 0 ∷ []) ≡ Err errors.EmptyInterval) × (values_format.value_at (0 ∷ 0 ∷ 5 ∷ 0xFF ∷ 0xFE ∷ []) ≡ Err errors.EmptyInterval)
turned_ends = (refl, refl)

-- a count is judged when it is there, whatever is behind it
counts : (list_at (0 ∷ []) ≡ Err errors.ListForm) × (list_at (1 ∷ []) ≡ Err errors.ListForm) × (list_at (2 ∷ []) ≡ Err errors.Truncated) × (list_at (64 ∷ []) ≡ Err errors.Truncated) × (list_at (65 ∷ []) ≡ Err errors.ListForm) × (list_at [] ≡ Err errors.Truncated)
unfolding words_at
counts = (refl, refl, refl, refl, refl, refl)

-- a word is judged when it is there, and that the list is no interval with its last word; the same word twice doesn't rise
judged : (list_at (3 ∷ 0 ∷ 6 ∷ 0 ∷ 5 ∷ []) ≡ Err errors.Order) × (list_at (3 ∷ 0 ∷ 6 ∷ 0 ∷ []) ≡ Err errors.Truncated) × (list_at (3 ∷ 0 ∷ 5 ∷ 0 ∷ 5 ∷ []) ≡ Err errors.Order) × (list_at (2 ∷ 0 ∷ 5 ∷ 0xFF ∷ 0xFE ∷ []) ≡ Err errors.Order) × (list_at (3 ∷ 0 ∷ 5 ∷ 0 ∷ 6 ∷ []) ≡ Err errors.Truncated) × (list_at (3 ∷ 0 ∷ 5 ∷ 0 ∷ 6 ∷ 0 ∷ 7 ∷ []) ≡ Err errors.ListForm)
unfolding words_at is_scattered rises_behind last_behind
judged = (refl, refl, refl, refl, refl, refl)

-- the lowest word and the highest; around 0 there is an interval
ends : Values
unfolding is_scattered rises_behind last_behind
ends = AList (record { few = 0x8000 ∷ 0x7FFF ∷ []; scattered = record { is = tt } })

outermost : (list_at (2 ∷ 0x80 ∷ 0 ∷ 0x7F ∷ 0xFF ∷ []) ≡ Ok (ends, [])) × (list_at (2 ∷ 0xFF ∷ 0xFF ∷ 0 ∷ 0 ∷ []) ≡ Err errors.ListForm)
unfolding ends words_at is_scattered rises_behind last_behind
outermost = (refl, refl)

-- 64 words: those from 0 on, which are an interval, and the same with another last one
abbrev up_to : ℕ → List ℕ
up_to last = 0 ∷ 1 ∷ 2 ∷ 3 ∷ 4 ∷ 5 ∷ 6 ∷ 7 ∷ 8 ∷ 9 ∷ 10 ∷ 11 ∷ 12 ∷ 13 ∷ 14 ∷ 15 ∷ 16 ∷ 17 ∷ 18 ∷ 19 ∷ 20 ∷ 21 ∷ 22 ∷ 23 ∷ 24 ∷ 25 ∷ 26 ∷ 27 ∷ 28 ∷ 29 ∷ 30 ∷ 31
    ∷ 32 ∷ 33 ∷ 34 ∷ 35 ∷ 36 ∷ 37 ∷ 38 ∷ 39 ∷ 40 ∷ 41 ∷ 42 ∷ 43 ∷ 44 ∷ 45 ∷ 46 ∷ 47 ∷ 48 ∷ 49 ∷ 50 ∷ 51 ∷ 52 ∷ 53 ∷ 54 ∷ 55 ∷ 56 ∷ 57 ∷ 58 ∷ 59 ∷ 60 ∷ 61 ∷ 62 ∷ last ∷ []

long : Values
unfolding is_scattered rises_behind last_behind
long = AList (record { few = up_to 64; scattered = record { is = tt } })

longest : (list_at (64 ∷ flat_map (number numbers.Word) (up_to 64)) ≡ Ok (long, [])) × (list_at (64 ∷ flat_map (number numbers.Word) (up_to 63)) ≡ Err errors.ListForm)
unfolding long words_at is_scattered rises_behind last_behind
longest = (refl, refl)

-- words by themselves, from one on
words_read : (words_at 2 0 (0 ∷ 5 ∷ 0 ∷ 6 ∷ 7 ∷ []) ≡ Ok (5 ∷ 6 ∷ [], 7 ∷ [])) × (words_at 1 32773 (0 ∷ 5 ∷ []) ≡ Ok (5 ∷ [], [])) × (words_at 1 32774 (0 ∷ 5 ∷ []) ≡ Err errors.Order) × (words_at 0 7 (9 ∷ []) ≡ Ok ([], 9 ∷ []))
unfolding words_at
words_read = (refl, refl, refl, refl)

kinds : (set_at 0 (0 ∷ 7 ∷ 0 ∷ 7 ∷ []) ≡ Ok (Run (point 7), [])) × (run_at (0 ∷ 7 ∷ 0 ∷ 7 ∷ []) ≡ Ok (Run (point 7), [])) × (set_at 1 (1 ∷ []) ≡ Err errors.ListForm) × (set_at 2 (0 ∷ 7 ∷ 0 ∷ 7 ∷ []) ≡ Err errors.ListForm)
kinds = (refl, refl, refl, refl)

listed : (list_of (411 ∷ 413 ∷ []) ≡ Ok two) × (list_of (411 ∷ 412 ∷ []) ≡ Err errors.ListForm) × (list_of [] ≡ Err errors.ListForm)
unfolding two is_scattered rises_behind last_behind
listed = (refl, refl, refl)

-- sets of both kinds, each after the other
both_kinds : (values_at values_format 2 (0 ∷ 0 ∷ 7 ∷ 0 ∷ 7 ∷ 1 ∷ 2 ∷ 1 ∷ 0x9B ∷ 1 ∷ 0x9D ∷ 3 ∷ []) ≡ Ok (Run (point 7) ∷ two ∷ [], 3 ∷ [])) × (routine_bytes values_format (record { address = 0x32E; locals = 1; result = two }) ≡ 0 ∷ 0 ∷ 3 ∷ 0x2E ∷ 1 ∷ 1 ∷ 2 ∷ 1 ∷ 0x9B ∷ 1 ∷ 0x9D ∷ [])
unfolding values_at two words_at is_scattered rises_behind last_behind
both_kinds = (refl, refl)

-- each word has room
wide : Values
unfolding is_scattered rises_behind last_behind
wide = AList (record { few = 0 ∷ 65541 ∷ []; scattered = record { is = tt } })

too_high : HasBytes two × (HasBytes wide → ⊥) × (HasBytes (Run (record { lo = pos 0; hi = pos 32768; ordered = in_order (pos 0) (pos 32768) refl })) → ⊥)
unfolding two wide
too_high = ((omega arith, (omega arith, tt)), λ has. omega (arith, has.1.0), λ has. omega (arith, has.1))

-- ---- number by number

came : (set_came unfinished.Nothing ≡ []) × (set_came unfinished.Run ≡ 0 ∷ []) × (set_came (unfinished.Lower 0x1234) ≡ 0 ∷ 0x12 ∷ 0x34 ∷ []) × (set_came unfinished.List ≡ 1 ∷ []) × (list_bytes 3 (411 ∷ []) ≡ 1 ∷ 3 ∷ 1 ∷ 0x9B ∷ [])
came = (refl, refl, refl, refl, refl)

awaited : (set_awaited unfinished.Nothing ≡ 1) × (set_awaited unfinished.Run ≡ 2) × (set_awaited (unfinished.Lower 5) ≡ 2) × (set_awaited unfinished.List ≡ 1) × (field_width values_turns (turns.Global 3) unfinished.Nothing ≡ 1)
awaited = (refl, refl, refl, refl, refl)

-- what has come of a list's words
coming : (are_from 32773 (5 ∷ 7 ∷ []) ≡ true) × (are_from 32774 (5 ∷ 7 ∷ []) ≡ false) × (are_from 0 (5 ∷ 5 ∷ []) ≡ false) × (are_from 0 (65535 ∷ 65536 ∷ []) ≡ false) × (floor_behind 0 (5 ∷ 7 ∷ []) ≡ 32776) × (floor_behind 4 [] ≡ 4)
unfolding are_from floor_behind
coming = (refl, refl, refl, refl, refl, refl)

-- of three words the first has come; a list of one word or of 65 is none, nor is one that has come whole one that is coming
partly : IsComing 3 33180 (411 ∷ []) × (IsComing 3 33179 (411 ∷ []) → ⊥) × (IsComing 1 0 [] → ⊥) × (IsComing 65 0 [] → ⊥) × (IsComing 2 33182 (411 ∷ 413 ∷ []) → ⊥) × IsComing 64 0 []
unfolding are_from floor_behind
partly = (
  record { some = omega arith; few = omega arith; more = omega arith; rise = refl; behind = refl },
  λ it. omega (arith, it.behind),
  λ it. omega (arith, it.some),
  λ it. omega (arith, it.few),
  λ it. omega (arith, it.more),
  record { some = omega arith; few = omega arith; more = omega arith; rise = refl; behind = refl },
)
