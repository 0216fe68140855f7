-- A proof of the law: intervals meet it.
use Rattle.std.proofs.Common.{◌≡◌, ℕ, List, [], ◌++◌, length, ◌<◌, Option, Some, None, Ok, Err, ℤ, FitsSigned, refl, sym, ap, subst, ◌∙◌, append_assoc, length-append, arith}
use Rattle.std.specs.Int.{w16, cast_signed, cast_unsigned}
use Rattle.std.proofs.lemmas.Int.{ints, to_z-of_z, of_z-to_z}
use Rattle.byteorder.specs.Endian.{big_number}
use Rattle.byteorder.specs.Numbers.{length-bytes_high_first}
use Rattle.zdomain.specs.declared.interval.Interval.{Interval}
use Rattle.zdomain.specs.Interval.{interval_of}
use Rattle.zdomain.proofs.Ends.{from_ends, ends_of}
use Rattle.zcert.specs.Numbers.{End, number, HasRoom}
use Rattle.zcert.specs.Steps.{◌>>=◌, sized_at, number_at}
use Rattle.zcert.specs.Format.{nonempty, interval_format}
use Rattle.zcert.specs.Turns.{AreTurns}
use Rattle.zcert.specs.Begun.{end_bytes, ends_turns}
use Rattle.zcert.specs.declared.error.CertError.TheVariants.{Truncated}
use Rattle.zcert.specs.declared.interval_spelled.Begun.{Begun}
use Rattle.zcert.specs.declared.interval_spelled.Begun.TheVariants as begun
use Rattle.zcert.specs.FormatLaw.{IsBytes, Takes, IsPlain, IsFormat}
use Rattle.zcert.specs.FormatLaw.Widths.{IsOfWidth, same_whatever, sized_exact, sized_then, of_none}
use Rattle.zcert.specs.FormatLaw.Stepping.{IsBytes-append, IsBytes-number, Takes-then, wide, bind_ok, ok_is, number_takes, number_again, plain_then, plain_ok, plain_sized}

nonempty_is : (o : Option Interval) (i : Interval) → nonempty o ≡ Ok i → o ≡ Some i
nonempty_is None i e = absurd cc
nonempty_is (Some j) i e = cc

-- the word of a word's signed reading, and its room
word_end : (n : ℕ) → HasRoom End n → cast_unsigned w16 (cast_signed w16 n) ≡ n
word_end n room = of_z-to_z w16 n room

end_fits : (n : ℕ) → HasRoom End n → FitsSigned w16 (cast_signed w16 n)
end_fits n room = omega (arith, ints)

end_room : (z : ℤ) → FitsSigned w16 z → HasRoom End (cast_unsigned w16 z)
end_room z fits = omega (arith, ints, fits.sfits)

-- the bytes of a word are those that spell it
pub word_bytes : (bytes : List ℕ) (n : ℕ) → IsBytes bytes → length bytes ≡ 2 → sized_at 2 bytes ≡ Ok (n, []) → number End n ≡ bytes
word_bytes bytes n fits two e =
    let same : big_number 2 bytes ≡ n = ap (λ (p : ℕ × List ℕ). p.0) (ok_is (big_number 2 bytes, []) (n, []) (sym (sized_exact 2 bytes two) ∙ e)) in
    rw (← same) (wide End bytes two fits)

-- behind its lower end a set is read by its upper end
pub ends_read : (bytes : List ℕ) (lo hi : ℕ) → HasRoom End lo → sized_at 2 bytes ≡ Ok (hi, []) → interval_format.value_at (number End lo ++ bytes) ≡ (nonempty (interval_of (cast_signed w16 lo) (cast_signed w16 hi)) >>= λ i. Ok (i, []))
ends_read bytes lo hi room e = rw (number_again End lo bytes room, e) refl

-- an end that was passed on as a signed number
pub passed_end : (z a : ℤ) (n : ℕ) → HasRoom End n → a ≡ cast_signed w16 n → z ≡ cast_signed w16 (cast_unsigned w16 a) → z ≡ cast_signed w16 n
passed_end z a n room e f = f ∙ to_z-of_z w16 a (rw e (end_fits n room)) ∙ e

interval_takes : (bytes : List ℕ) (i : Interval) (rest : List ℕ) → IsBytes bytes → interval_format.value_at bytes ≡ Ok (i, rest) → Takes bytes (interval_format.spelled i) rest × interval_format.Has i
interval_takes bytes i rest fits e =
    let a = bind_ok (number_at End bytes) (λ lo. number_at End lo.1 >>= λ hi. nonempty (interval_of (cast_signed w16 lo.0) (cast_signed w16 hi.0)) >>= λ i. Ok (i, hi.1)) (i, rest) e in
    let lo = a.0.0 in
    let b = bind_ok (number_at End a.0.1) (λ hi. nonempty (interval_of (cast_signed w16 lo) (cast_signed w16 hi.0)) >>= λ i. Ok (i, hi.1)) (i, rest) a.2 in
    let hi = b.0.0 in
    let c = bind_ok (nonempty (interval_of (cast_signed w16 lo) (cast_signed w16 hi))) (λ i. Ok (i, b.0.1)) (i, rest) b.2 in
    let first = number_takes End bytes lo a.0.1 fits a.1 in
    let second = number_takes End a.0.1 hi b.0.1 first.0.rest_fits b.1 in
    let both = Takes-then bytes (number End lo) a.0.1 (number End hi) b.0.1 first.0 second.0 in
    let made : Interval × List ℕ = (c.0, b.0.1) in
    let ends = ends_of (cast_signed w16 lo) (cast_signed w16 hi) c.0 (nonempty_is _ c.0 c.1) in
    subst (λ (x : Interval × List ℕ). Takes bytes (interval_format.spelled x.0) x.1 × interval_format.Has x.0) {x = made} (ok_is made (i, rest) c.2) (
      rw (ends.0, ends.1, word_end lo first.1, word_end hi second.1) both,
      rw (ends.0, ends.1) (end_fits lo first.1, end_fits hi second.1),
    )

interval_again : (i : Interval) (rest : List ℕ) → interval_format.Has i → interval_format.value_at (interval_format.spelled i ++ rest) ≡ Ok (i, rest)
interval_again i rest has =
    let lo = cast_unsigned w16 i.lo in
    let hi = cast_unsigned w16 i.hi in
    let regrouped : (number End lo ++ number End hi) ++ rest ≡ number End lo ++ (number End hi ++ rest) = append_assoc (number End lo) (number End hi) rest in
    ap interval_format.value_at regrouped ∙ rw (
      number_again End lo (number End hi ++ rest) (end_room i.lo has.0),
      number_again End hi rest (end_room i.hi has.1),
      to_z-of_z w16 i.lo has.0,
      to_z-of_z w16 i.hi has.1,
      from_ends i,
    ) refl

plain_nonempty : (o : Option Interval) → IsPlain (nonempty o)
plain_nonempty (Some i) e = absurd cc
plain_nonempty None e = absurd cc

interval_is_plain : (bytes : List ℕ) → IsPlain (interval_format.value_at bytes)
interval_is_plain bytes =
    plain_then (number_at End bytes) _ (plain_sized 2 bytes) (λ lo.
    plain_then (number_at End lo.1) _ (plain_sized 2 lo.1) (λ hi.
    plain_then (nonempty (interval_of (cast_signed w16 lo.0) (cast_signed w16 hi.0))) _ (plain_nonempty (interval_of (cast_signed w16 lo.0) (cast_signed w16 hi.0))) (λ i. plain_ok (i, hi.1))))

-- two words
interval_width : IsOfWidth 4 interval_format.value_at
interval_width = sized_then 2 2 (λ lo bytes. number_at End bytes >>= λ hi. nonempty (interval_of (cast_signed w16 lo) (cast_signed w16 hi.0)) >>= λ i. Ok (i, hi.1)) (λ lo.
    sized_then 2 0 (λ hi bytes. nonempty (interval_of (cast_signed w16 lo) (cast_signed w16 hi)) >>= λ i. Ok (i, bytes)) (λ hi.
    of_none (nonempty (interval_of (cast_signed w16 lo) (cast_signed w16 hi)))))

pub interval_is_format : IsFormat interval_format
interval_is_format = record { version = omega arith; apart = λ e. absurd cc; unmarked = λ e. absurd cc; unstated = λ e. absurd cc; takes = interval_takes; bytes = λ i has. IsBytes-append (number End (cast_unsigned w16 i.lo)) (number End (cast_unsigned w16 i.hi)) (IsBytes-number End (cast_unsigned w16 i.lo)) (IsBytes-number End (cast_unsigned w16 i.hi)); long = λ i. omega arith; again = interval_again; none = refl; stays = same_whatever 4 interval_format.value_at interval_width; plain = interval_is_plain }

-- without one of both ends an interval is cut off
one_end_short : (b : Begun) (bytes : List ℕ) → length bytes < 2 → interval_format.value_at (end_bytes b ++ bytes) ≡ Err Truncated
one_end_short begun.Nothing bytes short = interval_width.short bytes (omega (arith, short))
one_end_short (begun.Lower lo) bytes short = interval_width.short (number End lo ++ bytes) (omega (arith, short, length-bytes_high_first 2 lo, length-append (number End lo) bytes))

IsBytes-end : (b : Begun) → IsBytes (end_bytes b)
IsBytes-end begun.Nothing = λ i. omega arith
IsBytes-end (begun.Lower lo) = IsBytes-number End lo

pub intervals_are_turns : AreTurns interval_format ends_turns
intervals_are_turns = record { short = one_end_short; bytes = IsBytes-end }
