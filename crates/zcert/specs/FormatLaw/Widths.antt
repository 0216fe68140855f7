-- Steps of reading that take so many bytes each, whatever follows them.
use Rattle.std.proofs.Common.{◌≡◌, ◌≢◌, ℕ, ◌+◌, ◌<◌, ◌≤◌, List, [], ◌++◌, length, take, drop, Result, Ok, Err, inl, inr, refl, sym, ap, ◌∙◌, arith, length-append}
use Rattle.std.proofs.lemmas.Bool.{cases_lt, le-ltb, lt-ltb}
use Rattle.std.proofs.lemmas.List.{take-append-le, drop-append-le, length-drop, drop_all}
use Rattle.byteorder.specs.Endian.{big_number}
use Rattle.byteorder.specs.Numbers.{big_from-take}
use Rattle.zcert.specs.declared.error.CertError.{CertError}
use Rattle.zcert.specs.declared.error.CertError.TheVariants.{Truncated}
use Rattle.zcert.specs.Steps.{◌>>=◌, sized_at, serial_at}

-- a step takes so many bytes, whatever follows them, and is cut off by fewer
pub record IsOfWidth {A : Type 0} (n : ℕ) (read : List ℕ → Result (A × List ℕ) CertError) : Type 0 where
  pub short : (bytes : List ℕ) → length bytes < n → read bytes ≡ Err Truncated
  pub stays : (bytes more : List ℕ) → n ≤ length bytes → read (bytes ++ more) ≡ (read bytes >>= λ x. Ok (x.0, x.1 ++ more))

-- so one that isn't cut off is the same whatever follows
pub same_whatever : {A : Type 0} (n : ℕ) (read : List ℕ → Result (A × List ℕ) CertError) → IsOfWidth n read → (bytes more : List ℕ) → read bytes ≢ Err Truncated → read (bytes ++ more) ≡ (read bytes >>= λ x. Ok (x.0, x.1 ++ more))
same_whatever n read fixed bytes more whole =
    elim (cases_lt (length bytes) n) [
      | inl lt ↦ absurd (whole (fixed.short bytes lt))
      | inr le ↦ fixed.stays bytes more le
    ]

-- a number of so many bytes, where there are as many, and where there are fewer
sized_there : (n : ℕ) (bytes : List ℕ) → n ≤ length bytes → sized_at n bytes ≡ Ok (big_number n bytes, drop n bytes)
sized_there n bytes long = rw (le-ltb (length bytes) n long) refl

-- of exactly so many bytes
pub sized_exact : (n : ℕ) (bytes : List ℕ) → length bytes ≡ n → sized_at n bytes ≡ Ok (big_number n bytes, [])
sized_exact n bytes e = sized_there n bytes (omega (arith, e)) ∙ rw (drop_all n bytes (omega (arith, e))) refl

pub sized_short : (n : ℕ) (bytes : List ℕ) → length bytes < n → sized_at n bytes ≡ Err Truncated
sized_short n bytes short = rw (lt-ltb (length bytes) n short) refl

number_stays : (n : ℕ) (bytes more : List ℕ) → n ≤ length bytes → big_number n (bytes ++ more) ≡ big_number n bytes
number_stays n bytes more long = sym (big_from-take 0 n n (bytes ++ more) (omega arith)) ∙ ap (big_number n) (take-append-le n bytes more long) ∙ big_from-take 0 n n bytes (omega arith)

sized_stays : (n : ℕ) (bytes more : List ℕ) → n ≤ length bytes → sized_at n (bytes ++ more) ≡ Ok (big_number n bytes, drop n bytes ++ more)
sized_stays n bytes more long =
    sized_there n (bytes ++ more) (omega (arith, long, length-append bytes more)) ∙ rw (number_stays n bytes more long, drop-append-le n bytes more long) refl

-- a number, and then a step that goes by it
module _ {A : Type 0} (k m : ℕ) (next : ℕ → List ℕ → Result (A × List ℕ) CertError) (fixed : (x : ℕ) → IsOfWidth m (next x)) where
  abbrev both : List ℕ → Result (A × List ℕ) CertError
  both bytes = sized_at k bytes >>= λ x. next x.0 x.1

  on_from : (bytes : List ℕ) → k ≤ length bytes → both bytes ≡ next (big_number k bytes) (drop k bytes)
  on_from bytes long = rw (sized_there k bytes long) refl

  pub sized_then : IsOfWidth (k + m) both
  sized_then = record {
    short = λ bytes short.
        elim (cases_lt (length bytes) k) [
          | inl lt ↦ rw (sized_short k bytes lt) refl
          | inr le ↦ on_from bytes le ∙ (fixed (big_number k bytes)).short (drop k bytes) (omega (arith, short, le, length-drop k bytes))
        ];
    stays = λ bytes more long.
        let le : k ≤ length bytes = omega (arith, long) in
        let on : both (bytes ++ more) ≡ next (big_number k bytes) (drop k bytes ++ more) = rw (sized_stays k bytes more le) refl in
        on ∙ (fixed (big_number k bytes)).stays (drop k bytes) more (omega (arith, long, length-drop k bytes)) ∙ ap (λ r. r >>= λ x. Ok (x.0, x.1 ++ more)) (sym (on_from bytes le));
  }

-- a step that takes no bytes
pub of_none : {A : Type 0} (o : Result A CertError) → IsOfWidth 0 (λ bytes. o >>= λ x. Ok (x, bytes))
of_none (Ok x) = record {
  short = λ bytes lt. absurd (omega (arith, lt));
  stays = λ bytes more long. refl;
}
of_none (Err d) = record {
  short = λ bytes lt. absurd (omega (arith, lt));
  stays = λ bytes more long. refl;
}

pub sized_width : (n : ℕ) → IsOfWidth n (sized_at n)
sized_width n = record {
  short = sized_short n;
  stays = λ bytes more long. sized_stays n bytes more long ∙ rw (sized_there n bytes long) refl;
}

-- the serial number
serial_there : (bytes : List ℕ) → 6 ≤ length bytes → serial_at bytes ≡ Ok (take 6 bytes, drop 6 bytes)
serial_there bytes long = rw (le-ltb (length bytes) 6 long) refl

pub serial_short : (bytes : List ℕ) → length bytes < 6 → serial_at bytes ≡ Err Truncated
serial_short bytes short = rw (lt-ltb (length bytes) 6 short) refl

pub serial_width : IsOfWidth 6 serial_at
serial_width = record {
  short = serial_short;
  stays = λ bytes more long. serial_there (bytes ++ more) (omega (arith, long, length-append bytes more)) ∙ rw (take-append-le 6 bytes more long, drop-append-le 6 bytes more long, serial_there bytes long) refl;
}
