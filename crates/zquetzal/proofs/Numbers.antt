-- Numbers in bytes: what was written is read again, and what was read is written so.
use Rattle.std.proofs.Common.{◌≡◌, ℕ, zero, suc, ◌+◌, ◌^◌, ◌<◌, ◌≤◌, List, ◌∷◌, ◌++◌, length, get_or, take, drop, sym, ap, ◌∙◌, arith, inl, inr}
use Rattle.std.proofs.lemmas.Bool.{cases_lt}
use Rattle.std.proofs.lemmas.List.{drop_at, take-append-drop, length-take, get_or-drop, get_or-take, get_or_past}
use Rattle.std.proofs.lemmas.Nat.{be_bytes_2, be_bytes_4}
use Rattle.byteorder.specs.Endian.{big_bytes, big_number}
use Rattle.byteorder.specs.Numbers.{big_from-take, big_from-lt, big_from-cons, big_number-reads_back, length-bytes_high_first}

abbrev pub IsBytes : List ℕ → Type 0
IsBytes bytes = (i : ℕ) → get_or bytes i 0 < 256

pub IsBytes-drop : (n : ℕ) (bytes : List ℕ) → IsBytes bytes → IsBytes (drop n bytes)
IsBytes-drop n bytes h i = rw get_or-drop (h (n + i))

pub IsBytes-take : (n : ℕ) (bytes : List ℕ) → IsBytes bytes → IsBytes (take n bytes)
IsBytes-take n bytes h i =
    elim (cases_lt i n) [
      | inl lt ↦ rw (get_or-take n bytes i 0 lt) (h i)
      | inr le ↦ rw (get_or_past (take n bytes) i 0 (omega (arith, length-take n bytes))) (omega arith)
    ]

-- what follows a number
pub drop_number : (n x : ℕ) (rest : List ℕ) → drop n (big_bytes n x ++ rest) ≡ rest
drop_number n x rest = drop_at (big_bytes n x) rest n (length-bytes_high_first n x)

pub number_again : (n x : ℕ) (rest : List ℕ) → x < 256 ^ n → big_number n (big_bytes n x ++ rest) ≡ x
number_again n x rest room = big_number-reads_back n x rest room

abbrev IsWide : ℕ → Type 0
IsWide k = (bytes : List ℕ) → length bytes ≡ k → IsBytes bytes → big_bytes k (big_number k bytes) ≡ bytes

wide_2 : IsWide 2
wide_2 bytes e fits = be_bytes_2 bytes (big_number 2 bytes) e fits (omega arith)

wide_4 : IsWide 4
wide_4 bytes e fits = be_bytes_4 bytes (big_number 4 bytes) e fits (omega arith)

-- at the first place and at those after it
by_place : (P : ℕ → Type 0) → P 0 → ((i : ℕ) → P (suc i)) → (i : ℕ) → P i
by_place P first others zero = first
by_place P first others (suc i) = others i

tail_is : (a b : ℕ) (xs ys : List ℕ) → a ∷ xs ≡ b ∷ ys → xs ≡ ys
tail_is a b xs ys e = cc

-- three bytes are four of which the first is zero
wide_3 : IsWide 3
wide_3 bytes e fits =
    let more : IsBytes (0 ∷ bytes) = by_place (λ i. get_or (0 ∷ bytes) i 0 < 256) (omega arith) fits in
    let same : big_number 4 (0 ∷ bytes) ≡ big_number 3 bytes = omega (arith, big_from-cons 0 3 0 bytes) in
    let four = wide_4 (0 ∷ bytes) (omega (arith, e)) more in
    tail_is _ 0 (big_bytes 3 (big_number 3 bytes)) bytes (ap (big_bytes 4) (sym same) ∙ four)

taken : (k : ℕ) → IsWide k → (bytes : List ℕ) → k ≤ length bytes → IsBytes bytes → big_bytes k (big_number k bytes) ≡ take k bytes
taken k wide bytes long fits =
    let same : big_number k (take k bytes) ≡ big_number k bytes = big_from-take 0 k k bytes (omega arith) in
    ap (big_bytes k) (sym same) ∙ wide (take k bytes) (omega (arith, length-take k bytes)) (IsBytes-take k bytes fits)

-- the bytes of the number that was read stand in front
front : (k : ℕ) → IsWide k → (bytes : List ℕ) → k ≤ length bytes → IsBytes bytes → bytes ≡ big_bytes k (big_number k bytes) ++ drop k bytes
front k wide bytes long fits = sym (take-append-drop k bytes) ∙ ap (λ (t : List ℕ). t ++ drop k bytes) (sym (taken k wide bytes long fits))

pub front_2 : (bytes : List ℕ) → 2 ≤ length bytes → IsBytes bytes → bytes ≡ big_bytes 2 (big_number 2 bytes) ++ drop 2 bytes
front_2 bytes long fits = front 2 wide_2 bytes long fits

pub front_3 : (bytes : List ℕ) → 3 ≤ length bytes → IsBytes bytes → bytes ≡ big_bytes 3 (big_number 3 bytes) ++ drop 3 bytes
front_3 bytes long fits = front 3 wide_3 bytes long fits

pub front_4 : (bytes : List ℕ) → 4 ≤ length bytes → IsBytes bytes → bytes ≡ big_bytes 4 (big_number 4 bytes) ++ drop 4 bytes
front_4 bytes long fits = front 4 wide_4 bytes long fits

pub number_fits : (k : ℕ) (bytes : List ℕ) → IsBytes bytes → big_number k bytes < 256 ^ k
number_fits k bytes fits = big_from-lt 0 k bytes fits

pub taken_2 : (bytes : List ℕ) → 2 ≤ length bytes → IsBytes bytes → big_bytes 2 (big_number 2 bytes) ≡ take 2 bytes
taken_2 bytes long fits = taken 2 wide_2 bytes long fits

pub taken_3 : (bytes : List ℕ) → 3 ≤ length bytes → IsBytes bytes → big_bytes 3 (big_number 3 bytes) ≡ take 3 bytes
taken_3 bytes long fits = taken 3 wide_3 bytes long fits
