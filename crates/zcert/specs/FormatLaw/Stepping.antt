-- Single steps of reading: what a step took is spelled so, and what is spelled so is read again.
use Rattle.std.proofs.Common.{◌≡◌, ◌≢◌, ℕ, zero, suc, ◌+◌, ◌/◌, ◌^◌, ◌<◌, ◌≤◌, Bool, true, false, cond, ltb, List, [], ◌∷◌, ◌++◌, length, get_or, take, drop, Result, Ok, Err, refl, sym, ap, ◌∙◌, append_assoc, arith, inl, inr}
use Rattle.std.specs.Int.{byte_at}
use Rattle.std.proofs.lemmas.Bool.{cases_lt, ltb-false, le-ltb}
use Rattle.std.proofs.lemmas.List.{take_at, drop_at, take-append-drop, length-append, length-take, get_or-drop, get_or-take, get_or_past}
use Rattle.std.proofs.lemmas.Nat.{be_bytes_2, be_bytes_4, mod_below}
use Rattle.byteorder.specs.Endian.{big_bytes, big_number}
use Rattle.byteorder.specs.Numbers.{big_from-take, big_from-lt, big_number-reads_back, length-bytes_high_first}
use Rattle.zcert.specs.declared.error.CertError.{CertError}
use Rattle.zcert.specs.declared.error.CertError.TheVariants.{Truncated, OutOfMemory}
use Rattle.zcert.specs.Numbers.{Number, Magic, Version, Release, Checksum, LoadedLength, FrameLimit, RangeCount, RangeFirst, RangeLast, RoutineCount, RoutineAddress, LocalCount, InstructionCount, InstructionAddress, RoutineNumber, Height, FactCount, FactAddress, FactGlobal, End, Kind, WordCount, Word, width, number, HasRoom}
use Rattle.zcert.specs.Steps.{◌>>=◌, need, sized_at, number_at, serial_at}
use Rattle.zcert.specs.FormatLaw.{IsBytes, Takes, IsPlain}

pub IsBytes-drop : (n : ℕ) (bytes : List ℕ) → IsBytes bytes → IsBytes (drop n bytes)
IsBytes-drop n bytes h i = rw get_or-drop (h (n + i))

pub IsBytes-take : (n : ℕ) (bytes : List ℕ) → IsBytes bytes → IsBytes (take n bytes)
IsBytes-take n bytes h i =
    elim (cases_lt i n) [
      | inl lt ↦ rw (get_or-take n bytes i 0 lt) (h i)
      | inr le ↦ rw (get_or_past (take n bytes) i 0 (omega (arith, length-take n bytes))) (omega arith)
    ]

-- at the first place and at those after it
pub by_place : (P : ℕ → Type 0) → P 0 → ((i : ℕ) → P (suc i)) → (i : ℕ) → P i
by_place P first others zero = first
by_place P first others (suc i) = others i

pub IsBytes-append : (xs ys : List ℕ) → IsBytes xs → IsBytes ys → IsBytes (xs ++ ys)
IsBytes-append [] ys p q = q
IsBytes-append (x ∷ xs) ys p q = by_place (λ i. get_or (x ∷ (xs ++ ys)) i 0 < 256) (p 0) (IsBytes-append xs ys (λ i. p (suc i)) q)

-- the value of a step that did not fail
pub bind_ok : {A B : Type 0} (r : Result A CertError) (f : A → Result B CertError) (y : B) → (r >>= f) ≡ Ok y → (x : A) × (r ≡ Ok x) × (f x ≡ Ok y)
bind_ok (Ok x) f y e = (x, refl, e)
bind_ok (Err d) f y e = absurd cc

-- a condition that did not fail
pub need_ok : {B : Type 0} (b : Bool) (d : CertError) (f : Unit {0} → Result B CertError) (y : B) → (need b d >>= f) ≡ Ok y → (b ≡ true) × (f tt ≡ Ok y)
need_ok true d f y e = (refl, e)
need_ok false d f y e = absurd cc

abbrev done : {A : Type 0} → A → Result A CertError
done x = Ok x

pub ok_is : {A : Type 0} (x y : A) → done x ≡ done y → x ≡ y
ok_is x y e = cc

pub guard_ok : {A : Type 0} (b : Bool) (d : CertError) (x y : A) → cond b (Err d) (Ok x) ≡ Ok y → (b ≡ false) × (x ≡ y)
guard_ok true d x y e = absurd cc
guard_ok false d x y e = (refl, cc)

pub Takes-then : (a x b y c : List ℕ) → Takes a x b → Takes b y c → Takes a (x ++ y) c
Takes-then a x b y c p q = record { parts = p.parts ∙ ap (λ (t : List ℕ). x ++ t) q.parts ∙ sym (append_assoc x y c); rest_fits = q.rest_fits }

-- ---- numbers

low_byte : (i n : ℕ) → byte_at i n < 256
low_byte zero n = mod_below n 256 (omega arith)
low_byte (suc i) n = mod_below (n / 256 ^ suc i) 256 (omega arith)

IsBytes-high_first : (k n : ℕ) → IsBytes (big_bytes k n)
IsBytes-high_first zero n = λ i. omega arith
IsBytes-high_first (suc k) n = by_place (λ i. get_or (big_bytes (suc k) n) i 0 < 256) (low_byte k n) (IsBytes-high_first k n)

pub IsBytes-number : (kind : Number) (n : ℕ) → IsBytes (number kind n)
IsBytes-number kind n = IsBytes-high_first (width kind) n

abbrev pub IsWide : ℕ → Type 0
IsWide k = (bytes : List ℕ) → length bytes ≡ k → IsBytes bytes → big_bytes k (big_number k bytes) ≡ bytes

wide_byte : IsWide 1
wide_byte [] e fits = absurd (omega arith)
wide_byte (b ∷ []) e fits = let low : b < 256 = fits 0 in ap (λ (x : ℕ). x ∷ []) (omega arith)
wide_byte (b ∷ c ∷ bytes) e fits = absurd (omega arith)

wide_word : IsWide 2
wide_word bytes e fits = be_bytes_2 bytes (big_number 2 bytes) e fits (omega arith)

wide_long : IsWide 4
wide_long bytes e fits = be_bytes_4 bytes (big_number 4 bytes) e fits (omega arith)

pub wide : (kind : Number) → IsWide (width kind)
wide Magic = wide_long
wide Version = wide_byte
wide Release = wide_word
wide Checksum = wide_word
wide LoadedLength = wide_long
wide FrameLimit = wide_word
wide RangeCount = wide_word
wide RangeFirst = wide_word
wide RangeLast = wide_word
wide RoutineCount = wide_word
wide RoutineAddress = wide_long
wide LocalCount = wide_byte
wide InstructionCount = wide_long
wide InstructionAddress = wide_long
wide RoutineNumber = wide_word
wide Height = wide_byte
wide FactCount = wide_long
wide FactAddress = wide_long
wide FactGlobal = wide_byte
wide End = wide_word
wide Kind = wide_byte
wide WordCount = wide_byte
wide Word = wide_word

pub number_takes : (kind : Number) (bytes : List ℕ) (n : ℕ) (rest : List ℕ) → IsBytes bytes → number_at kind bytes ≡ Ok (n, rest) → Takes bytes (number kind n) rest × HasRoom kind n
number_takes kind bytes n rest fits e =
    let k = width kind in
    let g = guard_ok (ltb (length bytes) k) Truncated (big_number k bytes, drop k bytes) (n, rest) e in
    let long : k ≤ length bytes = ltb-false _ _ g.0 in
    let n-is : big_number k bytes ≡ n = ap (λ (p : ℕ × List ℕ). p.0) g.1 in
    let rest-is : drop k bytes ≡ rest = ap (λ (p : ℕ × List ℕ). p.1) g.1 in
    let same : big_number k (take k bytes) ≡ big_number k bytes = big_from-take 0 k k bytes (omega arith) in
    let front : number kind n ≡ take k bytes = rw (← n-is, ← same) (wide kind (take k bytes) (omega (arith, length-take k bytes)) (IsBytes-take k bytes fits)) in
    (record { parts = rw (front, ← rest-is) (sym (take-append-drop k bytes)); rest_fits = rw (← rest-is) (IsBytes-drop k bytes fits) }, rw (← n-is) (big_from-lt 0 k bytes fits))

pub number_again : (kind : Number) (n : ℕ) (rest : List ℕ) → HasRoom kind n → number_at kind (number kind n ++ rest) ≡ Ok (n, rest)
number_again kind n rest room =
    let k = width kind in
    let len : length (number kind n) ≡ k = length-bytes_high_first k n in
    let long : ltb (length (number kind n ++ rest)) k ≡ false = le-ltb _ _ (omega (arith, length-append (number kind n) rest)) in
    rw (long, big_number-reads_back k n rest room, drop_at (number kind n) rest k len) refl

-- ---- the serial number

pub serial_takes : (bytes serial rest : List ℕ) → IsBytes bytes → serial_at bytes ≡ Ok (serial, rest) → Takes bytes serial rest × (length serial ≡ 6) × IsBytes serial
serial_takes bytes serial rest fits e =
    let g = guard_ok (ltb (length bytes) 6) Truncated (take 6 bytes, drop 6 bytes) (serial, rest) e in
    let long : 6 ≤ length bytes = ltb-false _ _ g.0 in
    let serial-is : take 6 bytes ≡ serial = ap (λ (p : List ℕ × List ℕ). p.0) g.1 in
    let rest-is : drop 6 bytes ≡ rest = ap (λ (p : List ℕ × List ℕ). p.1) g.1 in
    (record { parts = rw (← serial-is, ← rest-is) (sym (take-append-drop 6 bytes)); rest_fits = rw (← rest-is) (IsBytes-drop 6 bytes fits) }, rw (← serial-is) (omega (arith, length-take 6 bytes)), rw (← serial-is) (IsBytes-take 6 bytes fits))

pub serial_again : (serial rest : List ℕ) → length serial ≡ 6 → serial_at (serial ++ rest) ≡ Ok (serial, rest)
serial_again serial rest len =
    let long : ltb (length (serial ++ rest)) 6 ≡ false = le-ltb _ _ (omega (arith, length-append serial rest)) in
    rw (long, take_at serial rest 6 len, drop_at serial rest 6 len) refl

-- a number takes at least one byte
pub width_some : (kind : Number) → 0 < width kind
width_some Magic = omega arith
width_some Version = omega arith
width_some _ = omega arith

-- ---- no step wants memory

pub plain_then : {A B : Type 0} (r : Result A CertError) (f : A → Result B CertError) → IsPlain r → ((x : A) → IsPlain (f x)) → IsPlain (r >>= f)
plain_then (Ok x) f p q e = q x e
plain_then (Err d) f p q e = p (let same : d ≡ OutOfMemory = cc in ap (λ (x : CertError). Err x) same)

pub plain_ok : {A : Type 0} (x : A) → IsPlain {A = A} (Ok x)
plain_ok x e = absurd cc

pub plain_need : (b : Bool) (d : CertError) → d ≢ OutOfMemory → IsPlain (need b d)
plain_need true d p e = absurd cc
plain_need false d p e = p cc

pub plain_guard : {A : Type 0} (b : Bool) (x : A) → IsPlain {A = A} (cond b (Err Truncated) (Ok x))
plain_guard true x e = absurd cc
plain_guard false x e = absurd cc

pub plain_sized : (n : ℕ) (bytes : List ℕ) → IsPlain (sized_at n bytes)
plain_sized n bytes = plain_guard (ltb (length bytes) n) (big_number n bytes, drop n bytes)

pub plain_serial : (bytes : List ℕ) → IsPlain (serial_at bytes)
plain_serial bytes = plain_guard (ltb (length bytes) 6) (take 6 bytes, drop 6 bytes)
