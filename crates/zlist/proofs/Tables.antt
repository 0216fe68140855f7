-- What the tables of a listing tell.
use Rattle.std.proofs.Common.{◌≡◌, ◌≢◌, ℕ, zero, suc, ◌+◌, ◌-◌, ◌<◌, ◌≤◌, ◌==◌, Bool, true, false, cond, not, ◌⊎◌, inl, inr, List, [], ◌∷◌, length, replicate, slice_index, slice_set, get_or, refl, sym, ap, subst, ◌∙◌, arith, eq-eqb}
use Rattle.std.proofs.Math.Nat.{add-sub_cancel}
use Rattle.std.proofs.lemmas.Bool.{cases_eq, cases_lt, ne_eqb, cond_below, cond_above, lt-ltb, le-ltb}
use Rattle.std.proofs.lemmas.Bool.Decides.{nat_tests}
use Rattle.std.proofs.lemmas.List.{get_or-replicate, get_or_past, get_or-set_same, get_or-set_other, length-replicate, length-map}
use Rattle.std.proofs.lemmas.List.Elements.{All-map}
use Rattle.std.proofs.lemmas.List.Folds.{find_at}
use Rattle.std.proofs.lemmas.List.Sums.{position_or_len_is}
use Rattle.std.specs.Prelude.{Some, None, position, find, slice_get, nat_lt, ◌||◌}
use Rattle.std.specs.List.{All, position_or_len, list_any}
use Rattle.std.specs.List.Sorted.{IsStrictlyIncreasing}
use Rattle.zlist.specs.declared.record.Record.{Record}
use Rattle.zlist.specs.Listing.{addresses_of}
use Rattle.zlist.specs.Numbering.{IsNumbering, Tells}
use Rattle.zlist.proofs.Rising.{below_later, address_is}

-- ---- how a table is made

zeros_tell_zero : (n place : ℕ) → slice_index (replicate n 0) place ≡ 0
zeros_tell_zero n place =
    elim (cases_lt place n) as (λ _. slice_index (replicate n 0) place ≡ 0) [
      | inl l ↦ get_or-replicate n place 0 0 l
      | inr m ↦ get_or_past (replicate n 0) place 0 (omega (arith, length-replicate {A = ℕ} n 0))
    ]

-- a new table numbers nothing
pub IsNumbering-none : (xs : List ℕ) (n : ℕ) → IsNumbering xs 0 (replicate n 0)
IsNumbering-none xs n = record {
  numbered = λ k h. absurd (omega arith);
  only = λ place h. absurd (omega (arith, zeros_tell_zero n place));
  own = λ place h. absurd (omega (arith, zeros_tell_zero n place));
}

-- what is read after a write
read_set : (table : List ℕ) (a place n : ℕ) → a < length table → ((place ≡ a) × (slice_index (slice_set table a n) place ≡ n)) ⊎ ((place ≢ a) × (slice_index (slice_set table a n) place ≡ slice_index table place))
read_set table a place n fits =
    elim (cases_eq place a) [
      | inl e ↦ inl (e, rw e (get_or-set_same table a n 0 fits))
      | inr other ↦ inr (other, get_or-set_other table a place n 0 other)
    ]

-- the next address gets the next number
pub IsNumbering-more : (xs table : List ℕ) (i : ℕ) → IsStrictlyIncreasing xs → i < length xs → slice_index xs i < length table → IsNumbering xs i table → IsNumbering xs (i + 1) (slice_set table (slice_index xs i) (i + 1))
IsNumbering-more xs table i rising l fits t =
    let a = slice_index xs i in
    let made = slice_set table a (i + 1) in
    record {
      numbered = λ k h.
          elim (cases_eq k i) as (λ _. slice_index made (slice_index xs k) ≡ k + 1) [
            | inl e ↦ rw e (get_or-set_same table a (i + 1) 0 fits)
            | inr other ↦
                let below = below_later xs rising k i (omega arith) l in
                get_or-set_other table a (slice_index xs k) (i + 1) 0 (omega arith) ∙ t.numbered k (omega arith)
          ];
      only = λ place h.
          elim (read_set table a place (i + 1) fits) as (λ _. slice_index made place ≤ i + 1) [
            | inl w ↦ omega arith
            | inr w ↦ omega (arith, t.only place (omega arith))
          ];
      own = λ place h.
          elim (read_set table a place (i + 1) fits) as (λ _. slice_index xs (slice_index made place - 1) ≡ place) [
            | inl w ↦ rw (w.1, add-sub_cancel) (sym w.0)
            | inr w ↦ rw (w.1) (t.own place (omega arith))
          ];
    }

-- the same, where the address is read
pub IsNumbering-address : (xs table : List ℕ) (i a : ℕ) → IsStrictlyIncreasing xs → i < length xs → slice_index xs i ≡ a → a < length table → IsNumbering xs i table → IsNumbering xs (i + 1) (slice_set table a (i + 1))
IsNumbering-address xs table i a rising l is fits t =
    let more : IsNumbering xs (i + 1) (slice_set table (slice_index xs i) (i + 1)) = IsNumbering-more xs table i rising l (omega arith) t in
    subst (λ (b : ℕ). IsNumbering xs (i + 1) (slice_set table b (i + 1))) is more

-- the same of a record
pub IsNumbering-record : (records : List Record) (table : List ℕ) (i : ℕ) (r : Record) → IsStrictlyIncreasing (addresses_of records) → i < length records → r ≡ get_or records i r → r.address < length table → IsNumbering (addresses_of records) i table → IsNumbering (addresses_of records) (i + 1) (slice_set table r.address (i + 1))
IsNumbering-record records table i r rising l at fits t =
    let count = length-map records (λ (s : Record). s.address) in
    IsNumbering-address (addresses_of records) table i r.address rising (omega arith) (address_is records i r l at) fits t

-- ---- what a whole table tells

-- a number in a table tells the search for its place
pub Tells-from_table : (xs table : List ℕ) → IsStrictlyIncreasing xs → IsNumbering xs (length xs) table → (place : ℕ) → Tells (λ a. a == place) xs (slice_index table place)
Tells-from_table xs table rising t place = record {
  most = elim (cases_lt 0 (slice_index table place)) [ inl l ↦ t.only place l | inr z ↦ omega arith ];
  none = λ z.
      position_or_len_is (λ a. a == place) xs (length xs) 0 (omega arith)
      (λ k l. ne_eqb (slice_index xs k) place (λ e. omega (arith, t.numbered k l, ap (λ q. slice_index table q) e)))
      (λ l. absurd (omega arith));
  first = λ above.
      let n = slice_index table place - 1 in
      let within = t.only place above in
      let own = t.own place above in
      position_or_len_is (λ a. a == place) xs n 0 (omega arith)
      (λ k l. ne_eqb (slice_index xs k) place (λ e. omega (arith, below_later xs rising k n l (omega arith))))
      (λ l. eq-eqb (slice_index xs n) place own);
}

-- a search of records by address goes as one of their addresses
position-addresses : (place : ℕ) (records : List Record) → position_or_len (λ r. r.address == place) records ≡ position_or_len (λ a. a == place) (addresses_of records)
position-addresses place [] = refl
position-addresses place (r ∷ rs) = ap (λ n. cond (not (r.address == place)) (1 + n) 0) (position-addresses place rs)

-- the same of the records that have these addresses
pub Tells-from_addresses : (place number : ℕ) (records : List Record) → Tells (λ a. a == place) (addresses_of records) number → Tells (λ r. r.address == place) records number
Tells-from_addresses place number records t =
    let same = position-addresses place records in
    let count = length-map records (λ r. r.address) in
    record {
      most = omega (arith, t.most);
      none = λ z. same ∙ t.none z ∙ count;
      first = λ above. same ∙ t.first above;
    }

-- so does a number in the table of records
pub Tells-from_records : (records : List Record) (table : List ℕ) → IsStrictlyIncreasing (addresses_of records) → IsNumbering (addresses_of records) (length records) table → (place : ℕ) → Tells (λ r. r.address == place) records (slice_index table place)
Tells-from_records records table rising t place =
    let whole = subst (λ (n : ℕ). IsNumbering (addresses_of records) n table) (sym (length-map records (λ (s : Record). s.address))) t in
    Tells-from_addresses place (slice_index table place) records (Tells-from_table (addresses_of records) table rising whole place)

-- only places below the bound have a number
pub bound_from_table : (xs table : List ℕ) (bound : ℕ) → All (λ a. a < bound) xs → IsNumbering xs (length xs) table → (place : ℕ) → 0 < slice_index table place → place < bound
bound_from_table xs table bound inside t place above =
    let n = slice_index table place - 1 in
    omega (arith, t.only place above, t.own place above, inside n 0 (omega (arith, t.only place above)))

pub bound_from_records : (records : List Record) (table : List ℕ) (bound : ℕ) → All (λ r. r.address < bound) records → IsNumbering (addresses_of records) (length records) table → (place : ℕ) → 0 < slice_index table place → place < bound
bound_from_records records table bound inside t place above =
    let whole = subst (λ (n : ℕ). IsNumbering (addresses_of records) n table) (sym (length-map records (λ (s : Record). s.address))) t in
    bound_from_table (addresses_of records) table bound (All-map (λ a. a < bound) (λ (s : Record). s.address) records inside) whole place above

-- ---- what a number says of searches

next_below : (a b : ℕ) → nat_lt a b ≡ nat_lt (1 + a) (suc b)
next_below a b = grind (arith, nat_tests)

next_below_none : (n : ℕ) → true ≡ nat_lt 0 (suc n)
next_below_none n = grind (arith, nat_tests)

pub list_any-position : {X : Type 0} (p : X → Bool) (xs : List X) → list_any p xs ≡ nat_lt (position_or_len p xs) (length xs)
list_any-position p [] = refl
list_any-position p (x ∷ xs) =
    elim (p x) as (λ b. (b || list_any p xs) ≡ nat_lt (cond (not b) (1 + position_or_len p xs) 0) (suc (length xs))) [
      | true ↦ next_below_none (length xs)
      | false ↦ list_any-position p xs ∙ next_below (position_or_len p xs) (length xs)
    ]

-- some element passes where the number is above 0
pub list_any-told : {X : Type 0} (p : X → Bool) (xs : List X) (number : ℕ) → Tells p xs number → nat_lt 0 number ≡ list_any p xs
list_any-told p xs number t =
    elim (cases_lt 0 number) as (λ _. nat_lt 0 number ≡ list_any p xs) [
      | inl above ↦
          lt-ltb 0 number above ∙ sym (list_any-position p xs ∙ lt-ltb (position_or_len p xs) (length xs) (omega (arith, t.first above, t.most)))
      | inr none ↦
          le-ltb 0 number none ∙ sym (list_any-position p xs ∙ le-ltb (position_or_len p xs) (length xs) (omega (arith, t.none (omega arith))))
    ]

-- ---- what the first place says of the first element

-- nothing stands past the end
slice_get_past : {X : Type 0} (xs : List X) (k : ℕ) → length xs ≤ k → slice_get xs k ≡ None
slice_get_past [] k h = refl
slice_get_past (x ∷ xs) zero h = absurd (omega arith)
slice_get_past (x ∷ xs) (suc k) h = slice_get_past xs k (omega arith)

pub find-at_position : {X : Type 0} (p : X → Bool) (xs : List X) (k : ℕ) → position p xs ≡ Some k → find p xs ≡ slice_get xs k
find-at_position p xs k h =
    find_at p xs ∙ elim (cases_lt (position_or_len p xs) (length xs)) as (λ _. slice_get xs (position_or_len p xs) ≡ slice_get xs k) [
      | inl l ↦
          let e : Some (position_or_len p xs) ≡ Some k = cond_below (position_or_len p xs) (length xs) (Some (position_or_len p xs)) None l ∙ h in
          cc
      | inr m ↦
          let e : None ≡ Some k = cond_above (position_or_len p xs) (length xs) (Some (position_or_len p xs)) None None m refl ∙ h in
          cc
    ]

pub find-at_no_position : {X : Type 0} (p : X → Bool) (xs : List X) → position p xs ≡ None → find p xs ≡ None
find-at_no_position p xs h =
    find_at p xs ∙ elim (cases_lt (position_or_len p xs) (length xs)) as (λ _. slice_get xs (position_or_len p xs) ≡ None) [
      | inl l ↦
          let e : Some (position_or_len p xs) ≡ None = cond_below (position_or_len p xs) (length xs) (Some (position_or_len p xs)) None l ∙ h in
          cc
      | inr m ↦ slice_get_past xs (position_or_len p xs) m
    ]

slice_get_at : {X : Type 0} (xs : List X) (k : ℕ) (x : X) → k < length xs → x ≡ get_or xs k x → slice_get xs k ≡ Some x
slice_get_at [] k x l e = absurd (omega arith)
slice_get_at (y ∷ ys) zero x l e = ap (λ z. Some z) (sym e)
slice_get_at (y ∷ ys) (suc k) x l e = slice_get_at ys k x (omega arith) e

pub find-at_index : {X : Type 0} (p : X → Bool) (xs : List X) (k : ℕ) (x : X) → position p xs ≡ Some k → k < length xs → x ≡ get_or xs k x → find p xs ≡ Some x
find-at_index p xs k x h l e = find-at_position p xs k h ∙ slice_get_at xs k x l e
