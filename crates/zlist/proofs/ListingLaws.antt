-- What callers need of listings beyond the clauses: how the look-ups go together.
use Rattle.std.proofs.Common.{◌≡◌, ℕ, zero, suc, ◌+◌, ◌<◌, ◌==◌, Bool, true, false, List, [], ◌∷◌, Some, None, is_some, length, get_or, slice_index, refl, sym, ap, ◌∙◌, subst, arith, eq-eqb}
use Rattle.std.specs.Prelude.{find, position, slice_get, option_map, nat_lt, ◌≤◌, cond, ◌||◌}
use Rattle.std.specs.List.{list_any, position_or_len}
use Rattle.std.proofs.lemmas.Bool.{eqb-true, ne_eqb, cond_below}
use Rattle.std.proofs.lemmas.List.Folds.{find_at}
use Rattle.std.proofs.lemmas.List.Sums.{position_or_len_is}
use Rattle.std.proofs.lemmas.List.{get_or_default, length-map}
use Rattle.zlist.specs.declared.record.Record.{Record}
use Rattle.zlist.specs.Listing.{ListedCode, IsInOrder, addresses_of, is_listed, record_at, index_of, is_routine, routine_at}
use Rattle.zlist.proofs.Rising.{below_later, address_is}
use Rattle.zlist.proofs.Tables.{find-at_position, list_any-position}

-- ---- on lists

list_any-find : {X : Type 0} (p : X → Bool) (xs : List X) → list_any p xs ≡ is_some (find p xs)
list_any-find p [] = refl
list_any-find p (x ∷ xs) =
    elim (p x) as (λ b. (b || list_any p xs) ≡ is_some (cond b (Some x) (find p xs))) [ true ↦ refl | false ↦ list_any-find p xs ]

find-passes : {X : Type 0} (p : X → Bool) (xs : List X) (x : X) → find p xs ≡ Some x → p x ≡ true
find-passes p [] x h = cc
find-passes p (y ∷ ys) x h =
    (elim (p y) as (λ b. p y ≡ b → cond b (Some y) (find p ys) ≡ Some x → p x ≡ true) [
      | true ↦ λ e g. cc
      | false ↦ λ e g. find-passes p ys x g
    ]) refl h

slice_get-is : {X : Type 0} (xs : List X) (k : ℕ) (x d : X) → slice_get xs k ≡ Some x → (k < length xs) × (x ≡ get_or xs k d)
slice_get-is [] k x d h = cc
slice_get-is (y ∷ ys) zero x d h = (omega arith, cc)
slice_get-is (y ∷ ys) (suc k) x d h = let w = slice_get-is ys k x d h in (omega (arith, w.0), w.1)

-- ---- the instructions

-- a place is listed exactly where a record has it
pub is_listed-record_at : (listing : ListedCode) (place : ℕ) → is_listed listing place ≡ is_some (record_at listing place)
is_listed-record_at listing place = list_any-find (λ r. r.address == place) listing.records

-- what is listed at a place stands there
pub record_at-address : (listing : ListedCode) (place : ℕ) (r : Record) → record_at listing place ≡ Some r → r.address ≡ place
record_at-address listing place r h = eqb-true r.address place (find-passes (λ s. s.address == place) listing.records r h)

-- and is one of the records
pub record_at-among : (listing : ListedCode) (place : ℕ) (r : Record) → record_at listing place ≡ Some r → (k : ℕ) × (slice_get listing.records k ≡ Some r)
record_at-among listing place r h =
    (position_or_len (λ s. s.address == place) listing.records, sym (find_at (λ s. s.address == place) listing.records) ∙ h)

-- it belongs to the main code or to a routine
pub record_at-owned : (listing : ListedCode) → IsInOrder listing → (place : ℕ) (r : Record) → record_at listing place ≡ Some r → r.routine ≤ length listing.routines
record_at-owned listing order place r h =
    let w = record_at-among listing place r h in
    let at = slice_get-is listing.records w.0 r r w.1 in
    subst (λ (s : Record). s.routine ≤ length listing.routines) (sym at.1) (order.owned w.0 r at.0)

-- and lies below 131,072
pub record_at-inside : (listing : ListedCode) → IsInOrder listing → (place : ℕ) (r : Record) → record_at listing place ≡ Some r → place < 131072
record_at-inside listing order place r h =
    let w = record_at-among listing place r h in
    let at = slice_get-is listing.records w.0 r r w.1 in
    let inside : r.address < 131072 = subst (λ (s : Record). s.address < 131072) (sym at.1) (order.inside w.0 r at.0) in
    subst (λ (n : ℕ). n < 131072) (record_at-address listing place r h) inside

-- the record at index k is found by its address
pub index_of-address : (listing : ListedCode) → IsInOrder listing → (k : ℕ) (r : Record) → slice_get listing.records k ≡ Some r → index_of listing r.address ≡ Some k
index_of-address listing order k r h =
    let xs = addresses_of listing.records in
    let p : Record → Bool = λ s. s.address == r.address in
    let at = slice_get-is listing.records k r r h in
    let count = length-map listing.records (λ (s : Record). s.address) in
    let first : position_or_len p listing.records ≡ k =
    position_or_len_is p listing.records k r (omega (arith, at.0))
    (λ j l. ne_eqb (get_or listing.records j r).address r.address
    (λ e. omega (arith, below_later xs order.rising j k l (omega (arith, at.0)), address_is listing.records k r at.0 at.1, address_is listing.records j (get_or listing.records j r) (omega (arith, at.0)) (get_or_default listing.records j r (get_or listing.records j r) (omega (arith, at.0))))))
    (λ l. eq-eqb (get_or listing.records k r).address r.address (ap (λ (s : Record). s.address) (sym at.1))) in
    sym (cond_below (position_or_len p listing.records) (length listing.records) (Some (position_or_len p listing.records)) None (omega (arith, at.0))) ∙ ap (λ n. Some n) first

pub record_at-index : (listing : ListedCode) → IsInOrder listing → (k : ℕ) (r : Record) → slice_get listing.records k ≡ Some r → record_at listing r.address ≡ Some r
record_at-index listing order k r h =
    find-at_position (λ s. s.address == r.address) listing.records k (index_of-address listing order k r h) ∙ h

-- ---- the routines

position_given : (b : Bool) (k : ℕ) → b ≡ is_some (option_map (λ j. j + 1) (cond b (Some k) None))
position_given true k = refl
position_given false k = refl

-- a place is a routine exactly where it has a number
pub is_routine-routine_at : (listing : ListedCode) (place : ℕ) → is_routine listing place ≡ is_some (routine_at listing place)
is_routine-routine_at listing place =
    list_any-position (λ a. a == place) listing.routines ∙ position_given (nat_lt (position_or_len (λ a. a == place) listing.routines) (length listing.routines)) (position_or_len (λ a. a == place) listing.routines)

-- the routine at index k has the number k + 1
pub routine_at-index : (listing : ListedCode) → IsInOrder listing → (k : ℕ) → k < length listing.routines → routine_at listing (slice_index listing.routines k) ≡ Some (k + 1)
routine_at-index listing order k l =
    let xs = listing.routines in
    let a = slice_index xs k in
    let p : ℕ → Bool = λ b. b == a in
    let first : position_or_len p xs ≡ k =
    position_or_len_is p xs k 0 (omega arith)
    (λ j m. ne_eqb (slice_index xs j) a (λ e. omega (arith, below_later xs order.routines_rising j k m l)))
    (λ _. eq-eqb a a refl) in
    let found : position p xs ≡ Some k = sym (cond_below (position_or_len p xs) (length xs) (Some (position_or_len p xs)) None (omega arith)) ∙ ap (λ n. Some n) first in
    ap (λ o. option_map (λ j. j + 1) o) found
