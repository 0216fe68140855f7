-- Values of the definitions, computed.
use Rattle.std.proofs.Common.{◌≡◌, ℕ, zero, suc, ◌+◌, ◌-◌, ◌<◌, ◌≤◌, ◌==◌, true, false, List, [], ◌∷◌, length, get_or, slice_index, Some, None, refl, arith}
use Rattle.std.specs.Prelude.{All}
use Rattle.std.specs.List.Sorted.{IsStrictlyIncreasing}
use Rattle.zcode.specs.declared.opcode.Opcode.TheVariants.{NewLine}
use Rattle.zcode.specs.Instruction.{Instruction}
use Rattle.zlist.specs.declared.record.Record.{Record}
use Rattle.zlist.specs.declared.owner.Owner.TheVariants.{Main, Routine}
use Rattle.zlist.specs.Listed.{owner_of}
use Rattle.zlist.specs.Listing.{ListedCode, IsInOrder, addresses_of, is_listed, record_at, index_of, is_routine, routine_at}
use Rattle.zlist.specs.Numbering.{IsNumbering, Tells, IsKept}

new_line : Instruction
new_line = record { opcode = NewLine; operands = []; store = None; branch = None; size = 1 }

main : Record
main = record { address = 2; routine = 0; instruction = new_line }

first : Record
first = record { address = 5; routine = 1; instruction = new_line }

-- two instructions, at 2 and at 5, and routines at 4 and at 8
listing : ListedCode
listing = record { records = main ∷ first ∷ []; routines = 4 ∷ 8 ∷ [] }

addresses : (addresses_of listing.records ≡ 2 ∷ 5 ∷ []) × (addresses_of [] ≡ [])
unfolding listing main first
addresses = (refl, refl)

listed : (is_listed listing 2 ≡ true) × (is_listed listing 5 ≡ true) × (is_listed listing 3 ≡ false) × (is_listed listing 4 ≡ false)
unfolding listing main first
listed = (refl, refl, refl, refl)

records : (record_at listing 2 ≡ Some main) × (record_at listing 5 ≡ Some first) × (record_at listing 6 ≡ None)
unfolding listing main first
records = (refl, refl, refl)

-- from 0 on
indices : (index_of listing 2 ≡ Some 0) × (index_of listing 5 ≡ Some 1) × (index_of listing 1 ≡ None)
unfolding listing main first
indices = (refl, refl, refl)

routines : (is_routine listing 4 ≡ true) × (is_routine listing 8 ≡ true) × (is_routine listing 2 ≡ false)
unfolding listing
routines = (refl, refl, refl)

-- from 1 on
numbers : (routine_at listing 4 ≡ Some 1) × (routine_at listing 8 ≡ Some 2) × (routine_at listing 5 ≡ None)
unfolding listing
numbers = (refl, refl, refl)

-- ---- in order

of_two : {X : Type 0} (P : X → Type 0) (x y : X) → P x → P y → All P (x ∷ y ∷ [])
of_two P x y one two zero d l = one
of_two P x y one two (suc zero) d l = two
of_two P x y one two (suc (suc k)) d l = absurd (omega (arith, l))

two_rise : (x y : ℕ) → x < y → IsStrictlyIncreasing (x ∷ y ∷ [])
two_rise x y less zero l = less
two_rise x y less (suc k) l = absurd (omega (arith, l))

in_order : IsInOrder listing
unfolding listing main first
in_order = record {
  rising = two_rise 2 5 (omega arith);
  inside = of_two (λ (r : Record). r.address < 131072) main first (omega arith) (omega arith);
  owned = of_two (λ (r : Record). r.routine ≤ 2) main first (omega arith) (omega arith);
  routines_rising = two_rise 4 8 (omega arith);
  routines_inside = of_two (λ (a : ℕ). a < 131072) 4 8 (omega arith) (omega arith);
  routines_numbered = omega arith;
}

-- not with one address twice, with an address that no story has, or with a routine that isn't there
not_in_order : (IsInOrder (record listing { routines = 4 ∷ 4 ∷ [] }) → ⊥) × (IsInOrder (record listing { routines = 131072 ∷ [] }) → ⊥) × (IsInOrder (record listing { routines = [] }) → ⊥)
unfolding listing main first
not_in_order = (λ o. omega (arith, o.routines_rising 0 (omega arith)), λ o. omega (arith, o.routines_inside 0 0 (omega arith)), λ o. omega (arith, o.owned 1 main (omega arith)))

-- so many addresses one behind another
successive : ℕ → ℕ → List ℕ
successive zero address = []
successive (suc n) address = address ∷ successive n (address + 1)

so_many : (n address : ℕ) → length (successive n address) ≡ n
unfolding successive
so_many zero address = refl
so_many (suc n) address = omega (arith, so_many n (address + 1))

each_of : (n address k d : ℕ) → k < n → get_or (successive n address) k d ≡ address + k
unfolding successive
each_of zero address k d l = absurd (omega (arith, l))
each_of (suc n) address zero d l = omega arith
each_of (suc n) address (suc k) d l = omega (arith, each_of n (address + 1) k d (omega (arith, l)))

-- 65,535 routines, at the last addresses of all, are in order, and one more isn't
most_routines : (n : ℕ) → n ≤ 65535 → IsInOrder (record { records = []; routines = successive n 65537 })
most_routines n few = record {
  rising = λ k l. absurd (omega (arith, l));
  inside = λ k d l. absurd (omega (arith, l));
  owned = λ k d l. absurd (omega (arith, l));
  routines_rising = λ k l. omega (arith, l, so_many n 65537, each_of n 65537 k 0 (omega (arith, l, so_many n 65537)), each_of n 65537 (k + 1) 0 (omega (arith, l, so_many n 65537)));
  routines_inside = λ k d l. omega (arith, l, few, so_many n 65537, each_of n 65537 k d (omega (arith, l, so_many n 65537)));
  routines_numbered = omega (arith, few, so_many n 65537);
}

one_too_many : (listing : ListedCode) → length listing.routines ≡ 65536 → IsInOrder listing → ⊥
one_too_many listing e o = omega (arith, e, o.routines_numbered)

-- an instruction may stand at the last address, and not behind it, nor twice at one
last_address : IsInOrder (record { records = main ∷ record first { address = 131071 } ∷ []; routines = 131071 ∷ [] }) × (IsInOrder (record listing { records = record first { address = 131072 } ∷ [] }) → ⊥) × (IsInOrder (record listing { records = main ∷ main ∷ [] }) → ⊥)
unfolding listing main first
last_address = (
  record {
    rising = two_rise 2 131071 (omega arith);
    inside = of_two (λ (r : Record). r.address < 131072) main (record first { address = 131071 }) (omega arith) (omega arith);
    owned = of_two (λ (r : Record). r.routine ≤ 1) main (record first { address = 131071 }) (omega arith) (omega arith);
    routines_rising = λ k l. absurd (omega (arith, l));
    routines_inside = one_inside;
    routines_numbered = omega arith;
  },
  λ o. omega (arith, o.inside 0 main (omega arith)),
  λ o. omega (arith, o.rising 0 (omega arith)),
)
  where
    one_inside : All (λ (a : ℕ). a < 131072) (131071 ∷ [])
    one_inside zero d l = omega arith
    one_inside (suc k) d l = absurd (omega (arith, l))

-- ---- tables of numbers

-- the first is at 1, the second at 3
numbering : IsNumbering (1 ∷ 3 ∷ []) 2 (0 ∷ 1 ∷ 0 ∷ 2 ∷ [])
numbering = record { numbered = numbered; only = only; own = own }
  where
    numbered : (k : ℕ) → k < 2 → slice_index (0 ∷ 1 ∷ 0 ∷ 2 ∷ []) (slice_index (1 ∷ 3 ∷ []) k) ≡ k + 1
    numbered zero l = refl
    numbered (suc zero) l = refl
    numbered (suc (suc k)) l = absurd (omega (arith, l))

    only : (place : ℕ) → 0 < slice_index (0 ∷ 1 ∷ 0 ∷ 2 ∷ []) place → slice_index (0 ∷ 1 ∷ 0 ∷ 2 ∷ []) place ≤ 2
    only zero l = absurd (omega (arith, l))
    only (suc zero) l = omega arith
    only (suc (suc zero)) l = absurd (omega (arith, l))
    only (suc (suc (suc zero))) l = omega arith
    only (suc (suc (suc (suc k)))) l = absurd (omega (arith, l))

    own : (place : ℕ) → 0 < slice_index (0 ∷ 1 ∷ 0 ∷ 2 ∷ []) place → slice_index (1 ∷ 3 ∷ []) (slice_index (0 ∷ 1 ∷ 0 ∷ 2 ∷ []) place - 1) ≡ place
    own zero l = absurd (omega (arith, l))
    own (suc zero) l = refl
    own (suc (suc zero)) l = absurd (omega (arith, l))
    own (suc (suc (suc zero))) l = refl
    own (suc (suc (suc (suc k)))) l = absurd (omega (arith, l))

none_numbered : IsNumbering [] 0 []
none_numbered = record { numbered = λ k l. absurd (omega (arith, l)); only = λ place l. absurd (omega (arith, l)); own = λ place l. absurd (omega (arith, l)) }

-- not with an address left out, or counted from 0
not_numbering : (IsNumbering (1 ∷ 3 ∷ []) 2 (0 ∷ 1 ∷ []) → ⊥) × (IsNumbering (1 ∷ []) 1 (0 ∷ 0 ∷ []) → ⊥)
not_numbering = (λ t. omega (arith, t.numbered 1 (omega arith)), λ t. omega (arith, t.numbered 0 (omega arith)))

-- the number of the first that passes, and 0 where none does
told : Tells (λ a. a == 8) (4 ∷ 8 ∷ []) 2 × Tells (λ a. a == 9) (4 ∷ 8 ∷ []) 0 × (Tells (λ a. a == 8) (4 ∷ 8 ∷ []) 0 → ⊥) × (Tells (λ a. a == 8) (8 ∷ 8 ∷ []) 2 → ⊥)
told = (
  record { most = omega arith; none = λ e. absurd cc; first = λ _. refl },
  record { most = omega arith; none = λ _. refl; first = λ l. absurd (omega (arith, l)) },
  λ t. omega (arith, t.none refl),
  λ t. omega (arith, t.first (omega arith)),
)

kept : IsKept (record { records = []; routines = 1 ∷ 3 ∷ [] }) [] (0 ∷ 1 ∷ 0 ∷ 2 ∷ [])
kept = record {
  order = record {
    rising = λ k l. absurd (omega (arith, l));
    inside = λ k d l. absurd (omega (arith, l));
    owned = λ k d l. absurd (omega (arith, l));
    routines_rising = two_rise 1 3 (omega arith);
    routines_inside = of_two (λ (a : ℕ). a < 131072) 1 3 (omega arith) (omega arith);
    routines_numbered = omega arith;
  };
  records = none_numbered;
  routines = numbering;
}

-- number 0 is the main code, and the others are the routines in their order
owners : (owner_of (904 ∷ 1000 ∷ []) 0 ≡ Main) × (owner_of (904 ∷ 1000 ∷ []) 1 ≡ Routine 904) × (owner_of (904 ∷ 1000 ∷ []) 2 ≡ Routine 1000)
owners = (refl, refl, refl)
