-- What a test of neighbours says of the whole list.
use Rattle.std.proofs.Common.{◌≡◌, ℕ, ◌+◌, ◌<◌, Bool, true, false, List, [], ◌∷◌, ◌↔◌, length, slice_index, get_or, IsTrue, refl, sym, arith, nat_lt}
use Rattle.std.specs.List.{IsAllAdjacentAnswer}
use Rattle.std.specs.List.Sorted.{IsStrictlyIncreasing}
use Rattle.std.proofs.lemmas.Bool.{ltb-true, ltb-false, false≢true}
use Rattle.std.proofs.lemmas.List.{get_or-map, length-map}
use Rattle.zlist.specs.declared.record.Record.{Record}
use Rattle.zlist.specs.Listing.{addresses_of}

pub rises_by_neighbours : (xs : List ℕ) (answer : Bool) → IsAllAdjacentAnswer (λ x y b. b ≡ nat_lt x y) xs answer → IsTrue answer ↔ IsStrictlyIncreasing xs
rises_by_neighbours xs true h = (λ _ k l. ltb-true (slice_index xs k) (slice_index xs (k + 1)) (sym (h k 0 l)), λ _. refl)
rises_by_neighbours xs false h =
    (λ e. absurd (false≢true e), λ rising. absurd (omega (arith, ltb-false (slice_index xs h.0) (slice_index xs (h.0 + 1)) (sym (h.2 0)), rising h.0 h.1)))

address_at : (records : List Record) (k : ℕ) (d : Record) → k < length records → slice_index (addresses_of records) k ≡ (get_or records k d).address
address_at records k d l = get_or-map (λ (s : Record). s.address) records k d 0 l

pub records_rise_by_neighbours : (records : List Record) (answer : Bool) → IsAllAdjacentAnswer (λ x y b. b ≡ nat_lt x.address y.address) records answer → IsTrue answer ↔ IsStrictlyIncreasing (addresses_of records)
records_rise_by_neighbours [] true h = (λ _ k l. absurd (omega arith), λ _. refl)
records_rise_by_neighbours (r ∷ rs) true h =
    let count = length-map rs (λ (s : Record). s.address) in (
      λ _ k l.
          let below = ltb-true (get_or (r ∷ rs) k r).address (get_or (r ∷ rs) (k + 1) r).address (sym (h k r (omega arith))) in
          omega (arith, address_at (r ∷ rs) k r (omega arith), address_at (r ∷ rs) (k + 1) r (omega arith)),
      λ _. refl,
    )
records_rise_by_neighbours [] false h = absurd (omega (arith, h.1))
records_rise_by_neighbours (r ∷ rs) false h =
    let k = h.0 in
    let count = length-map rs (λ (s : Record). s.address) in
    let above = ltb-false (get_or (r ∷ rs) k r).address (get_or (r ∷ rs) (k + 1) r).address (sym (h.2 r)) in (
      λ e. absurd (false≢true e),
      λ rising. absurd (omega (arith, h.1, rising k (omega (arith, h.1)), address_at (r ∷ rs) k r (omega (arith, h.1)), address_at (r ∷ rs) (k + 1) r (omega (arith, h.1)))),
    )
