use Rattle.std.proofs.Common.{◌≡◌, ◌+◌, ◌-◌, ◌<◌, ℕ, replicate, slice_index, length, arith, ap, ◌∙◌}
use Rattle.std.proofs.lemmas.List.{length-map}
use Rattle.zlist.specs.Listing.{addresses_of}
use Rattle.zlist.proofs.Rising.{address_is, address_of_last, below_end, few_records}
use Rattle.zlist.proofs.Tables.{IsNumbering-none, IsNumbering-record}
use Rattle.zlist.proofs.numbers.record_numbers.Goals as goal
use Rattle.zlist.proofs.numbers.record_numbers.Goals.{in-empty, in-len1-up}

pub loop-index-init : goal.loop-index-init
loop-index-init c =
    let xs = addresses_of c.args.records.now in
    let end = c.if-records-lt1.end in
    let zeros : c.in_ok-table.table.items ≡ replicate end 0 = c.in_ok-table.ensures.items_if_clones_equal (λ y e. e) in
    let count = length-map c.args.records.now (λ r. r.address) in
    let highest : 0 < length xs → end ≡ slice_index xs (length xs - 1) + 1 = λ some.
    elim c.if-records-lt1.branch as (λ _. end ≡ slice_index xs (length xs - 1) + 1) [
      | in-empty w ↦ absurd (omega arith)
      | in-len1-up w ↦ w.end-is ∙ ap (λ (a : ℕ). a + 1) (address_of_last c.args.records.now w.highest-item.result (omega arith) w.highest-item.is)
    ] in
    (rw zeros (IsNumbering-none xs end), c.in_ok-table.ensures.len, below_end xs end c.requires.rising highest)

pub overflow_cast-index : goal.overflow_cast-index
overflow_cast-index c = omega (arith, few_records c.args.records.now c.requires.rising c.requires.inside)

pub overflow_add-index : goal.overflow_add-index
overflow_add-index c = omega (arith, few_records c.args.records.now c.requires.rising c.requires.inside)

pub index_mut-requires : goal.index_mut-requires
index_mut-requires c =
    let i = c.loop-index.index in
    let count = length-map c.args.records.now (λ r. r.address) in
    let at = address_is c.args.records.now i c.index-records-index.result c.loop-index-test.true c.index-records-index.is in
    omega (arith, c.loop-index.invariant.1, c.loop-index.invariant.2 i 0 (omega arith))

pub loop-index-preserved : goal.loop-index-preserved
loop-index-preserved c =
    let i = c.loop-index.index in
    let count = length-map c.args.records.now (λ r. r.address) in
    let at = address_is c.args.records.now i c.index-records-index.result c.loop-index-test.true c.index-records-index.is in
    let below = c.loop-index.invariant.2 i 0 (omega arith) in
    let fits : c.index-records-index.result.address < length c.loop-index.table.items = omega (arith, c.loop-index.invariant.1, c.loop-index.table.ok.0) in
    (IsNumbering-record c.args.records.now c.loop-index.table.items i c.index-records-index.result c.requires.rising c.loop-index-test.true c.index-records-index.is fits c.loop-index.invariant.0, c.loop-index.invariant.1, c.loop-index.invariant.2)
