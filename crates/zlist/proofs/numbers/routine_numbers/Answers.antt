use Rattle.std.proofs.Common.{◌≡◌, ◌+◌, ◌-◌, ◌<◌, replicate, slice_index, length, arith}
use Rattle.zlist.proofs.Rising.{below_end}
use Rattle.zlist.proofs.Tables.{IsNumbering-none, IsNumbering-more}
use Rattle.zlist.proofs.numbers.routine_numbers.Goals as goal
use Rattle.zlist.proofs.numbers.routine_numbers.Goals.{in-empty, in-len1-up}

pub loop-index-init : goal.loop-index-init
loop-index-init c =
    let xs = c.args.routines.now in
    let end = c.if-routines-lt1.end in
    let zeros : c.in_ok-table.table.items ≡ replicate end 0 = c.in_ok-table.ensures.items_if_clones_equal (λ y e. e) in
    let highest : 0 < length xs → end ≡ slice_index xs (length xs - 1) + 1 = λ some.
    elim c.if-routines-lt1.branch as (λ _. end ≡ slice_index xs (length xs - 1) + 1) [
      | in-empty w ↦ absurd (omega arith)
      | in-len1-up w ↦ w.end-is
    ] in
    (rw zeros (IsNumbering-none xs end), c.in_ok-table.ensures.len, below_end xs end c.requires.rising highest)

pub loop-index-preserved : goal.loop-index-preserved
loop-index-preserved c =
    let i = c.loop-index.index in
    let below = c.loop-index.invariant.2 i 0 c.loop-index-test.true in
    let fits : slice_index c.args.routines.now i < length c.loop-index.table.items = omega (arith, c.loop-index.invariant.1, c.loop-index.table.ok.0) in
    (IsNumbering-more c.args.routines.now c.loop-index.table.items i c.requires.rising c.loop-index-test.true fits c.loop-index.invariant.0, c.loop-index.invariant.1, c.loop-index.invariant.2)
