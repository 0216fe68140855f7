use Rattle.std.proofs.Common.{◌-◌, length, take, drop, map, ap, ◌∙◌}
use Rattle.zarray.specs.Arrays.{value_at}
use Rattle.zdomain.specs.Few.{Gathering, with_words}
use Rattle.zruns.specs.Runs.{sums}
use Rattle.zruns.proofs.Summing.{no_sum, row_by_row}
use Rattle.zruns.proofs.sums.+add_rows.Goals as goal

pub returns-in-empty-clause-words : goal.returns-in-empty-clause-words
returns-in-empty-clause-words t c passed = no_sum c.args.width (value_at c.args.width c.args.memory.now) c.args.arrays.now c.args.indices.now c.args.all.now c.in-empty.len_below

pub returns-then-add_row-clause-words : goal.returns-then-add_row-clause-words
returns-then-add_row-clause-words t c passed =
    let arrays = c.args.arrays.now in
    c.add_rows.ensures.words passed
    ∙ ap (λ (g : Gathering). with_words (map (value_at c.args.width c.args.memory.now) (sums c.args.width (take (length arrays - 1) (drop 1 arrays)) c.args.indices.now)) g) (c.add_row.ensures.words c.if-add_row.true)
    ∙ row_by_row c.args.width (value_at c.args.width c.args.memory.now) arrays c.args.indices.now c.args.all.now c.in-len1-up.len_at_least
