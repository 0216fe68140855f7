use Rattle.std.proofs.Common.{inl, inr, ◌<◌, rules, arith}
use Rattle.zpairs.proofs.Listed.{outside_row}
use Rattle.zpairs.proofs.properties.Properties.add_row.Goals as goal
use Rattle.zpairs.proofs.properties.Properties.add_row.Goals.{else-object-ge1-via-then-object-ge1+else-object-from, else-object-ge1-via-else-object-ge1}

pub returns-else-object-ge1-clause-words : goal.returns-else-object-ge1-clause-words
returns-else-object-ge1-clause-words c passed =
    outside_row c.args.self.now c.args.question c.args.object c.args.columns.now c.args.all.now
    (elim c.else-object-ge1.branch [
      | else-object-ge1-via-then-object-ge1+else-object-from w ↦ inr (let high : c.args.self.now.story.objects < c.args.object = search (rules, arith) in high)
      | else-object-ge1-via-else-object-ge1 w ↦ inl (let low : c.args.object < 1 = search (rules, arith) in low)
    ])
