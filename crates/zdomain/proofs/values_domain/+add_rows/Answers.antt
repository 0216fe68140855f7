use Rattle.std.proofs.Common.{◌-◌, length, take, drop, ap, ◌∙◌}
use Rattle.zdomain.specs.Few.{Gathering, with_words}
use Rattle.zdomain.specs.Values.{rows}
use Rattle.zdomain.proofs.Gathering.{row_by_row}
use Rattle.zdomain.proofs.values_domain.+add_rows.Goals as goal

pub returns-in-len1-up : goal.returns-in-len1-up
returns-in-len1-up t c =
    let words = c.args.words.now in
    c.add_rows.ensures
    ∙ ap (λ (g : Gathering). with_words (rows c.args.operation (take (length words - 1) (drop 1 words)) c.args.others.now) g) c.add_row.ensures
    ∙ row_by_row c.args.operation words c.args.others.now c.args.all.now c.in-len1-up.len_at_least
